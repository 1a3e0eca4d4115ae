-- What the dataspace of an assembled text holds.
use Rattle.std.proofs.Common.{◌≡◌, ℕ, ◌+◌, ◌-◌, ◌≤◌, Bool, true, ◌&&◌, not, List, [], ◌∷◌, ◌++◌, drop, take, filter, length, replicate, slice_range, if◌then◌else◌, refl, sym, ap, ap₂, subst, ◌∙◌, append-nil, arith, length-append, length-take, length-drop, true≢false, inl, inr}
use Rattle.std.proofs.lemmas.Bool.{and_from, and_parts}
use Rattle.std.proofs.lemmas.List.{length-replicate}
use Rattle.nxt_types.specs.Shapes.{Shape, Void, Number, Array, Cluster, Mutex, Members, no_members, member, bares, leaves_bytes}
use Rattle.nxt_types.specs.Names.{size}
use Rattle.nxt_rxe.specs.declared.parts.Parts.{Parts}
use Rattle.nxt_model.specs.Assembled.{leaf_sizes, leaves_sizes, places}
use Rattle.nxt_model.specs.Values.{Value}
use Rattle.nxt_asm_parts.specs.AssembledParts.{Valued, defaults_from, dope_place, dynamic_of, is_array, leaves_among}
use Rattle.nxt_asm_parts.specs.Lists.{AreSmall}
use Rattle.nxt_table.specs.Leaves.{Leaf, leaves, width, is_mutex, end_of, is_outside, are_together}
use Rattle.nxt_table.specs.Dataspace.{dataspace, default_place, default_end, dynamic_bytes, set_leaves, static_bytes}
use Rattle.nxt_table.proofs.Laws.Leaves.{table_rises}
use Rattle.nxt_facts.specs.Pairs.{EachPair}
use Rattle.nxt_facts.proofs.Each.{Each, each_both, each_filter, each_join, each_kept, each_then}
use Rattle.nxt_facts.proofs.Sums.{total}
use Rattle.nxt_asm_laws_layout.proofs.OwnLeaves.{own, all_own}
use Rattle.nxt_asm_laws_layout.proofs.Placed.{AreBeside, EndsThere}
use Rattle.nxt_asm_laws_layout.proofs.Given.{given, before, default_placed, defaults_within, all_given_bytes}
use Rattle.nxt_asm_laws_layout.proofs.Held.{AreHeld, length-among}
use Rattle.nxt_asm_laws_layout.proofs.Laws.TableKept.{HasTable, beside, ends, own_leaves}
use Rattle.nxt_asm_laws_layout.proofs.Writes.{IsBeside, window, window-front, window_there, each_written, length-written, pair_filter}
use Rattle.nxt_asm_laws_layout.proofs.Written.{AllWritten, InOrder, IsSet, in_order, members_written}

-- the arrays among the leaves of variables
abbrev pub arrays_among : Members → List Value → List Valued
arrays_among ss vs = filter is_array (leaves_among ss vs)

-- the parts have this table, and the defaults of these values
pub record HasData (p : Parts) (ss : Members) (vs : List Value) : Type 0 where
  pub table : HasTable p ss
  pub held : AreHeld ss vs
  pub static : p.header.static_size ≡ leaves_bytes ss
  pub defaults : p.defaults ≡ defaults_from 1 (leaves_among ss vs) ++ dynamic_of p.header.static_size (arrays_among ss vs)
  pub dyn_at : p.header.dyn_at ≡ leaves_bytes ss
  pub dyn_size : p.header.dyn_size ≡ length (dynamic_of p.header.static_size (arrays_among ss vs))
  pub initial : p.header.initial ≡ p.header.static_size + p.header.dyn_size
  pub dope : p.header.dope_at ≡ dope_place p.header.static_size (arrays_among ss vs)
  pub small : AreSmall (arrays_among ss vs)
  pub room : p.header.static_size + length (dynamic_of p.header.static_size (arrays_among ss vs)) ≤ 32768

-- ---- leaves with defaults

outside_default : (arrays : List ℕ) → (is_outside arrays && true) ≡ is_outside arrays
outside_default [] = refl
outside_default (a ∷ around) = refl

mutual
  own_default : (s : Shape) (ps : List ℕ) (i : ℕ) (arrays : List ℕ) → Each (λ l. l.has_default ≡ is_outside l.arrays) (own s ps i arrays)
  own_default Void ps i arrays = tt
  own_default (Number k) ps i arrays = (outside_default arrays, tt)
  own_default (Array n s) ps i arrays = (outside_default arrays, own_default s (places (leaf_sizes s)) (i + 1) (i ∷ arrays))
  own_default (Cluster ss) ps i arrays = all_own_default ss ps (i + 1) arrays
  own_default Mutex ps i arrays = (outside_default arrays, tt)

  all_own_default : (ss : Members) (ps : List ℕ) (i : ℕ) (arrays : List ℕ) → Each (λ l. l.has_default ≡ is_outside l.arrays) (all_own ss ps i arrays)
  all_own_default no_members ps i arrays = tt
  all_own_default (member s ss) ps i arrays =
      let rest = drop (length (leaf_sizes s)) ps in
      each_join (λ l. l.has_default ≡ is_outside l.arrays) (own s ps i arrays) (all_own ss rest (i + size s) arrays)
      (own_default s ps i arrays) (all_own_default ss rest (i + size s) arrays)

both_outside : (a b : List ℕ) → is_outside a ≡ true → is_outside b ≡ true → are_together a b ≡ true
both_outside [] [] e f = refl
both_outside (x ∷ xs) b e f = absurd (true≢false (sym e))
both_outside [] (y ∷ ys) e f = absurd (true≢false (sym f))

pairs_then : {X : Type 0} (P : X → Type 0) (R S : X → X → Type 0) → ((x y : X) → P x → P y → R x y → S x y) → (xs : List X) → Each P xs → EachPair R xs → EachPair S xs
pairs_then P R S h [] a b = tt
pairs_then P R S h (x ∷ xs) a b = (each_both P (R x) (S x) (λ y p r. h x y a.0 p r) xs a.1 b.0, pairs_then P R S h xs a.1 b.1)

length-range : (a w : ℕ) (d : List ℕ) → a + w ≤ length d → length (slice_range d a (a + w)) ≡ w
length-range a w d fits = omega (arith, length-take (a + w - a) (drop a d), length-drop a d, fits)

first_and : (a b : Bool) → (a && b) ≡ true → a ≡ true
first_and a b e = (and_parts a b e).0

abbrev zeros : ℕ → List ℕ
zeros n = replicate n 0

length-zeros : (n : ℕ) → length (zeros n) ≡ n
length-zeros n = let zero : ℕ = 0 in length-replicate n zero

module _ (p : Parts) (ss : Members) (vs : List Value) (h : HasData p ss vs) where
  abbrev pub all : List Leaf
  all = leaves p.toc (bares ss)

  abbrev chunk : Leaf → List ℕ
  chunk l = slice_range p.defaults (default_place all l) (default_end all l)

  abbrev pub static : List ℕ
  static = static_bytes p all

  abbrev pub dynamic : List ℕ
  dynamic = dynamic_of p.header.static_size (arrays_among ss vs)

  abbrev front : List ℕ
  front = defaults_from 1 (leaves_among ss vs)

  length-front : length front ≡ leaves_bytes ss
  length-front = length-among 1 ss vs h.held

  given_all : total given all ≡ leaves_bytes ss
  given_all = ap (total given) (own_leaves p ss h.table) ∙ all_given_bytes ss (places (leaves_sizes ss)) 0

  -- where a leaf has a default, it is outside, and its bytes lie among those of all
  record IsReady (l : Leaf) : Type 0 where
    ends : l.place + length (chunk l) ≤ p.header.static_size
    sized : length (chunk l) ≡ width l
    outside : is_outside l.arrays ≡ true

  chunk_sized : (l : Leaf) → l.has_default ≡ true → (l.has_default ≡ true → total (before l) all + width l ≤ total given all) → length (chunk l) ≡ width l
  chunk_sized l e within =
      let w = within e in
      let place = default_placed all l in
      let long = ap length h.defaults in
      let sum = length-append front dynamic in
      length-range (default_place all l) (width l) p.defaults (omega (arith, w, place, long, sum, length-front, given_all))

  ready : (l : Leaf) → l.has_default ≡ true → l.has_default ≡ is_outside l.arrays → EndsThere p.header.static_size l
      → (l.has_default ≡ true → total (before l) all + width l ≤ total given all) → IsReady l
  ready l e same there within =
      let sized = chunk_sized l e within in
      let out : is_outside l.arrays ≡ true = sym same ∙ e in
      let end : end_of l ≤ p.header.static_size = subst (λ b. end_of l ≤ (if b then p.header.static_size else 32768)) out there in
      record { ends = omega (arith, end, sized); sized = sized; outside = out }

  all_ready : Each IsReady (set_leaves all)
  all_ready =
      each_filter IsReady (λ l. l.has_default && not (is_mutex l.shape)) all
      (each_both (λ l. l.has_default ≡ is_outside l.arrays)
      (λ l. EndsThere p.header.static_size l × (l.has_default ≡ true → total (before l) all + width l ≤ total given all))
      (λ l. (l.has_default && not (is_mutex l.shape)) ≡ true → IsReady l)
      (λ l same two e. ready l (first_and l.has_default _ e) same two.0 two.1)
      all
      (subst (Each (λ l. l.has_default ≡ is_outside l.arrays)) (sym (own_leaves p ss h.table)) (all_own_default ss (places (leaves_sizes ss)) 0 []))
      (each_both (EndsThere p.header.static_size) (λ l. l.has_default ≡ true → total (before l) all + width l ≤ total given all)
      (λ l. EndsThere p.header.static_size l × (l.has_default ≡ true → total (before l) all + width l ≤ total given all))
      (λ l a b. (a, b)) all (ends p ss h.table) (defaults_within all)))

  all_in : Each (λ l. l.place + length (chunk l) ≤ length (zeros p.header.static_size)) (set_leaves all)
  all_in = each_then IsReady _ (λ l r. let n = length-zeros p.header.static_size in let e = r.ends in omega (arith, n, e)) (set_leaves all) all_ready

  apart : EachPair (λ x y. IsBeside x.place (length (chunk x)) y.place (length (chunk y))) (set_leaves all)
  apart =
      pairs_then IsReady AreBeside (λ x y. IsBeside x.place (length (chunk x)) y.place (length (chunk y)))
      (λ x y a b r. by x y a b (r (both_outside x.arrays y.arrays a.outside b.outside)))
      (set_leaves all) all_ready (pair_filter AreBeside (λ l. l.has_default && not (is_mutex l.shape)) all (beside p ss h.table))
    where
      by : (x y : Leaf) → IsReady x → IsReady y → IsBeside x.place (width x) y.place (width y) → IsBeside x.place (length (chunk x)) y.place (length (chunk y))
      by x y a b (inl e) = let s = a.sized in inl (omega (arith, e, s))
      by x y a b (inr e) = let s = b.sized in inr (omega (arith, e, s))

  pub length-static : length static ≡ p.header.static_size
  length-static = length-written (λ l. l.place) chunk (set_leaves all) (zeros p.header.static_size) all_in ∙ length-zeros p.header.static_size

  -- ---- the dataspace

  abbrev pub bytes : List ℕ
  bytes = dataspace p (bares ss)

  nothing_behind : zeros (p.header.initial - (p.header.static_size + p.header.dyn_size)) ≡ []
  nothing_behind =
      let e = h.initial in
      let none : p.header.initial - (p.header.static_size + p.header.dyn_size) ≡ 0 = omega (arith, e) in
      ap zeros none

  dynamic_is : dynamic_bytes p ≡ dynamic
  dynamic_is =
      let a = h.dyn_at in
      let b = h.dyn_size in
      let gap : p.header.dyn_at + p.header.dyn_size - p.header.dyn_at ≡ length dynamic = omega (arith, b) in
      ap (λ n. take n (drop p.header.dyn_at p.defaults)) gap
      ∙ window_there p.header.dyn_at p.defaults front dynamic [] (h.defaults ∙ ap (λ l. front ++ l) (sym (append-nil dynamic))) (length-front ∙ sym a)

  -- the static bytes, and behind them the table of rows and the lists
  pub dataspace_is : bytes ≡ static ++ dynamic
  dataspace_is =
      ap₂ (λ (d z : List ℕ). (static ++ d) ++ z) dynamic_is nothing_behind ∙ append-nil (static ++ dynamic)

  all_set : Each (IsSet bytes p.defaults all) all
  all_set =
      each_both (λ l. (l.has_default && not (is_mutex l.shape)) ≡ true → IsReady l)
      (λ l. (l.has_default && not (is_mutex l.shape)) ≡ true → window l.place (length (chunk l)) static ≡ chunk l)
      (IsSet bytes p.defaults all)
      (λ l r w e f.
      let both = and_from l.has_default (not (is_mutex l.shape)) e (ap not f) in
      let a = r both in
      let sized = a.sized in
      let end = a.ends in
      let fits : l.place + width l ≤ length static = omega (arith, sized, end, length-static) in
      ap (window l.place (width l)) dataspace_is
      ∙ window-front l.place (width l) static dynamic fits
      ∙ ap (λ n. window l.place n static) (sym sized)
      ∙ w both)
      all
      (each_kept IsReady (λ l. l.has_default && not (is_mutex l.shape)) all all_ready)
      (each_kept (λ l. window l.place (length (chunk l)) static ≡ chunk l) (λ l. l.has_default && not (is_mutex l.shape)) all
      (each_written (λ l. l.place) chunk (set_leaves all) (zeros p.header.static_size) all_in apart))

  -- each number and each row number is written
  pub all_written : AllWritten bytes ss (places (leaves_sizes ss)) vs 1
  all_written =
      members_written bytes p.defaults all ss (places (leaves_sizes ss)) 0 vs 1 0 [] dynamic h.defaults refl h.held
      (subst (InOrder all 0) (own_leaves p ss h.table) (in_order all [] all 0 refl tt (table_rises p.toc (bares ss))))
      (subst (Each (IsSet bytes p.defaults all)) (own_leaves p ss h.table) all_set)

  pub length-bytes : length bytes ≡ p.header.static_size + length dynamic
  length-bytes = ap length dataspace_is ∙ length-append static dynamic ∙ ap (λ n. n + length dynamic) length-static
