-- A table whose leaves stand by size breaks no rule of tables.
use Rattle.std.proofs.Common.{◌≡◌, ℕ, zero, suc, ◌≤◌, Bool, true, false, cond, ◌&&◌, ◌==◌, nat_lt, List, [], ◌∷◌, map, find, drop, length, Option, Some, inl, inr, refl, sym, ap, subst, ◌∙◌, arith, true≢false, le-ltb, not}
use Rattle.std.specs.Prelude.{slice_get}
use Rattle.std.proofs.lemmas.Bool.Decides.{nat_tests}
use Rattle.nxt_types.specs.Refusals.{IsAccepted, passes}
use Rattle.nxt_types.specs.Shapes.{Shape, Void, Number, Array, Cluster, Mutex, Members, no_members, member, bares, outline, spellings, leaves_bytes}
use Rattle.nxt_types.specs.declared.kind.Kind.TheVariants.{Ubyte, Sbyte, Uword, Sword, Ulong, Slong}
use Rattle.nxt_rxe.specs.declared.parts.Parts.{Parts}
use Rattle.nxt_model.specs.Assembled.{all_entries, entries_of, leaf_sizes, leaves_sizes, places}
use Rattle.nxt_asm_parts.specs.Elements.{elements_among}
use Rattle.nxt_table.specs.declared.fault.TableFault.TheVariants.{TypeCode, TypeOpen, Depth, MutexInside, Place, Overlap, DefaultsShort, NoMemory}
use Rattle.nxt_table.specs.Leaves.{AreShapes, Leaf, leaves, leaf_of, sites, are_together, end_of}
use Rattle.nxt_table.specs.TableRules.{Broken, OfShapes, has_unknown_code, is_too_deep, is_mutex_inside, is_misplaced, share_a_byte, lacks_default}
use Rattle.nxt_table.proofs.Laws.FirstBroken.{of_shapes}
use Rattle.nxt_facts.specs.Pairs.{EachPair}
use Rattle.nxt_facts.proofs.Each.{Each, each_both, each_join, each_then, passes_each}
use Rattle.nxt_facts.proofs.Sums.{total}
use Rattle.nxt_asm_laws_layout.proofs.Laws.Spelled.{all_spelled, bares-twice, spellings-bares}
use Rattle.nxt_asm_laws_layout.proofs.Spots.{spots_apart, spots_end}
use Rattle.nxt_asm_laws_layout.proofs.OwnLeaves.{all_own, leaves_are}
use Rattle.nxt_asm_laws_layout.proofs.Laws.Parts.{AreVariables, IsFine, variables_filled, variables_sites}
use Rattle.nxt_asm_laws_layout.proofs.Placed.{AreBeside, EndsThere, bound, all_own_beside, all_own_end, all_sizes_total}
use Rattle.nxt_asm_laws_layout.proofs.Given.{given, all_given_bytes, all_have}
use Rattle.nxt_asm_laws_layout.proofs.Whole.{not_open}

-- ---- tests that none passes

-- nothing that is read passes
none_got : {X : Type 0} (test : X → Bool) (xs : List X) (e : ℕ) → Each (λ x. test x ≡ false) xs → passes test (slice_get xs e) ≡ false
none_got test [] e h = refl
none_got test (x ∷ xs) zero h = h.0
none_got test (x ∷ xs) (suc e) h = none_got test xs e h.1

found_one : {X : Type 0} (test : X → Bool) (x : X) (o : Option X) (b : Bool) → test x ≡ false → passes test o ≡ false → passes test (cond b (Some x) o) ≡ false
found_one test x o true h k = h
found_one test x o false h k = k

-- nothing that is found passes
pub none_found : {X : Type 0} (test key : X → Bool) (xs : List X) → Each (λ x. test x ≡ false) xs → passes test (find key xs) ≡ false
none_found test key [] h = refl
none_found test key (x ∷ xs) h = found_one test x (find key xs) (key x) h.0 (none_found test key xs h.1)

-- what holds of each pair, either way, and of each with itself
every_two : {X : Type 0} (S R : X → X → Type 0) → ((x : X) → R x x) → ((x y : X) → S x y → R x y × R y x) → (xs : List X) → EachPair S xs → Each (λ x. Each (R x) xs) xs
every_two S R own both [] e = tt
every_two S R own both (x ∷ xs) e = (
  (own x, each_then (S x) (R x) (λ y s. (both x y s).0) xs e.0),
  each_both (S x) (λ y. Each (R y) xs) (λ y. Each (R y) (x ∷ xs)) (λ y s r. ((both x y s).1, r)) xs e.0 (every_two S R own both xs e.1),
)

-- ---- codes

mutual
  codes_known : (s : Shape) (ps : List ℕ) → Each (λ e. has_unknown_code e ≡ false) (entries_of s ps)
  codes_known Void ps = (refl, tt)
  codes_known (Number Ubyte) ps = (refl, tt)
  codes_known (Number Sbyte) ps = (refl, tt)
  codes_known (Number Uword) ps = (refl, tt)
  codes_known (Number Sword) ps = (refl, tt)
  codes_known (Number Ulong) ps = (refl, tt)
  codes_known (Number Slong) ps = (refl, tt)
  codes_known (Array n s) ps = (refl, codes_known s (places (leaf_sizes s)))
  codes_known (Cluster ss) ps = (refl, all_codes_known ss ps)
  codes_known Mutex ps = (refl, tt)

  all_codes_known : (ss : Members) (ps : List ℕ) → Each (λ e. has_unknown_code e ≡ false) (all_entries ss ps)
  all_codes_known no_members ps = tt
  all_codes_known (member s ss) ps =
      let rest = drop (length (leaf_sizes s)) ps in
      each_join (λ e. has_unknown_code e ≡ false) (entries_of s ps) (all_entries ss rest) (codes_known s ps) (all_codes_known ss rest)

-- ---- shared bytes

turned_together : (a b : List ℕ) → are_together b a ≡ true → are_together a b ≡ true
turned_together [] [] e = refl
turned_together [] (y ∷ ys) e = e
turned_together (x ∷ xs) [] e = e
turned_together (x ∷ xs) (y ∷ ys) e = grind (arith, nat_tests)

turned_beside : (a b : Leaf) → AreBeside a b → AreBeside b a
turned_beside a b h together =
    elim (h (turned_together a.arrays b.arrays together)) [
      | inl e ↦ inr e
      | inr e ↦ inl e
    ]

fails_by : (a b c d : Bool) → (b ≡ true → c && d ≡ false) → (a && b && c && d) ≡ false
fails_by false b c d h = refl
fails_by true false c d h = refl
fails_by true true c d h = h refl

second_fails : (c d : Bool) → d ≡ false → (c && d) ≡ false
second_fails true d e = e
second_fails false d e = refl

not_shared : (a b : Leaf) → AreBeside a b → share_a_byte a b ≡ false
not_shared a b h =
    fails_by (nat_lt a.entry b.entry) (are_together a.arrays b.arrays) (nat_lt a.place (end_of b)) (nat_lt b.place (end_of a))
    (λ together. elim (h together) [
      | inl e ↦ second_fails (nat_lt a.place (end_of b)) (nat_lt b.place (end_of a)) (le-ltb b.place (end_of a) e)
      | inr e ↦ ap (λ x. x && nat_lt b.place (end_of a)) (le-ltb a.place (end_of b) e)
    ])

not_by_itself : (a : Leaf) → share_a_byte a a ≡ false
not_by_itself a =
    ap (λ x. x && are_together a.arrays a.arrays && nat_lt a.place (end_of a) && nat_lt a.place (end_of a)) (le-ltb a.entry a.entry (omega arith))

-- ---- the rules

-- the parts have this table, and room for its leaves and their defaults
pub record HasTable (p : Parts) (ss : Members) : Type 0 where
  pub toc : p.toc ≡ all_entries ss (places (leaves_sizes ss))
  pub variables : AreVariables ss
  pub static : leaves_bytes ss ≤ p.header.static_size
  pub defaults : leaves_bytes ss ≤ p.header.default_size
  pub low : Each (λ n. n ≤ 32768) (elements_among ss)

module _ (p : Parts) (ss : Members) (h : HasTable p ss) where
  fine : Each IsFine (sites (bares ss))
  fine = variables_sites ss 0 h.variables

  pub outlines : map outline p.toc ≡ spellings ss
  outlines = ap (map outline) h.toc ∙ all_spelled ss (places (leaves_sizes ss))

  -- the table's variables
  pub shapes : AreShapes p.toc (bares ss)
  shapes = record {
    spelled = record { entries = outlines ∙ sym (spellings-bares ss); filled = variables_filled ss h.variables };
    strides = bares-twice ss;
    voids = passes_each _ (sites (bares ss)) (each_then IsFine _ (λ t f. ap not f.void) (sites (bares ss)) fine);
  }

  pub own_leaves : leaves p.toc (bares ss) ≡ all_own ss (places (leaves_sizes ss)) 0 []
  own_leaves = ap (λ es. leaves es (bares ss)) h.toc ∙ leaves_are ss (places (leaves_sizes ss))

  refuted : (test : Members → Bool) → test (bares ss) ≡ false → OfShapes p test → ⊥
  refuted test none o = true≢false (sym (of_shapes p (bares ss) test shapes o) ∙ none)

  none_deep : (e : ℕ) → passes is_too_deep (slice_get (sites (bares ss)) e) ≡ false
  none_deep e =
      none_got is_too_deep (sites (bares ss)) e
      (each_then IsFine (λ t. is_too_deep t ≡ false) (λ t f. le-ltb 8 t.depth f.deep) (sites (bares ss)) fine)

  none_inside : (e : ℕ) → passes is_mutex_inside (slice_get (sites (bares ss)) e) ≡ false
  none_inside e =
      none_got is_mutex_inside (sites (bares ss)) e
      (each_then IsFine (λ t. is_mutex_inside t ≡ false) (λ t f. f.mutex) (sites (bares ss)) fine)

  -- each leaf ends where it may, no two share a byte, and none lacks its default
  pub ends : Each (EndsThere p.header.static_size) (leaves p.toc (bares ss))
  ends =
      subst (Each (EndsThere p.header.static_size)) (sym own_leaves)
      (all_own_end p.header.static_size ss (places (leaves_sizes ss)) 0 [] (total (λ (x : ℕ). x) (leaves_sizes ss))
      (let bytes = all_sizes_total ss in let room = h.static in omega (arith, bytes, room)) h.low (spots_end (leaves_sizes ss)))

  pub beside : EachPair AreBeside (leaves p.toc (bares ss))
  beside = subst (EachPair AreBeside) (sym own_leaves) (all_own_beside ss (places (leaves_sizes ss)) 0 [] tt (spots_apart (leaves_sizes ss)))

  none_misplaced : (e : ℕ) → passes (is_misplaced p.header.static_size) (leaf_of (leaves p.toc (bares ss)) e) ≡ false
  none_misplaced e =
      none_found (is_misplaced p.header.static_size) (λ l. l.entry == e) (leaves p.toc (bares ss))
      (each_then (EndsThere p.header.static_size) (λ l. is_misplaced p.header.static_size l ≡ false)
      (λ l end. le-ltb (bound p.header.static_size l.arrays) (end_of l) end) (leaves p.toc (bares ss)) ends)

  none_shared : (a b : ℕ) → passes (λ l. passes (share_a_byte l) (leaf_of (leaves p.toc (bares ss)) b)) (leaf_of (leaves p.toc (bares ss)) a) ≡ false
  none_shared a b =
      let ls = leaves p.toc (bares ss) in
      none_found (λ l. passes (share_a_byte l) (leaf_of ls b)) (λ l. l.entry == a) ls
      (each_then (λ x. Each (λ y. share_a_byte x y ≡ false) ls) (λ l. passes (share_a_byte l) (leaf_of ls b) ≡ false)
      (λ l none. none_found (share_a_byte l) (λ m. m.entry == b) ls none) ls
      (every_two AreBeside (λ x y. share_a_byte x y ≡ false) not_by_itself (λ x y s. (not_shared x y s, not_shared y x (turned_beside x y s))) ls beside))

  none_lacks : (e : ℕ) → passes (lacks_default p (leaves p.toc (bares ss))) (leaf_of (leaves p.toc (bares ss)) e) ≡ false
  none_lacks e =
      let ls = leaves p.toc (bares ss) in
      none_found (lacks_default p ls) (λ l. l.entry == e) ls
      (all_have p ls
      (let bytes : total given ls ≡ leaves_bytes ss = ap (total given) own_leaves ∙ all_given_bytes ss (places (leaves_sizes ss)) 0 in
      let room = h.defaults in omega (arith, bytes, room)))

  -- no rule of the table is broken
  pub table_kept : IsAccepted (Broken p)
  table_kept (TypeCode e) b =
      true≢false (sym b ∙ ap (λ es. passes has_unknown_code (slice_get es e)) h.toc
      ∙ none_got has_unknown_code (all_entries ss (places (leaves_sizes ss))) e (all_codes_known ss (places (leaves_sizes ss))))
  table_kept (TypeOpen e) b = not_open p.toc ss h.variables outlines e b
  table_kept (Depth e) b = refuted (λ qs. passes is_too_deep (slice_get (sites qs) e)) (none_deep e) b
  table_kept (MutexInside e) b = refuted (λ qs. passes is_mutex_inside (slice_get (sites qs) e)) (none_inside e) b
  table_kept (Place e) b = refuted (λ qs. passes (is_misplaced p.header.static_size) (leaf_of (leaves p.toc qs) e)) (none_misplaced e) b
  table_kept (Overlap a c) b =
      refuted (λ qs. passes (λ l. passes (share_a_byte l) (leaf_of (leaves p.toc qs) c)) (leaf_of (leaves p.toc qs) a)) (none_shared a c) b
  table_kept (DefaultsShort e) b = refuted (λ qs. passes (lacks_default p (leaves p.toc qs)) (leaf_of (leaves p.toc qs) e)) (none_lacks e) b
  table_kept NoMemory b = b
