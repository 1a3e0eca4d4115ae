-- The defaults that the passes count are those of the table's leaves.
use Rattle.std.proofs.Common.{◌≡◌, ℕ, ◌+◌, ◌<◌, ◌≤◌, List, [], ◌∷◌, refl, sym, ap, ◌∙◌, arith, Bool, true, false, ◌&&◌, not, cond, Some}
use Rattle.std.proofs.lemmas.Bool.Decides.{nat_tests}
use Rattle.std.proofs.lemmas.List.Sums.{sum_by-cons}
use Rattle.std.specs.Prelude.{map, find, filter, fold, sum_by, slice_range, nat_lt, option_map, if◌then◌else◌}
use Rattle.std.proofs.lemmas.Bool.{and_right}
use Rattle.nxt_rxe.specs.declared.parts.Parts.{Parts}
use Rattle.nxt_types.specs.Shapes.{Shape, Void, Number, Array, Cluster, Mutex}
use Rattle.nxt_table.specs.Leaves.{Leaf, width, is_mutex}
use Rattle.nxt_table.specs.Dataspace.{default_place, default_end, set_leaves}
use Rattle.nxt_facts.specs.PutAt.{put_at}
use Rattle.nxt_table.specs.TableRules.{lacks_default}
use Rattle.nxt_table.specs.Inside.LeafPasses.{lacking_from, filled_from, width_of, is_mutex_leaf, is_mutex_item}
use Rattle.nxt_table.proofs.Laws.Leaves.{flat, flat_width, item_of_shape, Rising, first_entry}

-- the bytes of the defaults of leaves before an entry
abbrev bytes_before : List Leaf → ℕ → ℕ
bytes_before ls x = sum_by width (filter (λ m. m.has_default && nat_lt m.entry x) ls)

none_before : (ls : List Leaf) (i x : ℕ) → Rising i ls → x ≤ i → bytes_before ls x ≡ 0
none_before [] i x r h = refl
none_before (l ∷ ls) i x r h =
    let t : nat_lt l.entry x ≡ false = grind (arith, nat_tests, r.0) in
    let u : (l.has_default && nat_lt l.entry x) ≡ false = and_right l.has_default (nat_lt l.entry x) t in
    ap (λ b. sum_by width (cond b (l ∷ filter (λ m. m.has_default && nat_lt m.entry x) ls) (filter (λ m. m.has_default && nat_lt m.entry x) ls))) u
    ∙ none_before ls (l.entry + 1) x r.1 (omega (arith, r.0))

with_first : (l : Leaf) (ls : List Leaf) (x : ℕ) → l.entry < x → l.has_default ≡ true → bytes_before (l ∷ ls) x ≡ width l + bytes_before ls x
with_first l ls x h d =
    let t : nat_lt l.entry x ≡ true = grind (arith, nat_tests) in
    ap (λ b. sum_by width (cond (b && nat_lt l.entry x) (l ∷ filter (λ m. m.has_default && nat_lt m.entry x) ls) (filter (λ m. m.has_default && nat_lt m.entry x) ls))) d
    ∙ ap (λ b. sum_by width (cond b (l ∷ filter (λ m. m.has_default && nat_lt m.entry x) ls) (filter (λ m. m.has_default && nat_lt m.entry x) ls))) t
    ∙ sum_by-cons width l (filter (λ m. m.has_default && nat_lt m.entry x) ls)

without_first : (l : Leaf) (ls : List Leaf) (x : ℕ) → l.has_default ≡ false → bytes_before (l ∷ ls) x ≡ bytes_before ls x
without_first l ls x d =
    ap (λ b. sum_by width (cond (b && nat_lt l.entry x) (l ∷ filter (λ m. m.has_default && nat_lt m.entry x) ls) (filter (λ m. m.has_default && nat_lt m.entry x) ls))) d

-- of all leaves, `at` bytes are those of the leaves before these
abbrev pub IsBehind : List Leaf → ℕ → ℕ → List Leaf → Type 0
IsBehind all i at ls = (x : ℕ) → i ≤ x → bytes_before all x ≡ at + bytes_before ls x

pub behind_all : (all : List Leaf) → IsBehind all 0 0 all
behind_all all x h = omega arith

place_here : (all : List Leaf) (i at : ℕ) (l : Leaf) (ls : List Leaf) → Rising i (l ∷ ls) → IsBehind all i at (l ∷ ls) → default_place all l ≡ at
place_here all i at l ls r b =
    let a : bytes_before all l.entry ≡ at + bytes_before (l ∷ ls) l.entry = b l.entry r.0 in
    let n : bytes_before (l ∷ ls) l.entry ≡ 0 = none_before (l ∷ ls) l.entry l.entry (omega arith, r.1) (omega arith) in
    a ∙ omega (arith, n)

end_here : (all : List Leaf) (i at : ℕ) (l : Leaf) (ls : List Leaf) → Rising i (l ∷ ls) → IsBehind all i at (l ∷ ls) → at + width_of (flat l) ≡ default_end all l
end_here all i at l ls r b = ap (λ w. at + w) (flat_width l) ∙ ap (λ a. a + width l) (sym (place_here all i at l ls r b))

behind_default : (all : List Leaf) (i at : ℕ) (l : Leaf) (ls : List Leaf) → Rising i (l ∷ ls) → IsBehind all i at (l ∷ ls) → l.has_default ≡ true →
    IsBehind all (l.entry + 1) (at + width_of (flat l)) ls
behind_default all i at l ls r b d x h =
    let w = flat_width l in
    let f : bytes_before (l ∷ ls) x ≡ width l + bytes_before ls x = with_first l ls x (omega (arith, h)) d in
    let g : bytes_before all x ≡ at + bytes_before (l ∷ ls) x = b x (omega (arith, h, r.0)) in
    g ∙ omega (arith, f, w)

behind_none : (all : List Leaf) (i at : ℕ) (l : Leaf) (ls : List Leaf) → Rising i (l ∷ ls) → IsBehind all i at (l ∷ ls) → l.has_default ≡ false →
    IsBehind all (l.entry + 1) at ls
behind_none all i at l ls r b d x h = b x (omega (arith, h, r.0)) ∙ ap (λ n. at + n) (without_first l ls x d)

pub lacking_same : (p : Parts) (all ls : List Leaf) (i at : ℕ) → Rising i ls → IsBehind all i at ls →
    lacking_from p.header.default_size at (map flat ls) ≡ first_entry (lacks_default p all) ls
lacking_same p all [] i at r b = refl
lacking_same p all (l ∷ ls) i at r b = by l.has_default refl (λ n c. lacking_same p all ls (l.entry + 1) n r.1 c)
  where
    size : ℕ
    size = p.header.default_size

    by : (d : Bool) → l.has_default ≡ d → ((n : ℕ) → IsBehind all (l.entry + 1) n ls → lacking_from p.header.default_size n (map flat ls) ≡ first_entry (lacks_default p all) ls) →
        lacking_from p.header.default_size at (map flat (l ∷ ls)) ≡ first_entry (lacks_default p all) (l ∷ ls)
    by true d ih =
        ap (λ c. if c then if nat_lt p.header.default_size (at + width_of (flat l)) then Some l.entry else lacking_from p.header.default_size (at + width_of (flat l)) (map flat ls) else lacking_from p.header.default_size at (map flat ls)) d
        ∙ ap (λ o. if nat_lt p.header.default_size (at + width_of (flat l)) then Some l.entry else o) (ih (at + width_of (flat l)) (behind_default all i at l ls r b d))
        ∙ ap (λ e. if nat_lt p.header.default_size e then Some l.entry else first_entry (lacks_default p all) ls) (end_here all i at l ls r b)
        ∙ same (nat_lt p.header.default_size (default_end all l))
        ∙ ap (λ c. option_map (λ (m : Leaf). m.entry) (cond (c && nat_lt p.header.default_size (default_end all l)) (Some l) (find (lacks_default p all) ls))) (sym d)
      where
        same : (c : Bool) → (if c then Some l.entry else first_entry (lacks_default p all) ls) ≡ option_map (λ (m : Leaf). m.entry) (cond c (Some l) (find (lacks_default p all) ls))
        same true = refl
        same false = refl
    by false d ih =
        ap (λ c. if c then if nat_lt p.header.default_size (at + width_of (flat l)) then Some l.entry else lacking_from p.header.default_size (at + width_of (flat l)) (map flat ls) else lacking_from p.header.default_size at (map flat ls)) d
        ∙ ih at (behind_none all i at l ls r b d)
        ∙ ap (λ c. option_map (λ (m : Leaf). m.entry) (cond (c && nat_lt p.header.default_size (default_end all l)) (Some l) (find (lacks_default p all) ls))) (sym d)

-- ---- the bytes

flat_mutex : (l : Leaf) → is_mutex_leaf (flat l) ≡ is_mutex l.shape
flat_mutex l = at l.shape
  where
    at : (s : Shape) → is_mutex_item (item_of_shape s) ≡ is_mutex s
    at Void = refl
    at (Number k) = refl
    at (Array n s) = refl
    at (Cluster ss) = refl
    at Mutex = refl

-- a leaf's default is put in its place
abbrev pub put_default : List ℕ → List Leaf → List ℕ → Leaf → List ℕ
put_default defaults all bytes l = put_at l.place (slice_range defaults (default_place all l) (default_end all l)) bytes

pub filled_same : (defaults : List ℕ) (all ls : List Leaf) (i at : ℕ) (bytes : List ℕ) → Rising i ls → IsBehind all i at ls →
    filled_from defaults at (map flat ls) bytes ≡ fold (put_default defaults all) bytes (set_leaves ls)
filled_same defaults all [] i at bytes r b = refl
filled_same defaults all (l ∷ ls) i at bytes r b = by l.has_default refl (is_mutex l.shape) refl (λ n bytes c. filled_same defaults all ls (l.entry + 1) n bytes r.1 c)
  where
    put_same : put_at l.place (slice_range defaults at (at + width_of (flat l))) bytes ≡ put_default defaults all bytes l
    put_same =
        ap (λ n. put_at l.place (slice_range defaults at n) bytes) (end_here all i at l ls r b)
        ∙ ap (λ n. put_at l.place (slice_range defaults n (default_end all l)) bytes) (sym (place_here all i at l ls r b))

    left : {d : Bool} → l.has_default ≡ d → filled_from defaults at (map flat (l ∷ ls)) bytes ≡
        (if d then filled_from defaults (at + width_of (flat l)) (map flat ls) (if is_mutex_leaf (flat l) then bytes else put_at l.place (slice_range defaults at (at + width_of (flat l))) bytes) else filled_from defaults at (map flat ls) bytes)
    left e = ap (λ c. if c then filled_from defaults (at + width_of (flat l)) (map flat ls) (if is_mutex_leaf (flat l) then bytes else put_at l.place (slice_range defaults at (at + width_of (flat l))) bytes) else filled_from defaults at (map flat ls) bytes) e

    right : (d m : Bool) → l.has_default ≡ d → is_mutex l.shape ≡ m → fold (put_default defaults all) bytes (set_leaves (l ∷ ls)) ≡
        fold (put_default defaults all) bytes (cond (d && not m) (l ∷ set_leaves ls) (set_leaves ls))
    right d m e f =
        ap (λ c. fold (put_default defaults all) bytes (cond (c && not (is_mutex l.shape)) (l ∷ set_leaves ls) (set_leaves ls))) e
        ∙ ap (λ c. fold (put_default defaults all) bytes (cond (d && not c) (l ∷ set_leaves ls) (set_leaves ls))) f

    by : (d : Bool) → l.has_default ≡ d → (m : Bool) → is_mutex l.shape ≡ m →
        ((n : ℕ) (bytes : List ℕ) → IsBehind all (l.entry + 1) n ls → filled_from defaults n (map flat ls) bytes ≡ fold (put_default defaults all) bytes (set_leaves ls)) →
        filled_from defaults at (map flat (l ∷ ls)) bytes ≡ fold (put_default defaults all) bytes (set_leaves (l ∷ ls))
    by true e true f ih =
        left e ∙ ap (λ q. filled_from defaults (at + width_of (flat l)) (map flat ls) (if q then bytes else put_at l.place (slice_range defaults at (at + width_of (flat l))) bytes)) (flat_mutex l ∙ f)
        ∙ ih (at + width_of (flat l)) bytes (behind_default all i at l ls r b e) ∙ sym (right true true e f)
    by true e false f ih =
        left e ∙ ap (λ q. filled_from defaults (at + width_of (flat l)) (map flat ls) (if q then bytes else put_at l.place (slice_range defaults at (at + width_of (flat l))) bytes)) (flat_mutex l ∙ f)
        ∙ ih (at + width_of (flat l)) (put_at l.place (slice_range defaults at (at + width_of (flat l))) bytes) (behind_default all i at l ls r b e)
        ∙ ap (λ bs. fold (put_default defaults all) bs (set_leaves ls)) put_same ∙ sym (right true false e f)
    by false e m f ih = left e ∙ ih at bytes (behind_none all i at l ls r b e) ∙ sym (right false m e f)
