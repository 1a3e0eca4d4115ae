-- The flat forms of a list's elements from one index up to another.
use Rattle.std.proofs.Common.{◌≡◌, ℕ, suc, ◌+◌, ◌-◌, ◌<◌, ◌≤◌, min, Bool, true, false, inl, inr, List, [], ◌∷◌, ◌++◌, length, take, drop, get_or, flat_map, refl, sym, ap, ap₂, ◌∙◌, arith, append-nil, append_assoc, length-append, length-drop, length-take}
use Rattle.std.specs.Prelude.{ℤ, pos, slice_range, slice_set, if◌then◌else◌}
use Rattle.std.proofs.lemmas.Bool.{cases_lt}
use Rattle.std.proofs.lemmas.List.{take_more, get_or-drop, flat_map_more, take_all, drop_all, take_rest, take_min, drop_min, set_split, set_past}
use Rattle.std.proofs.lemmas.List.Concat.{flat_map-append}
use Rattle.nxt_model.specs.Means.Arrays.{overwritten}
use Rattle.nxt_model.specs.Means.Text.{section}
use Rattle.nxt_model.specs.Values.{Value, Num, elements, flat, list_of}
use Rattle.nxt_lists.proofs.ListStored.{flat_list}

-- ---- one after another

pub none_between : (xs : List Value) (from : ℕ) (zs : List ℤ) → zs ≡ zs ++ flat_map flat (slice_range xs from from)
none_between xs from zs =
    let none : from - from ≡ 0 = omega arith in
    sym (append-nil zs) ∙ ap (λ n. zs ++ flat_map flat (take n (drop from xs))) (sym none)

-- the elements from `from` up to index k, with the one there
one_later : (xs : List Value) (from k : ℕ) (d : Value) → from ≤ k → k < length xs → slice_range xs from (k + 1) ≡ slice_range xs from k ++ get_or xs k d ∷ []
one_later xs from k d ordered within =
    let n : k + 1 - from ≡ k - from + 1 = omega (arith, ordered) in
    let at : from + (k - from) ≡ k = omega (arith, ordered) in
    let less : k - from < length (drop from xs) = omega (arith, ordered, within, length-drop from xs) in
    ap (λ m. take m (drop from xs)) n
    ∙ take_more (drop from xs) (k - from) d less
    ∙ ap (λ x. slice_range xs from k ++ x ∷ []) (get_or-drop from xs (k - from) d ∙ ap (λ m. get_or xs m d) at)

pub one_more : (xs : List Value) (from k : ℕ) (begun had now : List ℤ) → from ≤ k → k < length xs → had ≡ begun ++ flat_map flat (slice_range xs from k) → now ≡ had ++ flat (get_or xs k (Num (pos 0))) → now ≡ begun ++ flat_map flat (slice_range xs from (k + 1))
one_more xs from k begun had now ordered within so_far more =
    let x = get_or xs k (Num (pos 0)) in
    more
    ∙ ap (λ zs. zs ++ flat x) so_far
    ∙ flat_map_more flat begun (slice_range xs from k) x
    ∙ ap (λ ys. begun ++ flat_map flat ys) (sym (one_later xs from k (Num (pos 0)) ordered within))

-- ---- sections

-- as many elements as there are
pub section_at : (xs : List Value) (long i n from count : ℕ) → long ≡ length xs → from ≡ min i long → count ≡ min n (long - from) → slice_range xs from (from + count) ≡ section i n xs
section_at xs long i n from count is first counted =
    let reached : from + count - from ≡ min n (length (drop from xs)) = omega (arith, is, counted, length-drop from xs) in
    ap (λ m. take m (drop from xs)) reached
    ∙ take_min n (drop from xs)
    ∙ ap (λ m. take n (drop m xs)) (first ∙ ap (min i) is)
    ∙ ap (take n) (drop_min i xs)

-- ---- behind their number

then_more : (zs : List ℤ) (us vs : List Value) → zs ++ flat_map flat us ++ flat_map flat vs ≡ zs ++ flat_map flat (us ++ vs)
then_more zs us vs =
    append_assoc zs (flat_map flat us) (flat_map flat vs) ∙ ap (λ ys. zs ++ ys) (sym (flat_map-append flat us vs))

pub behind_count : (vs : List Value) (first : ℤ) (begun had now : List ℤ) → first ≡ pos (length vs) → begun ≡ [] → had ≡ begun ++ first ∷ [] → now ≡ had ++ flat_map flat vs → now ≡ flat (list_of vs)
behind_count vs first begun had now count none one all =
    all
    ∙ ap (λ zs. zs ++ flat_map flat vs) (one ∙ ap₂ (λ zs z. zs ++ z ∷ []) none count)
    ∙ sym (flat_list vs)

pub length-between : (xs : List Value) (from to : ℕ) → to ≤ length xs → length (slice_range xs from to) ≡ to - from
length-between xs from to within = omega (arith, within, length-take (to - from) (drop from xs), length-drop from xs)

-- ---- how many

pub front_count : (ys vs : List Value) (long most count : ℕ) → vs ≡ ys → long ≡ length ys → count ≡ min long most → count ≡ length (take most vs)
front_count ys vs long most count same is counted =
    let all = ap length same in omega (arith, all, is, counted, length-take most vs)

pub one_piece : (v : Value) (vs : List Value) (most : ℕ) → vs ≡ v ∷ [] → 0 < most → take most vs ≡ v ∷ []
one_piece v vs most is some = ap (take most) is ∙ take_all most (v ∷ []) (omega (arith, some))

-- ---- others in place of elements

-- in front of the place, the others as many as fit, and behind them
pub overwritten_between : (xs ys : List Value) (at from count : ℕ) → from ≡ min at (length xs) → count ≡ length (take (length xs - from) ys) → slice_range xs 0 from ++ take (length xs - from) ys ++ slice_range xs (from + count) (length xs) ≡ overwritten xs at ys
overwritten_between xs ys at from count is counted =
    let front : slice_range xs 0 from ≡ take at xs = let n : from - 0 ≡ min at (length xs) = omega (arith, is) in ap (λ m. take m xs) n ∙ take_min at xs in
    let middle : take (length xs - from) ys ≡ take (length xs - at) ys = let n : length xs - from ≡ length xs - at = omega (arith, is) in ap (λ m. take m ys) n in
    let reached : from + count ≡ min (at + length ys) (length xs) = omega (arith, is, counted, length-take (length xs - from) ys) in
    let back : slice_range xs (from + count) (length xs) ≡ drop (at + length ys) xs = take_rest xs (from + count) ∙ ap (λ m. drop m xs) reached ∙ drop_min (at + length ys) xs in
    ap₂ (λ us vs. us ++ vs) (ap₂ (λ us vs. us ++ vs) front middle) back

pub length-overwritten : (xs ys : List Value) (at : ℕ) → length (overwritten xs at ys) ≡ length xs
length-overwritten xs ys at =
    let a = take at xs in
    let b = take (length xs - at) ys in
    let c = drop (at + length ys) xs in
    omega (arith, length-append (a ++ b) c, length-append a b, length-take at xs, length-take (length xs - at) ys, length-drop (at + length ys) xs)

pub overwritten_flat : (xs ys : List Value) (at from count : ℕ) (first : ℤ) (begun had one two now : List ℤ) → from ≡ min at (length xs) → count ≡ length (take (length xs - from) ys) → first ≡ pos (length xs) → begun ≡ [] → had ≡ begun ++ first ∷ [] → one ≡ had ++ flat_map flat (slice_range xs 0 from) → two ≡ one ++ flat_map flat (take (length xs - from) ys) → now ≡ two ++ flat_map flat (slice_range xs (from + count) (length xs)) → now ≡ flat (list_of (overwritten xs at ys))
overwritten_flat xs ys at from count first begun had one two now is counted number none begins front middle back =
    let a = slice_range xs 0 from in
    let b = take (length xs - from) ys in
    let c = slice_range xs (from + count) (length xs) in
    let all : now ≡ had ++ flat_map flat (a ++ b ++ c) =
    back
    ∙ ap (λ zs. zs ++ flat_map flat c) (middle ∙ ap (λ zs. zs ++ flat_map flat b) front ∙ then_more had a b)
    ∙ then_more had (a ++ b) c
    in
    behind_count
    (overwritten xs at ys)
    first
    begun
    had
    now
    (number ∙ ap pos (sym (length-overwritten xs ys at)))
    none
    begins
    (all ∙ ap (λ vs. had ++ flat_map flat vs) (overwritten_between xs ys at from count is counted))

-- one element for another is a list of one for it, where it fits
set_overwritten : (xs : List Value) (k : ℕ) (v : Value) → slice_set xs k v ≡ overwritten xs k (v ∷ [])
set_overwritten xs k v =
    elim (cases_lt k (length xs)) [
      | inl less ↦
          let one : take (length xs - k) (v ∷ []) ≡ v ∷ [] = take_all (length xs - k) (v ∷ []) (omega (arith, less)) in
          let next : suc k ≡ k + length (v ∷ []) = omega arith in
          set_split xs k v less
          ∙ sym (append_assoc (take k xs) (v ∷ []) (drop (suc k) xs))
          ∙ ap₂ (λ us n. take k xs ++ us ++ drop n xs) (sym one) next
      | inr more ↦
          let none : length xs - k ≡ 0 = omega (arith, more) in
          set_past xs k v more
          ∙ sym (append-nil xs)
          ∙ sym (append-nil (xs ++ []))
          ∙ ap₂ (λ us vs. us ++ [] ++ vs) (sym (take_all k xs more)) (sym (drop_all (k + length (v ∷ [])) xs (omega (arith, more))))
          ∙ ap (λ n. take k xs ++ take n (v ∷ []) ++ drop (k + length (v ∷ [])) xs) (sym none)
    ]

pub replaced_overwritten : (is : Bool) (xs : List Value) (k : ℕ) (v : Value) → (if is then slice_set xs k v else overwritten xs k (elements v)) ≡ overwritten xs k (if is then v ∷ [] else elements v)
replaced_overwritten true xs k v = set_overwritten xs k v
replaced_overwritten false xs k v = refl
