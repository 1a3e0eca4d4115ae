-- How many elements stand at places, and what the numbers there tell.
use Rattle.std.proofs.Common.{◌≡◌, ℕ, zero, suc, ◌+◌, ◌-◌, ◌*◌, ◌<◌, ◌≤◌, Bool, true, ◌&&◌, ◌||◌, not, ◌==◌, nat_le, List, [], ◌∷◌, ◌++◌, take, append-nil, flat_map, count_by, length, set, get_or-set_same, get_or-set_other, length-set, ne_eqb, inl, inr, refl, sym, ap, ap₂, ◌∙◌, subst, arith, leb-true, lt-ltb}
use Rattle.std.specs.Prelude.{slice_index}
use Rattle.std.proofs.Math.Nat.{mul-le-mul_left}
use Rattle.std.proofs.lemmas.Bool.{and_parts, cases_eq, cases_lt}
use Rattle.std.proofs.lemmas.List.Elements.{recursion_from_All}
use Rattle.nxt_types.specs.Bytes.{u16_at}
use Rattle.nxt_layout.specs.declared.places.Places.{Places}
use Rattle.nxt_layout.specs.declared.places.Walk.{Walk}
use Rattle.nxt_layout.specs.Rows.{Ground, row, row_end, has_elements, is_placed, elements_of}
use Rattle.nxt_facts.specs.Places.{places_from}
use Rattle.nxt_facts.specs.Sums.{sum_below}
use Rattle.nxt_layout.specs.Inside.RowPasses.{times, few, bit_of, tallied, numbers_in}
use Rattle.nxt_layout.specs.Inside.Known.{IsWalked, ArePlaced, ArePlacesOf, standing}
use Rattle.nxt_facts.proofs.Each.{Each, each_flat, each_then}
use Rattle.std.proofs.lemmas.List.{take_more, map-append}
use Rattle.std.proofs.lemmas.List.Concat.{flat_map-append}
use Rattle.nxt_facts.proofs.Sums.{total-map, bit, tally, is_it, tally_is, tally-append}
use Rattle.nxt_facts.proofs.SumsBelow.{sums_same}
use Rattle.nxt_layout.proofs.Dope.InOrder.{total_by, few_sum}

-- ---- places one behind another

pub places_join : (at s m f : ℕ) → places_from at s (m + f) ≡ places_from at s m ++ places_from (at + m * s) s f
places_join at s zero f =
    let here : at + 0 * s ≡ at = omega arith in
    let all : 0 + f ≡ f = omega arith in
    ap₂ (λ (p n : ℕ). places_from p s n) (sym here) all
places_join at s (suc m) f =
    let there : (at + s) + m * s ≡ at + suc m * s = omega arith in
    let more : suc m + f ≡ suc (m + f) = omega arith in
    ap (places_from at s) more
    ∙ ap (λ ps. at ∷ ps) (places_join (at + s) s m f ∙ ap (λ p. places_from (at + s) s m ++ places_from p s f) there)

pub times_join : (q : ℕ) (xs ys : List ℕ) → times q (xs ++ ys) ≡ times q xs + times q ys
times_join q xs ys =
    omega (arith, tally_is (λ x. x == q) (xs ++ ys), tally_is (λ x. x == q) xs, tally_is (λ x. x == q) ys, tally-append (λ x. x == q) xs ys)

-- ---- walks

-- the same count
pub walked_as : (c d : ℕ → ℕ) (w : Walk) → ((q : ℕ) → c q ≡ d q) → IsWalked c w → IsWalked d w
walked_as c d w e h =
    record {
      size = h.size;
      counts = λ q less. h.counts q less ∙ ap few (e q);
      full = λ q k less within. subst (λ n. 2 ≤ n) (e (q + k * w.stride)) (h.full q k less within);
    }

few_full : (a b : ℕ) → 2 ≤ a → few a ≡ few (a + b)
few_full a b h = omega (arith, h)

-- places that have two are taken again
pub walked_full : (c : ℕ → ℕ) (at s f : ℕ) (w : Walk) → IsWalked c w → ((k : ℕ) → k < f → 2 ≤ c (at + k * s)) → IsWalked (λ q. c q + times q (places_from at s f)) w
walked_full c at s f w h full =
    record {
      size = h.size;
      counts = λ q less. h.counts q less ∙ same q;
      full = λ q k less within. omega (arith, h.full q k less within);
    }
  where
    none : (q p n : ℕ) → ((k : ℕ) → k < n → 2 ≤ c (p + k * s)) → few (c q) ≡ few (c q + times q (places_from p s n))
    none q p zero two = let e : c q ≡ c q + 0 = omega arith in ap few e
    none q p (suc n) two =
        elim (cases_eq p q) [
          | inl same ↦ few_full (c q) (times q (places_from p s (suc n))) (subst (λ x. 2 ≤ c x) (first ∙ same) (two 0 (omega arith)))
          | inr other ↦ none q (p + s) n (λ k less. subst (λ x. 2 ≤ c x) (next k) (two (suc k) (omega (arith, less))))
              ∙ ap (λ n. few (c q + n)) (skip other)
        ]
      where
        first : p + 0 * s ≡ p
        first = omega arith

        next : (k : ℕ) → p + suc k * s ≡ (p + s) + k * s
        next k = omega arith

        skip : (p ≡ q → ⊥) → times q (places_from (p + s) s n) ≡ times q (places_from p s (suc n))
        skip other = omega (arith, times_join q (p ∷ []) (places_from (p + s) s n), tally_is (λ x. x == q) (p ∷ []), ap bit (ne_eqb p q other))

    same : (q : ℕ) → few (c q) ≡ few (c q + times q (places_from at s f))
    same q = none q at f full

-- ---- steps

-- with more steps from one place
pub steps_set : (c : ℕ → ℕ) (w v : Walk) (at all : ℕ) → IsWalked c w → at < length w.times.items → ((k : ℕ) → k < all → 2 ≤ c (at + k * w.stride)) → v.stride ≡ w.stride → v.times.items ≡ w.times.items → v.steps.items ≡ set w.steps.items at all → IsWalked c v
steps_set c w v at all h less more stride times_is steps_is =
    record {
      size = ap length steps_is ∙ length-set w.steps.items at all ∙ h.size ∙ sym (ap length times_is);
      counts = λ q below. ap (λ xs. slice_index xs q) times_is ∙ h.counts q (subst (λ xs. q < length xs) times_is below);
      full = λ q k below within.
          subst (λ s. 2 ≤ c (q + k * s)) (sym stride)
          (full q k (subst (λ xs. q < length xs) times_is below) (subst (λ xs. k < slice_index xs q) steps_is within));
    }
  where
    full : (q k : ℕ) → q < length w.times.items → k < slice_index (set w.steps.items at all) q → 2 ≤ c (q + k * w.stride)
    full q k below within =
        elim (cases_eq at q) [
          | inl same ↦ subst (λ p. 2 ≤ c (p + k * w.stride)) same (more k (omega (arith, within, ap (slice_index (set w.steps.items at all)) same, get_or-set_same w.steps.items at all 0 (omega (arith, less, h.size)))))
          | inr other ↦ h.full q k below (omega (arith, within, get_or-set_other w.steps.items at q all 0 (λ same. other (sym same))))
        ]

-- so many, and those behind them
pub full_further : (c : ℕ → ℕ) (s at full more all : ℕ) → all ≤ full + more → ((k : ℕ) → k < full → 2 ≤ c (at + k * s)) → ((k : ℕ) → k < more → 2 ≤ c (at + full * s + k * s)) → (k : ℕ) → k < all → 2 ≤ c (at + k * s)
full_further c s at full more all sum first later k less =
    elim (cases_lt k full) [
      | inl before ↦ first k before
      | inr from ↦ subst
          (λ j. 2 ≤ c (at + j * s))
          (parts from)
          (subst (λ p. 2 ≤ c p) (place (k - full)) (later (k - full) (omega (arith, less, sum, from))))
    ]
  where
    parts : full ≤ k → full + (k - full) ≡ k
    parts from = omega (arith, from)

    place : (j : ℕ) → at + full * s + j * s ≡ at + (full + j) * s
    place j = omega arith

-- ---- the elements of rows stand in the dataspace

places_up_to : (p s n end : ℕ) → p + n * s ≤ end → Each (λ q. q < end + 1) (places_from p s n)
places_up_to p s zero end h = tt
places_up_to p s (suc n) end h =
    let more : p + suc n * s ≡ (p + s) + n * s = omega arith in
    (omega (arith, h, more), places_up_to (p + s) s n end (omega (arith, h, more)))

placed_row : (g : Ground) (r : ℕ) → is_placed g r ≡ true → Each (λ q. q < length g.memory.bytes + 1) (elements_of g r)
placed_row g r h = at (row g r).count refl
  where
    at : (n : ℕ) → (row g r).count ≡ n → Each (λ q. q < length g.memory.bytes + 1) (elements_of g r)
    at zero e = subst (λ n. Each (λ q. q < length g.memory.bytes + 1) (places_from (row g r).place (row g r).stride n)) (sym e) tt
    at (suc n) e =
        let has : has_elements g r ≡ true = lt-ltb 0 (row g r).count (omega (arith, e)) in
        let both : (nat_le g.static_size (row g r).place && nat_le (row_end g r) (length g.memory.bytes)) ≡ true =
        sym (ap (λ b. not b || (nat_le g.static_size (row g r).place && nat_le (row_end g r) (length g.memory.bytes))) has) ∙ h in
        places_up_to (row g r).place (row g r).stride (row g r).count (length g.memory.bytes) (leb-true (row_end g r) (length g.memory.bytes) (and_parts (nat_le g.static_size (row g r).place) (nat_le (row_end g r) (length g.memory.bytes)) both).1)

pub elements_placed : (g : Ground) (rows : List ℕ) → ArePlaced g rows → Each (λ q. q < length g.memory.bytes + 1) (flat_map (elements_of g) rows)
elements_placed g rows placed =
    each_flat (λ q. q < length g.memory.bytes + 1) (elements_of g) rows
    (each_then (λ r. is_placed g r ≡ true) (λ r. Each (λ q. q < length g.memory.bytes + 1) (elements_of g r)) (λ r h. placed_row g r h) rows (recursion_from_All (λ r. is_placed g r ≡ true) rows placed))

-- ---- as many where a test says

-- where the walk tells the elements of rows, the places are theirs
pub are_places : (bases : List ℕ) (p : Places) (n : ℕ) → Each (λ q. q < n) bases → ((t : ℕ → Bool) → standing t p ≡ sum_below (λ q. few (times q bases) * bit_of (t q)) n) → ArePlacesOf bases p
are_places bases p n below h t =
    ap few (h t)
    ∙ few_sum (λ q. times q bases) t n
    ∙ ap few (sums_same (λ q. times q bases * bit (t q)) (λ q. tally (is_it q) bases * bit (t q)) n (λ q less. ap (λ k. k * bit (t q)) (tally_is (is_it q) bases)))
    ∙ sym (ap few (total_by (λ q. bit (t q)) n bases below))
    ∙ sym (ap few (tally_is t bases))

-- ---- the numbers there

-- how many of them pass a test, by the places
pub number_tally : (g : Ground) (place : ℕ) (p : ℕ → Bool) (bases : List ℕ) → tallied (numbers_in g place bases) p ≡ count_by (λ b. p (u16_at g.memory.bytes (b + place))) bases
number_tally g place p bases =
    let f = λ (b : ℕ). u16_at g.memory.bytes (b + place) in
    tally_is p (numbers_in g place bases) ∙ total-map (λ x. bit (p x)) f bases ∙ sym (tally_is (λ b. p (f b)) bases)

pub one_number : (p : ℕ → Bool) (n : ℕ) → count_by p (n ∷ []) ≡ bit_of (p n)
one_number p n = omega (arith, tally_is p (n ∷ []))

-- the numbers at one place more
pub numbers_next : (g : Ground) (place : ℕ) (p : ℕ → Bool) (places : List ℕ) (k : ℕ) → k < length places → count_by p (numbers_in g place (take (k + 1) places)) ≡ count_by p (numbers_in g place (take k places)) + bit_of (p (u16_at g.memory.bytes (slice_index places k + place)))
numbers_next g place p places k h =
    let f = λ (b : ℕ). u16_at g.memory.bytes (b + place) in
    let here = slice_index places k in
    let split : numbers_in g place (take (k + 1) places) ≡ numbers_in g place (take k places) ++ f here ∷ [] =
    ap (numbers_in g place) (take_more places k 0 h) ∙ map-append f (take k places) (here ∷ []) in
    omega (
      arith,
      ap (count_by p) split,
      tally_is p (numbers_in g place (take k places) ++ f here ∷ []),
      tally-append p (numbers_in g place (take k places)) (f here ∷ []),
      tally_is p (numbers_in g place (take k places)),
      tally_is p (f here ∷ []),
      one_number p (f here),
    )

-- the elements of one row more
pub elements_next : (g : Ground) (rows : List ℕ) (k q : ℕ) → k < length rows → times q (flat_map (elements_of g) (take k rows)) + times q (elements_of g (slice_index rows k)) ≡ times q (flat_map (elements_of g) (take (k + 1) rows))
elements_next g rows k q h =
    sym (times_join q (flat_map (elements_of g) (take k rows)) (elements_of g (slice_index rows k)))
    ∙ ap (times q)
    (ap (λ ps. flat_map (elements_of g) (take k rows) ++ ps) (sym (append-nil (elements_of g (slice_index rows k))))
    ∙ sym (flat_map-append (elements_of g) (take k rows) (slice_index rows k ∷ []))
    ∙ ap (flat_map (elements_of g)) (sym (take_more rows k 0 h)))

-- some places behind those that are taken
pub walked_on : (c : ℕ → ℕ) (start s done n : ℕ) (w : Walk) (at : ℕ) → at ≡ start + done * s → IsWalked (λ q. (c q + times q (places_from start s done)) + times q (places_from at s n)) w → IsWalked (λ q. c q + times q (places_from start s (done + n))) w
walked_on c start s done n w at e h =
    walked_as (λ q. (c q + times q (places_from start s done)) + times q (places_from at s n)) (λ q. c q + times q (places_from start s (done + n))) w same h
  where
    same : (q : ℕ) → (c q + times q (places_from start s done)) + times q (places_from at s n) ≡ c q + times q (places_from start s (done + n))
    same q = omega (arith, ap (λ p. times q (places_from p s n)) e, ap (times q) (places_join start s done n), times_join q (places_from start s done) (places_from (start + done * s) s n))

end_parts : (at f m s : ℕ) → (at + f * s) + m * s ≡ at + (f + m) * s
end_parts at f m s = omega arith

-- the row ends where it did
pub same_end : (at f n s : ℕ) → f ≤ n → (at + f * s) + (n - f) * s ≡ at + n * s
same_end at f n s h =
    let parts : f + (n - f) ≡ n = omega (arith, h) in
    end_parts at f (n - f) s ∙ ap (λ m. at + m * s) parts

-- and the places stay small
pub small_step : (at f n s count : ℕ) → f ≤ n → n ≤ count → s ≤ 65535 → at ≤ 65535 + 65535 * (count - n) → at + f * s ≤ 65535 + 65535 * (count - (n - f))
small_step at f n s count h k few small = omega (arith, h, k, small, mul-le-mul_left f few)

-- ---- places in order

pub place_more : (t : ℕ → Bool) (xs : List ℕ) (q : ℕ) → count_by t (xs ++ q ∷ []) ≡ count_by t xs + bit_of (t q)
place_more t xs q =
    omega (arith, tally_is t (xs ++ q ∷ []), tally-append t xs (q ∷ []), tally_is t xs, tally_is t (q ∷ []), one_number t q)

-- one number more in a sum, where it counts so often
pub sum_next : (v : ℕ → ℕ) (t : ℕ → Bool) (n k a b : ℕ) → a ≡ sum_below (λ q. v q * bit_of (t q)) n → v n ≡ k → b ≡ a + k * bit_of (t n) → b ≡ sum_below (λ q. v q * bit_of (t q)) (n + 1)
sum_next v t n k a b before e after =
    let one : suc n ≡ n + 1 = omega arith in
    omega (arith, before, after, ap (λ m. m * bit_of (t n)) e, ap (sum_below (λ q. v q * bit_of (t q))) one)
