-- What words name: numbers, and whether a stop stops.
use Rattle.std.proofs.Common.{◌≡◌, ℕ, zero, suc, ◌<◌, ◌≤◌, Bool, true, false, not, ◌==◌, List, [], ◌∷◌, length, drop, Option, Some, None, refl, sym, ap, ap₂, ◌∙◌, arith}
use Rattle.std.proofs.lemmas.Bool.Decides.{nat_tests}
use Rattle.std.specs.Prelude.{ℤ, pos, nat_lt, if◌then◌else◌, slice_index_or}
use Rattle.nxt_types.specs.Arithmetic.{word}
use Rattle.nxt_types.specs.Names.{Name}
use Rattle.nxt_model.specs.Devices.{set_property}
use Rattle.nxt_model.specs.Means.Effects.{value_of as value_given}
use Rattle.nxt_model.specs.Step.{stops_at}
use Rattle.nxt_model.specs.Values.{Value, number}
use Rattle.nxt_model.specs.Variables.{Absent, part_of, read}
use Rattle.nxt_space.specs.Variables.{Variables, name_of, value_of, value_by}
use Rattle.nxt_machine.specs.Numbers.{number_at, halts, with_pairs}

-- ---- numbers

number_by : (o : Option Name) (vars : Value) → number (value_given (read vars (part_of o))) ≡ number (value_by o vars)
number_by None vars = refl
number_by (Some n) vars = refl

-- by whether the word is an entry's number
abbrev number_if : Variables → ℕ → Bool → ℤ
number_if s w b = number (value_given (read s.values (part_of (if b then name_of s w else None))))

pub number_there : (s : Variables) (w : ℕ) → nat_lt w 0xC000 ≡ true → number_at s w ≡ number (value_of s w)
number_there s w e = ap (number_if s w) e ∙ number_by (name_of s w) s.values

pub number_past : (s : Variables) (w : ℕ) → nat_lt w 0xC000 ≡ false → number_at s w ≡ pos 0
number_past s w e = ap (number_if s w) e

-- ---- stops

abbrev halts_if : Variables → ℕ → Bool → Bool → Bool
halts_if s w left named = stops_at (read s.values (if left then Absent else part_of (if named then name_of s w else None)))

pub halts_past : (s : Variables) (w : ℕ) → nat_lt w 0xC000 ≡ false → halts s w ≡ true
halts_past s w e = ap (halts_if s w (w == 0xFFFF)) e ∙ by_test (w == 0xFFFF)
  where
    by_test : (b : Bool) → halts_if s w b false ≡ true
    by_test true = refl
    by_test false = refl

halts_there : (s : Variables) (w : ℕ) → nat_lt w 0xC000 ≡ true → halts s w ≡ stops_at (read s.values (part_of (name_of s w)))
halts_there s w e =
    let kept : (w == 0xFFFF) ≡ false = grind (arith, nat_tests, e) in
    ap (λ b. halts_if s w b (nat_lt w 0xC000)) kept ∙ ap (halts_if s w false) e

pub halts_none : (s : Variables) (w : ℕ) → nat_lt w 0xC000 ≡ true → name_of s w ≡ None → halts s w ≡ true
halts_none s w e none = halts_there s w e ∙ ap (λ o. stops_at (read s.values (part_of o))) none

pub halts_some : (s : Variables) (w : ℕ) (n : Name) → nat_lt w 0xC000 ≡ true → name_of s w ≡ Some n → halts s w ≡ not (word (number (value_of s w)) == 0)
halts_some s w n e some =
    halts_there s w e
    ∙ ap (λ o. stops_at (read s.values (part_of o))) some
    ∙ sym (ap (λ o. not (word (number (value_by o s.values)) == 0)) some)

-- ---- pairs

pair_more : (s : Variables) (xs : List ℕ) (k : ℕ) (m : List ℤ) → suc k < length xs →
    with_pairs s (drop (suc (suc k)) xs) (set_property (slice_index_or xs k 0) (number_at s (slice_index_or xs (suc k) 0)) m) ≡ with_pairs s (drop k xs) m
pair_more s [] k m h = let f : ⊥ = omega (arith, h) in absurd f
pair_more s (x ∷ []) zero m h = let f : ⊥ = omega (arith, h) in absurd f
pair_more s (x ∷ y ∷ xs) zero m h = refl
pair_more s (x ∷ xs) (suc k) m h = pair_more s xs k m (omega (arith, h))

-- a pair stands at k and behind it
pub pairs_more : (s : Variables) (xs : List ℕ) (k j l : ℕ) (m : List ℤ) → j ≡ suc k → l ≡ suc (suc k) → j < length xs →
    with_pairs s (drop l xs) (set_property (slice_index_or xs k 0) (number_at s (slice_index_or xs j 0)) m) ≡ with_pairs s (drop k xs) m
pairs_more s xs k j l m e f h =
    ap₂ (λ a b. with_pairs s (drop b xs) (set_property (slice_index_or xs k 0) (number_at s (slice_index_or xs a 0)) m)) e f ∙ pair_more s xs k m (omega (arith, e, h))

pub pairs_done : (s : Variables) (xs : List ℕ) (k : ℕ) (m : List ℤ) → length xs ≤ suc k → with_pairs s (drop k xs) m ≡ m
pairs_done s [] zero m h = refl
pairs_done s [] (suc k) m h = refl
pairs_done s (x ∷ []) zero m h = refl
pairs_done s (x ∷ y ∷ xs) zero m h = let f : ⊥ = omega (arith, h) in absurd f
pairs_done s (x ∷ xs) (suc k) m h = pairs_done s xs k m (omega (arith, h))
