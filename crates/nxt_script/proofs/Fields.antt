-- A record's fields, one after another.
use Rattle.std.proofs.Common.{◌≡◌, ℕ, ◌+◌, ◌<◌, ◌≤◌, List, [], ◌∷◌, ◌++◌, length, drop, get_or, Option, Some, None, refl, sym, ap, ◌∙◌, inl, inr, arith, append_assoc, length-drop, ℤ, map, set, take, get_or-set_other, get_or-set_same, pos, ◌≢◌, ◌≤ℤ◌, subst}
use Rattle.std.specs.List.{slice_get}
use Rattle.std.proofs.lemmas.Option.{get_or_from_slice_get, slice_get_within}
use Rattle.std.specs.Prelude.{option_map, option_and_then}
use Rattle.std.proofs.lemmas.Bool.{cases_lt}
use Rattle.std.proofs.lemmas.List.{drop_more, drop_all, get_or-map, length-map, take_more_set}
use Rattle.csv.specs.Records.{field_at}
use Rattle.csv.proofs.RecordFacts.{field-none, field-get, field-there}
use Rattle.hex.specs.Hex.{decode_of}
use Rattle.nxt_script.specs.RowForms.{Range, numbers_in, number_in, telegram_by, short_telegram}

-- a field that is there stands at the front of those from its place on
pub field_within : (fs : List (List ℕ)) (k : ℕ) (f : List ℕ) → field_at fs k ≡ Some f → k < length fs
field_within fs k f e = elim (cases_lt k (length fs)) [ inl lt ↦ lt | inr le ↦ absurd (cc (field-none fs k le)) ]

pub field_some : (fs : List (List ℕ)) (k : ℕ) (f : List ℕ) → field_at fs k ≡ Some f → drop k fs ≡ f ∷ drop (k + 1) fs
field_some fs k f e = drop_more fs k [] (field_within fs k f e) ∙ ap (λ g. g ∷ drop (k + 1) fs) (field-get fs k f e)

pub field_none : (fs : List (List ℕ)) (k : ℕ) → field_at fs k ≡ None → drop k fs ≡ []
field_none fs k e = elim (cases_lt k (length fs)) [ inl lt ↦ absurd (field-there fs k lt e) | inr le ↦ drop_all k fs le ]

-- ---- telegrams

pub one_telegram : (fs : List (List ℕ)) (d : List ℕ) → field_at fs 1 ≡ Some d → length fs ≡ 2 → telegram_by (drop 1 fs) ≡ short_telegram (decode_of d)
one_telegram fs d e two = rw (field_some fs 1 d e, drop_all 2 fs (omega arith)) refl

pub no_telegram : (fs : List (List ℕ)) → field_at fs 1 ≡ None → telegram_by (drop 1 fs) ≡ None
no_telegram fs e = rw (field_none fs 1 e) refl

-- ---- numbers

-- a number that was found goes to those found before it
taken : (done : List ℤ) (z : ℤ) (o : Option ℤ) (more : Option (List ℤ)) → o ≡ Some z
    → option_map (λ zs. done ++ zs) (option_and_then (λ z. option_map (λ zs. z ∷ zs) more) o) ≡ option_map (λ zs. (done ++ z ∷ []) ++ zs) more
taken done z o None e = rw e refl
taken done z o (Some zs) e = rw e (ap (λ l. Some l) (sym (append_assoc done (z ∷ []) zs)))

-- ranges with no field left
no_fields : (rs : List Range) → 0 < length rs → numbers_in rs [] ≡ None
no_fields [] some = absurd (omega arith)
no_fields (r ∷ rs) some = refl

module _ {R : Type 0} (v : R → Range) (rs : List R) (fs : List (List ℕ)) (found : List ℤ) (i : ℕ) where
  front : (d : R) → i < length rs → drop i (map v rs) ≡ v (get_or rs i d) ∷ drop (i + 1) (map v rs)
  front d lt =
      drop_more (map v rs) i (v (get_or rs i d)) (omega (arith, length-map rs v))
      ∙ ap (λ r. r ∷ drop (i + 1) (map v rs)) (get_or-map v rs i d (v (get_or rs i d)) lt)

  -- the numbers that were found, before those of the ranges and the fields that are left
  abbrev pub with_rest : Option (List ℤ)
  with_rest = option_map (λ zs. take i found ++ zs) (numbers_in (drop i (map v rs)) (drop (i + 1) fs))

  pub one_more : (d : R) (f : List ℕ) (z : ℤ) → i < length rs → i < length found → field_at fs (i + 1) ≡ Some f → number_in (v (get_or rs i d)) f ≡ Some z
      → option_map (λ zs. take (i + 1) (set found i z) ++ zs) (numbers_in (drop (i + 1) (map v rs)) (drop (i + 1 + 1) fs)) ≡ with_rest
  one_more d f z lt room e n =
      rw (front d lt, field_some fs (i + 1) f e, take_more_set found i z room)
      (sym (taken (take i found) z (number_in (v (get_or rs i d)) f) (numbers_in (drop (i + 1) (map v rs)) (drop (i + 1 + 1) fs)) n))

  pub no_number : (d : R) (f : List ℕ) → i < length rs → field_at fs (i + 1) ≡ Some f → number_in (v (get_or rs i d)) f ≡ None → with_rest ≡ None
  no_number d f lt e n = rw (front d lt, field_some fs (i + 1) f e, n) refl

  pub no_field : i < length rs → field_at fs (i + 1) ≡ None → with_rest ≡ None
  no_field lt e = rw (field_none fs (i + 1) e, no_fields (drop i (map v rs)) (omega (arith, length-map rs v, length-drop i (map v rs)))) refl

  pub a_field_left : length rs ≤ i → i + 1 < length fs → with_rest ≡ None
  a_field_left done more = rw (drop_all i (map v rs) (omega (arith, length-map rs v)), drop_more fs (i + 1) [] more) refl

-- each of the first numbers is in its range
abbrev pub AreIn : {R : Type 0} (low high : R → ℤ) → List R → List ℤ → ℕ → Type 0
AreIn {R} low high rs zs n = (k : ℕ) (r : R) → k < n → slice_get rs k ≡ Some r → (low r ≤ℤ get_or zs k (pos 0)) × (get_or zs k (pos 0) ≤ℤ high r)

pub one_more_in : {R : Type 0} (low high : R → ℤ) (rs : List R) (zs : List ℤ) (i : ℕ) (d : R) (z : ℤ) → i < length zs
    → (low (get_or rs i d) ≤ℤ z) × (z ≤ℤ high (get_or rs i d)) → AreIn low high rs zs i → AreIn low high rs (set zs i z) (i + 1)
one_more_in {R} low high rs zs i d z room here before k r lt e =
    elim (cases_lt k i) [
      | inl below ↦ (let ne : k ≢ i = omega arith in rw get_or-set_other (before k r below e))
      | inr over ↦ (let same : k ≡ i = omega arith in
          let r_is : get_or rs i d ≡ r = get_or_from_slice_get rs i r d (subst (λ (n : ℕ). slice_get rs n ≡ Some r) same e) in
          subst (λ (n : ℕ). (low r ≤ℤ get_or (set zs i z) n (pos 0)) × (get_or (set zs i z) n (pos 0) ≤ℤ high r)) (sym same)
          (rw (get_or-set_same zs i z (pos 0) room) (subst (λ (q : R). (low q ≤ℤ z) × (z ≤ℤ high q)) r_is here)))
    ]

pub all_in : {R : Type 0} (low high : R → ℤ) (rs : List R) (zs : List ℤ) (i k : ℕ) (r : R) → length rs ≤ i → AreIn low high rs zs i → slice_get rs k ≡ Some r
    → (low r ≤ℤ get_or zs k (pos 0)) × (get_or zs k (pos 0) ≤ℤ high r)
all_in low high rs zs i k r done all e = all k r (omega (arith, slice_get_within rs k r e)) e
