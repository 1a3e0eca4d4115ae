-- How a first fault is shown to be the refusal: one lemma for each rule, over what the tests before it have shown.
use Rattle.std.proofs.Common.{◌≡◌, ℕ, ◌+◌, ◌*◌, false, ◌<◌, ◌≤◌, List, [], ◌∷◌, length, refl, sym, subst, arith, ltb-true, lt-ltb, eq-eqb, eqb-true, le-ltb, inl, inr}
use Rattle.std.proofs.lemmas.Bool.{cases_lt, and_parts}
use Rattle.std.specs.Prelude.{nat_lt, not, ◌==◌, IsTrue, slice_index}
use Rattle.nxt_types.specs.Refusals.{IsRefusal, comes_first}
use Rattle.nxt_rxe.specs.declared.fault.RxeFault.{RxeFault}
use Rattle.nxt_rxe.specs.declared.fault.RxeFault.TheVariants.{Short, Format, Version, Section, NoMemory}
use Rattle.nxt_rxe.specs.FileRules.{Broken, rank, defaults_end, clumps_end, dependents_end, code_end, dynamic_passes}
use Rattle.nxt_rxe.specs.Inside.Reading.{HasHead, IsFirstSection}
use Rattle.nxt_rxe.proofs.Files.Sections.{before_clumps, before_dependents, before_code}

-- a place at or behind another comes no earlier
not_before : (v w : ℕ) → (v < w → ⊥) → IsTrue (comes_first (w ∷ []) (v ∷ []))
not_before v w h =
    elim (cases_lt w v) [
      | inl lt ↦ rw (lt-ltb w v lt) refl
      | inr le ↦
          let same : w ≡ v = elim (cases_lt v w) [ inl lt ↦ absurd (h lt) | inr more ↦ omega arith ] in
          rw (le-ltb w v le, eq-eqb w v same) refl
    ]

no_short : (bytes : List ℕ) (n : ℕ) → 38 ≤ length bytes → Broken bytes (Short n) → ⊥
no_short bytes n long h =
    let parts = and_parts (nat_lt n 38) (n == length bytes) h in
    let below : n < 38 = ltb-true n 38 parts.0 in
    let same : n ≡ length bytes = eqb-true n (length bytes) parts.1 in
    omega (arith, below, same, long)

pub short_is_first : (bytes : List ℕ) → length bytes < 38 → IsRefusal (Broken bytes) rank (Short (length bytes))
short_is_first bytes few = record { broken = rw (lt-ltb (length bytes) 38 few, eq-eqb (length bytes) (length bytes) refl) refl; least = least } where
  least : (g : RxeFault) → Broken bytes g → IsTrue (comes_first (rank (Short (length bytes))) (rank g))
  least (Short n) h =
      let same : n ≡ length bytes = eqb-true n (length bytes) (and_parts (nat_lt n 38) (n == length bytes) h).1 in
      not_before n (length bytes) (λ lt. omega (arith, lt, same))
  least (Format i) h = refl
  least (Version v) h = refl
  least (Section s) h = refl
  least NoMemory h = absurd cc

pub format_is_first : (bytes : List ℕ) (i : ℕ) → 38 ≤ length bytes → Broken bytes (Format i) → ((j : ℕ) → j < i → Broken bytes (Format j) → ⊥) → IsRefusal (Broken bytes) rank (Format i)
format_is_first bytes i long found before = record { broken = found; least = least } where
  least : (g : RxeFault) → Broken bytes g → IsTrue (comes_first (rank (Format i)) (rank g))
  least (Short n) h = absurd (no_short bytes n long h)
  least (Format j) h = not_before j i (λ lt. before j lt h)
  least (Version v) h = refl
  least (Section s) h = refl
  least NoMemory h = absurd cc

abbrev pub version_in : List ℕ → ℕ
version_in bytes = slice_index bytes 15 + 256 * slice_index bytes 14

pub version_is_first : (bytes : List ℕ) → 38 ≤ length bytes → ((j : ℕ) → Broken bytes (Format j) → ⊥) → (version_in bytes == 5) ≡ false → IsRefusal (Broken bytes) rank (Version (version_in bytes))
version_is_first bytes long format e = record { broken = rw (eq-eqb (version_in bytes) (version_in bytes) refl, e) refl; least = least } where
  least : (g : RxeFault) → Broken bytes g → IsTrue (comes_first (rank (Version (version_in bytes))) (rank g))
  least (Short n) h = absurd (no_short bytes n long h)
  least (Format j) h = absurd (format j h)
  least (Version v) h =
      let same : v ≡ version_in bytes = eqb-true v (version_in bytes) (and_parts (v == version_in bytes) (not (v == 5)) h).0 in
      not_before v (version_in bytes) (λ lt. omega (arith, lt, same))
  least (Section s) h = refl
  least NoMemory h = absurd cc

pub section_is_first : (bytes : List ℕ) (s : ℕ) → 38 ≤ length bytes → ((j : ℕ) → Broken bytes (Format j) → ⊥) → ((v : ℕ) → Broken bytes (Version v) → ⊥)
    → Broken bytes (Section s) → ((q : ℕ) → q < s → Broken bytes (Section q) → ⊥) → IsRefusal (Broken bytes) rank (Section s)
section_is_first bytes s long format version found before = record { broken = found; least = least } where
  least : (g : RxeFault) → Broken bytes g → IsTrue (comes_first (rank (Section s)) (rank g))
  least (Short n) h = absurd (no_short bytes n long h)
  least (Format j) h = absurd (format j h)
  least (Version v) h = absurd (version v h)
  least (Section q) h = not_before q s (λ lt. before q lt h)
  least NoMemory h = absurd cc

-- the first of the sections, behind a right head
pub first_section_is : (bytes : List ℕ) (f : RxeFault) → HasHead bytes → IsFirstSection bytes f → IsRefusal (Broken bytes) rank f
first_section_is bytes f head first =
    subst (λ (g : RxeFault). IsRefusal (Broken bytes) rank g) (sym first.is)
    (section_is_first bytes first.section head.long head.format head.version first.passes first.before)

-- the clump records, the dependents or the code pass the end, and what stands before them does not
pub clumps_first : (bytes : List ℕ) (f : RxeFault) → f ≡ Section 3 → dynamic_passes bytes ≡ false → defaults_end bytes ≤ length bytes → length bytes < clumps_end bytes → IsFirstSection bytes f
clumps_first bytes f is dynamic within past = record { section = 3; is = is; passes = lt-ltb _ _ past; before = before_clumps bytes dynamic within }

pub dependents_first : (bytes : List ℕ) (f : RxeFault) → f ≡ Section 4 → dynamic_passes bytes ≡ false → clumps_end bytes ≤ length bytes → length bytes < dependents_end bytes → IsFirstSection bytes f
dependents_first bytes f is dynamic within past = record { section = 4; is = is; passes = lt-ltb _ _ past; before = before_dependents bytes dynamic within }

pub code_first : (bytes : List ℕ) (f : RxeFault) → f ≡ Section 5 → dynamic_passes bytes ≡ false → dependents_end bytes ≤ length bytes → length bytes < code_end bytes → IsFirstSection bytes f
code_first bytes f is dynamic within past = record { section = 5; is = is; passes = lt-ltb _ _ past; before = before_code bytes dynamic within }
