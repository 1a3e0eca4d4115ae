-- A file breaks none of the rules of its sections.
use Rattle.std.proofs.Common.{◌≡◌, ℕ, ◌+◌, ◌-◌, ◌*◌, ◌/◌, ◌%◌, ◌^◌, ◌<◌, ◌≤◌, Bool, true, false, List, [], ◌∷◌, ◌++◌, length, take, refl, sym, ap, ap₂, subst, ◌∙◌, append_assoc, arith, take_at, drop_at, mul-suc, ltb-true, eqb-true, eq-eqb}
use Rattle.std.proofs.lemmas.Bool.{and_parts, false_from_ne_true}
use Rattle.std.specs.Prelude.{◌||◌, not, nat_lt, ◌==◌, IsTrue, All, flat_map, slice_index, slice_range}
use Rattle.std.proofs.lemmas.List.{length-append}
use Rattle.std.proofs.Math.ListN.{get_or-append}
use Rattle.std.proofs.lemmas.List.Sums.{sum_by-cons}
use Rattle.nxt_types.specs.Bytes.{u16_at}
use Rattle.nxt_types.specs.Refusals.{IsAccepted}
use Rattle.nxt_types.specs.declared.lists.ClumpRec.{ClumpRec}
use Rattle.nxt_rxe.specs.declared.parts.Header.{Header}
use Rattle.nxt_rxe.specs.declared.parts.Parts.{Parts}
use Rattle.nxt_rxe.specs.declared.fault.RxeFault.TheVariants.{Short, Format, Version, Section, NoMemory}
use Rattle.nxt_facts.proofs.Tests.{not_past, not_true}
use Rattle.nxt_rxe.proofs.Files.Sections.{no_section}
use Rattle.nxt_rxe.proofs.Files.OneList.{three, whole_is, after_front, after_middle}
use Rattle.nxt_rxe.specs.Files.{format, version, HasCounts, two_bytes, numbers, head_bytes, entry_bytes, clump_bytes, front_bytes, middle_bytes, code_bytes, dependent_count, IsFile}
use Rattle.nxt_rxe.specs.FileRules.{dependents_told, clumps_start, clumps_end, code_end, dynamic_passes, Broken}

-- ---- numbers

-- a number from its two bytes
of_bytes : (n : ℕ) → n < 2 ^ 16 → n % 256 + 256 * (n / 256 % 256) ≡ n
of_bytes n lt = omega (arith, lt)

module _ (h : Header) (tail : List ℕ) (fits : All (λ n. n < 2 ^ 16) (numbers h)) where
  toc_count_is : u16_at (head_bytes h ++ tail) 16 ≡ h.toc_count
  toc_count_is = of_bytes h.toc_count (fits 0 0 (omega arith))

  initial_is : u16_at (head_bytes h ++ tail) 18 ≡ h.initial
  initial_is = of_bytes h.initial (fits 1 0 (omega arith))

  static_size_is : u16_at (head_bytes h ++ tail) 20 ≡ h.static_size
  static_size_is = of_bytes h.static_size (fits 2 0 (omega arith))

  default_size_is : u16_at (head_bytes h ++ tail) 22 ≡ h.default_size
  default_size_is = of_bytes h.default_size (fits 3 0 (omega arith))

  dyn_at_is : u16_at (head_bytes h ++ tail) 24 ≡ h.dyn_at
  dyn_at_is = of_bytes h.dyn_at (fits 4 0 (omega arith))

  dyn_size_is : u16_at (head_bytes h ++ tail) 26 ≡ h.dyn_size
  dyn_size_is = of_bytes h.dyn_size (fits 5 0 (omega arith))

  clump_count_is : u16_at (head_bytes h ++ tail) 34 ≡ h.clump_count
  clump_count_is = of_bytes h.clump_count (fits 9 0 (omega arith))

  word_count_is : u16_at (head_bytes h ++ tail) 36 ≡ h.word_count
  word_count_is = of_bytes h.word_count (fits 10 0 (omega arith))

-- ---- clump records

pub told_is : (cs : List ClumpRec) → dependents_told (flat_map clump_bytes cs) ≡ dependent_count cs
told_is [] = refl
told_is (c ∷ cs) = ap (λ n. c.dependents + n) (told_is cs) ∙ sym (sum_by-cons (λ (r : ClumpRec). r.dependents) c cs)

pub flat_len : {A : Type 0} (f : A → List ℕ) (n : ℕ) → ((x : A) → length (f x) ≡ n) → (xs : List A) → length (flat_map f xs) ≡ n * length xs
flat_len f n len [] = omega arith
flat_len f n len (x ∷ xs) =
    let rest = flat_len f n len xs in
    let one = len x in
    omega (arith, length-append (f x) (flat_map f xs), one, rest, mul-suc n (length xs))

-- a part of a list, between two places
part_is : (a b c : List ℕ) → slice_range (a ++ (b ++ c)) (length a) (length a + length b) ≡ b
part_is a b c =
    let len : length a + length b - length a ≡ length b = omega arith in
    rw len (ap (λ l. take (length b) l) (drop_at a (b ++ c) (length a) refl) ∙ take_at b c (length b) refl)

-- ---- the sections

format_is : (h : Header) (tail : List ℕ) (i : ℕ) → i < 14 → slice_index (head_bytes h ++ tail) i ≡ slice_index format i
format_is h tail i lt = get_or-append format (version ++ (flat_map two_bytes (numbers h) ++ tail)) 0 i lt

pub front_len : (p : Parts) → HasCounts p → length (front_bytes p) ≡ 38 + 4 * p.header.toc_count + p.header.default_size
front_len p counts =
    let table = flat_len entry_bytes 4 (λ x. refl) p.toc in
    omega (arith, length-append (head_bytes p.header ++ flat_map entry_bytes p.toc) p.defaults, length-append (head_bytes p.header) (flat_map entry_bytes p.toc), table, counts.toc, counts.defaults)

pub middle_len : (p : Parts) → HasCounts p → length (middle_bytes p) ≡ 4 * p.header.clump_count + dependent_count p.clumps
middle_len p counts =
    let recs = flat_len clump_bytes 4 (λ x. refl) p.clumps in
    omega (arith, length-append (flat_map clump_bytes p.clumps) p.dependents, recs, counts.clumps, counts.dependents)

code_len : (p : Parts) → HasCounts p → length (code_bytes p) ≡ 2 * p.header.word_count
code_len p counts = let words = flat_len two_bytes 2 (λ x. refl) p.code in omega (arith, words, counts.code)

-- what a file's bytes show
record Shown (bytes : List ℕ) (p : Parts) : Type 0 where
  toc_count : u16_at bytes 16 ≡ p.header.toc_count
  initial : u16_at bytes 18 ≡ p.header.initial
  static_size : u16_at bytes 20 ≡ p.header.static_size
  default_size : u16_at bytes 22 ≡ p.header.default_size
  dyn_at : u16_at bytes 24 ≡ p.header.dyn_at
  dyn_size : u16_at bytes 26 ≡ p.header.dyn_size
  clump_count : u16_at bytes 34 ≡ p.header.clump_count
  word_count : u16_at bytes 36 ≡ p.header.word_count
  format : (i : ℕ) → i < 14 → slice_index bytes i ≡ slice_index format i
  version : slice_index bytes 15 + 256 * slice_index bytes 14 ≡ 5

shown_at : (p : Parts) (tail : List ℕ) → All (λ n. n < 2 ^ 16) (numbers p.header) → Shown (head_bytes p.header ++ tail) p
shown_at p tail fits =
    record {
      toc_count = toc_count_is p.header tail fits;
      initial = initial_is p.header tail fits;
      static_size = static_size_is p.header tail fits;
      default_size = default_size_is p.header tail fits;
      dyn_at = dyn_at_is p.header tail fits;
      dyn_size = dyn_size_is p.header tail fits;
      clump_count = clump_count_is p.header tail fits;
      word_count = word_count_is p.header tail fits;
      format = format_is p.header tail;
      version = refl;
    }

shown : (bytes : List ℕ) (p : Parts) → IsFile bytes p → Shown bytes p
shown bytes p f =
    subst (λ b. Shown b p)
    (sym (whole_is bytes p f ∙ three (head_bytes p.header) (flat_map entry_bytes p.toc) p.defaults (after_front f)))
    (shown_at p (flat_map entry_bytes p.toc ++ (p.defaults ++ after_front f)) f.fits.header)

whole_len : (bytes : List ℕ) (p : Parts) (f : IsFile bytes p)
    → length bytes ≡ length (front_bytes p) + length f.first_pad + length (middle_bytes p) + length f.second_pad + length (code_bytes p) + length f.rest
whole_len bytes p f =
    let w = ap length (whole_is bytes p f) in
    omega (
      arith,
      w,
      length-append (front_bytes p) (after_front f),
      length-append f.first_pad (middle_bytes p ++ after_middle f),
      length-append (middle_bytes p) (after_middle f),
      length-append f.second_pad (code_bytes p ++ f.rest),
      length-append (code_bytes p) f.rest,
    )

told_at : (bytes : List ℕ) (p : Parts) → IsFile bytes p → dependents_told (slice_range bytes (clumps_start bytes) (clumps_end bytes)) ≡ dependent_count p.clumps
told_at bytes p f =
    let s = shown bytes p f in
    let front = front_bytes p ++ f.first_pad in
    let recs = flat_map clump_bytes p.clumps in
    let rest = p.dependents ++ after_middle f in
    let regrouped : bytes ≡ front ++ (recs ++ rest) =
    whole_is bytes p f ∙ sym (append_assoc (front_bytes p) f.first_pad (middle_bytes p ++ after_middle f)) ∙ ap (λ l. front ++ l) (append_assoc recs p.dependents (after_middle f)) in
    let start : clumps_start bytes ≡ length front =
    rw (s.toc_count, s.default_size) (omega (arith, length-append (front_bytes p) f.first_pad, f.first, front_len p f.counts)) in
    let end : clumps_end bytes ≡ length front + length recs =
    let n = flat_len clump_bytes 4 (λ x. refl) p.clumps in omega (arith, start, s.clump_count, n, f.counts.clumps) in
    ap₂ (λ a b. dependents_told (slice_range bytes a b)) start end
    ∙ ap (λ l. dependents_told (slice_range l (length front) (length front + length recs))) regrouped
    ∙ ap dependents_told (part_is front recs rest)
    ∙ told_is p.clumps

-- ---- rules

one_of : (a b : Bool) → (IsTrue a → ⊥) → (IsTrue b → ⊥) → IsTrue (a || b) → ⊥
one_of true b p q h = p refl
one_of false b p q h = q h

whole_code : (bytes : List ℕ) (p : Parts) → IsFile bytes p → code_end bytes ≤ length bytes
whole_code bytes p f =
    let s = shown bytes p f in
    let w = whole_len bytes p f in
    let a = front_len p f.counts in
    let b = middle_len p f.counts in
    let c = code_len p f.counts in
    let t = told_at bytes p f in
    let first = f.first in
    let second = f.second in
    let n16 = s.toc_count in
    let n22 = s.default_size in
    let n34 = s.clump_count in
    let n36 = s.word_count in
    omega (arith, w, a, b, c, n16, n22, n34, n36, first, second, t)

no_dynamic : (bytes : List ℕ) (p : Parts) → IsFile bytes p → IsTrue (dynamic_passes bytes) → ⊥
no_dynamic bytes p f =
    let s = shown bytes p f in
    let n18 = s.initial in
    let n20 = s.static_size in
    let n22 = s.default_size in
    let n24 = s.dyn_at in
    let n26 = s.dyn_size in
    let whole = f.dynamic.dataspace in
    one_of _ _
    (λ h. let parts = and_parts _ _ h in
    let some : 0 < u16_at bytes 26 = ltb-true _ _ parts.0 in
    let past : u16_at bytes 22 < u16_at bytes 24 + u16_at bytes 26 = ltb-true _ _ parts.1 in
    let fits = f.dynamic.defaults (omega (arith, some, n26)) in
    omega (arith, past, fits, n22, n24, n26))
    (not_past _ _ (omega (arith, whole, n18, n20, n26)))

-- a file that has parts breaks no rule of its sections
pub breaks_nothing : (bytes : List ℕ) (p : Parts) → IsFile bytes p → IsAccepted (Broken bytes)
breaks_nothing bytes p f (Short n) h =
    let parts = and_parts (nat_lt n 38) (n == length bytes) h in
    let below : n < 38 = ltb-true n 38 parts.0 in
    let same : n ≡ length bytes = eqb-true n (length bytes) parts.1 in
    let whole = whole_code bytes p f in
    omega (arith, below, same, whole)
breaks_nothing bytes p f (Format i) h =
    let parts = and_parts (nat_lt i 14) (not (slice_index bytes i == slice_index format i)) h in
    let lt : i < 14 = ltb-true i 14 parts.0 in
    not_true (slice_index bytes i == slice_index format i) (eq-eqb _ _ ((shown bytes p f).format i lt)) parts.1
breaks_nothing bytes p f (Version v) h =
    let parts = and_parts (v == slice_index bytes 15 + 256 * slice_index bytes 14) (not (v == 5)) h in
    let same : v ≡ slice_index bytes 15 + 256 * slice_index bytes 14 = eqb-true _ _ parts.0 in
    not_true (v == 5) (eq-eqb v 5 (same ∙ (shown bytes p f).version)) parts.1
breaks_nothing bytes p f (Section k) h = no_section bytes (false_from_ne_true _ (no_dynamic bytes p f)) (whole_code bytes p f) k h
breaks_nothing bytes p f NoMemory h = absurd cc
