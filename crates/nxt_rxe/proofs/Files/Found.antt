-- What is read is a file of its parts.
use Rattle.std.proofs.Common.{◌≡◌, ℕ, suc, ◌+◌, ◌-◌, ◌*◌, ◌/◌, ◌%◌, ◌^◌, ◌<◌, ◌≤◌, false, List, ◌∷◌, ◌++◌, length, get_or, take, drop, refl, sym, ap, ap₂, subst, ◌∙◌, append_assoc, arith, drop-cons, lt-ltb, ltb-true, ltb-false, eq-eqb, eqb-true, inl, inr}
use Rattle.std.proofs.Math.ListN.{get_or-append}
use Rattle.std.proofs.lemmas.Bool.{cases_lt, and_parts, or_parts}
use Rattle.std.proofs.lemmas.Grind.{same_number_lists}
use Rattle.std.proofs.lemmas.List.{length-take-le, length-drop, get_or-take, take-append-drop, drop-drop}
use Rattle.std.proofs.lemmas.List.Elements.{All-from_recursion}
use Rattle.std.specs.Prelude.{All, flat_map, nat_lt, ◌==◌, slice_index, slice_range}
use Rattle.nxt_types.specs.Bytes.{u16_at}
use Rattle.nxt_types.specs.Refusals.{IsAccepted}
use Rattle.nxt_rxe.specs.declared.fault.RxeFault.TheVariants.{Short, Format, Version, Section, NoMemory}
use Rattle.nxt_rxe.specs.declared.parts.Header.{Header}
use Rattle.nxt_rxe.specs.declared.parts.Parts.{Parts}
use Rattle.nxt_rxe.specs.Files.{format, version, two_bytes, numbers, head_bytes, entry_bytes, clump_bytes, front_bytes, middle_bytes, code_bytes, dependent_count, HasCounts, HasDynamic, IsFile}
use Rattle.nxt_rxe.specs.FileRules.{dependents_told, table_end, defaults_end, clumps_start, clumps_end, dependents_end, next_even, code_end, dynamic_passes, Broken}
use Rattle.nxt_rxe.specs.Inside.Reading.{HasHead, IsHeader, SectionBytes, AreSections, ArePartsOf}
use Rattle.nxt_facts.proofs.Tests.{passed, not_both}
use Rattle.nxt_rxe.proofs.Files.Sections.{no_section}
use Rattle.nxt_rxe.proofs.Rules.Accepted.{told_is, flat_len, front_len, middle_len}

abbrev pub IsBytes : List ℕ → Type 0
IsBytes bytes = (i : ℕ) → slice_index bytes i < 256

-- ---- the head

format_is : (bytes : List ℕ) → HasHead bytes → (i : ℕ) → i < 14 → slice_index bytes i ≡ slice_index format i
format_is bytes h i lt = eqb-true _ _ (passed (nat_lt i 14) (slice_index bytes i == slice_index format i) (lt-ltb i 14 lt) (h.format i))

version_is : (bytes : List ℕ) → HasHead bytes → slice_index bytes 15 + 256 * slice_index bytes 14 ≡ 5
version_is bytes h =
    let v = slice_index bytes 15 + 256 * slice_index bytes 14 in
    eqb-true v 5 (passed (v == v) (v == 5) (eq-eqb v v refl) (h.version v))

first_bytes : (bytes : List ℕ) → IsBytes bytes → HasHead bytes → take 16 bytes ≡ format ++ version
first_bytes bytes b h = same_number_lists (take 16 bytes) (format ++ version) len same where
  len : length (take 16 bytes) ≡ 16
  len = let long = h.long in length-take-le 16 bytes (omega arith)

  at : (k : ℕ) → k < 16 → slice_index bytes k ≡ get_or (format ++ version) k 0
  at k lt =
      elim (cases_lt k 14) [
        | inl below ↦ format_is bytes h k below ∙ sym (get_or-append format version 0 k below)
        | inr le ↦
            let v = version_is bytes h in
            let high = b 14 in
            let low = b 15 in
            elim (cases_lt k 15) [
              | inl below ↦ let is : k ≡ 14 = omega arith in subst (λ j. slice_index bytes j ≡ get_or (format ++ version) j 0) (sym is) (omega (arith, v, low))
              | inr le ↦ let is : k ≡ 15 = omega arith in subst (λ j. slice_index bytes j ≡ get_or (format ++ version) j 0) (sym is) (omega (arith, v, low))
            ]
      ]

  same : (k : ℕ) → k < length (take 16 bytes) → get_or (take 16 bytes) k 0 ≡ get_or (format ++ version) k 0
  same k lt = let below : k < 16 = omega (arith, len, lt) in get_or-take 16 bytes k 0 below ∙ at k below

-- ---- the header

-- a number at a place, and what follows it
word_first : (bytes r : List ℕ) (i n : ℕ) → IsBytes bytes → suc i < length bytes → n ≡ slice_index bytes i + 256 * slice_index bytes (suc i) → drop (suc (suc i)) bytes ≡ r → drop i bytes ≡ two_bytes n ++ r
word_first bytes r i n b lt e rest =
    let low = b i in
    let high = b (suc i) in
    let first : slice_index bytes i ≡ n % 256 = omega (arith, e, low) in
    let second : slice_index bytes (suc i) ≡ n / 256 % 256 = omega (arith, e, low, high) in
    drop-cons bytes i 0 (omega arith)
    ∙ ap₂ (λ (x : ℕ) (l : List ℕ). x ∷ l) first (drop-cons bytes (suc i) 0 lt ∙ ap₂ (λ (x : ℕ) (l : List ℕ). x ∷ l) second rest)

word_fits : (bytes : List ℕ) (i j n : ℕ) → IsBytes bytes → n ≡ slice_index bytes i + 256 * slice_index bytes j → n < 2 ^ 16
word_fits bytes i j n b e = let low = b i in let high = b j in omega (arith, e, low, high)

module _ (bytes : List ℕ) (h : Header) (b : IsBytes bytes) (long : 38 ≤ length bytes) (is : IsHeader bytes h) where
  header_bytes : drop 16 bytes ≡ flat_map two_bytes (numbers h) ++ drop 38 bytes
  header_bytes =
      word_first bytes _ 16 h.toc_count b (omega arith) is.toc_count
      (word_first bytes _ 18 h.initial b (omega arith) is.initial
      (word_first bytes _ 20 h.static_size b (omega arith) is.static_size
      (word_first bytes _ 22 h.default_size b (omega arith) is.default_size
      (word_first bytes _ 24 h.dyn_at b (omega arith) is.dyn_at
      (word_first bytes _ 26 h.dyn_size b (omega arith) is.dyn_size
      (word_first bytes _ 28 h.head b (omega arith) is.head
      (word_first bytes _ 30 h.tail b (omega arith) is.tail
      (word_first bytes _ 32 h.dope_at b (omega arith) is.dope_at
      (word_first bytes _ 34 h.clump_count b (omega arith) is.clump_count
      (word_first bytes _ 36 h.word_count b (omega arith) is.word_count refl))))))))))

  header_fits : All (λ n. n < 2 ^ 16) (numbers h)
  header_fits =
      All-from_recursion (λ n. n < 2 ^ 16) (numbers h) (
        word_fits bytes 16 17 h.toc_count b is.toc_count,
        (
          word_fits bytes 18 19 h.initial b is.initial,
          (
            word_fits bytes 20 21 h.static_size b is.static_size,
            (
              word_fits bytes 22 23 h.default_size b is.default_size,
              (
                word_fits bytes 24 25 h.dyn_at b is.dyn_at,
                (
                  word_fits bytes 26 27 h.dyn_size b is.dyn_size,
                  (
                    word_fits bytes 28 29 h.head b is.head,
                    (
                      word_fits bytes 30 31 h.tail b is.tail,
                      (
                        word_fits bytes 32 33 h.dope_at b is.dope_at,
                        (
                          word_fits bytes 34 35 h.clump_count b is.clump_count,
                          (
                            word_fits bytes 36 37 h.word_count b is.word_count,
                            tt,
                          ),
                        ),
                      ),
                    ),
                  ),
                ),
              ),
            ),
          ),
        ),
      )

  dynamic_holds : dynamic_passes bytes ≡ false → HasDynamic h
  dynamic_holds none =
      let n18 = is.initial in
      let n20 = is.static_size in
      let n22 = is.default_size in
      let n24 = is.dyn_at in
      let n26 = is.dyn_size in
      let parts = or_parts _ _ none in
      record {
        defaults = λ some.
            let le : u16_at bytes 24 + u16_at bytes 26 ≤ u16_at bytes 22 = ltb-false _ _ (not_both _ _ parts.0 (lt-ltb 0 (u16_at bytes 26) (omega (arith, some, n26)))) in
            omega (arith, le, n22, n24, n26);
        dataspace = let le : u16_at bytes 20 + u16_at bytes 26 ≤ u16_at bytes 18 = ltb-false _ _ parts.1 in omega (arith, le, n18, n20, n26);
      }

-- ---- the sections

-- a part between two places, and what follows it
cut : (bytes part r : List ℕ) (i j : ℕ) → i ≤ j → part ≡ slice_range bytes i j → drop j bytes ≡ r → drop i bytes ≡ part ++ r
cut bytes part r i j le e rest =
    let there : i + (j - i) ≡ j = omega (arith, le) in
    sym (take-append-drop (j - i) (drop i bytes))
    ∙ ap₂ (λ (a b : List ℕ). a ++ b) (sym e) (drop-drop (j - i) i bytes ∙ ap (λ k. drop k bytes) there ∙ rest)

pub part_len : (bytes part : List ℕ) (i j : ℕ) → i ≤ j → j ≤ length bytes → part ≡ slice_range bytes i j → length part ≡ j - i
part_len bytes part i j le end e = ap length e ∙ length-take-le (j - i) (drop i bytes) (omega (arith, le, end, length-drop i bytes))

regroup : (h t d p c e q w r : List ℕ) → (h ++ t ++ d) ++ p ++ (c ++ e) ++ q ++ w ++ r ≡ h ++ (t ++ (d ++ (p ++ (c ++ (e ++ (q ++ (w ++ r)))))))
regroup h t d p c e q w r = simp append_assoc refl

-- ---- the file

module _ (bytes : List ℕ) (s : SectionBytes) (h : Header) (p : Parts) (b : IsBytes bytes) (head : HasHead bytes) (is : IsHeader bytes h) (at : AreSections bytes s) (parts : ArePartsOf h s p) where
  shows : IsHeader bytes p.header
  shows = subst (λ (k : Header). IsHeader bytes k) (sym parts.header) is

  toc : flat_map entry_bytes p.toc ≡ slice_range bytes 38 (table_end bytes)
  toc = parts.toc ∙ at.table

  defaults : p.defaults ≡ slice_range bytes (table_end bytes) (defaults_end bytes)
  defaults = parts.defaults ∙ at.defaults

  clumps : flat_map clump_bytes p.clumps ≡ slice_range bytes (clumps_start bytes) (clumps_end bytes)
  clumps = parts.clumps ∙ at.clumps

  dependents : p.dependents ≡ slice_range bytes (clumps_end bytes) (dependents_end bytes)
  dependents = parts.dependents ∙ at.dependents

  code : code_bytes p ≡ slice_range bytes (next_even (dependents_end bytes)) (code_end bytes)
  code = parts.code ∙ at.code

  abbrev first_pad : List ℕ
  first_pad = slice_range bytes (defaults_end bytes) (clumps_start bytes)

  abbrev second_pad : List ℕ
  second_pad = slice_range bytes (dependents_end bytes) (next_even (dependents_end bytes))

  told : dependents_told (slice_range bytes (clumps_start bytes) (clumps_end bytes)) ≡ dependent_count p.clumps
  told = ap dependents_told (sym clumps) ∙ told_is p.clumps

  counts : HasCounts p
  counts =
      let end = at.end in
      let n16 = shows.toc_count in
      let n22 = shows.default_size in
      let n34 = shows.clump_count in
      let n36 = shows.word_count in
      let toc_len = part_len bytes (flat_map entry_bytes p.toc) 38 (table_end bytes) (omega arith) (omega arith) toc in
      let defaults_len = part_len bytes p.defaults (table_end bytes) (defaults_end bytes) (omega arith) (omega arith) defaults in
      let clumps_len = part_len bytes (flat_map clump_bytes p.clumps) (clumps_start bytes) (clumps_end bytes) (omega arith) (omega arith) clumps in
      let dependents_len = part_len bytes p.dependents (clumps_end bytes) (dependents_end bytes) (omega arith) (omega arith) dependents in
      let code_len = part_len bytes (code_bytes p) (next_even (dependents_end bytes)) (code_end bytes) (omega arith) (omega arith) code in
      record {
        toc = omega (arith, n16, toc_len, flat_len entry_bytes 4 (λ x. refl) p.toc);
        defaults = omega (arith, n22, defaults_len);
        clumps = omega (arith, n34, clumps_len, flat_len clump_bytes 4 (λ x. refl) p.clumps);
        dependents = omega (arith, dependents_len, told);
        code = omega (arith, n36, code_len, flat_len two_bytes 2 (λ x. refl) p.code);
      }

  front_end : length (front_bytes p) ≡ defaults_end bytes
  front_end = let n16 = shows.toc_count in let n22 = shows.default_size in omega (arith, n16, n22, front_len p counts)

  first : length first_pad ≡ length (front_bytes p) % 2
  first =
      let end = at.end in
      let len = part_len bytes first_pad (defaults_end bytes) (clumps_start bytes) (omega arith) (omega arith) refl in
      omega (arith, len, front_end)

  second : length second_pad ≡ length (middle_bytes p) % 2
  second =
      let end = at.end in
      let n34 = shows.clump_count in
      let len = part_len bytes second_pad (dependents_end bytes) (next_even (dependents_end bytes)) (omega arith) (omega arith) refl in
      omega (arith, len, n34, told, middle_len p counts)

  after_head : drop 38 bytes ≡ flat_map entry_bytes p.toc ++ (p.defaults ++ (first_pad ++ (flat_map clump_bytes p.clumps ++ (p.dependents ++ (second_pad ++ (code_bytes p ++ drop (code_end bytes) bytes))))))
  after_head =
      cut bytes (flat_map entry_bytes p.toc) _ 38 (table_end bytes) (omega arith) toc
      (cut bytes p.defaults _ (table_end bytes) (defaults_end bytes) (omega arith) defaults
      (cut bytes first_pad _ (defaults_end bytes) (clumps_start bytes) (omega arith) refl
      (cut bytes (flat_map clump_bytes p.clumps) _ (clumps_start bytes) (clumps_end bytes) (omega arith) clumps
      (cut bytes p.dependents _ (clumps_end bytes) (dependents_end bytes) (omega arith) dependents
      (cut bytes second_pad _ (dependents_end bytes) (next_even (dependents_end bytes)) (omega arith) refl
      (cut bytes (code_bytes p) _ (next_even (dependents_end bytes)) (code_end bytes) (omega arith) code refl))))))

  from_head : bytes ≡ head_bytes p.header ++ drop 38 bytes
  from_head =
      sym (take-append-drop 16 bytes)
      ∙ ap₂ (λ (x y : List ℕ). x ++ y) (first_bytes bytes b head) (header_bytes bytes p.header b head.long shows)

  pub is_found : IsFile bytes p
  is_found =
      record {
        first_pad = first_pad;
        second_pad = second_pad;
        rest = drop (code_end bytes) bytes;
        whole = from_head ∙ ap (λ l. head_bytes p.header ++ l) after_head
            ∙ sym (regroup (head_bytes p.header) (flat_map entry_bytes p.toc) p.defaults first_pad (flat_map clump_bytes p.clumps) p.dependents second_pad (code_bytes p) (drop (code_end bytes) bytes));
        first = first;
        second = second;
        counts = counts;
        dynamic = dynamic_holds bytes p.header b head.long shows at.dynamic;
        fits = record { header = header_fits bytes p.header b head.long shows; toc = parts.toc_fits; clumps = parts.clumps_fit; code = parts.code_fits };
      }

-- ---- rules

module _ (bytes : List ℕ) (s : SectionBytes) (head : HasHead bytes) (at : AreSections bytes s) where
  -- bytes with a right head and whole sections break no rule
  pub is_accepted : IsAccepted (Broken bytes)
  is_accepted (Short n) h =
      let parts = and_parts (nat_lt n 38) (n == length bytes) h in
      let below : n < 38 = ltb-true n 38 parts.0 in
      let same : n ≡ length bytes = eqb-true n (length bytes) parts.1 in
      let long = head.long in
      omega arith
  is_accepted (Format i) h = head.format i h
  is_accepted (Version v) h = head.version v h
  is_accepted (Section k) h = no_section bytes at.dynamic at.end k h
  is_accepted NoMemory h = absurd cc
