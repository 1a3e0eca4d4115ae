-- A file that breaks no rule has parts, and each file has parts or is refused.

-- What is written is a file of its parts.
pub mod Written
use Rattle.std.proofs.Common.{◌≡◌, ℕ, ◌^◌, ◌<◌, ◌≤◌, Bool, true, false, List, length, refl, ◌∙◌, arith, ltb-true, ltb-false, eq-eqb, eqb-true, inl, inr, ◌⊎◌}
use Rattle.std.proofs.lemmas.Bool.{cases_lt, and_parts, false_from_ne_true}
use Rattle.std.proofs.lemmas.List.Elements.{All-from_recursion}
use Rattle.std.specs.List.{AllByRecursion}
use Rattle.std.specs.Prelude.{flat_map, nat_lt, not, ◌&&◌, ◌==◌, slice_index, slice_index_or, slice_range}
use Rattle.nxt_types.specs.Bytes.{u16_at}
use Rattle.nxt_types.specs.declared.shape.TocEntry.{TocEntry}
use Rattle.nxt_types.specs.declared.lists.ClumpRec.{ClumpRec}
use Rattle.nxt_types.specs.Refusals.{IsRefusal}
use Rattle.nxt_rxe.specs.declared.fault.RxeFault.{RxeFault}
use Rattle.nxt_rxe.specs.declared.fault.RxeFault.TheVariants.{Short, Format, Version, Section}
use Rattle.nxt_rxe.specs.declared.parts.Header.{Header}
use Rattle.nxt_rxe.specs.declared.parts.Parts.{Parts}
use Rattle.nxt_rxe.specs.Files.{format, two_bytes, entry_bytes, clump_bytes, EntryFits, ClumpFits, IsFile}
use Rattle.nxt_rxe.specs.FileRules.{table_end, defaults_end, clumps_start, clumps_end, dependents_end, next_even, code_end, passing, Broken, rank}
use Rattle.nxt_rxe.specs.Inside.Reading.{HasHead, IsHeader, SectionBytes, AreSections, ArePartsOf}
use Rattle.nxt_facts.proofs.Tests.{not_true}
use Rattle.nxt_rxe.proofs.Rules.FirstBroken.{short_is_first, format_is_first, version_in, version_is_first, section_is_first}
use Rattle.nxt_rxe.proofs.Files.Found.{IsBytes, is_found, part_len}
use Rattle.nxt_facts.proofs.Least.{None_below, least}
use Rattle.nxt_rxe.proofs.Files.Items.{Bytes, bytes_from, bytes_between, items, entry_front, clump_front, word_front, times_four, times_two}

-- ---- the parts

abbrev header_of : List ℕ → Header
header_of bytes =
    record {
      toc_count = u16_at bytes 16;
      initial = u16_at bytes 18;
      static_size = u16_at bytes 20;
      default_size = u16_at bytes 22;
      dyn_at = u16_at bytes 24;
      dyn_size = u16_at bytes 26;
      head = u16_at bytes 28;
      tail = u16_at bytes 30;
      dope_at = u16_at bytes 32;
      clump_count = u16_at bytes 34;
      word_count = u16_at bytes 36;
    }

shows_header : (bytes : List ℕ) → IsHeader bytes (header_of bytes)
shows_header bytes =
    record {
      toc_count = refl;
      initial = refl;
      static_size = refl;
      default_size = refl;
      dyn_at = refl;
      dyn_size = refl;
      head = refl;
      tail = refl;
      dope_at = refl;
      clump_count = refl;
      word_count = refl;
    }

abbrev sections_of : List ℕ → SectionBytes
sections_of bytes =
    record {
      table = slice_range bytes 38 (table_end bytes);
      defaults = slice_range bytes (table_end bytes) (defaults_end bytes);
      clumps = slice_range bytes (clumps_start bytes) (clumps_end bytes);
      dependents = slice_range bytes (clumps_end bytes) (dependents_end bytes);
      code = slice_range bytes (next_even (dependents_end bytes)) (code_end bytes);
    }

module _ (bytes : List ℕ) (b : IsBytes bytes) (head : HasHead bytes) (none : None_below (λ s. slice_index_or (passing bytes) s false) 6) where
  no_dynamic : slice_index_or (passing bytes) 2 false ≡ false
  no_dynamic = false_from_ne_true _ (none 2 (omega arith))

  within : code_end bytes ≤ length bytes
  within = ltb-false (length bytes) (code_end bytes) (false_from_ne_true _ (none 5 (omega arith)))

  at : AreSections bytes (sections_of bytes)
  at = record { table = refl; defaults = refl; clumps = refl; dependents = refl; code = refl; dynamic = no_dynamic; end = within }

  abbrev all : Bytes bytes
  all = bytes_from bytes b

  toc : (es : List TocEntry) × (flat_map entry_bytes es ≡ slice_range bytes 38 (table_end bytes)) × AllByRecursion EntryFits es
  toc =
      let end = within in
      let size = part_len bytes (slice_range bytes 38 (table_end bytes)) 38 (table_end bytes) (omega arith) (omega (arith, end)) refl in
      items entry_bytes EntryFits 4 entry_front (u16_at bytes 16) (slice_range bytes 38 (table_end bytes)) (bytes_between bytes 38 (table_end bytes) all)
      (omega (arith, size, times_four (u16_at bytes 16)))

  clumps : (cs : List ClumpRec) × (flat_map clump_bytes cs ≡ slice_range bytes (clumps_start bytes) (clumps_end bytes)) × AllByRecursion ClumpFits cs
  clumps =
      let end = within in
      let size = part_len bytes (slice_range bytes (clumps_start bytes) (clumps_end bytes)) (clumps_start bytes) (clumps_end bytes) (omega arith) (omega (arith, end)) refl in
      items clump_bytes ClumpFits 4 clump_front (u16_at bytes 34) (slice_range bytes (clumps_start bytes) (clumps_end bytes)) (bytes_between bytes (clumps_start bytes) (clumps_end bytes) all)
      (omega (arith, size, times_four (u16_at bytes 34)))

  code : (ws : List ℕ) × (flat_map two_bytes ws ≡ slice_range bytes (next_even (dependents_end bytes)) (code_end bytes)) × AllByRecursion (λ w. w < 2 ^ 16) ws
  code =
      let end = within in
      let size = part_len bytes (slice_range bytes (next_even (dependents_end bytes)) (code_end bytes)) (next_even (dependents_end bytes)) (code_end bytes) (omega arith) (omega (arith, end)) refl in
      items two_bytes (λ w. w < 2 ^ 16) 2 word_front (u16_at bytes 36) (slice_range bytes (next_even (dependents_end bytes)) (code_end bytes)) (bytes_between bytes (next_even (dependents_end bytes)) (code_end bytes) all)
      (omega (arith, size, times_two (u16_at bytes 36)))

  parts : Parts
  parts =
      record {
        header = header_of bytes;
        toc = toc.0;
        defaults = slice_range bytes (table_end bytes) (defaults_end bytes);
        clumps = clumps.0;
        dependents = slice_range bytes (clumps_end bytes) (dependents_end bytes);
        code = code.0;
      }

  are_parts : ArePartsOf (header_of bytes) (sections_of bytes) parts
  unfolding parts
  are_parts =
      record {
        header = refl;
        toc = toc.1;
        toc_fits = All-from_recursion EntryFits toc.0 toc.2;
        defaults = refl;
        clumps = clumps.1;
        clumps_fit = All-from_recursion ClumpFits clumps.0 clumps.2;
        dependents = refl;
        code = code.1;
        code_fits = All-from_recursion (λ w. w < 2 ^ 16) code.0 code.2;
      }

  is_file_of : (p : Parts) × IsFile bytes p
  is_file_of = (parts, is_found bytes (sections_of bytes) (header_of bytes) parts b head (shows_header bytes) at are_parts)

-- ---- rules

Decided : List ℕ → Type 0
Decided bytes = ((f : RxeFault) × IsRefusal (Broken bytes) rank f) ⊎ ((p : Parts) × IsFile bytes p)

by_sections : (bytes : List ℕ) → IsBytes bytes → HasHead bytes → Decided bytes
unfolding Decided
by_sections bytes b head =
    elim (least (λ s. slice_index_or (passing bytes) s false) 6) [
      | inl f ↦ inl (Section f.at, section_is_first bytes f.at head.long head.format head.version f.holds f.before)
      | inr none ↦ inr (is_file_of bytes b head none)
    ]

by_version : (bytes : List ℕ) → IsBytes bytes → 38 ≤ length bytes → ((i : ℕ) → Broken bytes (Format i) → ⊥) → (right : Bool) → (version_in bytes == 5) ≡ right → Decided bytes
unfolding Decided
by_version bytes b long format true e =
    by_sections bytes b (record {
      long = long;
      format = format;
      version = λ v h.
          let ps = and_parts (v == version_in bytes) (not (v == 5)) h in
          not_true (v == 5) (eq-eqb v 5 (eqb-true v (version_in bytes) ps.0 ∙ eqb-true (version_in bytes) 5 e)) ps.1;
    })
by_version bytes b long format false e = inl (Version (version_in bytes), version_is_first bytes long format e)

by_format : (bytes : List ℕ) → IsBytes bytes → 38 ≤ length bytes → Decided bytes
unfolding Decided
by_format bytes b long =
    elim (least (λ i. nat_lt i 14 && not (slice_index bytes i == slice_index format i)) 14) [
      | inl f ↦ inl (Format f.at, format_is_first bytes f.at long f.holds f.before)
      | inr none ↦ by_version bytes b long (λ i h. none i (ltb-true i 14 (and_parts (nat_lt i 14) (not (slice_index bytes i == slice_index format i)) h).0) h) (version_in bytes == 5) refl
    ]

-- each file has parts or is refused
pub file_or_refusal : (bytes : List ℕ) → IsBytes bytes → ((f : RxeFault) × IsRefusal (Broken bytes) rank f) ⊎ ((p : Parts) × IsFile bytes p)
unfolding Decided
file_or_refusal bytes b =
    elim (cases_lt (length bytes) 38) [
      | inl few ↦ inl (Short (length bytes), short_is_first bytes few)
      | inr long ↦ by_format bytes b long
    ]
