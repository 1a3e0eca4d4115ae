-- What the steps of reading a file find.
use Rattle.std.specs.Prelude.{◌≡◌, ℕ, ◌<◌, ◌≤◌, false, List, length, slice_range, flat_map, All, ◌^◌}
use Rattle.nxt_types.specs.Bytes.{u16_at}
use Rattle.nxt_rxe.specs.declared.fault.RxeFault.{RxeFault}
use Rattle.nxt_rxe.specs.declared.fault.RxeFault.TheVariants.{Format, Version, Section}
use Rattle.nxt_rxe.specs.declared.parts.Header.{Header}
use Rattle.nxt_rxe.specs.declared.parts.Parts.{Parts}
use Rattle.nxt_rxe.specs.declared.sections.Sections.{Sections}
use Rattle.nxt_rxe.specs.Files.{two_bytes, entry_bytes, clump_bytes, EntryFits, ClumpFits}
use Rattle.nxt_rxe.specs.FileRules.{table_end, defaults_end, clumps_start, clumps_end, dependents_end, next_even, code_end, dynamic_passes, Broken}

-- the head is whole, and its format and its version are right
pub record HasHead (bytes : List ℕ) : Type 0 where
  pub long : 38 ≤ length bytes
  pub format : (i : ℕ) → Broken bytes (Format i) → ⊥
  pub version : (v : ℕ) → Broken bytes (Version v) → ⊥

-- the bytes show this header
pub record IsHeader (bytes : List ℕ) (h : Header) : Type 0 where
  pub toc_count : h.toc_count ≡ u16_at bytes 16
  pub initial : h.initial ≡ u16_at bytes 18
  pub static_size : h.static_size ≡ u16_at bytes 20
  pub default_size : h.default_size ≡ u16_at bytes 22
  pub dyn_at : h.dyn_at ≡ u16_at bytes 24
  pub dyn_size : h.dyn_size ≡ u16_at bytes 26
  pub head : h.head ≡ u16_at bytes 28
  pub tail : h.tail ≡ u16_at bytes 30
  pub dope_at : h.dope_at ≡ u16_at bytes 32
  pub clump_count : h.clump_count ≡ u16_at bytes 34
  pub word_count : h.word_count ≡ u16_at bytes 36

-- the bytes of each section
pub record SectionBytes : Type 0 where
  pub table : List ℕ
  pub defaults : List ℕ
  pub clumps : List ℕ
  pub dependents : List ℕ
  pub code : List ℕ

abbrev pub bytes_of : Sections → SectionBytes
bytes_of s =
    record { table = s.table.now; defaults = s.defaults.now; clumps = s.clumps.now; dependents = s.dependents.now; code = s.code.now }

-- the sections lie in the file, and have these bytes
pub record AreSections (bytes : List ℕ) (s : SectionBytes) : Type 0 where
  pub table : s.table ≡ slice_range bytes 38 (table_end bytes)
  pub defaults : s.defaults ≡ slice_range bytes (table_end bytes) (defaults_end bytes)
  pub clumps : s.clumps ≡ slice_range bytes (clumps_start bytes) (clumps_end bytes)
  pub dependents : s.dependents ≡ slice_range bytes (clumps_end bytes) (dependents_end bytes)
  pub code : s.code ≡ slice_range bytes (next_even (dependents_end bytes)) (code_end bytes)
  pub dynamic : dynamic_passes bytes ≡ false
  pub end : code_end bytes ≤ length bytes

-- this fault is the first of the sections
pub record IsFirstSection (bytes : List ℕ) (f : RxeFault) : Type 0 where
  pub section : ℕ
  pub is : f ≡ Section section
  pub passes : Broken bytes (Section section)
  pub before : (s : ℕ) → s < section → Broken bytes (Section s) → ⊥

-- the parts are this header and these sections
pub record ArePartsOf (h : Header) (s : SectionBytes) (p : Parts) : Type 0 where
  pub header : p.header ≡ h
  pub toc : flat_map entry_bytes p.toc ≡ s.table
  pub toc_fits : All EntryFits p.toc
  pub defaults : p.defaults ≡ s.defaults
  pub clumps : flat_map clump_bytes p.clumps ≡ s.clumps
  pub clumps_fit : All ClumpFits p.clumps
  pub dependents : p.dependents ≡ s.dependents
  pub code : flat_map two_bytes p.code ≡ s.code
  pub code_fits : All (λ n. n < 2 ^ 16) p.code
