-- When a file is refused for its sections.
use Rattle.std.specs.Prelude.{ℕ, ◌+◌, ◌*◌, ◌%◌, Bool, false, ◌&&◌, ◌||◌, not, ◌==◌, nat_lt, List, [], ◌∷◌, length, slice_index, slice_index_or, slice_range, IsTrue}
use Rattle.nxt_types.specs.Bytes.{u16_at}
use Rattle.nxt_rxe.specs.declared.fault.RxeFault.{RxeFault}
use Rattle.nxt_rxe.specs.declared.fault.RxeFault.TheVariants.{Short, Format, Version, Section, NoMemory}
use Rattle.nxt_rxe.specs.Files.{format}

-- ---- where the sections end

abbrev pub next_even : ℕ → ℕ
next_even n = n + n % 2

abbrev pub table_end : List ℕ → ℕ
table_end bytes = 38 + 4 * u16_at bytes 16

abbrev pub defaults_end : List ℕ → ℕ
defaults_end bytes = table_end bytes + u16_at bytes 22

abbrev pub clumps_start : List ℕ → ℕ
clumps_start bytes = next_even (defaults_end bytes)

abbrev pub clumps_end : List ℕ → ℕ
clumps_end bytes = clumps_start bytes + 4 * u16_at bytes 34

-- how many dependents clump records tell, by their bytes
abbrev pub dependents_told : List ℕ → ℕ
dependents_told (fire ∷ dependents ∷ low ∷ high ∷ more) = dependents + dependents_told more
dependents_told _ = 0

abbrev pub dependents_end : List ℕ → ℕ
dependents_end bytes = clumps_end bytes + dependents_told (slice_range bytes (clumps_start bytes) (clumps_end bytes))

abbrev pub code_end : List ℕ → ℕ
code_end bytes = next_even (dependents_end bytes) + 2 * u16_at bytes 36

-- the dynamic defaults pass the defaults, or the dataspace
abbrev pub dynamic_passes : List ℕ → Bool
dynamic_passes bytes =
    (nat_lt 0 (u16_at bytes 26) && nat_lt (u16_at bytes 22) (u16_at bytes 24 + u16_at bytes 26))
    || nat_lt (u16_at bytes 18) (u16_at bytes 20 + u16_at bytes 26)

-- whether the sections pass the end: the table, the defaults, the dynamic defaults, the clumps, the dependents, the code
abbrev pub passing : List ℕ → List Bool
passing bytes =
    nat_lt (length bytes) (table_end bytes) ∷ nat_lt (length bytes) (defaults_end bytes) ∷ dynamic_passes bytes
    ∷ nat_lt (length bytes) (clumps_end bytes) ∷ nat_lt (length bytes) (dependents_end bytes)
    ∷ nat_lt (length bytes) (code_end bytes) ∷ []

-- ---- rules

-- the rule of the fault is broken at the fault's place
abbrev pub breaks : List ℕ → RxeFault → Bool
breaks bytes (Short n) = nat_lt n 38 && (n == length bytes)
breaks bytes (Format i) = nat_lt i 14 && not (slice_index bytes i == slice_index format i)
breaks bytes (Version v) = (v == slice_index bytes 15 + 256 * slice_index bytes 14) && not (v == 5)
breaks bytes (Section s) = slice_index_or (passing bytes) s false
breaks bytes NoMemory = false

-- the rule's number, and the place
abbrev pub rank : RxeFault → List ℕ
rank (Short n) = 1 ∷ n ∷ []
rank (Format i) = 2 ∷ i ∷ []
rank (Version v) = 3 ∷ v ∷ []
rank (Section s) = 4 ∷ s ∷ []
rank NoMemory = []

abbrev pub Broken : List ℕ → RxeFault → Type 0
Broken bytes f = IsTrue (breaks bytes f)
