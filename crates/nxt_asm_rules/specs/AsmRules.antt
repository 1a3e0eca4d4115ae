-- When a parsed text isn't assembled.
use Rattle.std.specs.Prelude.{ℕ, zero, suc, ◌+◌, Bool, false, ◌&&◌, ◌||◌, ◌==◌, nat_lt, List, [], ◌∷◌, flat_map, sum_by, slice_index, Option, IsTrue}
use Rattle.std.specs.List.{list_any}
use Rattle.nxt_types.specs.Refusals.{passes}
use Rattle.nxt_types.specs.Names.{size}
use Rattle.nxt_model.specs.declared.nbc.NbcArg.{NbcArg}
use Rattle.nxt_model.specs.declared.nbc.NbcArg.TheVariants as args
use Rattle.nxt_model.specs.declared.nbc.NbcStatement.{NbcStatement}
use Rattle.nxt_model.specs.declared.nbc.NbcBlock.{NbcBlock}
use Rattle.nxt_types.specs.Pool.{pool_size}
use Rattle.nxt_model.specs.TextProgram.{Text, program_of}
use Rattle.nxt_model.specs.Assembled.{all_shapes, starts_from, block_words, word_count}
use Rattle.nxt_asm_parts.specs.Elements.{elements_in, first_large}
use Rattle.nxt_asm_rules.specs.declared.fault.AsmFault.{AsmFault}
use Rattle.nxt_asm_rules.specs.declared.fault.AsmFault.TheVariants.{FarJump, TooLarge, PoolPassed, NoMemory}

-- ---- sizes

abbrev pub entry_count : Text → ℕ
entry_count p = sum_by size (all_shapes p)

abbrev pub code_size : Text → ℕ
code_size p = sum_by block_words p.blocks

-- the first that is too large
abbrev pub large_element : Text → Option ℕ
large_element p = first_large (flat_map elements_in (all_shapes p))

-- the size of the case, which is too large: the table, the code, or an element
abbrev pub is_too_large : Text → ℕ → ℕ → Bool
is_too_large p zero n = (n == entry_count p) && nat_lt 49151 n
is_too_large p (suc zero) n = (n == code_size p) && nat_lt 65535 n
is_too_large p (suc (suc zero)) n = passes (λ m. m == n) (large_element p)
is_too_large p (suc (suc (suc k))) n = false

-- ---- jumps

-- the offset from one word to another doesn't fit
abbrev pub is_far : ℕ → ℕ → Bool
is_far from to = nat_lt (to + 32768) from || nat_lt (from + 32767) to

abbrev pub jumps_far : List ℕ → ℕ → NbcArg → Bool
jumps_far at here (args.Jump place) = is_far here (slice_index at place)
jumps_far at here _ = false

-- a statement of the line jumps too far; `at` has the first words of the statements of its block
abbrev pub far_in_body : ℕ → List ℕ → ℕ → List NbcStatement → Bool
far_in_body line at here [] = false
far_in_body line at here (s ∷ ss) =
    ((s.line == line) && list_any (jumps_far at here) s.args) || far_in_body line at (here + word_count s) ss

-- of blocks that stand one after another from a word on
abbrev pub far_in_blocks : ℕ → ℕ → List NbcBlock → Bool
far_in_blocks line here [] = false
far_in_blocks line here (b ∷ bs) =
    far_in_body line (starts_from here b.body) here b.body || far_in_blocks line (here + block_words b) bs

-- ---- rules

abbrev pub start_footprint : Text → ℕ
start_footprint p = let program = program_of p in program.footprint program.rows program.values

-- the rule of the fault is broken at the fault's place
abbrev pub breaks : Text → AsmFault → Bool
breaks p (FarJump line) = far_in_blocks line 0 p.blocks
breaks p (TooLarge case n) = is_too_large p case n
breaks p (PoolPassed n) = (n == start_footprint p) && nat_lt pool_size n
breaks p NoMemory = false

abbrev pub Broken : Text → AsmFault → Type 0
Broken p f = IsTrue (breaks p f)

-- sizes come first, then jumps, then the footprint
abbrev pub rank : AsmFault → List ℕ
rank (TooLarge case n) = 0 ∷ case ∷ n ∷ []
rank (FarJump line) = 1 ∷ line ∷ []
rank (PoolPassed n) = 2 ∷ n ∷ []
rank NoMemory = []

-- the rule's number and the place, as they are told
abbrev pub told : AsmFault → List ℕ
told (FarJump line) = 48 ∷ line ∷ []
told (TooLarge case n) = 49 ∷ case ∷ n ∷ []
told (PoolPassed n) = 50 ∷ n ∷ []
told NoMemory = []
