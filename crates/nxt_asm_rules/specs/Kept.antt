-- Rules of the assembler that are kept one after another.
use Rattle.std.specs.Prelude.{◌≡◌, ℕ, false, ⊤}
use Rattle.nxt_types.specs.Refusals.{IsRefusal}
use Rattle.nxt_model.specs.TextProgram.{Text}
use Rattle.nxt_asm_rules.specs.declared.fault.AsmFault.{AsmFault}
use Rattle.nxt_asm_rules.specs.declared.fault.AsmFault.TheVariants.{NoMemory}
use Rattle.nxt_asm_rules.specs.AsmRules.{Broken, far_in_blocks, is_too_large, rank}

-- the size of a case isn't too large
abbrev pub KeepsSize : Text → ℕ → Type 0
KeepsSize p case = (n : ℕ) → is_too_large p case n ≡ false

-- none is
abbrev pub KeepsSizes : Text → Type 0
KeepsSizes p = (case : ℕ) → KeepsSize p case

-- no jump is too far
abbrev pub KeepsJumps : Text → Type 0
KeepsJumps p = (line : ℕ) → far_in_blocks line 0 p.blocks ≡ false

-- the program is refused by this fault, or memory was wanting
abbrev pub Refuses : Text → AsmFault → Type 0
Refuses p NoMemory = ⊤
Refuses p f = IsRefusal (Broken p) rank f
