-- Programs that can be assembled.
use Rattle.std.specs.Prelude.{◌<◌, ◌≤◌, map, length, nat_abs, slice_index_or, All, ⊤}
use Rattle.nxt_types.specs.Names.{size}
use Rattle.nxt_types.specs.Shapes.{Void}
use Rattle.nxt_model.specs.declared.nbc.NbcArg.{NbcArg}
use Rattle.nxt_model.specs.declared.nbc.NbcArg.TheVariants as args
use Rattle.nxt_model.specs.declared.nbc.NbcBlock.{NbcBlock}
use Rattle.nxt_model.specs.declared.nbc.NbcProgram.{NbcProgram}
use Rattle.nxt_model.specs.declared.nbc.NbcStatement.{NbcStatement}
use Rattle.nxt_model.specs.TextProgram.{Text, declared, text_of}
use Rattle.nxt_model.specs.Assembled.{entries_before}
use Rattle.nxt_asm_parts.specs.Codable.{IsCodableBlock}
use Rattle.nxt_asm_parts.specs.Defaults.{StartFits}

-- a variable that is named is declared, and the part that is named has an entry among its own
abbrev pub IsNamed : Text → NbcArg → Type 0
IsNamed p (args.Var i path) =
    (i < length (declared p))
    × (entries_before (map nat_abs path) (slice_index_or (declared p) i Void) < size (slice_index_or (declared p) i Void))
IsNamed p _ = ⊤

abbrev pub AreNamed : Text → NbcStatement → Type 0
AreNamed p s = All (IsNamed p) s.args

abbrev pub AreNamedIn : Text → NbcBlock → Type 0
AreNamedIn p b = All (AreNamed p) b.body

-- an immediate and a block's number have as many bits as their types
abbrev pub IsShort : NbcArg → Type 0
IsShort (args.Imm n) = n < 65536
IsShort (args.Block b) = b < 256
IsShort _ = ⊤

abbrev pub AreShort : NbcStatement → Type 0
AreShort s = All IsShort s.args

abbrev pub AreShortIn : NbcBlock → Type 0
AreShortIn b = All AreShort b.body

-- a program that can be assembled, unless it is too large
pub record IsSound (p : NbcProgram) : Type 0 where
  -- each start has the form of its type
  pub starts : All (λ v. StartFits v.shape v.start) p.vars
  pub named : All (AreNamedIn (text_of p)) p.blocks
  pub short : All AreShortIn p.blocks
  pub codable : All IsCodableBlock p.blocks
  pub dependents : All (λ b. length b.dependents < 256) p.blocks
  pub blocks : length p.blocks ≤ 255
