-- Blocks whose code keeps the rules.
use Rattle.std.specs.Prelude.{◌≡◌, ◌<◌, ℕ, true, false, List, [], ◌∷◌, length}
use Rattle.std.specs.List.{AllByRecursion}
use Rattle.nxt_types.specs.OperandRules.{operand_fits, sorts_of}
use Rattle.nxt_types.specs.Shapes.{members}
use Rattle.nxt_model.specs.declared.nbc.NbcArg.{NbcArg}
use Rattle.nxt_model.specs.declared.nbc.NbcArg.TheVariants as args
use Rattle.nxt_model.specs.declared.nbc.NbcBlock.{NbcBlock}
use Rattle.nxt_model.specs.declared.nbc.NbcStatement.{NbcStatement}
use Rattle.nxt_model.specs.Assembled.{all_shapes, code_op}
use Rattle.nxt_model.specs.TextProgram.{Text}
use Rattle.nxt_code.specs.CodeRules.{goes_on, is_jump}
use Rattle.nxt_asm_laws_code.specs.Placed.{spelled}

-- nothing follows the statement
abbrev pub Stops : NbcStatement → Type 0
Stops s = (w : ℕ) → goes_on (code_op s.op s.args) w ≡ false

-- there is a last statement, and nothing follows it
abbrev pub Closes : List NbcStatement → Type 0
Closes [] = ⊥
Closes (s ∷ []) = Stops s
Closes (s ∷ t ∷ ss) = Closes (t ∷ ss)

-- the first operand is a position below one
abbrev pub LeadsBelow : ℕ → List NbcArg → Type 0
LeadsBelow n (args.Jump place ∷ more) = place < n
LeadsBelow n _ = ⊥

-- a jump leads to one of so many statements
abbrev pub JumpsBelow : ℕ → NbcStatement → Type 0
JumpsBelow n s = is_jump s.op ≡ true → LeadsBelow n s.args

-- its words' operands are of their classes and fit one another, wherever it stands
abbrev pub HasFit : Text → NbcStatement → Type 0
HasFit p s =
    (at : List ℕ) (here k : ℕ) → k < length s.args
    → operand_fits (length p.blocks) (code_op s.op s.args) (sorts_of (members (all_shapes p)) (spelled p at here s)) k ≡ true

pub record IsKept (p : Text) (b : NbcBlock) : Type 0 where
  pub closed : Closes b.body
  pub jumps : AllByRecursion (JumpsBelow (length b.body)) b.body
  pub dependents : AllByRecursion (λ d. d < length p.blocks) b.dependents
  pub operands : AllByRecursion (HasFit p) b.body
