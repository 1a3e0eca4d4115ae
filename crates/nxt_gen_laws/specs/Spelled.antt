-- The program that a text of statements spells.
use Rattle.std.specs.Prelude.{ℕ, suc, false, List, [], ◌∷◌, map, pos}
use Rattle.nxt_types.specs.Arithmetic.{cut}
use Rattle.nxt_types.specs.declared.kind.Cmp.TheVariants.{Lt}
use Rattle.nxt_types.specs.declared.kind.Kind.TheVariants.{Slong}
use Rattle.nxt_model.specs.Nbc.Header.{header_at}
use Rattle.nxt_model.specs.Nbc.Text.{ending, program_var, statement}
use Rattle.nxt_model.specs.TextProgram as program
use Rattle.nxt_model.specs.declared.nbc.NbcArg.{NbcArg}
use Rattle.nxt_model.specs.declared.nbc.NbcArg.TheVariants as args
use Rattle.nxt_model.specs.declared.nbc.NbcBlock.{NbcBlock}
use Rattle.nxt_model.specs.declared.nbc.NbcStatement.{NbcStatement}
use Rattle.nxt_gen_laws.specs.Head.{head_variables}
use Rattle.nxt_gen_laws.specs.Rows.{Row, Filled, Cut, Built, Moved, Counted, Driven, row_op}

abbrev pub number : ℕ → NbcArg
number v = args.Number (cut Slong (pos v))

abbrev pub row_args : Row → List NbcArg
row_args (Filled of byte v) = args.Var of [] ∷ number byte ∷ number v ∷ []
row_args (Cut of from v) = args.Var of [] ∷ args.Var from [] ∷ number 0 ∷ number v ∷ []
row_args (Built of from byte) = args.Var of [] ∷ args.Var from [] ∷ number byte ∷ []
row_args (Moved of from) = args.Var of [] ∷ args.Var from [] ∷ []
row_args (Counted of) = args.Var 8 [] ∷ args.Var of [] ∷ []
row_args Driven = number 0 ∷ args.Imm 2 ∷ args.Var 8 [] ∷ args.Imm 0 ∷ number 2 ∷ []

abbrev pub row_statement : ℕ → Row → NbcStatement
row_statement line r = statement line (row_op r) Lt (row_args r)

abbrev pub row_statements : ℕ → List Row → List NbcStatement
row_statements line [] = ending line 0 ∷ []
row_statements line (r ∷ rs) = row_statement line r ∷ row_statements (suc line) rs

abbrev pub rows_block : List Row → NbcBlock
rows_block rs = record { subroutine = false; fire = 0; dependents = []; body = row_statements 14 rs }

abbrev pub spelled : List Row → program.Text
spelled rs = record { vars = map (program_var (header_at 0 1)) head_variables; blocks = rows_block rs ∷ [] }
