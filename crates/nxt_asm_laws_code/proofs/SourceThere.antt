-- What the operands of a text that keeps the rules name is there.
use Rattle.std.proofs.Common.{◌≡◌, ℕ, ◌<◌, Bool, true, false, List, [], ◌∷◌, map, length, Some, refl, sym, subst, ◌∙◌}
use Rattle.std.specs.Prelude.{if◌then◌else◌, ℤ, ⊤, nat_abs, slice_get, slice_index_or, zip}
use Rattle.std.proofs.lemmas.Bool.{both_ways, not-false}
use Rattle.nxt_types.specs.Arithmetic.{cut}
use Rattle.nxt_types.specs.Opcodes.{classes}
use Rattle.nxt_types.specs.Shapes.{Void}
use Rattle.nxt_types.specs.declared.kind.Cmp.TheVariants.{Lt}
use Rattle.nxt_types.specs.declared.kind.Kind.TheVariants.{Slong}
use Rattle.nxt_types.specs.declared.instr.Op.TheVariants as ops
use Rattle.nxt_types.specs.declared.opcodes.Class.{Class}
use Rattle.nxt_types.specs.declared.opcodes.Class.TheVariants.{Immediate, Offset, OptionalOut, OptionalIn}
use Rattle.nxt_model.specs.declared.nbc.NbcArg.{NbcArg}
use Rattle.nxt_model.specs.declared.nbc.NbcArg.TheVariants as args
use Rattle.nxt_model.specs.declared.nbc.NbcBlock.{NbcBlock}
use Rattle.nxt_model.specs.declared.nbc.NbcStatement.{NbcStatement}
use Rattle.nxt_model.specs.Nbc.Forms as forms
use Rattle.nxt_model.specs.Nbc.Forms.{Form, Term, Named}
use Rattle.nxt_model.specs.Nbc.NbcRules.{is_subroutine}
use Rattle.nxt_model.specs.Nbc.Text.{Source, Block, Denoted, AVariable, ANumber, AText, ABlock, AType, Missing, LabelAt, arg_of, denoted, denoted_arg, dependents_of, ending, is_left_out, is_word, label_arg, labels_from, named_block, number_arg, numbered, ordered, program_block, program_of, returning, statement, statements_in}
use Rattle.nxt_model.specs.TextProgram.{Text, declared, returns, subroutine_number}
use Rattle.nxt_asm_laws.proofs.Laws.Lists.{Each, each_all, each_both, each_flat, each_map, each_weaker}
use Rattle.nxt_asm_laws_code.specs.There.{IsThere, LeadsTo}
use Rattle.nxt_asm_laws_code.proofs.Listed.{IsListed, blocks_listed}
use Rattle.nxt_asm_laws_code.proofs.SourceBlocks.{InPlace, in_place, return_there}
use Rattle.nxt_asm_laws_code.proofs.SourceLines.{IsKeptAt, IsKeptLine}
use Rattle.nxt_asm_laws_code.proofs.SourceTerms.{HasPart, NamesBlock}
use Rattle.nxt_asm_laws_code.proofs.TermOperands.{positions}

-- a variable's part or a return variable is there
abbrev IsHeld : Text → NbcArg → Type 0
IsHeld p (args.Var i path) = (i < length (declared p)) × LeadsTo (slice_index_or (declared p) i Void) (map nat_abs path)
IsHeld p (args.Back b) = subroutine_number p b < length (returns p)
IsHeld p a = ⊤

-- and constants are listed
there_by : (p : Text) (a : NbcArg) → IsHeld p a → IsListed p a → IsThere p a
there_by p (args.Var i path) h l = h
there_by p (args.Back b) h l = h
there_by p (args.Number z) h l = l
there_by p (args.Text bytes) h l = l
there_by p args.Left h l = tt
there_by p (args.Imm n) h l = tt
there_by p (args.Block n) h l = tt
there_by p (args.Jump n) h l = tt

module _ (src : Source) (parts : (line : ℕ) (t : Term) → HasPart src (denoted src line t)) (names : (line : ℕ) (t : Term) → NamesBlock src t (denoted src line t)) where
  -- ---- operands

  -- numbers, and what an operand stands for
  number_held : (c : Class) (z : ℤ) → IsHeld (program_of src) (number_arg c z)
  number_held Immediate z = by (is_word z)
    where
      by : (b : Bool) → IsHeld (program_of src) (if b then args.Imm (nat_abs z) else args.Number (cut Slong z))
      by true = tt
      by false = tt
  number_held c z = tt

  denoted_held : (c : Class) (d : Denoted) → HasPart src d → IsHeld (program_of src) (denoted_arg c d)
  denoted_held c (AVariable i path s) h = (h.0, subst (LeadsTo (slice_index_or (declared (program_of src)) i Void)) (sym (positions path)) h.1)
  denoted_held c (ANumber z) h = number_held c z
  denoted_held c (AText bytes) h = tt
  denoted_held c (ABlock k sub) h = tt
  denoted_held c AType h = tt
  denoted_held c Missing h = tt

  -- what is left out, and labels
  left_held : (b : Bool) (a : NbcArg) → IsHeld (program_of src) a → IsHeld (program_of src) (if b then args.Left else a)
  left_held true a h = tt
  left_held false a h = h

  label_held : (ls : List LabelAt) (t : Term) → IsHeld (program_of src) (label_arg ls t)
  label_held ls (Named (l ∷ [])) = tt
  label_held ls t = tt

  -- an operand of a statement
  arg_held : (ls : List LabelAt) (line : ℕ) (c : Class) (t : Term) → IsHeld (program_of src) (arg_of src ls line c t)
  arg_held ls line OptionalOut t =
      left_held (is_left_out src line t) (denoted_arg OptionalOut (denoted src line t)) (denoted_held OptionalOut (denoted src line t) (parts line t))
  arg_held ls line OptionalIn t =
      left_held (is_left_out src line t) (denoted_arg OptionalIn (denoted src line t)) (denoted_held OptionalIn (denoted src line t) (parts line t))
  arg_held ls line Offset t = label_held ls t
  arg_held ls line c t = denoted_held c (denoted src line t) (parts line t)

  -- ---- statements

  abbrev AreHeld : NbcStatement → Type 0
  AreHeld s = Each (IsHeld (program_of src)) s.args

  -- a call
  subroutine_held : (line : ℕ) (t : Term) (d : Denoted) → NamesBlock src t d → is_subroutine d ≡ true
      → Each AreHeld (map (λ s. statement line ops.Subcall Lt (args.Block s ∷ args.Back s ∷ [])) (named_block src t))
  subroutine_held line t (ABlock k sub) named e =
      subst (λ l. Each AreHeld (map (λ s. statement line ops.Subcall Lt (args.Block s ∷ args.Back s ∷ [])) l)) (sym named.0)
      ((tt, (return_there src k named.1 named.2 (named.3 ∙ e), tt)), tt)
  subroutine_held line t (AVariable i path s) named e = absurd (both_ways false refl e)
  subroutine_held line t (ANumber z) named e = absurd (both_ways false refl e)
  subroutine_held line t (AText bytes) named e = absurd (both_ways false refl e)
  subroutine_held line t AType named e = absurd (both_ways false refl e)
  subroutine_held line t Missing named e = absurd (both_ways false refl e)

  module _ (ls : List LabelAt) (k : ℕ) (b : Block) (there : slice_get (ordered src) k ≡ Some b) (n : ℕ) where
    closing_held : (line : ℕ) (c : Bool) → b.subroutine ≡ c → AreHeld (if c then returning line k else ending line n)
    closing_held line true e = (return_there src k b there e, tt)
    closing_held line false e = (tt, (tt, tt))

    -- the statements of a line
    line_held : (l : ℕ × Form) → IsKeptLine src ls l → InPlace b.subroutine l → Each AreHeld (statements_in src ls k b.subroutine n l)
    line_held (line, forms.Do label op cmp ts) h place =
        let arg : Class × Term → NbcArg = λ p. arg_of src ls line p.0 p.1 in
        let operands : List (Class × Term) = zip (classes op (length ts)) ts in
        (each_map (IsHeld (program_of src)) arg operands (each_all _ operands (λ p. arg_held ls line p.0 p.1)), tt)
    line_held (line, forms.Call t) h place = subroutine_held line t (denoted src line t) (names line t) (not-false (is_subroutine (denoted src line t)) (h.kinds 1))
    line_held (line, forms.Return) h place = ((return_there src k b there place, tt), tt)
    line_held (line, forms.Exit) h place = ((tt, (tt, tt)), tt)
    line_held (line, forms.ExitTo t) h place =
        each_map AreHeld (λ s. statement line ops.Finclumpimmed Lt (args.Block s ∷ [])) (named_block src t) (each_all _ (named_block src t) (λ s. (tt, tt)))
    line_held (line, forms.CloseBlock) h place = (closing_held line b.subroutine refl, tt)
    line_held (line, f) h place = tt

  -- ---- blocks

  -- a block
  block_held : (x : ℕ × Block) → IsKeptAt src x → Each AreHeld (program_block src x).body
  block_held (k, b) h =
      let n : ℕ = length (dependents_of src k b) in
      let ls : List LabelAt = labels_from 0 b.items in
      each_flat AreHeld (statements_in src ls k b.subroutine n) b.items
      (each_weaker (λ l. IsKeptLine src ls l × InPlace b.subroutine l) _ b.items (λ l f. line_held ls k b h.there n l f.0 f.1)
      (each_both (IsKeptLine src ls) (InPlace b.subroutine) b.items h.kept.lines (in_place b.subroutine b.items h.kept.good)))

  -- the operands of all blocks
  pub program_there : Each (IsKeptAt src) (numbered src)
      → Each (λ (b : NbcBlock). Each (λ (s : NbcStatement). Each (IsThere (program_of src)) s.args) b.body) (program_of src).blocks
  program_there h =
      let p : Text = program_of src in
      let held : Each (λ (b : NbcBlock). Each AreHeld b.body) p.blocks =
      each_map (λ (b : NbcBlock). Each AreHeld b.body) (program_block src) (numbered src) (each_weaker (IsKeptAt src) _ (numbered src) block_held h) in
      let Listed : NbcStatement → Type 0 = λ s. Each (IsListed p) s.args in
      each_weaker (λ (b : NbcBlock). Each AreHeld b.body × Each Listed b.body) _ p.blocks
      (λ b f. each_weaker (λ s. AreHeld s × Listed s) _ b.body
      (λ s g. each_weaker (λ a. IsHeld p a × IsListed p a) (IsThere p) s.args (λ a e. there_by p a e.0 e.1) (each_both (IsHeld p) (IsListed p) s.args g.0 g.1))
      (each_both AreHeld Listed b.body f.0 f.1))
      (each_both (λ (b : NbcBlock). Each AreHeld b.body) (λ (b : NbcBlock). Each Listed b.body) p.blocks held (blocks_listed p))
