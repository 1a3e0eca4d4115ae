-- Every generated text keeps the rules of texts, and what it spells keeps those of the assembler.
use Rattle.std.proofs.Common.{◌≡◌, ℕ, ◌*◌, ◌≤◌, List, length, arith}
use Rattle.nxt_types.specs.Refusals.{IsAccepted}
use Rattle.nxt_model.specs.TextProgram.{Text}
use Rattle.nxt_nbc.specs.Checked.{Spells}
use Rattle.nxt_asm_rules.specs.AsmRules.{Broken}
use Rattle.nxt_gen.specs.Generator.{generated_text, text_of}
use Rattle.nxt_gen_laws.specs.Rows.{Row, rows_from}
use Rattle.nxt_gen_laws.specs.Spelled.{spelled}
use Rattle.nxt_gen_laws.proofs.Fitting.Constants.{rows_many}
use Rattle.nxt_gen_laws.proofs.Fitting.Rules.{rules_kept}
use Rattle.nxt_gen_laws.proofs.Keeping.Rules.{spells}
use Rattle.nxt_gen_laws.proofs.Reading.Drawn.{rows_small, text_is}
use Rattle.nxt_gen_laws.proofs.Reading.Whole.{text_read}

-- so many draws
by_draws : (times n : ℕ) → times ≤ 400 → (t : Text) × Spells (text_of times n) t × IsAccepted (Broken t)
by_draws times n few =
    let rs : List Row = rows_from times n in
    let many : length rs ≡ 3 * times = rows_many times n in
    let read = text_read rs (rows_small times n) (text_of times n) (text_is times n) in (
      spelled rs,
      spells (text_of times n) rs (rows_small times n) read.0 read.1 read.2,
      rules_kept rs (omega (arith, many, few)),
    )

-- a generated text spells a program, which is assembled
pub generated : (n : ℕ) → (t : Text) × Spells (generated_text n) t × IsAccepted (Broken t)
unfolding generated_text
generated n = by_draws 400 n (omega arith)
