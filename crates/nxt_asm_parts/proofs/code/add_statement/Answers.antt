use Rattle.std.proofs.Common.{◌<◌, All, sym, subst}
use Rattle.nxt_model.specs.Assembled.{arg_word}
use Rattle.nxt_model.specs.TextProgram.{text_of}
use Rattle.nxt_asm_parts.proofs.CodeWords.{narrow_args}
use Rattle.nxt_asm_parts.proofs.code.add_statement.Goals as goal

pub arg_words-requires : goal.arg_words-requires
arg_words-requires c =
    let t = text_of c.args.numbers.now in
    let at = c.args.at.now in
    let here = c.args.here in
    subst (λ xs. All (λ a. arg_word t at here a < 65536) xs) (sym c.as_slice-args.ensures) (narrow_args t at here c.args.statement.now c.requires.fits)
