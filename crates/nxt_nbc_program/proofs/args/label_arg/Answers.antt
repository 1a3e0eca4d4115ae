use Rattle.std.proofs.Common.{ap, ◌∙◌, arith}
use Rattle.std.specs.Prelude.{unwrap_or}
use Rattle.nxt_nbc_program.proofs.Laws.Fits.{jump_fits}
use Rattle.nxt_nbc_program.proofs.args.label_arg.Goals as goal

pub overflow_cast-result : goal.overflow_cast-result
overflow_cast-result c =
    let place = c.unwrap_or.ensures ∙ ap (λ o. unwrap_or o 0) c.position.ensures in
    let fits = jump_fits c.args.labels.now c.in-Some.label.now c.requires in
    omega (arith, place, fits)
