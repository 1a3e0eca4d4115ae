use Rattle.std.proofs.Common.{◌∙◌, ◌++◌, [], ◌∷◌, ap, sym, map, take, get_or, arith, w64}
use Rattle.std.specs.Prelude.{pos}
use Rattle.std.proofs.lemmas.Int.{to_z_pos}
use Rattle.std.proofs.lemmas.List.{map-append, take_more}
use Rattle.nxt_nbc_program.proofs.Laws.Fits.{below_at}
use Rattle.nxt_nbc_program.proofs.args.path_of.Goals as goal

pub overflow_cast-position : goal.overflow_cast-position
overflow_cast-position c =
    let fits = below_at 9223372036854775808 c.args.positions.now c.loop-position.position-index c.requires c.loop-position-test.true in
    omega (arith, fits)

pub loop-position-preserved : goal.loop-position-preserved
loop-position-preserved c =
    let ps = c.args.positions.now in
    let i = c.loop-position.position-index in
    let fits = below_at 9223372036854775808 ps i c.requires c.loop-position-test.true in
    c.in_ok-push.ensures.ok
    ∙ ap (λ z. c.loop-position.path ++ z ∷ []) (to_z_pos w64 (get_or ps i 0) (omega (arith, fits)))
    ∙ ap (λ zs. zs ++ pos (get_or ps i 0) ∷ []) c.loop-position.invariant
    ∙ sym (ap (map pos) (take_more ps i 0 c.loop-position-test.true) ∙ map-append pos (take i ps) (get_or ps i 0 ∷ []))
