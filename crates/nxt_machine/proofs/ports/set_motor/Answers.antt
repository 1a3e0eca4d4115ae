-- A motor without flags tells no line.
use Rattle.std.proofs.Common.{◌≡◌, ◌<◌, ap, ◌∙◌, arith, drop, length}
use Rattle.std.proofs.lemmas.Bool.Decides.{nat_tests}
use Rattle.nxt_types.specs.Statements.{statement_of}
use Rattle.nxt_model.specs.Devices.{motor_at, update_flags}
use Rattle.nxt_machine.specs.Numbers.{with_pairs}
use Rattle.nxt_machine.proofs.Meanings.Ports.{motor_again}
use Rattle.nxt_machine.proofs.ports.set_motor.Goals as goal

pub returns-clause-silent : goal.returns-clause-silent
returns-clause-silent c none =
    let d = c.args.io.now in
    let port = c.args.port in
    let motors = c.recall_sound.ensures.motors in
    let there : port < length d.motors = let few = c.requires.port in omega (arith, few, motors) in
    let m = with_pairs c.args.space.now.vars (drop 1 (statement_of c.args.instr.now c.args.words.now).args) (motor_at port d) in
    let flags : c.flags.result ≡ 0 =
    c.flags.ensures ∙ ap (λ e. update_flags (motor_at port e)) c.store_pairs.ensures ∙ ap update_flags (motor_again port m d there) ∙ none in
    let no : ⊥ = grind (arith, nat_tests, flags, c.if-flags-eq0.false) in
    absurd no
