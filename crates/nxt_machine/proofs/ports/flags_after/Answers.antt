use Rattle.std.proofs.Common.{◌≡◌, ◌+◌, sym, ap, ap₂, ◌∙◌, arith, rules, drop, length}
use Rattle.nxt_types.specs.Statements.{statement_of}
use Rattle.nxt_model.specs.Devices.{motor_at}
use Rattle.nxt_machine.specs.Numbers.{number_at, flags_set}
use Rattle.nxt_machine.proofs.Meanings.Ports.{flags_by, flags_next, flags_done, flags_of_pairs}
use Rattle.nxt_machine.proofs.ports.flags_after.Goals as goal

pub loop-k-preserved : goal.loop-k-preserved
loop-k-preserved c =
    let s = c.args.space.now.vars in
    let args = (statement_of c.args.instr.now c.args.words.now).args in
    let k = c.loop-k.k in
    let old = c.loop-k.flags in
    let stored : c.flags_with-flags.result ≡ flags_set old c.operand-in-loop-k.result c.number-x.result = search rules in
    record {
      few = omega (arith, c.loop-k-test.true, c.operand_count-count.ensures.few);
      same =
          ap (flags_by s (drop (k + 2) args))
          (stored
          ∙ ap₂ (λ a z. flags_set old a z) c.operand-in-loop-k.ensures (c.number-x.ensures ∙ ap (number_at s) c.operand.ensures))
          ∙ flags_next s args k (k + 1) (k + 2) old (omega arith) (omega arith) (omega (arith, c.loop-k-test.true, c.operand_count-count.ensures.count))
          ∙ c.loop-k.invariant.same;
    }

pub returns : goal.returns
returns c =
    let s = c.args.space.now.vars in
    let args = (statement_of c.args.instr.now c.args.words.now).args in
    let m = motor_at c.args.port c.args.io.now in
    let fifteen : length m ≡ 15 = c.recall_sound.ensures.properties c.args.port c.requires.port in
    sym (flags_done s args c.loop-k.k c.loop-k.flags (omega (arith, c.loop-k-test.false, c.operand_count-count.ensures.count)))
    ∙ c.loop-k.invariant.same
    ∙ sym (flags_of_pairs s (drop 1 args) m (omega (arith, fifteen)))
