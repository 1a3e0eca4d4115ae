use Rattle.std.proofs.Common.{◌≡◌, ◌+◌, ◌<◌, ℤ, List, sym, ap, ap₂, ◌∙◌, arith, rules, drop, length}
use Rattle.std.proofs.lemmas.List.{length-set}
use Rattle.nxt_types.specs.Statements.{statement_of}
use Rattle.nxt_model.specs.Devices.{Devices, motor_at, with_motor, set_out, set_property}
use Rattle.nxt_machine.specs.Numbers.{number_at, with_pairs}
use Rattle.nxt_machine.proofs.Meanings.Named.{pairs_more, pairs_done}
use Rattle.nxt_machine.proofs.Meanings.Ports.{motor_again, motor_twice, motor_kept, set_property_past}
use Rattle.nxt_machine.proofs.ports.store_pairs.Goals as goal

-- the motor after one pair more
abbrev next_motor : (c : goal.After-set_out) → List ℤ
next_motor c = set_property c.operand-in-loop-k.result (number_at c.args.space.now.vars c.operand.result) (motor_at c.args.port c.loop-k.io)

stored : (c : goal.After-set_out) → c.set_out.new.self ≡ with_motor c.args.port (next_motor c) c.loop-k.io
stored c =
    let d = c.loop-k.io in
    let port = c.args.port in
    let taken : c.set_out.new.self ≡ set_out port c.property.result c.number-x.result d = search rules in
    taken
    ∙ ap (λ p. with_motor port (set_property p c.number-x.result (motor_at port d)) d) c.property.ensures
    ∙ ap (λ m. with_motor port m d) (set_property_past c.operand-in-loop-k.result c.number-x.result (motor_at port d))
    ∙ ap (λ z. with_motor port (set_property c.operand-in-loop-k.result z (motor_at port d)) d) c.number-x.ensures

pub loop-k-preserved : goal.loop-k-preserved
loop-k-preserved c =
    let s = c.args.space.now.vars in
    let args = (statement_of c.args.instr.now c.args.words.now).args in
    let d = c.loop-k.io in
    let port = c.args.port in
    let motors = c.loop-k.invariant.motors in
    let there : port < length d.motors = let few = c.requires.port in omega (arith, few, motors) in
    let m = motor_at port d in
    record {
      few = omega (arith, c.loop-k-test.true, c.operand_count-count.ensures.few);
      motors = ap (λ (e : Devices). length e.motors) (stored c) ∙ length-set d.motors port (next_motor c) ∙ motors;
      same =
          ap (λ (e : Devices). with_motor port (with_pairs s (drop (c.loop-k.k + 2) args) (motor_at port e)) e) (stored c)
          ∙ ap (λ n. with_motor port (with_pairs s (drop (c.loop-k.k + 2) args) n) (with_motor port (next_motor c) d)) (motor_again port (next_motor c) d there)
          ∙ motor_twice port (with_pairs s (drop (c.loop-k.k + 2) args) (next_motor c)) (next_motor c) d
          ∙ ap (λ n. with_motor port n d)
          (ap₂ (λ a b. with_pairs s (drop (c.loop-k.k + 2) args) (set_property a (number_at s b) m)) c.operand-in-loop-k.ensures c.operand.ensures
          ∙ pairs_more s args c.loop-k.k (c.loop-k.k + 1) (c.loop-k.k + 2) m (omega arith) (omega arith) (omega (arith, c.loop-k-test.true, c.operand_count-count.ensures.count)))
          ∙ c.loop-k.invariant.same;
    }

pub returns : goal.returns
returns c =
    let args = (statement_of c.args.instr.now c.args.words.now).args in
    let d = c.loop-k.io in
    let port = c.args.port in
    let motors = c.loop-k.invariant.motors in
    let there : port < length d.motors = let few = c.requires.port in omega (arith, few, motors) in
    sym (motor_kept port d)
    ∙ ap (λ n. with_motor port n d) (sym (pairs_done c.args.space.now.vars args c.loop-k.k (motor_at port d) (omega (arith, c.loop-k-test.false, c.operand_count-count.ensures.count))))
    ∙ c.loop-k.invariant.same
