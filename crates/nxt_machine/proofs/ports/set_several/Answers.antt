-- The next port's motor is set, and the others are left.
use Rattle.std.proofs.Common.{◌≡◌, ◌+◌, ◌<◌, ◌++◌, ℕ, List, [], ◌∷◌, suc, length, drop, true, false, sym, ap, ap₂, ◌∙◌, arith, append_assoc, slice_index_or, refl, map}
use Rattle.std.specs.Prelude.{filter, if◌then◌else◌}
use Rattle.nxt_types.specs.Statements.{statement_of}
use Rattle.nxt_model.specs.Devices.{Devices, Change, each_port, and_then}
use Rattle.nxt_machine.specs.Numbers.{is_among, set_motor_by}
use Rattle.nxt_types.specs.Arithmetic.{word}
use Rattle.nxt_machine.proofs.Meanings.Ports.{each_next}
use Rattle.nxt_machine.proofs.ports.set_several.Goals as goal

pub loop-port-preserved : goal.loop-port-preserved
loop-port-preserved c =
    let pairs = drop 1 (statement_of c.args.instr.now c.args.words.now).args in
    let is = is_among (map word c.args.ports.now) in
    let f = set_motor_by c.args.space.now.vars pairs in
    let xs : List ℕ = 0 ∷ 1 ∷ 2 ∷ [] in
    let k = c.loop-port.port-index in
    let p = slice_index_or xs k 0 in
    let d = c.loop-port.io in
    let few : k < length xs = c.loop-port-test.true in
    let yes : is p ≡ true = sym c.has.ensures ∙ c.if-not-has.false in
    let next : suc k ≡ k + 1 = omega arith in
    let rest : ℕ → Devices → Change = λ n. each_port (filter is (drop n xs)) f in
    let taken : rest k d ≡ and_then (f p d) (rest (suc k)) =
    each_next is f d xs k few ∙ ap (λ b. if b then and_then (f p d) (rest (suc k)) else rest (suc k) d) yes in
    let io : c.set_motor.new.io ≡ (f p d).devices = c.in_ok-set_motor.ensures.devices in
    let out : c.set_motor.new.out.lines ≡ c.loop-port.out.lines ++ (f p d).lines = c.in_ok-set_motor.ensures.lines in
    record {
      room = omega (arith, c.loop-port.invariant.room, c.set_motor.ensures.room);
      items = refl;
      devices =
          ap (λ e. (rest (k + 1) e).devices) io
          ∙ ap (λ n. (rest n (f p d).devices).devices) (sym next)
          ∙ sym (ap (λ (x : Change). x.devices) taken)
          ∙ c.loop-port.invariant.devices;
      lines =
          ap₂ (λ ls e. ls ++ (rest (k + 1) e).lines) out io
          ∙ ap (λ n. (c.loop-port.out.lines ++ (f p d).lines) ++ (rest n (f p d).devices).lines) (sym next)
          ∙ append_assoc c.loop-port.out.lines (f p d).lines (rest (suc k) (f p d).devices).lines
          ∙ ap (λ ls. c.loop-port.out.lines ++ ls) (sym (ap (λ (x : Change). x.lines) taken))
          ∙ c.loop-port.invariant.lines;
    }

-- ---- there is room

pub returns-in_err-set_motor-clause-same : goal.returns-in_err-set_motor-clause-same
returns-in_err-set_motor-clause-same c =
    let few : c.loop-port.port-index < 3 = c.loop-port-test.true in
    let fails : false ≡ true = c.in_err-set_motor.ensures.succeeds (omega (arith, few, c.loop-port.invariant.room)) in
    let no : ⊥ = cc in
    absurd no

pub returns-in_err-set_motor-clause-told : goal.returns-in_err-set_motor-clause-told
returns-in_err-set_motor-clause-told c =
    let few : c.loop-port.port-index < 3 = c.loop-port-test.true in
    let fails : false ≡ true = c.in_err-set_motor.ensures.succeeds (omega (arith, few, c.loop-port.invariant.room)) in
    let no : ⊥ = cc in
    absurd no
