-- Of one port its motor is set, if there is one, and nothing fails behind the room.
use Rattle.std.proofs.Common.{Result, Ok, Err, is_ok, OnOk, OnErr, IsOk, ◌≡◌, ◌<◌, ◌++◌, [], true, false, refl, sym, ap, ap₂, ◌∙◌, drop, arith}
use Rattle.std.specs.Prelude.{nat_lt}
use Rattle.std.proofs.lemmas.Bool.Decides.{nat_tests}
use Rattle.std.proofs.lemmas.List.{append-nil}
use Rattle.nxt_types.specs.Statements.{statement_of}
use Rattle.nxt_model.specs.Devices.{Change}
use Rattle.nxt_machine.specs.Numbers.{set_motor_by}
use Rattle.nxt_machine.proofs.Meanings.Ports.{one_port, no_port, silent_flags}
use Rattle.nxt_machine.proofs.ports.set_one.Goals as goal

on_ok : {T E : Type 0} {P Q : Type 0} (r : Result T E) → (P → Q) → OnOk r P → OnOk r Q
on_ok (Ok x) f h = f h
on_ok (Err e) f h = tt

pub returns-then-port-ge3-clause-devices : goal.returns-then-port-ge3-clause-devices
returns-then-port-ge3-clause-devices c =
    let none : nat_lt c.args.port 3 ≡ false = grind (arith, nat_tests, c.if-port-ge3.true) in
    sym (ap (λ (x : Change). x.devices) (no_port c.args.port (set_motor_by c.args.space.now.vars (drop 1 (statement_of c.args.instr.now c.args.words.now).args)) c.args.io.now none))

pub returns-then-port-ge3-clause-lines : goal.returns-then-port-ge3-clause-lines
returns-then-port-ge3-clause-lines c =
    let none : nat_lt c.args.port 3 ≡ false = grind (arith, nat_tests, c.if-port-ge3.true) in
    sym (append-nil c.args.out.now.lines)
    ∙ ap (λ ls. c.args.out.now.lines ++ ls) (sym (ap (λ (x : Change). x.lines) (no_port c.args.port (set_motor_by c.args.space.now.vars (drop 1 (statement_of c.args.instr.now c.args.words.now).args)) c.args.io.now none)))

pub returns-then-is_ok-clause-devices : goal.returns-then-is_ok-clause-devices
returns-then-is_ok-clause-devices c =
    let one : nat_lt c.args.port 3 ≡ true = grind (arith, nat_tests, c.if-port-ge3.false) in
    on_ok c.set_motor.result (λ did. did ∙ sym (ap (λ (x : Change). x.devices) (one_port c.args.port (set_motor_by c.args.space.now.vars (drop 1 (statement_of c.args.instr.now c.args.words.now).args)) c.args.io.now one))) c.set_motor.ensures.devices

pub returns-then-is_ok-clause-lines : goal.returns-then-is_ok-clause-lines
returns-then-is_ok-clause-lines c =
    let one : nat_lt c.args.port 3 ≡ true = grind (arith, nat_tests, c.if-port-ge3.false) in
    on_ok c.set_motor.result (λ did. did ∙ ap₂ (λ old ls. old ++ ls) c.room_if.ensures.lines (sym (ap (λ (x : Change). x.lines) (one_port c.args.port (set_motor_by c.args.space.now.vars (drop 1 (statement_of c.args.instr.now c.args.words.now).args)) c.args.io.now one)))) c.set_motor.ensures.lines

pub returns-clause-devices : goal.returns-clause-devices
returns-clause-devices c =
    let one : nat_lt c.args.port 3 ≡ true = grind (arith, nat_tests, c.if-port-ge3.false) in
    on_ok c.set_motor-2.result (λ did. did ∙ sym (ap (λ (x : Change). x.devices) (one_port c.args.port (set_motor_by c.args.space.now.vars (drop 1 (statement_of c.args.instr.now c.args.words.now).args)) c.args.io.now one))) c.set_motor-2.ensures.devices

pub returns-clause-lines : goal.returns-clause-lines
returns-clause-lines c =
    let one : nat_lt c.args.port 3 ≡ true = grind (arith, nat_tests, c.if-port-ge3.false) in
    on_ok c.set_motor-2.result (λ did. did ∙ ap₂ (λ old ls. old ++ ls) c.room_if.ensures.lines (sym (ap (λ (x : Change). x.lines) (one_port c.args.port (set_motor_by c.args.space.now.vars (drop 1 (statement_of c.args.instr.now c.args.words.now).args)) c.args.io.now one)))) c.set_motor-2.ensures.lines

-- ---- nothing fails behind the room

no_err : {T E : Type 0} (P : Type 0) (r : Result T E) → IsOk r → OnErr r P
no_err P (Ok x) is = tt
no_err P (Err e) is = let no : ⊥ = cc in absurd no

-- there is room
made : {E : Type 0} (r : Result (Unit {0}) E) (P : Type 0) → is_ok r ≡ true → OnOk r (true ≡ true → P) → P
made (Ok x) P is room = room refl
made (Err e) P is room = let no : ⊥ = cc in absurd no

pub returns-then-is_ok-clause-same : goal.returns-then-is_ok-clause-same
returns-then-is_ok-clause-same c = no_err _ c.set_motor.result (c.set_motor.ensures.succeeds (made c.room_if.result _ (sym c.is_ok.ensures.value ∙ c.if-is_ok.true) c.room_if.ensures.room))

pub returns-then-is_ok-clause-told : goal.returns-then-is_ok-clause-told
returns-then-is_ok-clause-told c = no_err _ c.set_motor.result (c.set_motor.ensures.succeeds (made c.room_if.result _ (sym c.is_ok.ensures.value ∙ c.if-is_ok.true) c.room_if.ensures.room))

pub returns-then-is_ok-clause-silent : goal.returns-then-is_ok-clause-silent
returns-then-is_ok-clause-silent c none = c.set_motor.ensures.succeeds (made c.room_if.result _ (sym c.is_ok.ensures.value ∙ c.if-is_ok.true) c.room_if.ensures.room)

-- or no line
pub returns-clause-same : goal.returns-clause-same
returns-clause-same c = no_err _ c.set_motor-2.result (c.set_motor-2.ensures.silent (sym c.flags_after.ensures ∙ c.if-flags_after-ne0.false))

pub returns-clause-told : goal.returns-clause-told
returns-clause-told c = no_err _ c.set_motor-2.result (c.set_motor-2.ensures.silent (sym c.flags_after.ensures ∙ c.if-flags_after-ne0.false))

pub returns-clause-silent : goal.returns-clause-silent
returns-clause-silent c none = c.set_motor-2.ensures.silent (sym c.flags_after.ensures ∙ c.if-flags_after-ne0.false)

pub returns-then-flags_after-ne0-clause-silent : goal.returns-then-flags_after-ne0-clause-silent
returns-then-flags_after-ne0-clause-silent c none =
    let s = c.args.space.now.vars in
    let pairs = drop 1 (statement_of c.args.instr.now c.args.words.now).args in
    let port = c.args.port in
    let d = c.args.io.now in
    let low : port < 3 = omega (arith, c.if-port-ge3.false) in
    let one : nat_lt port 3 ≡ true = grind (arith, nat_tests, c.if-port-ge3.false) in
    let quiet : (set_motor_by s pairs port d).lines ≡ [] = sym (ap (λ (x : Change). x.lines) (one_port port (set_motor_by s pairs) d one)) ∙ none in
    let flags : c.flags_after.result ≡ 0 = c.flags_after.ensures ∙ silent_flags s pairs port d low c.recall_sound.ensures.motors quiet in
    absurd (c.if-flags_after-ne0.true flags)
