-- The state of a sensor, part by part.
use Rattle.std.proofs.Common.{◌≡◌, ◌++◌, ◌==◌, [], if◌then◌else◌, not, nat_lt, false, length, slice_index, to_z, of_z, w64, refl, sym, ap, ◌∙◌, arith, rules, append_assoc}
use Rattle.std.proofs.lemmas.Grind.{common_steps}
use Rattle.nxt_types.specs.Arithmetic.{word}
use Rattle.nxt_model.specs.DirectCommands.{GetInput, input_state, stays}
use Rattle.nxt_model.specs.Devices.{changed, get_in}
use Rattle.nxt_direct.specs.Outcomes.{more_of, outcome_anyway}
use Rattle.nxt_direct.proofs.Refusals.{passed}
use Rattle.nxt_direct.proofs.inputs.get_input.Goals as goal

pub returns-clause-reply : goal.returns-clause-reply
returns-clause-reply c =
    let port = slice_index c.args.bytes.now 2 in
    let whole : not (length c.args.bytes.now == 3) ≡ false = grind (arith, common_steps) in
    let inside : nat_lt 3 port ≡ false = grind (arith, common_steps) in
    let state : outcome_anyway GetInput c.args.bytes.now c.args.io.now ≡ stays (changed c.args.io.now []) (input_state port c.args.io.now) =
    passed _ _ _ whole ∙ passed _ _ _ inside in
    let valid : c.from.result ≡ (if word (get_in port 5 c.args.io.now) == 0 then 1 else 0) = search rules in
    let kind : to_z w64 (of_z w64 c.get_in-2.result) ≡ get_in port 0 c.args.io.now = search rules in
    let mode : to_z w64 (of_z w64 c.get_in-3.result) ≡ get_in port 1 c.args.io.now = search rules in
    let raw : to_z w64 (of_z w64 c.get_in-4.result) ≡ get_in port 2 c.args.io.now = search rules in
    let normalized : to_z w64 (of_z w64 c.get_in-5.result) ≡ get_in port 3 c.args.io.now = search rules in
    let scaled : to_z w64 (of_z w64 c.get_in-6.result) ≡ get_in port 4 c.args.io.now = search rules in
    let told : c.append.new.self ≡ c.args.reply.now ++ input_state port c.args.io.now =
    rw (c.append.ensures, c.number-5.ensures, c.number-4.ensures, c.number-3.ensures, c.number-2.ensures, c.number.ensures, c.byte-3.ensures, c.byte-2.ensures, c.byte.ensures)
    (simp (valid, kind, mode, raw, normalized, scaled, append_assoc) refl) in
    told ∙ sym (ap (λ o. c.args.reply.now ++ more_of o) state)
