-- The state of a motor, part by part.
use Rattle.std.proofs.Common.{◌≡◌, ◌++◌, ◌==◌, [], not, nat_lt, false, length, slice_index, to_z, of_z, w64, refl, sym, ap, ◌∙◌, arith, rules, append_assoc}
use Rattle.std.proofs.lemmas.Grind.{common_steps}
use Rattle.nxt_model.specs.DirectCommands.{GetOutput, output_state, stays}
use Rattle.nxt_model.specs.Devices.{changed, get_out}
use Rattle.nxt_direct.specs.Outcomes.{more_of, outcome_anyway}
use Rattle.nxt_direct.proofs.Refusals.{passed}
use Rattle.nxt_direct.proofs.outputs.get_output.Goals as goal

pub returns-clause-reply : goal.returns-clause-reply
returns-clause-reply c =
    let port = slice_index c.args.bytes.now 2 in
    let whole : not (length c.args.bytes.now == 3) ≡ false = grind (arith, common_steps) in
    let inside : nat_lt 2 port ≡ false = grind (arith, common_steps) in
    let state : outcome_anyway GetOutput c.args.bytes.now c.args.io.now ≡ stays (changed c.args.io.now []) (output_state port c.args.io.now) =
    passed _ _ _ whole ∙ passed _ _ _ inside in
    let power : to_z w64 (of_z w64 c.get_out.result) ≡ get_out port 2 c.args.io.now = search rules in
    let mode : to_z w64 (of_z w64 c.get_out-2.result) ≡ get_out port 1 c.args.io.now = search rules in
    let regulation : to_z w64 (of_z w64 c.get_out-3.result) ≡ get_out port 8 c.args.io.now = search rules in
    let ratio : to_z w64 (of_z w64 c.get_out-4.result) ≡ get_out port 7 c.args.io.now = search rules in
    let run_state : to_z w64 (of_z w64 c.get_out-5.result) ≡ get_out port 6 c.args.io.now = search rules in
    let limit : to_z w64 (of_z w64 c.get_out-6.result) ≡ get_out port 5 c.args.io.now = search rules in
    let tacho : to_z w64 (of_z w64 c.get_out-7.result) ≡ get_out port 4 c.args.io.now = search rules in
    let block : to_z w64 (of_z w64 c.get_out-8.result) ≡ get_out port 13 c.args.io.now = search rules in
    let rotation : to_z w64 (of_z w64 c.get_out-9.result) ≡ get_out port 14 c.args.io.now = search rules in
    let told : c.number-9.new.self ≡ c.args.reply.now ++ output_state port c.args.io.now =
    rw (c.number-9.ensures, c.number-8.ensures, c.number-7.ensures, c.number-6.ensures, c.number-5.ensures, c.number-4.ensures, c.number-3.ensures, c.number-2.ensures, c.number.ensures, c.byte.ensures)
    (simp (power, mode, regulation, ratio, run_state, limit, tacho, block, rotation, append_assoc) refl) in
    told ∙ sym (ap (λ o. c.args.reply.now ++ more_of o) state)
