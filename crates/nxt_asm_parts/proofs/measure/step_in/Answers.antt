use Rattle.std.proofs.Common.{◌<◌, ◌≤◌, length, take, refl, arith}
use Rattle.std.proofs.lemmas.Bool.Decides.{nat_tests}
use Rattle.nxt_asm_parts.proofs.Steps.{step_past, step_to_member}
use Rattle.nxt_asm_parts.proofs.measure.step_in.Goals as goal

pub returns-in-Some : goal.returns-in-Some
returns-in-Some c = λ ss types is.
    let told = c.in-Some.ensures.lookup in
    let inside = told.0 in
    let under : c.args.position < length c.as_slice.result.now = grind (arith, nat_tests) in
    step_to_member ss (take c.args.behind ss) (record { members = types }) c.args.position c.args.found.now c.as_slice.result.now c.in-Some.member.now _
    is c.as_slice.ensures under told.1 refl (c.among_first.ensures ss)

pub returns-in-None : goal.returns-in-None
returns-in-None c = λ ss types is.
    let outside = c.in-None.ensures.lookup.0 in
    let over : length c.as_slice.result.now ≤ c.args.position = grind (arith, nat_tests) in
    step_past ss (take c.args.behind ss) (record { members = types }) c.args.position c.args.found.now c.as_slice.result.now _
    is c.as_slice.ensures over refl (c.without_members.ensures ss)
