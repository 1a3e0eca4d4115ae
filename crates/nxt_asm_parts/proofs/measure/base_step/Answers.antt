use Rattle.std.proofs.Common.{◌<◌, ◌≤◌, length, sym, ap, subst, ◌∙◌, arith}
use Rattle.std.proofs.lemmas.Bool.Decides.{nat_tests}
use Rattle.nxt_model.specs.TextProgram.{base_shape}
use Rattle.nxt_asm_parts.specs.MeasuresSeen.{IsStep, shapes_seen, struct_seen}
use Rattle.nxt_asm_parts.proofs.StructShapes.{found_at, missing_at}
use Rattle.nxt_asm_parts.proofs.Steps.{step_to_nothing}
use Rattle.nxt_asm_parts.proofs.measure.base_step.Goals as goal

pub returns-in-Some : goal.returns-in-Some
returns-in-Some c =
    let structs = c.args.structs.now in
    let ss = shapes_seen structs in
    let i = c.in-Struct.at in
    let found = c.in-Some.found.now in
    let told = c.in-Some.ensures.lookup in
    let inside = told.0 in
    let under : i < length structs = grind (arith, nat_tests) in
    let at = found_at structs i found c.requires under told.1 in
    let same = sym at.1 ∙ sym (ap (base_shape ss) c.in-Struct.is) in
    subst (λ s. IsStep ss c.args.position s c.step_in.result) same (c.step_in.ensures ss (struct_seen found).members at.0)

pub returns-in-None : goal.returns-in-None
returns-in-None c =
    let structs = c.args.structs.now in
    let ss = shapes_seen structs in
    let i = c.in-Struct.at in
    let outside = c.in-None.ensures.lookup.0 in
    let over : length structs ≤ i = grind (arith, nat_tests) in
    step_to_nothing ss c.args.position (base_shape ss c.args.base) c.step_nowhere.result
    (sym (missing_at structs i over) ∙ sym (ap (base_shape ss) c.in-Struct.is)) c.step_nowhere.ensures.before (c.step_nowhere.ensures.rest ss)
