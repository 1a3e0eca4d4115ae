use Rattle.std.proofs.Common.{◌<◌, ◌≤◌, length, sym, ap, ◌∙◌, arith}
use Rattle.std.proofs.lemmas.Bool.Decides.{nat_tests}
use Rattle.nxt_model.specs.TextProgram.{base_shape}
use Rattle.nxt_asm_parts.specs.Elements.{large_in}
use Rattle.nxt_asm_parts.specs.MeasuresSeen.{shapes_seen}
use Rattle.nxt_asm_parts.proofs.StructShapes.{found_at, missing_at}
use Rattle.nxt_asm_parts.proofs.measure.base_large.Goals as goal

pub returns-in-Some : goal.returns-in-Some
returns-in-Some c =
    let structs = c.args.structs.now in
    let i = c.in-Struct.position in
    let told = c.in-Some.ensures.lookup in
    let inside = told.0 in
    let under : i < length structs = grind (arith, nat_tests) in
    let at = found_at structs i c.in-Some.found.now c.requires under told.1 in
    ap (λ m. m.large) at.0
    ∙ ap large_in (sym at.1)
    ∙ sym (ap (λ b. large_in (base_shape (shapes_seen structs) b)) c.in-Struct.is)

pub returns-in-None : goal.returns-in-None
returns-in-None c =
    let structs = c.args.structs.now in
    let i = c.in-Struct.position in
    let outside = c.in-None.ensures.lookup.0 in
    let over : length structs ≤ i = grind (arith, nat_tests) in
    ap large_in (sym (missing_at structs i over)) ∙ sym (ap (λ b. large_in (base_shape (shapes_seen structs) b)) c.in-Struct.is)
