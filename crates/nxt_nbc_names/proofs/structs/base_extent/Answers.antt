use Rattle.std.proofs.Common.{◌<◌, ◌≤◌, length, sym, ap, ◌∙◌, arith}
use Rattle.std.proofs.lemmas.Bool.Decides.{nat_tests}
use Rattle.nxt_model.specs.Nbc.Types.{type_shapes}
use Rattle.nxt_model.specs.TextProgram.{base_shape}
use Rattle.nxt_nbc_names.specs.Extents.{extent_of}
use Rattle.nxt_nbc_names.specs.StructsSeen.{structs_seen}
use Rattle.nxt_nbc_names.proofs.StructLists.{measured_at, missing_at}
use Rattle.nxt_nbc_names.proofs.structs.base_extent.Goals as goal

pub returns-in-Some : goal.returns-in-Some
returns-in-Some c =
    let structs = c.args.structs.now in
    let told = c.in-Some.ensures.lookup in
    let inside = told.0 in
    let under : c.in-Struct.position < length structs = grind (arith, nat_tests) in
    measured_at structs c.in-Struct.position c.requires c.in-Some.found.now under told.1
    ∙ sym (ap (λ b. extent_of (base_shape (type_shapes (structs_seen structs)) b)) c.in-Struct.is)

pub returns-in-None : goal.returns-in-None
returns-in-None c =
    let structs = c.args.structs.now in
    let outside = c.in-None.ensures.lookup.0 in
    let over : length structs ≤ c.in-Struct.position = grind (arith, nat_tests) in
    c.of_leaf-in-None.ensures
    ∙ ap extent_of (sym (missing_at structs c.in-Struct.position c.requires over))
    ∙ sym (ap (λ b. extent_of (base_shape (type_shapes (structs_seen structs)) b)) c.in-Struct.is)
