use Rattle.std.proofs.Common.{◌<◌, ◌≤◌, length, ap, refl, ◌∙◌, arith}
use Rattle.std.proofs.lemmas.Bool.Decides.{nat_tests}
use Rattle.std.proofs.lemmas.List.{length-map}
use Rattle.nxt_types.specs.OperandRules.{is_group}
use Rattle.nxt_nbc_names.specs.StructsSeen.{struct_seen, structs_seen}
use Rattle.nxt_nbc_kinds.proofs.StructsAt.{shape_past, struct_at}
use Rattle.nxt_nbc_kinds.proofs.TypeTests.{no_struct, struct_shape}
use Rattle.nxt_nbc_kinds.proofs.types.parts.Goals as goal

pub returns-in_default : goal.returns-in_default
returns-in_default c = no_struct (structs_seen c.args.structs.now) c.args.shape c.in_default.ensures

pub returns-in-Some-get : goal.returns-in-Some-get
returns-in-Some-get c =
    let structs = c.args.structs.now in
    let i = c.in-Some.position in
    let told = c.in-Some-get.ensures.lookup in
    let inside = told.0 in
    let under : i < length structs = grind (arith, nat_tests) in
    struct_shape (structs_seen structs) c.args.shape i c.in-Some.ensures
    ∙ struct_at structs i c.in-Some-get.found.now _ c.as_slice.result.now under told.1 refl c.as_slice.ensures

pub returns-in-None : goal.returns-in-None
returns-in-None c =
    let structs = c.args.structs.now in
    let i = c.in-Some.position in
    let outside = c.in-None.ensures.lookup.0 in
    let same = length-map structs struct_seen in
    let over : length (structs_seen structs) ≤ i = grind (arith, nat_tests) in
    ap is_group (struct_shape (structs_seen structs) c.args.shape i c.in-Some.ensures ∙ shape_past (structs_seen structs) i over)
