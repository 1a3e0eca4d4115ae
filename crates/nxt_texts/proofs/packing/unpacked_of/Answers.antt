-- The numbers are added to none.
use Rattle.std.proofs.Common.{sym}
use Rattle.nxt_types.specs.Shapes.{tree}
use Rattle.nxt_space.specs.Variables.{name_of, shape_of}
use Rattle.nxt_operands.proofs.Laws.Shapes.{told}
use Rattle.nxt_texts.proofs.PackedValues.{flat_unpacked}
use Rattle.nxt_texts.proofs.packing.unpacked_of.Goals as goal

pub returns-in-Some-2 : goal.returns-in-Some-2
returns-in-Some-2 c =
    let s = c.args.space.now.vars in
    let t = tree c.in-Some.shape.now in
    flat_unpacked t (shape_of s c.args.i) c.args.bytes.now c.new-flat.result c.unpack.new.into c.in_ok-unpack.field-0 c.in-Some-2.field-0 (sym (told (name_of s c.args.i) t c.in-Some.ensures)) c.new-flat.ensures c.in-Some-2.is c.in_ok-unpack.ensures
