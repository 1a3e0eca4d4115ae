use Rattle.std.proofs.Common.{sym, ◌∙◌}
use Rattle.nxt_types.specs.Shapes.{has_list}
use Rattle.nxt_types.specs.Names.{size}
use Rattle.nxt_model.specs.Nbc.Types.{depth_of, type_shapes}
use Rattle.nxt_model.specs.TextProgram.{base_shape}
use Rattle.nxt_nbc_names.specs.StructsSeen.{structs_seen}
use Rattle.nxt_nbc_names.proofs.Measures.{extent_arrays}
use Rattle.nxt_nbc_names.proofs.structs.extent_among.Goals as goal

pub returns : goal.returns
returns c =
    let s = base_shape (type_shapes (structs_seen c.args.structs.now)) c.args.shape.base in
    c.of_arrays.ensures (size s) (depth_of s) (has_list s) c.base_extent.ensures ∙ sym (extent_arrays c.args.shape.arrays s)
