use Rattle.std.proofs.Common.{◌∙◌, ap}
use Rattle.nxt_types.specs.Shapes.{has_list}
use Rattle.nxt_types.specs.Names.{size}
use Rattle.nxt_model.specs.Nbc.Types.{depth_of, shape_at, shape_in}
use Rattle.nxt_nbc_lines.specs.Seen.{type_seen}
use Rattle.nxt_nbc_names.specs.Extents.{extent_of}
use Rattle.nxt_nbc.proofs.syntax.has_large_type.Goals as goal

pub returns : goal.returns
returns c =
    let s = shape_at c.args.structs.now.structs c.args.line (type_seen c.args.of) in
    c.is_too_large.ensures (size s) (depth_of s) (has_list s) (c.extent.ensures ∙ ap (λ t. extent_of (shape_in c.args.structs.now.structs t)) c.shape.ensures)
