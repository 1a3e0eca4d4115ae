-- So many elements stand behind their number.
use Rattle.std.proofs.Common.{rules, w64, to_z, of_z, sym, ap, ◌∙◌}
use Rattle.std.specs.Prelude.{pos, slice_range}
use Rattle.std.proofs.Math.Facts.{to_z-of_z}
use mir.Val.{SFits}
use Rattle.nxt_model.specs.Values.{elements}
use Rattle.nxt_space.specs.Variables.{value_of}
use Rattle.nxt_lists.proofs.Between.{behind_count, length-between}
use Rattle.nxt_lists.proofs.elements.list_between.Goals as goal

pub returns : goal.returns
returns c =
    let xs = elements (value_of c.args.space.now.vars c.args.list) in
    let fits : SFits w64 c.from.result = search rules in
    behind_count
    (slice_range xs c.args.from c.args.to)
    (to_z w64 (of_z w64 c.from.result))
    c.new-flat.result
    c.push.new.self
    c.push_elements.new.flat
    (to_z-of_z fits ∙ c.from.ensures ∙ ap pos (sym (length-between xs c.args.from c.args.to c.requires.within)))
    c.new-flat.ensures
    c.in_ok-push.ensures.ok
    c.in_ok-push_elements.ensures
