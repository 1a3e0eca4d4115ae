-- What stays in front, what is new, and what stays behind.
use Rattle.std.proofs.Common.{rules, ◌+◌, ◌-◌, w64, to_z, of_z, min, length, take, ap, ◌∙◌, flat_map, ◌++◌}
use Rattle.std.specs.Prelude.{pos, slice_range}
use Rattle.std.proofs.Math.Facts.{to_z-of_z}
use mir.Val.{SFits}
use Rattle.nxt_model.specs.Means.Arrays.{pieces}
use Rattle.nxt_model.specs.Values.{elements, flat}
use Rattle.nxt_space.specs.Variables.{shape_of, value_of}
use Rattle.nxt_operands.specs.Operands.{given}
use Rattle.nxt_lists.proofs.Between.{overwritten_flat}
use Rattle.nxt_lists.proofs.elements.overwritten.Goals as goal

pub returns : goal.returns
returns c =
    let s = c.args.space.now.vars in
    let xs = elements (value_of s c.args.list) in
    let ys = pieces (shape_of s c.args.list) (given s c.args.new) in
    let fits : SFits w64 c.from.result = search rules in
    let long = c.length_of-length.ensures in
    overwritten_flat
    xs
    ys
    c.args.at
    c.min-from.result
    c.in_ok-count.count
    (to_z w64 (of_z w64 c.from.result))
    c.new-flat.result
    c.push.new.self
    c.push_elements.new.flat
    c.push_pieces.new.flat
    c.push_elements-2.new.flat
    (c.min-from.ensures ∙ ap (min c.args.at) long)
    (c.in_ok-count.ensures.count ∙ ap (λ n. length (take (n - c.min-from.result) ys)) long)
    (to_z-of_z fits ∙ c.from.ensures ∙ ap pos long)
    c.new-flat.ensures
    c.in_ok-push.ensures.ok
    c.in_ok-push_elements.ensures
    (c.in_ok-count.ensures.flat ∙ ap (λ n. c.push_elements.new.flat ++ flat_map flat (take (n - c.min-from.result) ys)) long)
    (c.in_ok-push_elements-2.ensures ∙ ap (λ n. c.push_pieces.new.flat ++ flat_map flat (slice_range xs (c.min-from.result + c.in_ok-count.count) n)) long)
