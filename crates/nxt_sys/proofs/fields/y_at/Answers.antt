-- A place's second number stands two entries behind its own entry.
use Rattle.std.proofs.Common.{ap, ◌+◌, ◌∙◌, arith, w64, to_z-of_z}
use Rattle.nxt_types.specs.declared.calls.Field.TheVariants.{Number as a_number, Place as a_place}
use Rattle.nxt_model.specs.SystemCalls.{field_number}
use Rattle.nxt_model.specs.Values.{number}
use Rattle.nxt_sys.proofs.Laws.Named.{member_value, is_place}
use Rattle.nxt_sys.proofs.fields.y_at.Goals as goal

pub overflow_add-entry_of : goal.overflow_add-entry_of
overflow_add-entry_of c =
    let s = c.args.space.now.vars in
    let m = c.entry_of.ensures s a_place c.requires in
    let p = is_place s c.args.call c.args.cluster c.args.k c.entry_of.result c.requires m in
    omega (arith, p.small)

pub returns : goal.returns
returns c =
    let s = c.args.space.now.vars in
    let i = c.entry_of.result in
    let m = c.entry_of.ensures s a_place c.requires in
    let p = is_place s c.args.call c.args.cluster c.args.k i c.requires m in
    to_z-of_z {w = w64} {z = c.get.result} (record { sfits = c.get.type_inv })
    ∙ c.get.ensures
    ∙ ap number (member_value s i 1 (i + 2) a_number p.y)
    ∙ ap (field_number 1) (member_value s c.args.cluster c.args.k i a_place m)
