-- The member's number.
use Rattle.std.proofs.Common.{ap, ◌∙◌, w64, to_z-of_z}
use Rattle.nxt_types.specs.declared.calls.Field.TheVariants.{Number as a_number}
use Rattle.nxt_model.specs.Values.{number}
use Rattle.nxt_sys.proofs.Laws.Named.{member_value}
use Rattle.nxt_sys.proofs.fields.number.Goals as goal

pub returns : goal.returns
returns c =
    let s = c.args.space.now.vars in
    to_z-of_z {w = w64} {z = c.get.result} (record { sfits = c.get.type_inv })
    ∙ c.get.ensures
    ∙ ap number (member_value s c.args.cluster c.args.k c.entry_of.result a_number (c.entry_of.ensures s a_number c.requires))
