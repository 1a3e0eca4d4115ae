-- The number stands in the member.
use Rattle.std.proofs.Common.{w64, to_z-of_z, ap, ◌∙◌}
use Rattle.nxt_types.specs.declared.calls.Field.TheVariants.{Number}
use Rattle.nxt_space.specs.Variables.{value_of}
use Rattle.nxt_operands.proofs.Laws.Beside.{list_beside}
use Rattle.nxt_sys.proofs.Laws.Named.{member_set}
use Rattle.nxt_sys.proofs.fields.set.Goals as goal

pub set-requires : goal.set-requires
set-requires c = (c.entry_of.ensures c.args.space.now.vars Number c.requires).shape

pub returns-clause-member : goal.returns-clause-member
returns-clause-member c =
    let s = c.args.space.now.vars in
    let m = c.entry_of.ensures s Number c.requires in
    member_set s c.set.new.self.vars c.args.cluster c.args.k c.entry_of.result Number _ c.args.x m (to_z-of_z {w = w64} {z = c.args.x} c.ranges.x) c.set.ensures.value

pub returns-clause-lists : goal.returns-clause-lists
returns-clause-lists c i numbers =
    let s = c.args.space.now.vars in
    let e = c.entry_of.result in
    ap (λ v. value_of v i) c.set.ensures.value ∙ list_beside s i e _ numbers (c.entry_of.ensures s Number c.requires).shape
