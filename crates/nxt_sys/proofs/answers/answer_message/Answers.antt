-- A message and a result that are stored, or refused.
use Rattle.std.proofs.Common.{refl, ap, ◌∙◌, w64, to_z-of_z, sym}
use Rattle.std.specs.Prelude.{ℤ}
use Rattle.nxt_types.specs.declared.calls.Call.TheVariants.{ReadMessage}
use Rattle.nxt_types.specs.declared.calls.Field.TheVariants.{Text as a_text}
use Rattle.nxt_model.specs.Devices.{at_start}
use Rattle.nxt_model.specs.Values.{Num}
use Rattle.nxt_types.specs.Names.{name_among}
use Rattle.nxt_types.specs.Shapes.{is_numbers}
use Rattle.nxt_space.specs.Variables.{Variables, shape_by}
use Rattle.nxt_operands.specs.Operands.{Done}
use Rattle.nxt_operands.proofs.Laws.Leaving.{then_number}
use Rattle.nxt_sys.specs.Answers.{with_member}
use Rattle.nxt_sys.proofs.Answered.{message_done, message_refused, same_cluster}
use Rattle.nxt_sys.proofs.Keeping.{same_shapes, same_entry}
use Rattle.nxt_sys.proofs.Laws.Named.{member_some}
use Rattle.nxt_sys.proofs.answers.answer_message.Goals as goal

pub store_bytes-requires-clause-named : goal.store_bytes-requires-clause-named
store_bytes-requires-clause-named c =
    let s = c.args.space.now.vars in
    let m = c.entry_of-entry.ensures s a_text (record { group = c.requires.cluster; field = refl }) in
    member_some s c.args.cluster 3 c.entry_of-entry.result a_text c.requires.cluster.named m

pub store_bytes-requires-clause-text : goal.store_bytes-requires-clause-text
store_bytes-requires-clause-text c =
    (c.entry_of-entry.ensures c.args.space.now.vars a_text (record { group = c.requires.cluster; field = refl })).shape

pub set-requires : goal.set-requires
set-requires c =
    let s = c.args.space.now.vars in
    let stores = c.in_ok-store_bytes.ensures.stores at_start in
    record {
      group = same_cluster s c.store_bytes.new.space.vars _ ReadMessage c.args.cluster stores.1 c.recall_sound.ensures c.requires.cluster;
      field = refl;
    }

pub returns-in_err-store_bytes-clause-does : goal.returns-in_err-store_bytes-clause-does
returns-in_err-store_bytes-clause-does c =
    let m = c.entry_of-entry.ensures c.args.space.now.vars a_text (record { group = c.requires.cluster; field = refl }) in
    message_refused c.args.space.now c.store_bytes.new.space c.args.cluster c.entry_of-entry.result c.args.outcome c.args.message.now c.in_err-store_bytes.field-0.0 c.from_residual.result c.requires.cluster m c.requires.few c.from_residual.ensures.1 c.in_err-store_bytes.ensures.stores

pub returns-clause-does : goal.returns-clause-does
returns-clause-does c =
    let m = c.entry_of-entry.ensures c.args.space.now.vars a_text (record { group = c.requires.cluster; field = refl }) in
    let same = to_z-of_z {w = w64} {z = c.args.outcome} c.ranges.outcome in
    let second = c.set.ensures.member ∙ ap (λ (y : ℤ). with_member c.store_bytes.new.space.vars c.args.cluster 0 (Num y)) same in
    message_done c.args.space.now c.store_bytes.new.space c.set.new.space c.args.cluster c.entry_of-entry.result c.args.outcome c.args.message.now c.requires.cluster m c.requires.few c.in_ok-store_bytes.ensures.stores second c.set.ensures.cluster.sound

-- ---- what stays where it is

pub returns-in_err-store_bytes-clause-leaves : goal.returns-in_err-store_bytes-clause-leaves
returns-in_err-store_bytes-clause-leaves c i m =
    let old = c.args.space.now in
    let new = c.store_bytes.new.space in
    let there = c.entry_of-entry.ensures old.vars a_text (record { group = c.requires.cluster; field = refl }) in
    same_entry old new c.entry_of-entry.result i (m.name ∙ sym there.name) (same_shapes Done _ old new _ (c.store_bytes.ensures.stores at_start)) c.store_bytes.ensures.leaves

pub returns-clause-leaves : goal.returns-clause-leaves
returns-clause-leaves c i m =
    let old = c.args.space.now in
    let mid = c.store_bytes.new.space in
    let new = c.set.new.space in
    let e = c.entry_of-entry.result in
    let there = c.entry_of-entry.ensures old.vars a_text (record { group = c.requires.cluster; field = refl }) in
    let shapes = same_shapes Done _ old mid _ (c.store_bytes.ensures.stores at_start) in
    let both = then_number old mid new e c.store_bytes.ensures.leaves c.set.ensures.stays
    (λ numbers. c.set.ensures.lists e (ap (λ ss. is_numbers (shape_by (name_among ss 0 e))) shapes ∙ numbers))
    in
    same_entry old new e i (m.name ∙ sym there.name) (ap (λ (s : Variables). s.shapes) c.set.ensures.member ∙ shapes) both
