-- A jump leads from its own word, by its first operand.
use Rattle.std.proofs.Common.{◌≡◌, true, not, sym, ap, ◌∙◌, inl, inr, w32, w64}
use Rattle.std.proofs.Math.Facts.{to_z-of_z}
use Rattle.nxt_types.specs.Statements.{statements, landing}
use Rattle.nxt_code.specs.CodeRules.{is_jump, begins_at}
use Rattle.nxt_code.proofs.Sequence.Marks.{leads_by}
use Rattle.nxt_code.proofs.jumps.leads_nowhere.Goals as goal

pub returns-in-Jmp : goal.returns-in-Jmp
returns-in-Jmp c =
    let placed = c.args.placed.now in
    let words = c.args.words.now in
    let jump : is_jump placed.instr.op ≡ true = elim c.in-Jmp.is [ inl e ↦ ap is_jump e | inr o ↦ elim o [ inl e ↦ ap is_jump e | inr e ↦ ap is_jump e ] ] in
    let offset = to_z-of_z {w = w32} {z = c.offset.result} (record { sfits = c.offset.type_inv }) ∙ c.offset.ensures in
    let there = to_z-of_z {w = w64} {z = c.landing.result} (record { sfits = c.landing.type_inv }) ∙ c.landing.ensures ∙ ap (landing placed.word) offset in
    ap not (c.begins_at.ensures words c.requires ∙ ap (begins_at (statements words)) there) ∙ sym (leads_by words placed.word placed.instr jump)
