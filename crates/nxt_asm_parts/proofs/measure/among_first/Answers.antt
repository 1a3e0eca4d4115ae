use Rattle.std.proofs.Common.{take, sym, ap, ◌∙◌}
use Rattle.nxt_model.specs.Assembled.{entries_before}
use Rattle.nxt_model.specs.TextProgram.{arrays_of, base_shape}
use Rattle.nxt_asm_parts.proofs.Steps.{past_first}
use Rattle.nxt_asm_parts.proofs.measure.among_first.Goals as goal

pub returns-else-position-first : goal.returns-else-position-first
returns-else-position-first c = λ ss ks.
    let of = c.args.of in
    let first = c.args.first in
    c.without_members.ensures ss ks
    ∙ sym (past_first ss first c.in-Struct.position of.arrays ks c.if-position-first.false)
    ∙ sym (ap (λ b. entries_before ks (arrays_of of.arrays (base_shape (take first ss) b))) c.in-Struct.is)
