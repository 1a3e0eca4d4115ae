use Rattle.std.proofs.Common.{◌≡◌, ◌≤◌, ◌+◌, ◌-◌, ◌==◌, if◌then◌else◌, sym, ◌∙◌, refl, ap, arith, rules, take, drop, get_or, length, Some, None, true}
use Rattle.nxt_types.specs.Opcodes.{arity, takes, several}
use Rattle.nxt_types.specs.Statements.{statement, sized_form}
use Rattle.nxt_types.specs.declared.kind.Cmp.TheVariants.{Lt}
use Rattle.nxt_instr.specs.Decoded.{open_ended, placed}
use Rattle.nxt_instr.proofs.Placing.{placed_sized, split_first}
use Rattle.nxt_instr.proofs.decoding.sized_form.Goals as goal

pub returns : goal.returns
returns c =
    let op = c.args.op in
    let at = c.args.at in
    let words = c.args.rest.now in
    let others = take (length words - 1) (drop 1 words) in
    let n = c.saturating_sub-count.result in
    let yes : c.takes.result ≡ true = search rules in
    let number : takes (arity op) n ≡ true =
    ap (takes (arity op)) (sym c.from.ensures) ∙ ap (λ a. takes a c.from.result) (sym c.arity.ensures.value) ∙ sym c.takes.ensures ∙ yes in
    let within : n ≤ length others = omega arith in
    let found = placed_sized op c.args.size (get_or words 0 0) n at others c.if-size-ne14.false c.if-bytes-ne0.false c.saturating_sub-count.ensures number within in
    ap (λ i. Some (i, 2 + c.from-4.result)) (c.open_ended.ensures at refl)
    ∙ ap (λ k. Some (open_ended at (statement op Lt (take k others)), 2 + c.from-4.result)) c.from-3.ensures
    ∙ ap (λ k. Some (open_ended at (statement op Lt (take n others)), 2 + k)) c.from-4.ensures
    ∙ sym found
    ∙ ap (λ ws. placed several at (if c.args.size == 14 then sized_form op ws else None)) (split_first words c.in-len1-up.len_at_least)
