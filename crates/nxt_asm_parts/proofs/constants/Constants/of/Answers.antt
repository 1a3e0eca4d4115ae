use Rattle.std.proofs.Common.{List, bytes_eq, flat_map, take, sym, ap, ◌∙◌}
use Rattle.std.specs.Ordering.{int_eq}
use Rattle.std.proofs.lemmas.Cmp.{int_eq_equiv, lists_equiv, nat_eq_equiv}
use Rattle.std.proofs.lemmas.List.{take_all}
use Rattle.nxt_model.specs.declared.nbc.NbcArg.{NbcArg}
use Rattle.nxt_model.specs.declared.nbc.NbcBlock.{NbcBlock}
use Rattle.nxt_model.specs.TextProgram.{distinct, numbers_in, texts_in}
use Rattle.nxt_asm_parts.proofs.Distinct.{all_distinct}
use Rattle.nxt_asm_parts.proofs.constants.Constants.of.Goals as goal

abbrev args_of : List NbcBlock → List NbcArg
args_of bs = flat_map (λ b. flat_map (λ s. s.args) b.body) bs

pub returns-clause-numbers : goal.returns-clause-numbers
returns-clause-numbers c =
    λ p is.
    let i = c.loop-block.block-index in
    let whole = take_all i c.args.blocks.now c.loop-block-test.false ∙ sym is in
    ap (λ k. k.numbers) c.loop-block.invariant
    ∙ all_distinct int_eq int_eq_equiv (flat_map numbers_in (args_of (take i c.args.blocks.now)))
    ∙ ap (λ bs. distinct int_eq (flat_map numbers_in (args_of bs))) whole

pub returns-clause-texts : goal.returns-clause-texts
returns-clause-texts c =
    λ p is.
    let i = c.loop-block.block-index in
    let whole = take_all i c.args.blocks.now c.loop-block-test.false ∙ sym is in
    ap (λ k. k.texts) c.loop-block.invariant
    ∙ all_distinct bytes_eq (lists_equiv nat_eq_equiv) (flat_map texts_in (args_of (take i c.args.blocks.now)))
    ∙ ap (λ bs. distinct bytes_eq (flat_map texts_in (args_of bs))) whole
