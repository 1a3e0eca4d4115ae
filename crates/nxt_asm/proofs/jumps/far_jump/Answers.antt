use Rattle.std.proofs.Common.{◌<◌, [], length, ap, ◌∙◌, subst, arith}
use Rattle.std.specs.Prelude.{slice_index_or}
use Rattle.std.proofs.lemmas.List.{take_all}
use Rattle.nxt_asm_rules.specs.AsmRules.{far_in_blocks}
use Rattle.nxt_nbc_lines.specs.Firsts.{IsLeast}
use Rattle.nxt_asm_rules.proofs.Laws.FarJumps.{blocks_more}
use Rattle.nxt_asm.proofs.jumps.far_jump.Goals as goal

pub loop-i-preserved : goal.loop-i-preserved
loop-i-preserved c = λ placed.
    let i = c.loop-i.i in
    let bs = c.args.blocks.now in
    let lt : i < length bs = omega (arith, c.loop-i-test.true) in
    blocks_more bs i c.index-blocks-i.result c.block.result.now c.as_slice.result.now c.loop-i.found c.far_in_body.result c.lesser-found.result lt c.index-blocks-i.is c.as_slice.ensures
    (c.block.ensures ∙ ap (λ l. slice_index_or l i []) placed) c.lesser-found.ensures (c.loop-i.invariant placed) c.far_in_body.ensures

pub returns : goal.returns
returns c = λ placed.
    subst (λ bs. IsLeast (λ line. far_in_blocks line 0 bs) c.loop-i.found) (take_all c.loop-i.i c.args.blocks.now c.loop-i-test.false)
    (c.loop-i.invariant placed)
