use Rattle.std.proofs.Common.{◌<◌, ◌++◌, length, All, sym, ap, subst, ◌∙◌, arith}
use Rattle.nxt_model.specs.Assembled.{starts_from}
use Rattle.nxt_model.specs.TextProgram.{text_of}
use Rattle.nxt_asm_parts.proofs.CodeWords.{block_place, block_read, code_more, narrow_block}
use Rattle.nxt_asm_parts.proofs.code.blocks_code.Goals as goal

pub add_body-requires-clause-starts : goal.add_body-requires-clause-starts
add_body-requires-clause-starts c =
    let bs = c.args.blocks.now in
    let i = c.loop-i.i in
    let b = c.index-blocks-i.result in
    let lt : i < length bs = omega (arith, c.loop-i-test.true) in
    let place = block_place bs i b c.args.starts.now c.block-at.result.now c.word_at.result lt c.index-blocks-i.is c.requires.starts c.block-at.ensures c.word_at.ensures in
    place.1 ∙ ap (starts_from c.word_at.result) (sym c.as_slice.ensures)

pub add_body-requires-clause-fits : goal.add_body-requires-clause-fits
add_body-requires-clause-fits c =
    let t = text_of c.args.numbers.now in
    let bs = c.args.blocks.now in
    let i = c.loop-i.i in
    let b = c.index-blocks-i.result in
    let at = c.block-at.result.now in
    let w = c.word_at.result in
    let lt : i < length bs = omega (arith, c.loop-i-test.true) in
    let place = block_place bs i b c.args.starts.now at w lt c.index-blocks-i.is c.requires.starts c.block-at.ensures c.word_at.ensures in
    subst (All (λ w. w < 65536)) (sym (block_read t b at w c.as_slice.result.now place.1 c.as_slice.ensures))
    (narrow_block t bs i b w lt c.index-blocks-i.is place.0 c.requires.fits)

pub loop-i-preserved : goal.loop-i-preserved
loop-i-preserved c =
    let t = text_of c.args.numbers.now in
    let bs = c.args.blocks.now in
    let i = c.loop-i.i in
    let b = c.index-blocks-i.result in
    let at = c.block-at.result.now in
    let w = c.word_at.result in
    let lt : i < length bs = omega (arith, c.loop-i-test.true) in
    let place = block_place bs i b c.args.starts.now at w lt c.index-blocks-i.is c.requires.starts c.block-at.ensures c.word_at.ensures in
    code_more t bs i b w c.loop-i.code c.add_body.new.code lt c.index-blocks-i.is place.0 c.loop-i.invariant
    (c.in_ok-add_body.ensures ∙ ap (λ l. c.loop-i.code ++ l) (block_read t b at w c.as_slice.result.now place.1 c.as_slice.ensures))
