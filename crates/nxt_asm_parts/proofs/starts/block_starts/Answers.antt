use Rattle.std.proofs.Common.{◌+◌, ◌<◌, length, ap, ◌∙◌, arith}
use Rattle.nxt_asm_parts.proofs.Laws.Words.{fitting_sum, starts_more, word_more}
use Rattle.nxt_asm_parts.proofs.starts.block_starts.Goals as goal

pub loop-statement-preserved : goal.loop-statement-preserved
loop-statement-preserved c =
    let here = c.args.here in
    let ss = c.args.body.now in
    let i = c.loop-statement.statement-index in
    let s = c.statement-item.result in
    let word = c.loop-statement.word in
    let lt : i < length ss = omega (arith, c.loop-statement-test.true) in
    let next = fitting_sum c.checked_add.result _ c.in_ok-word.word _ c.in_ok-word.ensures.ok_part c.checked_add.ensures ∙ ap (λ n. word + n) c.word_count.ensures in
    record {
      word = word_more here ss i s word c.in_ok-word.word lt c.statement-item.is c.loop-statement.invariant.word next;
      all = starts_more here ss i s word c.in_ok-word.word c.loop-statement.starts c.push.new.self lt c.statement-item.is c.loop-statement.invariant.word next c.loop-statement.invariant.all
          c.in_ok-push.ensures.ok;
    }
