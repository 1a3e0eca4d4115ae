use Rattle.std.proofs.Common.{◌≡◌, ◌∙◌, [], map, ap, sym, not, true, false}
use Rattle.std.specs.Prelude.{filter}
use Rattle.nxt_model.specs.Nbc.Text.{is_main}
use Rattle.nxt_nbc_names.specs.BlocksSeen.{block_seen}
use Rattle.nxt_nbc_names.proofs.BlockLists.{with_passed, without_failed}
use Rattle.nxt_nbc_names.proofs.blocks.main_first.Goals as goal
use Rattle.nxt_nbc_names.proofs.blocks.main_first.Goals.{then-is_main+in_ok-push, else-is_main, then-not-is_main+in_ok-push-2, else-not-is_main}

pub loop-block-preserved : goal.loop-block-preserved
loop-block-preserved c =
    let bs = c.args.blocks.now in
    let i = c.loop-block.block-index in
    let b = c.block-item.result in
    let found = c.loop-block.ordered.items in
    elim c.if-is_main.branch [
      | then-is_main+in_ok-push w ↦
          ap (λ v. map block_seen v.items) w.ordered-is ∙ ap (map block_seen) w.in_ok-push.ensures.items
          ∙ with_passed is_main bs i b c.loop-block-test.true c.block-item.is [] found c.loop-block.invariant (sym c.is_main.ensures ∙ w.if-is_main.true)
      | else-is_main w ↦
          ap (λ v. map block_seen v.items) w.ordered-is
          ∙ without_failed is_main bs i b c.loop-block-test.true c.block-item.is [] found c.loop-block.invariant (sym c.is_main.ensures ∙ w.if-is_main.false)
    ]

pub loop-block-2-preserved : goal.loop-block-2-preserved
loop-block-2-preserved c =
    let bs = c.args.blocks.now in
    let i = c.loop-block-2.block-index in
    let b = c.block-item-in-loop-block-2.result in
    let found = c.loop-block-2.ordered.items in
    let main = filter is_main (map block_seen bs) in
    elim c.if-not-is_main.branch [
      | then-not-is_main+in_ok-push-2 w ↦
          let fails : not (is_main (block_seen b)) ≡ true = ap not (sym c.is_main-in-loop-block-2.ensures ∙ w.if-not-is_main.true) in
          ap (λ v. map block_seen v.items) w.ordered-is ∙ ap (map block_seen) w.in_ok-push-2.ensures.items
          ∙ with_passed (λ x. not (is_main x)) bs i b c.loop-block-2-test.true c.block-item-in-loop-block-2.is main found c.loop-block-2.invariant fails
      | else-not-is_main w ↦
          let passes : not (is_main (block_seen b)) ≡ false = ap not (sym c.is_main-in-loop-block-2.ensures ∙ w.if-not-is_main.false) in
          ap (λ v. map block_seen v.items) w.ordered-is
          ∙ without_failed (λ x. not (is_main x)) bs i b c.loop-block-2-test.true c.block-item-in-loop-block-2.is main found c.loop-block-2.invariant passes
    ]
