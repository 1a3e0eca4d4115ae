use Rattle.std.proofs.Common.{◌∙◌, ◌+◌, ◌-◌, ◌++◌, length, drop, take, map, ap}
use Rattle.std.proofs.lemmas.List.{take_rest}
use Rattle.nxt_model.specs.Nbc.Text.{blocks_in}
use Rattle.nxt_nbc_lines.specs.Seen.{line_form_seen}
use Rattle.nxt_nbc_names.specs.BlocksSeen.{block_seen}
use Rattle.nxt_nbc_names.proofs.BlockLists.{with_opened, with_none_opened}
use Rattle.nxt_nbc_names.proofs.blocks.blocks_in.Goals as goal
use Rattle.nxt_nbc_names.proofs.blocks.blocks_in.Goals.{in-Some+in_ok-push, in_default}

pub loop-i-preserved : goal.loop-i-preserved
loop-i-preserved c =
    let ls = c.args.lines.now in
    let i = c.loop-i.i in
    let l = c.index-lines-i.result in
    let found = c.loop-i.found.items in
    let left = blocks_in (map line_form_seen (drop (i + 1) ls)) in
    let behind = take (length ls - (i + 1)) (drop (i + 1) ls) in
    elim c.match-block_at.branch [
      | in-Some+in_ok-push w ↦
          ap (λ v. map block_seen v.items ++ left) w.found-is
          ∙ ap (λ bs. map block_seen bs ++ left) w.in_ok-push.ensures.items
          ∙ with_opened ls i l c.loop-i-test.true c.index-lines-i.is behind (take_rest ls (i + 1)) found c.loop-i.invariant w.in-Some.block w.in-Some.ensures
      | in_default w ↦
          ap (λ v. map block_seen v.items ++ left) w.found-is
          ∙ with_none_opened ls i l c.loop-i-test.true c.index-lines-i.is behind (take_rest ls (i + 1)) found c.loop-i.invariant w.in_default.ensures
    ]
