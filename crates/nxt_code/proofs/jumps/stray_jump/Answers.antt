-- The first jump that leads nowhere.
use Rattle.std.proofs.Common.{◌<◌, ◌≤◌, length, sym, ◌∙◌, arith}
use Rattle.nxt_code.specs.CodeRules.{leads_nowhere}
use Rattle.nxt_code.proofs.Sequence.FirstAndLast.{found_at, found_nowhere}
use Rattle.nxt_code.proofs.jumps.stray_jump.Goals as goal

pub returns-then-leads_nowhere : goal.returns-then-leads_nowhere
returns-then-leads_nowhere c =
    let xs = c.deref-placed-items.result.now in
    let l : c.loop-placed.placed-index < length xs = omega arith in
    found_at c.args.words.now c.args.code.now c.requires (leads_nowhere c.args.words.now) xs c.loop-placed.placed-index c.deref-placed-items.ensures.value c.loop-placed.invariant _ l
    (sym c.leads_nowhere.ensures ∙ c.if-leads_nowhere.true)

pub returns : goal.returns
returns c =
    let xs = c.deref-placed-items.result.now in
    let l : length xs ≤ c.loop-placed.placed-index = omega arith in
    found_nowhere c.args.words.now c.args.code.now c.requires (leads_nowhere c.args.words.now) xs c.loop-placed.placed-index c.deref-placed-items.ensures.value c.loop-placed.invariant l
