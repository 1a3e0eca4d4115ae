-- The first statement with a refused operand.
use Rattle.std.proofs.Common.{◌<◌, ◌≤◌, length, refl, arith}
use Rattle.nxt_code.specs.CodeRules.{is_refused_operand}
use Rattle.nxt_code.proofs.Sequence.FirstAndLast.{pair_found, none_more, none_at_all}
use Rattle.nxt_code.proofs.operands.bad_operand.Goals as goal

pub loop-placed-init : goal.loop-placed-init
loop-placed-init c = record { known = c.new-known.ensures c.args.toc.now.shapes; none = λ v j. refl }

pub returns-in-Some : goal.returns-in-Some
returns-in-Some c =
    let xs = c.deref-placed-items.result.now in
    let l : c.loop-placed.placed-index < length xs = omega arith in
    let found = rw c.in-Some.is at c.in_ok-operand.ensures.found in
    pair_found c.args.words.now c.args.code.now c.requires (is_refused_operand c.args.toc.now.shapes c.args.clumps) xs c.loop-placed.placed-index c.deref-placed-items.ensures.value c.loop-placed.invariant.none _ l
    c.in-Some.operand found.0 found.1

pub loop-placed-preserved : goal.loop-placed-preserved
loop-placed-preserved c =
    let xs = c.deref-placed-items.result.now in
    let l : c.loop-placed.placed-index < length xs = omega arith in
    let found = rw c.in_default.is at c.in_ok-operand.ensures.found in
    record {
      known = c.in_ok-operand.ensures.known;
      none = none_more c.args.words.now c.args.code.now c.requires (is_refused_operand c.args.toc.now.shapes c.args.clumps) xs c.loop-placed.placed-index c.deref-placed-items.ensures.value c.loop-placed.invariant.none _ l
          found;
    }

pub returns : goal.returns
returns c =
    let xs = c.deref-placed-items.result.now in
    let l : length xs ≤ c.loop-placed.placed-index = omega arith in
    none_at_all c.args.words.now c.args.code.now c.requires (is_refused_operand c.args.toc.now.shapes c.args.clumps) xs c.loop-placed.placed-index c.deref-placed-items.ensures.value c.loop-placed.invariant.none l
