-- A list's elements and a group's members are lesser shapes, which hold values too.
use Rattle.std.proofs.Common.{◌≡◌, length, take, ap, sym, subst, ◌∙◌, arith}
use Rattle.std.proofs.lemmas.Result.{on_err_weaker}
use Rattle.std.proofs.Math.Seq.{take-append_seam, take-length}
use Rattle.nxt_types.specs.Shapes.{Array, Cluster, tree}
use Rattle.nxt_types.specs.Names.{size}
use Rattle.nxt_values.specs.Regions.{HoldsThere}
use Rattle.nxt_values.specs.Ahead.{ahead}
use Rattle.nxt_values.proofs.Laws.Elements.{element_there}
use Rattle.nxt_values.proofs.Read.Gathered.{front_then, member_added, element_added, list_added}
use Rattle.nxt_values.proofs.Laws.Needs.{on_err}
use Rattle.nxt_values.proofs.reading.+gather.Goals as goal

-- ---- lists

pub gather-gather-requires : goal.gather-gather-requires
gather-gather-requires t c =
    let s = tree c.deref.result.now in
    let is : tree c.args.shape.now ≡ Array c.in-List.stride s = ap tree c.in-List.is ∙ ap (λ e. Array c.in-List.stride (tree e)) (sym c.deref.ensures) in
    let less = ap size is in
    let one = element_there c.elements_at-elements.ensures is c.requires.holds c.loop-k-test.true c.place.ensures in
    (omega (arith, less), (c.requires.pool, (one.region, (omega (arith, less, one.entry), one.holds))))

pub gather-loop-k-preserved : goal.gather-loop-k-preserved
gather-loop-k-preserved t c =
    element_added
    c.args.entries.now
    c.args.heap.now.lists
    (tree c.in-List.element.value)
    c.elements_at-elements.result
    c.loop-k.k
    c.place.result
    c.args.into.now
    c.loop-k.into
    c.gather.new.into
    c.place.ensures
    c.loop-k.invariant
    (rw c.deref.ensures at c.in_ok-gather-in-List.ensures.ok)

pub gather-returns-after-loop-k-clause-ok : goal.gather-returns-after-loop-k-clause-ok
gather-returns-after-loop-k-clause-ok t c =
    list_added
    c.loop-k.k
    c.args.into.now
    c.loop-k.into
    c.elements_at-elements.ensures
    (ap tree c.in-List.is)
    (omega arith)
    c.loop-k.invariant

pub gather-returns-in_err-gather-in-List-clause-err : goal.gather-returns-in_err-gather-in-List-clause-err
gather-returns-in_err-gather-in-List-clause-err t c =
    let old = c.args.into.now in
    let front : take (length old) c.loop-k.into ≡ old = rw c.loop-k.invariant (take-append_seam old _) in
    on_err
    c.from_residual-in_err-gather-in-List.result
    (take (length old) c.gather.new.into ≡ old)
    (front_then old c.loop-k.into c.gather.new.into front c.in_err-gather-in-List.ensures.err)

-- ---- numbers

pub gather-returns-in-Num-clause-err : goal.gather-returns-in-Num-clause-err
gather-returns-in-Num-clause-err t c =
    on_err_weaker c.push.result (λ same. rw same (take-length c.args.into.now)) c.push.ensures.err

-- ---- groups

pub gather-gather_members-requires : goal.gather-gather_members-requires
gather-gather_members-requires t c =
    let is : tree c.args.shape.now ≡ Cluster (ahead c.of.result) = ap tree c.in-Group.is ∙ c.of.ensures.shapes in
    let less = ap size is in rw c.of.ensures.first (
      omega (arith, less),
      (
        c.requires.pool,
        (
          c.requires.region,
          subst (λ s. HoldsThere c.args.entries.now c.args.heap.now.lists s c.args.at) is c.requires.holds,
        ),
      ),
    )

-- ---- members

pub gather_members-gather-requires : goal.gather_members-gather-requires
gather_members-gather-requires t c =
    let step = c.in-Some.ensures in
    let left = rw (step.shapes, ← step.here) at c.loop-shape.invariant in
    (omega (arith, left.there.less), (c.requires.pool, (left.there.region, (step.entries, left.there.holds.0))))

pub gather_members-loop-shape-preserved : goal.gather_members-loop-shape-preserved
gather_members-loop-shape-preserved t c =
    let step = c.in-Some.ensures in
    rw step.others (member_added (rw (step.shapes, ← step.here) at c.loop-shape.invariant) c.in_ok-gather.ensures.ok)
