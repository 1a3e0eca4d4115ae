-- A list's elements and a group's members are lesser shapes, whose lists can be freed too.
use Rattle.std.proofs.Common.{◌≡◌, [], refl, ap, subst, ◌∙◌, arith}
use Rattle.nxt_types.specs.Shapes.{Cluster, tree}
use Rattle.nxt_types.specs.Names.{size}
use Rattle.nxt_values.specs.Regions.{bytes_in, HoldsThere}
use Rattle.nxt_values.specs.Ahead.{ahead}
use Rattle.nxt_values.specs.Writes.{rows_there, AreOwn}
use Rattle.nxt_values.proofs.Laws.HeldRows.{all_alive}
use Rattle.nxt_values.proofs.Laws.Members.{all_there}
use Rattle.nxt_values.proofs.Laws.Elements.{element_entry}
use Rattle.nxt_values.proofs.Free.Elements.{has_list, element_can, element_freed, list_alive, list_freed}
use Rattle.nxt_values.proofs.Free.Members.{member_can, member_freed}
use Rattle.nxt_values.proofs.writing.+free.Goals as goal

-- ---- lists

pub free_lists-free_lists-requires : goal.free_lists-free_lists-requires
free_lists-free_lists-requires t c =
    let all = c.elements_at-elements.ensures in
    let less = ap size (ap tree c.in-List.is) in
    let has = has_list all (ap tree c.in-List.is) c.requires.holds c.requires.own in
    let can = element_can has c.loop-k-test.true c.requires.pool c.loop-k.invariant c.place.ensures in
    rw
    c.deref.ensures (
      omega (arith, less),
      (
        can.pool,
        (can.there, (omega (arith, less, element_entry c.loop-k.k all c.place.ensures), (can.holds, can.own))),
      ),
    )

pub free_lists-loop-k-preserved : goal.free_lists-loop-k-preserved
free_lists-loop-k-preserved t c =
    element_freed
    (has_list c.elements_at-elements.ensures (ap tree c.in-List.is) c.requires.holds c.requires.own)
    c.loop-k-test.true
    c.requires.pool
    c.loop-k.invariant
    c.place.ensures
    (rw c.deref.ensures at c.free_lists.ensures)

pub free_lists-free_array-requires : goal.free_lists-free_array-requires
free_lists-free_array-requires t c =
    let has = has_list c.elements_at-elements.ensures (ap tree c.in-List.is) c.requires.holds c.requires.own in
    let end : c.loop-k.k ≡ c.elements_at-elements.result.count = omega arith in
    list_alive has end c.loop-k.invariant

pub free_lists-returns-after-loop-k : goal.free_lists-returns-after-loop-k
free_lists-returns-after-loop-k t c =
    let all = c.elements_at-elements.ensures in
    let has = has_list all (ap tree c.in-List.is) c.requires.holds c.requires.own in
    let end : c.loop-k.k ≡ c.elements_at-elements.result.count = omega arith in
    list_freed all (ap tree c.in-List.is) has end c.loop-k.invariant c.free_array.ensures.lists

-- ---- groups

pub free_lists-free_members-requires : goal.free_lists-free_members-requires
free_lists-free_members-requires t c =
    let is : tree c.args.shape.now ≡ Cluster (ahead c.of.result) = ap tree c.in-Group.is ∙ c.of.ensures.shapes in
    let less = ap size is in rw c.of.ensures.first (
      omega (arith, less),
      (
        c.requires.pool,
        (
          c.requires.region,
          (
            subst (λ s. HoldsThere c.args.entries.now c.args.heap.now.lists s c.args.at) is c.requires.holds,
            subst (λ s. AreOwn c.args.at.region (rows_there c.args.entries.now c.args.heap.now.lists s c.args.at)) is c.requires.own,
          ),
        ),
      ),
    )

-- ---- members

pub free_members-loop-shape-init : goal.free_members-loop-shape-init
free_members-loop-shape-init t c =
    let at = c.args.members.first in
    let h = c.args.heap.now.lists in
    record {
      there = all_there c.requires.region c.requires.holds;
      alive = all_alive c.args.entries.now h (ahead c.args.members) at.entry (bytes_in h at.region) at.base c.requires.holds;
      own = c.requires.own;
      gone = [];
      freed = refl;
      both = refl;
    }

pub free_members-free_lists-requires : goal.free_members-free_lists-requires
free_members-free_lists-requires t c =
    let step = c.in-Some.ensures in
    let left = rw (step.shapes, ← step.here) at c.loop-shape.invariant in
    let can = member_can left c.requires.pool in
    (omega (arith, left.there.less), (can.pool, (can.there, (step.entries, (can.holds, can.own)))))

pub free_members-loop-shape-preserved : goal.free_members-loop-shape-preserved
free_members-loop-shape-preserved t c =
    let step = c.in-Some.ensures in
    rw step.others (member_freed (rw (step.shapes, ← step.here) at c.loop-shape.invariant) c.requires.pool c.free_lists.ensures)
