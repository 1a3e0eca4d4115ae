-- A list's elements and a group's members are lesser shapes, which are read too.
use Rattle.std.proofs.Common.{◌≡◌, ◌+◌, ◌*◌, ◌++◌, ◌∷◌, [], OnOk, drop, map, sym, ap, subst, ◌∙◌, arith, rules, w64}
use Rattle.std.proofs.Math.Facts.{to_z-of_z}
use Rattle.std.proofs.lemmas.List.{drop_more}
use mir.Val.{SFits}
use Rattle.nxt_types.specs.Shapes.{cluster_of, tree, members}
use Rattle.nxt_types.specs.Names.{size}
use Rattle.nxt_model.specs.Values.{elements, flat}
use Rattle.nxt_model.specs.Reading.{Reads}
use Rattle.nxt_space.specs.Inside.Starts.{memory_of}
use Rattle.nxt_types.proofs.Laws.Trees.{group_tree}
use Rattle.nxt_space.proofs.Start.FlatForms.{Adds, MembersBehind, elements_begin, elements_more, members_more}
use Rattle.nxt_space.proofs.starting.+start.Goals as goal

-- ---- lists

pub add_start-loop-k-init : goal.add_start-loop-k-init
add_start-loop-k-init t c =
    let row = c.row_of-row.result in
    let fits : SFits w64 c.from.result = search rules in
    let count = to_z-of_z {w = w64} {z = c.from.result} fits ∙ c.from.ensures in
    elements_begin
    (memory_of c.args.layout.now)
    (tree c.in-List.element.value)
    (tree c.args.shape.now)
    c.args.entry
    c.args.base
    c.in-List.field-0
    c.leaf_at-place-in-List.result
    c.word_at.result
    row.place
    row.stride
    row.count
    c.args.into.now
    c.push-in-List.new.self
    (ap tree c.in-List.is)
    c.leaf_at-place-in-List.ensures.place
    c.word_at.ensures
    (record {
      none = c.row_of-row.ensures.none;
      place_is = c.row_of-row.ensures.place;
      stride_is = c.row_of-row.ensures.stride;
      count_is = c.row_of-row.ensures.count;
    })
    (c.in_ok-push-in-List.ensures.ok ∙ ap (λ n. c.args.into.now ++ n ∷ []) count)

pub add_start-loop-k-preserved : goal.add_start-loop-k-preserved
add_start-loop-k-preserved t c =
    let m = memory_of c.args.layout.now in
    let row = c.row_of-row.result in
    let s = tree c.in-List.element.value in
    let base : row.place + c.loop-k.k * row.stride ≡ c.from-in-loop-k.result + c.from-in-loop-k-2.result * c.from-in-loop-k-3.result = cc in
    let adds =
    subst
    (Adds c.loop-k.into c.add_start.new.into (Reads m (c.args.entry + 1) s))
    (sym base)
    (subst
    (λ e. Adds c.loop-k.into c.add_start.new.into (Reads m (c.args.entry + 1) (tree e)) (c.from-in-loop-k.result + c.from-in-loop-k-2.result * c.from-in-loop-k-3.result))
    c.deref.ensures
    c.in_ok-add_start-in-List.ensures)
    in
    λ v lists read.
    elements_more
    (Reads m (c.args.entry + 1) s)
    row.place
    row.stride
    row.count
    c.loop-k.k
    c.loop-k.into
    c.add_start.new.into
    (c.args.into.now ++ flat v)
    (omega arith)
    (c.loop-k.invariant v lists read)
    adds

-- ---- groups

pub add_start-add_starts-requires : goal.add_start-add_starts-requires
add_start-add_starts-requires t c =
    let l = c.as_slice.result.now in
    let is : tree c.args.shape.now ≡ cluster_of (map tree l) = group_tree c.args.shape.now c.in-Group.members.items l c.in-Group.is c.as_slice.ensures.value in
    let less = ap size is in (omega (arith, less), (omega (arith, less), c.requires.base))

pub add_start-returns-in-Group : goal.add_start-returns-in-Group
add_start-returns-in-Group t c =
    let l = c.as_slice.result.now in
    let is : tree c.args.shape.now ≡ cluster_of (map tree l) = group_tree c.args.shape.now c.in-Group.members.items l c.in-Group.is c.as_slice.ensures.value in
    λ v lists read.
    let there = subst (λ s. Reads (memory_of c.args.layout.now) c.args.entry s c.args.base v lists) is read in
    subst
    (λ zs. OnOk c.add_starts.result (c.add_starts.new.into ≡ c.args.into.now ++ zs))
    (sym (ap flat there.0))
    (c.add_starts.ensures (elements v) lists there.1)

-- ---- members

pub add_starts-loop-shape-preserved : goal.add_starts-loop-shape-preserved
add_starts-loop-shape-preserved t c =
    let m = memory_of c.args.layout.now in
    let xs = c.args.shapes.now in
    let i = c.loop-shape.shape-index in
    let x = c.shape-item.result in
    let rest = drop (i + 1) xs in
    let here : drop i xs ≡ x ∷ rest = drop_more xs i x (omega arith) ∙ ap (λ y. y ∷ rest) (sym c.shape-item.is) in
    let left =
    subst
    (λ ys. MembersBehind m (members (map tree xs)) (members (map tree ys)) c.args.entry c.loop-shape.entry c.args.base c.args.into.now c.loop-shape.into)
    here
    c.loop-shape.invariant
    in
    members_more
    m
    (members (map tree xs))
    (tree x)
    (members (map tree rest))
    c.args.entry
    c.loop-shape.entry
    (c.loop-shape.entry + c.size_of-entry.result)
    c.args.base
    c.args.into.now
    c.loop-shape.into
    c.add_start.new.into
    (ap (λ n. c.loop-shape.entry + n) c.size_of-entry.ensures)
    left
    c.in_ok-add_start.ensures
