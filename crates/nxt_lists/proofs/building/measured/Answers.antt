-- One more source's elements.
use Rattle.std.proofs.Common.{◌+◌, arith, sym, ap, ◌∙◌, subst}
use Rattle.nxt_types.specs.Shapes.{tree}
use Rattle.nxt_values.proofs.Laws.Sizes.{CanAdd, both}
use Rattle.nxt_lists.proofs.Sources.{AreSources, measured_more}
use Rattle.nxt_lists.proofs.building.measured.Goals as goal

pub size_of_many-requires : goal.size_of_many-requires
size_of_many-requires c =
    let s = c.args.space.now.vars in
    let are : AreSources s c.args.dest c.args.sources.now = record { sound = c.requires.sound; of_list = c.requires.of_list; named = c.requires.sources; fit = c.requires.fit } in
    let same = c.element_of-element.ensures in
    let more = measured_more s c.args.dest c.args.sources.now c.loop-source.source-index 0 (tree c.element_of-element.result.now) c.loop-source.count c.in_ok-more.more c.loop-source.size c.new-flat.result c.as_slice.result.now are c.requires.dest same c.loop-source-test.true c.requires.few c.loop-source.invariant.count c.loop-source.invariant.size c.new-flat.ensures c.in_ok-more.ensures.count (c.as_slice.ensures ∙ c.in_ok-more.ensures.flat) in
    more.countable

pub plus-size-requires-clause-lists : goal.plus-size-requires-clause-lists
plus-size-requires-clause-lists c =
    let s = c.args.space.now.vars in
    let are : AreSources s c.args.dest c.args.sources.now = record { sound = c.requires.sound; of_list = c.requires.of_list; named = c.requires.sources; fit = c.requires.fit } in
    let same = c.element_of-element.ensures in
    let more = measured_more s c.args.dest c.args.sources.now c.loop-source.source-index 0 (tree c.element_of-element.result.now) c.loop-source.count c.in_ok-more.more c.loop-source.size c.new-flat.result c.as_slice.result.now are c.requires.dest same c.loop-source-test.true c.requires.few c.loop-source.invariant.count c.loop-source.invariant.size c.new-flat.ensures c.in_ok-more.ensures.count (c.as_slice.ensures ∙ c.in_ok-more.ensures.flat) in
    (subst (CanAdd c.loop-source.size) (sym c.size_of_many.ensures) more.adds).lists

pub plus-size-requires-clause-bytes : goal.plus-size-requires-clause-bytes
plus-size-requires-clause-bytes c =
    let s = c.args.space.now.vars in
    let are : AreSources s c.args.dest c.args.sources.now = record { sound = c.requires.sound; of_list = c.requires.of_list; named = c.requires.sources; fit = c.requires.fit } in
    let same = c.element_of-element.ensures in
    let more = measured_more s c.args.dest c.args.sources.now c.loop-source.source-index 0 (tree c.element_of-element.result.now) c.loop-source.count c.in_ok-more.more c.loop-source.size c.new-flat.result c.as_slice.result.now are c.requires.dest same c.loop-source-test.true c.requires.few c.loop-source.invariant.count c.loop-source.invariant.size c.new-flat.ensures c.in_ok-more.ensures.count (c.as_slice.ensures ∙ c.in_ok-more.ensures.flat) in
    (subst (CanAdd c.loop-source.size) (sym c.size_of_many.ensures) more.adds).bytes

pub overflow_add-count : goal.overflow_add-count
overflow_add-count c =
    let s = c.args.space.now.vars in
    let are : AreSources s c.args.dest c.args.sources.now = record { sound = c.requires.sound; of_list = c.requires.of_list; named = c.requires.sources; fit = c.requires.fit } in
    let same = c.element_of-element.ensures in
    let more = measured_more s c.args.dest c.args.sources.now c.loop-source.source-index 0 (tree c.element_of-element.result.now) c.loop-source.count c.in_ok-more.more c.loop-source.size c.new-flat.result c.as_slice.result.now are c.requires.dest same c.loop-source-test.true c.requires.few c.loop-source.invariant.count c.loop-source.invariant.size c.new-flat.ensures c.in_ok-more.ensures.count (c.as_slice.ensures ∙ c.in_ok-more.ensures.flat) in
    let fits = more.fits in
    omega (arith, fits, c.from-count.ensures)

pub loop-source-preserved : goal.loop-source-preserved
loop-source-preserved c =
    let s = c.args.space.now.vars in
    let are : AreSources s c.args.dest c.args.sources.now = record { sound = c.requires.sound; of_list = c.requires.of_list; named = c.requires.sources; fit = c.requires.fit } in
    let same = c.element_of-element.ensures in
    let more = measured_more s c.args.dest c.args.sources.now c.loop-source.source-index 0 (tree c.element_of-element.result.now) c.loop-source.count c.in_ok-more.more c.loop-source.size c.new-flat.result c.as_slice.result.now are c.requires.dest same c.loop-source-test.true c.requires.few c.loop-source.invariant.count c.loop-source.invariant.size c.new-flat.ensures c.in_ok-more.ensures.count (c.as_slice.ensures ∙ c.in_ok-more.ensures.flat) in
    record {
      count = ap (λ n. c.loop-source.count + n) c.from-count.ensures ∙ more.counted;
      size = c.plus-size.ensures ∙ ap (both c.loop-source.size) c.size_of_many.ensures ∙ more.sized;
    }
