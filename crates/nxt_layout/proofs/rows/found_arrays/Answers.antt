-- The bytes of an array's element are those of its leaves.
use Rattle.std.proofs.Common.{option_map, slice_index, ap, ◌∙◌, subst}
use Rattle.std.proofs.lemmas.Result.{IfOk-weaker, IfErr-weaker}
use Rattle.nxt_layout.specs.declared.fault.LayoutFault.TheVariants.{RowIndex}
use Rattle.nxt_layout.specs.Inside.RowPasses.{ground_of, extent_in, first_beyond, AreTold}
use Rattle.nxt_layout.specs.Inside.Passes.{IsFound}
use Rattle.nxt_layout.proofs.Dope.Arrays.{found_below}
use Rattle.nxt_layout.proofs.rows.found_arrays.Goals as goal

pub returns-clause-told : goal.returns-clause-told
returns-clause-told c =
    let g = ground_of c.args.space.now in
    let ls = c.args.leaves.now in
    let extents = c.as_slice.result.now in
    let same = found_below g c.args.entries (slice_index extents) (extent_in ls) ls c.requires.entries
    (λ a h. ap (λ xs. slice_index xs a) c.as_slice.ensures.value ∙ c.in_ok-extents.ensures.extents a h) in
    IfOk-weaker c.arrays_of.result _ _ (λ a told. subst (λ ts. AreTold g ts a) same told) c.arrays_of.ensures.told

pub returns-clause-refused : goal.returns-clause-refused
returns-clause-refused c =
    let g = ground_of c.args.space.now in
    let ls = c.args.leaves.now in
    let extents = c.as_slice.result.now in
    let same = found_below g c.args.entries (slice_index extents) (extent_in ls) ls c.requires.entries
    (λ a h. ap (λ xs. slice_index xs a) c.as_slice.ensures.value ∙ c.in_ok-extents.ensures.extents a h) in
    IfErr-weaker c.arrays_of.result _ _ (λ f found. subst (λ ts. IsFound (option_map RowIndex (first_beyond ts)) f) same found) c.arrays_of.ensures.refused
