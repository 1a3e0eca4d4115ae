-- One more array has its stride.
use Rattle.std.proofs.Common.{◌∙◌, None, get_or, add-one, arith}
use Rattle.std.proofs.lemmas.List.{length-set}
use Rattle.nxt_layout.specs.declared.reach.ArrayRows.{ArrayRows}
use Rattle.nxt_layout.proofs.Dope.Arrays.{array_at, one_more_stride}
use Rattle.nxt_layout.proofs.rows.strides_of.Goals as goal

pub index_mut-requires : goal.index_mut-requires
index_mut-requires c =
    let at = array_at 0 c.args.entries c.loop-array.array-index c.args.arrays.now (record { entry = 0; stride = 0; lists = 0; misstrided = None }) c.requires (omega arith) in
    omega (arith, at.1, c.loop-array.invariant.count)

pub loop-array-preserved : goal.loop-array-preserved
loop-array-preserved c =
    let d : ArrayRows = record { entry = 0; stride = 0; lists = 0; misstrided = None } in
    let k = c.loop-array.array-index in
    let xs = c.args.arrays.now in
    let a = get_or xs k d in
    let strides = c.loop-array.strides.items in
    record {
      count = length-set strides a.entry a.stride ∙ c.loop-array.invariant.count;
      strides = rw add-one (one_more_stride 0 c.args.entries k xs d strides c.requires (omega arith) (omega arith) c.loop-array.invariant.strides);
    }
