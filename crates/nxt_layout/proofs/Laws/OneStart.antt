-- A file's variables have one list of shapes, and start as one list of values.
use Rattle.std.proofs.Common.{◌≡◌, ℕ, sym, ap, subst, ◌∙◌}
use Rattle.nxt_types.specs.Shapes.{Members, bares}
use Rattle.nxt_rxe.specs.declared.parts.Parts.{Parts}
use Rattle.nxt_model.specs.Values.{Value}
use Rattle.nxt_model.specs.Reading.{Memory}
use Rattle.nxt_model.proofs.Laws.Reading.{reads_as_once}
use Rattle.nxt_table.specs.Strides.{all_with_strides}
use Rattle.nxt_table.proofs.Laws.StrideFree.{dataspace_with_strides}
use Rattle.nxt_table.proofs.Laws.OneTable.{one_table}
use Rattle.nxt_layout.specs.Start.{HasShapes, StartsAs, memory, ground, stride_of}

-- the strides change nothing in memory
pub memory_with_strides : (p : Parts) (f : ℕ → ℕ) (ss : Members) → bares ss ≡ ss → memory p (all_with_strides f 0 ss) ≡ memory p ss
memory_with_strides p f ss plain =
    ap (λ bytes. let m : Memory = record { entries = p.toc; bytes = bytes; table = p.header.dope_at } in m) (dataspace_with_strides p f ss plain)

pub one_shapes : (p : Parts) (ss ts : Members) → HasShapes p ss → HasShapes p ts → ss ≡ ts
one_shapes p ss ts a b =
    a.strides ∙ ap (λ plain. all_with_strides (stride_of (ground p plain)) 0 plain) (one_table p.toc a.plain b.plain a.shapes b.shapes) ∙ sym b.strides

pub one_start : (p : Parts) (ss ts : Members) (v w : Value) → StartsAs p ss v → StartsAs p ts w → (ss ≡ ts) × (v ≡ w)
one_start p ss ts v w a b =
    let same = one_shapes p ss ts a.shapes b.shapes in
    let reads = subst (λ qs. StartsAs p qs w) (sym same) b in
    (same, (reads_as_once (memory p ss) ss v w a.lists reads.lists a.reads reads.reads).0)
