-- What the passes find is what the rules say.
use Rattle.std.proofs.Common.{◌≡◌, ℕ, ◌⊎◌, List, length, map, inr, sym, ap, ◌∙◌, subst, arith}
use Rattle.std.specs.Prelude.{slice_index}
use Rattle.nxt_types.specs.Refusals.{IsRefusal}
use Rattle.nxt_types.specs.Shapes.{Members}
use Rattle.nxt_types.specs.Tables.{Table}
use Rattle.nxt_rxe.specs.declared.parts.Parts.{Parts}
use Rattle.nxt_model.specs.Values.{group_of}
use Rattle.nxt_table.specs.Strides.{all_with_strides}
use Rattle.nxt_table.specs.Inside.Checks.{bytes_of_parts}
use Rattle.nxt_layout.specs.declared.fault.LayoutFault.TheVariants.{NoMemory}
use Rattle.nxt_layout.specs.Inside.RowPasses.{told, ArraysRise, HaveStrides}
use Rattle.nxt_layout.specs.Start.{ground, stride_of}
use Rattle.nxt_layout.specs.LayoutRules.{rank, Broken}
use Rattle.nxt_layout.specs.Layouts.{FileLayout}
use Rattle.nxt_layout.specs.Inside.Passes.{ground_in, arrays_in, rows_in_file}
use Rattle.nxt_layout.proofs.Start.ValueAt.{values_among}
use Rattle.nxt_layout.proofs.Dope.Arrays.{arrays_rise, count_entries}
use Rattle.nxt_table.proofs.Laws.Passes.{passed_on}
use Rattle.nxt_layout.proofs.Rules.Found.{table_answer, row_answer, pool_refused, accepted, laid_out}
use Rattle.nxt_layout.proofs.layout.check_layout.Goals as goal

pub returns-in_err-placed-clause-refused : goal.returns-in_err-placed-clause-refused
returns-in_err-placed-clause-refused c counts =
    let p = c.args.parts in
    passed_on c.from_residual.result _ (λ e. (e ≡ NoMemory) ⊎ IsRefusal (Broken p) rank e) c.from_residual.ensures.1
    (table_answer p c.in_err-placed.field-0.0 (c.in_err-placed.ensures.refused counts))

pub returns-in_err-arrays-clause-refused : goal.returns-in_err-arrays-clause-refused
returns-in_err-arrays-clause-refused c counts =
    let p = c.args.parts in
    let f = c.in_err-arrays.field-0.0 in
    passed_on c.from_residual-in_err-arrays.result f (λ e. (e ≡ NoMemory) ⊎ IsRefusal (Broken p) rank e) c.from_residual-in_err-arrays.ensures.1
    (row_answer p f c.in_ok-placed.ensures.found.kept c.in_err-arrays.ensures.refused)

pub returns-in_err-footprint-clause-refused : goal.returns-in_err-footprint-clause-refused
returns-in_err-footprint-clause-refused c counts =
    let p = c.args.parts in
    let f = c.in_err-footprint.field-0.0 in
    passed_on c.from_residual-in_err-footprint.result f (λ e. (e ≡ NoMemory) ⊎ IsRefusal (Broken p) rank e) c.from_residual-in_err-footprint.ensures.1
    (inr (pool_refused p f c.in_ok-placed.ensures.found.kept c.in_ok-arrays.ensures.kept c.in_err-footprint.ensures.refused))

pub strides_of-requires : goal.strides_of-requires
strides_of-requires c =
    let p = c.args.parts in
    subst (λ n. ArraysRise 0 n c.as_slice-2.result.now) (sym c.len.ensures)
    (subst (ArraysRise 0 (length p.toc)) (sym (c.as_slice-2.ensures.value ∙ c.in_ok-arrays.ensures.told.found)) (arrays_rise p))

pub shapes_of-requires-clause-strides : goal.shapes_of-requires-clause-strides
shapes_of-requires-clause-strides c =
    omega (
      arith,
      ap length c.as_slice-4.ensures.value,
      c.in_ok-strides.ensures.count,
      c.len.ensures,
      ap length c.as_slice-3.ensures.value,
      ap length c.in_ok-placed.ensures.found.placed,
      count_entries c.args.parts.toc,
    )

-- that of the parts, with what the passes make
abbrev layout_with : Parts → Table → List ℕ → ℕ → ℕ → FileLayout
layout_with p t bytes rows size =
    record {
      entries = t.entries;
      shapes = t.shapes;
      dataspace = bytes;
      static_size = p.header.static_size;
      dope_at = p.header.dope_at;
      rows = rows;
      footprint = size;
    }

pub returns-clause-found : goal.returns-clause-found
returns-clause-found c counts =
    let p = c.args.parts in
    let table = c.in_ok-placed.ensures.found in
    let h = table.kept in
    let rows = c.in_ok-arrays.ensures.kept in
    let pool = c.in_ok-footprint.ensures.found.1 in
    let g = ground p h.shapes in
    let strides = c.in_ok-strides.strides.items in
    let have : HaveStrides strides (map (told (ground_in p)) (arrays_in p)) =
    subst (HaveStrides strides) (c.as_slice-2.ensures.value ∙ c.in_ok-arrays.ensures.told.found) c.in_ok-strides.ensures.strides in
    let out = laid_out p h rows strides have in
    let toc : Table = record { entries = p.toc; shapes = all_with_strides (slice_index strides) 0 h.shapes } in
    let spelled : c.new.result ≡ toc =
    c.new.ensures
    ∙ ap (λ (q : Members). record { entries = p.toc; shapes = q }) (c.in_ok-shapes.ensures.shapes h.shapes h.spelled ∙ ap (λ ss. all_with_strides (slice_index ss) 0 h.shapes) c.as_slice-4.ensures.value)
    in
    record {
      accepted = accepted p h rows pool;
      shapes = all_with_strides (stride_of g) 0 h.shapes;
      vars = group_of (values_among g h.shapes 0 0);
      starts = out.0;
      layout =
          ap (λ (t : Table). layout_with p t c.in_ok-placed.field-0.bytes.items c.file_rows-file_rows.result c.in_ok-footprint.footprint) spelled
          ∙ ap (λ b. layout_with p toc b c.file_rows-file_rows.result c.in_ok-footprint.footprint) table.bytes
          ∙ ap (λ n. layout_with p toc (bytes_of_parts p) n c.in_ok-footprint.footprint) c.file_rows-file_rows.ensures
          ∙ ap (layout_with p toc (bytes_of_parts p) (rows_in_file p)) c.in_ok-footprint.ensures.found.0
          ∙ out.1;
    }
