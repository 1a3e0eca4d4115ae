-- The rules of layout give the values at the start.
use Rattle.std.proofs.Common.{◌≡◌, ℕ, ◌+◌, ◌≤◌, ◌<◌, [], flat_map, length, refl, sym, ap, ◌∙◌, subst, arith, append-nil}
use Rattle.nxt_types.specs.Shapes.{Members}
use Rattle.nxt_rxe.specs.declared.parts.Parts.{Parts}
use Rattle.nxt_model.specs.Values.{Value, group_of, items, values}
use Rattle.nxt_model.specs.Reading.{MembersRead, ReadsAs}
use Rattle.nxt_model.proofs.Laws.Values.{items-values}
use Rattle.nxt_table.specs.declared.fault.TableFault.TheVariants.{Place}
use Rattle.nxt_layout.specs.declared.fault.LayoutFault.TheVariants.{Table}
use Rattle.nxt_table.specs.Leaves.{leaves, AreShapes}
use Rattle.nxt_layout.specs.Start.{memory, ground, stride_of, StartsAs}
use Rattle.nxt_layout.specs.Rows.{reached, reached_through}
use Rattle.nxt_table.specs.Strides.{all_with_strides}
use Rattle.nxt_layout.specs.LayoutRules.{Broken}
use Rattle.nxt_facts.proofs.Each.{Each}
use Rattle.nxt_facts.proofs.Sums.{tally, is_it}
use Rattle.nxt_layout.proofs.Start.ValueAt.{values_among, lists_among}
use Rattle.nxt_layout.proofs.Start.Leaves.{leaves_among, IsFair, AreFair, HasRoom}
use Rattle.nxt_layout.proofs.Start.Reads.{members_read}
use Rattle.nxt_layout.proofs.Dope.Counts.{is_row, arrays_among, members_tally}
use Rattle.nxt_layout.proofs.Start.OwnRows.{own_pairs, members_proper, full_lists}
use Rattle.nxt_facts.proofs.Pairs.{all_pairs}
use Rattle.nxt_layout.proofs.Start.ApartRows.{blocks_apart}
use Rattle.nxt_layout.proofs.Start.LeafOrder.{leaves_are}
use Rattle.nxt_table.proofs.Laws.StrideFree.{spells_with_strides, size_of_table, static_within}
use Rattle.nxt_layout.proofs.Laws.OneStart.{memory_with_strides}
use Rattle.nxt_layout.proofs.Start.RulesKept.{AreKept, KeepsRows, are_kept, reached_once, fair_leaves}

-- the dataspace reads, where no test of it is passed
pub reads_from : (p : Parts) (f : ℕ → ℕ) (plain : Members) → AreShapes p.toc plain → ((e : ℕ) → Broken p (Table (Place e)) → ⊥) → AreKept (ground p plain) → ReadsAs (memory p plain) (all_with_strides f 0 plain) (group_of (values_among (ground p plain) plain 0 0)) (lists_among (ground p plain) f plain 0 0)
reads_from p f plain shapes place kept =
    let g = ground p plain in
    let lists = lists_among g f plain 0 0 in
    let order : leaves p.toc plain ≡ leaves_among p.toc plain 0 [] = leaves_are p.toc plain (size_of_table p.toc plain shapes.spelled) in
    let fair : AreFair g (leaves_among p.toc plain 0 []) = subst (Each (IsFair g)) order (fair_leaves p plain shapes place kept) in
    let space : 0 + p.header.static_size ≤ length g.memory.bytes = omega (arith, static_within p plain) in
    let has : HasRoom g [] = (space, tt) in
    let reads = (members_read g f plain 0 [] fair has).0 in
    let same : (r : ℕ) → 0 < r → tally (is_row r) lists ≡ tally (is_it r) (reached g) =
    λ r some.
    ap (tally (is_row r)) (sym (append-nil lists))
    ∙ members_tally g f r plain 0 [] some fair
    ∙ ap (λ ls. tally (is_it r) (flat_map (reached_through g) (arrays_among ls))) (sym order)
    in
    let once : (r : ℕ) → 0 < r → tally (is_row r) lists ≤ 1 = λ r some. subst (λ n. n ≤ 1) (sym (same r some)) (reached_once g kept r) in
    let vs = values_among g plain 0 0 in
    let whole : vs ≡ items (values vs) = sym (items-values vs) in
    record {
      spelled = spells_with_strides p.toc f plain shapes.spelled;
      values = ap group_of whole;
      variables = subst (λ ws. MembersRead g.memory 0 (all_with_strides f 0 plain) 0 ws lists) whole reads;
      own_rows = all_pairs _ _ (own_pairs lists once);
      apart = blocks_apart g kept.apart lists (full_lists g lists same (members_proper g f plain 0 0)) once;
    }

-- where none of the rules 9 and 13 to 17 is broken, the variables start as values
pub starts : (p : Parts) (plain : Members) → AreShapes p.toc plain → ((e : ℕ) → Broken p (Table (Place e)) → ⊥) → KeepsRows p → (ss : Members) × (vars : Value) × StartsAs p ss vars
starts p plain shapes place rules =
    let g = ground p plain in
    let f = stride_of g in
    let order : leaves p.toc plain ≡ leaves_among p.toc plain 0 [] = leaves_are p.toc plain (size_of_table p.toc plain shapes.spelled) in
    let reads = reads_from p f plain shapes place (are_kept p plain shapes order rules) in
    let ss = all_with_strides f 0 plain in
    let vars = group_of (values_among g plain 0 0) in
    let lists = lists_among g f plain 0 0 in
    let start : StartsAs p ss vars = record {
      shapes = record { plain = plain; shapes = shapes; strides = refl };
      lists = lists;
      reads = subst (λ m. ReadsAs m ss vars lists) (sym (memory_with_strides p f plain shapes.strides)) reads;
    } in
    (ss, vars, start)
