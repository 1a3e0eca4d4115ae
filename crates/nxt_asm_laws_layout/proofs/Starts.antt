-- The dataspace of an assembled text reads as the starting values.
use Rattle.std.proofs.Common.{◌≡◌, ◌≢◌, ℕ, ◌+◌, ◌*◌, ◌<◌, ◌≤◌, Bool, ◌&&◌, nat_lt, List, [], ◌∷◌, ◌++◌, length, refl, sym, ap, ap₂, subst, ◌∙◌, append-nil, arith, AllPairs}
use Rattle.nxt_types.specs.Shapes.{Shape, Void, Number, Array, Cluster, Mutex, Members, no_members, member, bare, bares, is_filled, are_filled}
use Rattle.nxt_rxe.specs.declared.parts.Parts.{Parts}
use Rattle.nxt_model.specs.Assembled.{all_entries, leaves_sizes, places}
use Rattle.nxt_model.specs.Spans as spans
use Rattle.nxt_model.specs.Values.{Value, group_of}
use Rattle.nxt_model.specs.Reading.{AreApart, HeldList, Memory, MembersRead, ReadsAs, blocks_of, row_count, with_row}
use Rattle.nxt_model.proofs.Laws.Values.{items-values}
use Rattle.nxt_asm_parts.specs.AssembledParts.{Valued, dope_place}
use Rattle.nxt_layout.specs.Start.{memory}
use Rattle.nxt_facts.proofs.Each.{Each, each_then}
use Rattle.nxt_facts.proofs.Pairs.{all_pairs}
use Rattle.nxt_facts.proofs.Sums.{total}
use Rattle.nxt_asm_laws_layout.proofs.Spots.{spots, spots_end}
use Rattle.nxt_asm_laws_layout.proofs.Laws.Parts.{count-bares, variables_filled}
use Rattle.nxt_asm_laws_layout.proofs.Placed.{all_sizes_total}
use Rattle.nxt_asm_laws_layout.proofs.Laws.TableKept.{outlines}
use Rattle.nxt_asm_laws_layout.proofs.Writes.{pair_filter}
use Rattle.nxt_asm_laws_layout.proofs.Laws.Dataspace.{HasData, all_written, arrays_among, bytes, dataspace_is, length-bytes, length-static, static}
use Rattle.nxt_asm_laws_layout.proofs.RowsRead.{ArraysAre}
use Rattle.nxt_asm_laws_layout.proofs.TableRead.{HasRows, has_rows}
use Rattle.nxt_asm_laws_layout.proofs.ListBlocks.{IsSized, all_sized, blocks_apart, rows_differ, table_apart}
use Rattle.nxt_asm_laws_layout.proofs.ReadBack.{held_from, parts_read, variables_read}

-- ---- shapes with strides

mutual
  filled-bare : (s : Shape) → is_filled (bare s) ≡ is_filled s
  filled-bare Void = refl
  filled-bare (Number k) = refl
  filled-bare (Array n s) = filled-bare s
  filled-bare (Cluster ss) = ap₂ (λ (n : ℕ) (b : Bool). nat_lt 0 n && b) (count-bares ss) (all_filled-bares ss)
  filled-bare Mutex = refl

  all_filled-bares : (ss : Members) → are_filled (bares ss) ≡ are_filled ss
  all_filled-bares no_members = refl
  all_filled-bares (member s ss) = ap₂ (λ (a b : Bool). a && b) (filled-bare s) (all_filled-bares ss)

-- ---- rows

dope_full : (n : ℕ) (as' : List Valued) → 0 < length as' → dope_place n as' ≡ n
dope_full n [] some = absurd (omega (arith, some))
dope_full n (a ∷ as') some = refl

module _ (p : Parts) (ss : Members) (vs : List Value) (h : HasData p ss vs) where
  abbrev pub m : Memory
  m = memory p (bares ss)

  abbrev pub arrays : List Valued
  arrays = arrays_among ss vs

  pub rows : 0 < length arrays → HasRows (bytes p ss vs h) p.header.dope_at arrays
  rows some =
      subst (λ n. HasRows (bytes p ss vs h) n arrays) (sym (h.dope ∙ dope_full p.header.static_size arrays some))
      (has_rows (bytes p ss vs h) (static p ss vs h) p.header.static_size arrays (dataspace_is p ss vs h) (length-static p ss vs h) h.small h.room some)

  -- the table's own row, and those of the arrays
  pub row_total : 0 < length arrays → row_count m ≡ length arrays + 1
  row_total some = (rows some).own.count_is

  abbrev pub first_list : ℕ
  first_list = p.header.dope_at + 10 * (length arrays + 1)

  by_rows : (r at : ℕ) (as' : List Valued) → (0 < length as' → ArraysAre m.bytes m.table (row_count m) r at as') → ArraysAre m.bytes m.table (row_count m) r at as'
  by_rows r at [] f = tt
  by_rows r at (a ∷ as') f = f (omega arith)

  pub arrays_there : ArraysAre m.bytes m.table (row_count m) 1 first_list arrays
  arrays_there =
      by_rows 1 first_list arrays (λ some. subst (λ n. ArraysAre m.bytes m.table n 1 first_list arrays) (sym (row_total some)) (rows some).arrays)

  few_by : (as' : List Valued) → (0 < length as' → 10 * (length as' + 1) ≤ 32768) → 1 + length as' ≤ 65536
  few_by [] f = omega arith
  few_by (a ∷ as') f = let few = f (omega arith) in omega (arith, few)

  pub few : 1 + length arrays ≤ 65536
  few =
      few_by arrays (λ some.
      let ends = (rows some).ends in
      let long = length-bytes p ss vs h in
      let room = h.room in omega (arith, ends, long, room))

  -- ---- what is read

  pub whole : p.toc ≡ [] ++ (all_entries ss (places (leaves_sizes ss)) ++ [])
  whole = h.table.toc ∙ sym (append-nil (all_entries ss (places (leaves_sizes ss))))

  leaves_end : Each (λ q. spans.end_of q ≤ length m.bytes) (spots (places (leaves_sizes ss)) (leaves_sizes ss))
  leaves_end =
      each_then (λ q. spans.end_of q ≤ total (λ (x : ℕ). x) (leaves_sizes ss)) (λ q. spans.end_of q ≤ length m.bytes)
      (λ q e.
      let all = all_sizes_total ss in
      let same = h.static in
      let long = length-bytes p ss vs h in omega (arith, e, all, same, long))
      (spots (places (leaves_sizes ss)) (leaves_sizes ss)) (spots_end (leaves_sizes ss))

  abbrev pub lists : List HeldList
  lists = held_from 1 arrays

  members : MembersRead m 0 ss 0 vs lists
  members =
      parts_read m ss (places (leaves_sizes ss)) 0 vs 1 first_list [] [] whole refl (variables_read ss h.table.variables) h.held (all_written p ss vs h) arrays_there leaves_end few

  blocks_by : (as' : List Valued) → (0 < length as' → row_count m ≡ length as' + 1) → ArraysAre m.bytes m.table (row_count m) 1 (p.header.dope_at + 10 * (length as' + 1)) as' → Each IsSized as'
      → AllPairs AreApart (blocks_of m (held_from 1 as'))
  blocks_by [] many h sized = all_pairs AreApart [] tt
  blocks_by (a ∷ as') many h sized =
      let at = p.header.dope_at + 10 * (length (a ∷ as') + 1) in
      let end : m.table + 10 * row_count m ≡ at = ap (λ n. m.table + 10 * n) (many (omega arith)) in
      all_pairs AreApart (blocks_of m (held_from 1 (a ∷ as')))
      (table_apart m 1 at (a ∷ as') end h sized, blocks_apart m 1 at (a ∷ as') h sized)

  -- the dataspace reads as the values
  pub reads : ReadsAs m ss (group_of vs) lists
  reads = record {
    spelled = record { entries = outlines p ss h.table; filled = sym (all_filled-bares ss) ∙ variables_filled ss h.table.variables };
    values = ap group_of (sym (items-values vs));
    variables = subst (λ ws. MembersRead m 0 ss 0 ws lists) (sym (items-values vs)) members;
    own_rows = all_pairs (λ a b. a.row ≢ b.row) (with_row lists) (pair_filter (λ a b. a.row ≢ b.row) (λ l. nat_lt 0 l.row) lists (rows_differ 1 arrays));
    apart = blocks_by arrays row_total arrays_there (all_sized ss vs h.held);
  }
