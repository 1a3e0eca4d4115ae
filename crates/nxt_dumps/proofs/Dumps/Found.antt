-- For each layout with the right lengths there is a right dump.
use Rattle.std.proofs.Common.{◌≡◌, ◌≢◌, ℕ, ◌≤◌, List, ◌∷◌, ◌++◌, map, length, AllPairs, refl, sym, ap, ◌∙◌, subst, arith}
use Rattle.nxt_facts.proofs.Each.{Each, each_then}
use Rattle.nxt_types.specs.Pool.{round4, pool_size}
use Rattle.nxt_model.specs.Reading.{Block, HeldList, Memory, ReadsAs}
use Rattle.nxt_model.specs.Dump.{Content, Dump, Shows, EachOnce, BlocksFit, memory_of, places_of, pool_blocks, greatest_end}
use Rattle.nxt_blocks.specs.Blocks.{unsettled}
use Rattle.nxt_blocks.specs.Standing.{Stand}
use Rattle.nxt_rows.specs.Rows.{row_count}
use Rattle.nxt_compact.specs.Pools.{blocks_in, IsSound}
use Rattle.nxt_heap.specs.Dumps.{HoldHeap, IsDopeTable}
use Rattle.nxt_heap.specs.Lists.{Lists, stride_at, base_of}
use Rattle.nxt_space.specs.Inside.Kept.{rows_of}
use Rattle.nxt_space.proofs.Laws.Counted.{same_sums}
use Rattle.nxt_space.proofs.Laws.Ends.{same_end}
use Rattle.nxt_space.proofs.Laws.Held.{lists_read, their_rows}
use Rattle.nxt_space.proofs.Laws.Reads.{lists_in}
use Rattle.nxt_space.proofs.Laws.Right.{own_rows, rows_once, blocks_fit}
use Rattle.nxt_dumps.specs.Holdable.{IsHoldable, lengths_for, base_for}
use Rattle.nxt_dumps.specs.InHeap.{table_for, IsInHeap}
use Rattle.nxt_dumps.specs.Layouts.{Layout, blocks_of, lengths_of, place_of, places_in}
use Rattle.nxt_dumps.proofs.Dumps.Laid.{rows_known, laid, laid_blocks, end_within, stands_by_end, parts_are, places_are}
use Rattle.nxt_dumps.proofs.Heaps.Bytes.{AreRows, full_rows, Standing, block, standing}
use Rattle.nxt_dumps.proofs.Heaps.Holds.{sound, holds, dope_table, count_is}
use Rattle.nxt_dumps.proofs.Heaps.Made.{made}
use Rattle.nxt_dumps.proofs.Heaps.Rows.{IsWhole}

pub record Found (c : Content) (l : Layout) : Type 0 where
  pub dump : Dump
  pub lists : List HeldList
  pub shows : Shows c dump lists
  pub unsettled_is : dump.unsettled ≡ unsettled (base_for c) (blocks_of l)
  pub places_are : places_of (memory_of c dump) lists ≡ places_in l

module _ (c : Content) (l : Layout) (e : IsHoldable c) (lengths : lengths_of l ≡ lengths_for c) (stand : Stand (base_for c) pool_size (blocks_of l)) (h : Lists) (is : IsInHeap c h) where
  abbrev rows : List ℕ
  rows = rows_of (table_for c) h

  abbrev known : AreRows h rows
  known = rows_known c h e is

  abbrev place : ℕ → ℕ
  place = (laid c h l e is lengths).place

  abbrev table : ℕ
  table = l.table.place

  abbrev top : ℕ
  top = greatest_end (blocks_of l)

  small : top ≤ pool_size
  small = end_within (base_for c) (blocks_of l) stand

  abbrev own_blocks : List Block
  own_blocks = map (block h rows known table place) (0 ∷ full_rows h rows)

  same_blocks : blocks_of l ≡ own_blocks
  same_blocks = laid_blocks c h l e is lengths

  same_base : base_of h ≡ base_for c
  same_base = ap round4 is.long

  by_end : Stand (base_of h) top own_blocks
  by_end = subst (λ b. Stand b top own_blocks) (sym same_base) (subst (Stand (base_for c) top) same_blocks (stands_by_end (base_for c) (blocks_of l) stand))

  module _ (st : Standing h rows known table place top) where
    abbrev d : Dump
    d = record { table = table; rows = length h.by_row; unsettled = unsettled (base_of h) (blocks_in st.pool table); bytes = st.pool }

    abbrev m : Memory
    m = memory_of c d

    abbrev lists : List HeldList
    lists = lists_in h rows

    strides : Each (λ r. 1 ≤ stride_at h r) rows
    strides = each_then (IsWhole h) (λ r. 1 ≤ stride_at h r) (λ r w. w.some) rows known.whole

    blocks_same : pool_blocks m (length h.by_row) lists ≡ blocks_of l
    blocks_same = parts_are c.entries h rows known table place top small by_end st ∙ sym same_blocks

    holding : HoldHeap st.pool table h
    holding = holds h rows known table place top small by_end st

    dope : IsDopeTable st.pool table h
    dope = dope_table h rows known table place top small by_end st

    apart : IsSound st.pool table (base_of h)
    apart = sound h rows known table place top small by_end st

    counted : row_count st.pool table ≡ length h.by_row
    counted = count_is h rows known table place top small by_end st

    own : AllPairs (λ a b. a ≢ b) rows
    own = is.stand.held.own

    long : length st.pool ≡ greatest_end (blocks_in st.pool table)
    long =
        st.long
        ∙ ap greatest_end (sym blocks_same)
        ∙ same_end (pool_blocks m (length h.by_row) lists) (blocks_in st.pool table)
        (same_sums m st.pool (base_of h) h rows holding dope apart counted (λ r less. refl) known.first strides known.alive known.named own)

    read : ReadsAs m c.shapes c.values lists
    read = subst (λ v. ReadsAs m c.shapes v lists) is.values (lists_read (table_for c) h table st.pool is.stand holding)

    once : EachOnce (length h.by_row) (rows ++ dope.free)
    once = rows_once m st.pool (base_of h) h rows holding dope apart counted (λ r less. refl) known.first strides known.alive known.named own

    shows : Shows c d lists
    shows = record {
      reads = read;
      own_rows = own_rows m st.pool (base_of h) h rows holding dope apart counted (λ r less. refl) known.first strides known.alive known.named own;
      rows = is.rows;
      table = record {
        place = dope.place;
        stride = dope.stride;
        count = holding.rows;
        free = (dope.free, dope.links, subst (λ rs. EachOnce (length h.by_row) (rs ++ dope.free)) (sym (their_rows h rows)) once);
        backs = λ r less. dope.backs r (omega (arith, less, holding.rows));
      };
      blocks = subst (λ b. BlocksFit b (pool_blocks m (length h.by_row) lists) d) same_base
          (blocks_fit m st.pool (base_of h) h rows holding dope apart counted (λ r less. refl) known.first strides known.alive known.named own (length h.by_row) long (omega (arith, st.long, small)));
    }

    answer : Found c l
    answer = record {
      dump = d;
      lists = lists;
      shows = shows;
      unsettled_is = shows.blocks.unsettled ∙ ap (unsettled (base_for c)) blocks_same;
      places_are = places_are c.entries h rows known table place top small by_end st ∙ sym (ap (map place_of) (laid c h l e is lengths).are);
    }

pub found : (c : Content) (l : Layout) → IsHoldable c → lengths_of l ≡ lengths_for c → Stand (base_for c) pool_size (blocks_of l) → Found c l
found c l e lengths stand =
    let h = made c e in
    answer c l e lengths stand h.0 h.1
    (standing h.0 (rows c l e lengths stand h.0 h.1) (known c l e lengths stand h.0 h.1) l.table.place (place c l e lengths stand h.0 h.1) (greatest_end (blocks_of l)) (by_end c l e lengths stand h.0 h.1))
