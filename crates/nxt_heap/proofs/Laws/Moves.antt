-- Blocks that stay.
use Rattle.std.proofs.Common.{◌<◌, refl, ap, ◌∙◌, arith}
use Rattle.nxt_rows.specs.Rows.{row_count}
use Rattle.nxt_compact.specs.Pools.{block_bytes}
use Rattle.nxt_heap.specs.Lists.{Pool}
use Rattle.nxt_heap.specs.Moves.{HasBlock, BlocksStay, RowsStay, NoneMoves}

-- ---- rows that stay

pub rows_same : (p : Pool) → RowsStay p p
rows_same p = record { table = refl; count = refl; rows = λ q less. refl }

pub rows_then : (a b c : Pool) → RowsStay a b → RowsStay b c → RowsStay a c
rows_then a b c s t = record {
  table = t.table ∙ s.table;
  count = t.count ∙ s.count;
  rows = λ q less. t.rows q (omega (arith, less, s.count)) ∙ s.rows q less;
}

-- ---- blocks where they do

pub blocks_stay : (a b : Pool) → RowsStay a b → BlocksStay a b
blocks_stay a b s q f = (
  record { within = omega (arith, f.within, s.count); some = omega (arith, f.some, ap block_bytes (s.rows q f.within)) },
  ap (λ d. d.place) (s.rows q f.within),
)

pub none_moves : (a b : Pool) → RowsStay a b → NoneMoves a b
none_moves a b s = record {
  table = s.table;
  blocks = λ q f.
      let less : q < row_count a.bytes a.table = omega (arith, f.within, s.count) in
      let was : HasBlock a q = record { within = less; some = omega (arith, f.some, ap block_bytes (s.rows q less)) } in
      (was, ap (λ d. d.place) (s.rows q less));
}

-- ---- blocks that do not move

pub none_same : (p : Pool) → NoneMoves p p
none_same p = record { table = refl; blocks = λ q f. (f, refl) }

pub none_then : (a b c : Pool) → NoneMoves a b → NoneMoves b c → NoneMoves a c
none_then a b c m n = record {
  table = n.table ∙ m.table;
  blocks = λ q f. let g = n.blocks q f in let h = m.blocks q g.0 in (h.0, g.1 ∙ h.1);
}
