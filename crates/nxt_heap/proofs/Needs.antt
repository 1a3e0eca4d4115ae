-- Room for a row's block is made where it moves least.
use Rattle.std.proofs.Common.{◌≡◌, ◌≢◌, ℕ, ◌+◌, ◌*◌, ◌/◌, ◌<◌, ◌≤◌, inl, inr, false, cond, List, length, refl, ap, sym, ◌∙◌, arith}
use Rattle.std.proofs.lemmas.Bool.{false≢true, le-ltb}
use Rattle.std.proofs.lemmas.Nat.{div-add-mod'}
use Rattle.nxt_types.specs.Pool.{round4}
use Rattle.nxt_blocks.specs.Blocks.{packed}
use Rattle.nxt_blocks.proofs.Laws.Growing.{slid-order, slid_bytes}
use Rattle.nxt_blocks.proofs.Laws.Packing.{below_none, packed-next}
use Rattle.nxt_rows.specs.Rows.{dope_row, row_count, no_place}
use Rattle.nxt_compact.specs.Pools.{block_bytes, block_of, blocks_in, IsFull, Moves, Compacts, slid_in}
use Rattle.nxt_compact.specs.Steps.{moved_to}
use Rattle.nxt_compact.proofs.Laws.Going.{moved_full, place_moved}
use Rattle.nxt_compact.proofs.Laws.InPool.{full_in, standing}
use Rattle.nxt_heap.specs.Lists.{Pool}
use Rattle.nxt_heap.specs.Moves.{holds_behind, RowsStay, MovesAtNeed}
use Rattle.nxt_heap.proofs.Laws.Moves.{blocks_stay}
use Rattle.nxt_heap.specs.Inside.Pool.{row_bytes, pool_at, IsPool, IsHole, IsFit, IsRoom, BlocksMove, MakesRoom, IsListRow, Relists, AddsRow}
use Rattle.nxt_compact.proofs.Laws.Opening.{all_pack}
use Rattle.nxt_heap.specs.declared.blocks.BlockState.{BlockState}
use Rattle.nxt_heap.proofs.Dumped.{some_bytes}
use Rattle.nxt_heap.proofs.IntoHole.{hole_open, into_others}
use Rattle.nxt_heap.proofs.Rooms.{smaller_hole}
use Rattle.nxt_heap.proofs.Windows.{le-block}
use Rattle.nxt_heap.proofs.Open.{open_is, lowest_fit, behind_true, empty_behind}

-- ---- right above the static bytes

-- a block that stands there stays there where all gaps close
packed_front : (pool : List ℕ) (table base place : ℕ) → IsPool pool table base → place ≡ base → packed base (blocks_in pool table) place ≡ base
packed_front pool table base place is low = ap (packed base (blocks_in pool table)) low ∙ omega (arith, below_none (blocks_in pool table) base (standing pool table base is.sound).above)

-- and where others slide up behind a block
slid_front : (pool : List ℕ) (table base row more place : ℕ) → IsPool pool table base → IsFull pool table row → place ≡ base → slid_in pool table base row more place ≡ base
slid_front pool table base row more place is full low =
    let grown = (dope_row pool table row).place in
    omega (arith, ap (λ t. cond t more 0) (le-ltb grown place (omega (arith, is.sound.above row full, low))), packed_front pool table base place is low)

-- ---- room that is made

-- nothing moves
pub stays : (pool : List ℕ) (q : BlockState) (row bytes : ℕ) → IsPool pool q.table q.base → IsFull pool q.table row → IsRoom pool q.table q.base row (dope_row pool q.table row).place bytes → MakesRoom pool pool q q row bytes (dope_row pool q.table row).place
stays pool q row bytes p full room = record {
  behind = λ e. ((λ r f other. refl), refl);
  hole = λ place none lowest. absurd (false≢true (sym none ∙ behind_true pool q.table q.base row bytes p full room));
  order = λ r s f g one other l. l;
  front = λ r f other low. low;
}

-- a row without a block gets a hole
pub takes_hole : (pool : List ℕ) (q : BlockState) (row bytes at : ℕ) → IsPool pool q.table q.base → row < row_count pool q.table → block_bytes (dope_row pool q.table row) ≡ 0 → IsFit pool q.table q.base bytes at → MakesRoom pool pool q q row bytes at
takes_hole pool q row bytes at p within none f = record {
  behind = λ e. absurd (false≢true (sym (empty_behind pool q.table q.base row bytes p within none) ∙ e));
  hole = λ place never lowest. ((λ r g other. refl), lowest_fit pool q.table q.base bytes at place p.size f lowest);
  order = λ r s f g one other l. l;
  front = λ r f other low. low;
}

-- or stands above all others, where no hole holds it
pub settles : (old new : List ℕ) (p q : BlockState) (row bytes at settled : ℕ) → IsPool old p.table p.base → row < row_count old p.table → block_bytes (dope_row old p.table row) ≡ 0 → ((place : ℕ) → p.base ≤ place → IsHole old p.table place bytes → ⊥)
    → Compacts p.base 65535 old new p.table q.table settled → MakesRoom old new p q row bytes at
settles old new p q row bytes at settled is within none never c =
    let xs = blocks_in old p.table in
    let m : Moves p.base (packed p.base xs) old new p.table q.table = all_pack old new p.table q.table p.base settled is.sound c in
    record {
      behind = λ e. absurd (false≢true (sym (empty_behind old p.table p.base row bytes is within none) ∙ e));
      hole = λ place _ lowest. let there = open_is old p.table p.base place bytes is.size lowest.here in absurd (never place there.0 there.1);
      order = λ r s f g one other l. omega (
        arith,
        f.some,
        place_moved p.base (packed p.base xs) old new p.table q.table r m f,
        place_moved p.base (packed p.base xs) old new p.table q.table s m g,
        packed-next xs p.base (dope_row old p.table s).place (block_of old p.table r) (full_in old p.table r f) l,
      );
      front = λ r f one low. place_moved p.base (packed p.base xs) old new p.table q.table r m f ∙ packed_front old p.table p.base (dope_row old p.table r).place is low;
    }

-- a block moves into a hole
pub moves_into : (old new : List ℕ) (p q : BlockState) (row bytes at : ℕ) → IsPool old p.table p.base → IsFull old p.table row → block_bytes (dope_row old p.table row) ≤ bytes → holds_behind p.base (record { bytes = old; table = p.table }) row bytes ≡ false → IsFit old p.table p.base bytes at
    → Moves p.base (moved_to (dope_row old p.table row).place at) old new p.table q.table → MakesRoom old new p q row bytes at
moves_into old new p q row bytes at is full long never f m =
    let hole = hole_open old p.table row at (block_bytes (dope_row old p.table row)) (smaller_hole old p.table at bytes (block_bytes (dope_row old p.table row)) long f.hole) in
    let same = into_others old p.table p.base row at is full f.low f.word hole new q.table m in
    record {
      behind = λ e. absurd (false≢true (sym never ∙ e));
      hole = λ place _ lowest. ((λ r g other. same.place r other g), lowest_fit old p.table p.base bytes at place is.size f lowest);
      order = λ r s g h one other l. omega (arith, l, same.place r one g, same.place s other h);
      front = λ r g one low. same.place r one g ∙ low;
    }

-- what stands above a block moves up
pub slides : (old new : List ℕ) (p q : BlockState) (row bytes at more : ℕ) → IsPool old p.table p.base → IsFull old p.table row → holds_behind p.base (record { bytes = old; table = p.table }) row bytes ≡ false → ((place : ℕ) → p.base ≤ place → IsHole old p.table place bytes → ⊥)
    → Moves p.base (slid_in old p.table p.base row more) old new p.table q.table → MakesRoom old new p q row bytes at
slides old new p q row bytes at more is full not never m =
    let xs = blocks_in old p.table in
    let grown = (dope_row old p.table row).place in
    record {
      behind = λ e. absurd (false≢true (sym not ∙ e));
      hole = λ place _ lowest. let there = open_is old p.table p.base place bytes is.size lowest.here in absurd (never place there.0 there.1);
      order = λ r s f g one other l. omega (
        arith,
        f.some,
        place_moved p.base (slid_in old p.table p.base row more) old new p.table q.table r m f,
        place_moved p.base (slid_in old p.table p.base row more) old new p.table q.table s m g,
        slid_bytes p.base xs grown more (block_of old p.table r),
        slid-order p.base (length old) xs grown more (block_of old p.table r) (block_of old p.table s) (full_in old p.table r f) l,
      );
      front = λ r f one low. place_moved p.base (slid_in old p.table p.base row more) old new p.table q.table r m f ∙ slid_front old p.table p.base row more (dope_row old p.table r).place is full low;
    }

-- ---- once the row is written

pub then_need : (old fronts mid fronts' new : List ℕ) (p q : BlockState) (to : ℕ → ℕ) (table row bytes place : ℕ) → IsPool old p.table p.base → BlocksMove old fronts mid fronts' p q to → MakesRoom old mid p q row bytes place
    → row_count mid q.table ≤ row_count new table → IsFull new table row → (dope_row new table row).place ≡ place
    → ((r : ℕ) → r < row_count mid q.table → r ≢ row → dope_row new table r ≡ dope_row mid q.table r)
    → MovesAtNeed p.base (pool_at old p) (record { bytes = new; table = table }) row bytes
then_need old fronts mid fronts' new p q to table row bytes place is b m count full own others =
    let there : (r : ℕ) → IsFull old p.table r → IsFull mid q.table r = λ r f. moved_full p.base to old mid p.table q.table r is.sound.some b.moves f in
    let placed : (r : ℕ) → IsFull old p.table r → r ≢ row → (dope_row new table r).place ≡ (dope_row mid q.table r).place = λ r f other. ap (λ d. d.place) (others r (there r f).within other) in
    record {
      still = λ r f other. let g = there r f in record { within = omega (arith, g.within, count); some = omega (arith, g.some, ap block_bytes (others r g.within other)) };
      own = λ some. full;
      behind = λ e. let k = m.behind e in ((λ r f other. placed r f other ∙ k.0 r f other), λ some. own ∙ k.1);
      hole = λ at never lowest. let k = m.hole at never lowest in ((λ r f other. placed r f other ∙ k.0 r f other), λ some. own ∙ k.1);
      order = λ r s f g one other l. omega (arith, m.order r s f g one other l, placed r f one, placed s g other);
      front = λ r f other low. placed r f other ∙ m.front r f other low;
    }

-- a list that has bytes
pub relisted : (old fronts mid fronts' new : List ℕ) (p q : BlockState) (to : ℕ → ℕ) (row bytes place room : ℕ) → IsPool old p.table p.base → BlocksMove old fronts mid fronts' p q to → IsListRow mid q.table row bytes → 0 < bytes → MakesRoom old mid p q row room place
    → Relists mid new q.table row place (bytes / (dope_row mid q.table row).stride) (round4 bytes) → MovesAtNeed p.base (pool_at old p) (record { bytes = new; table = q.table }) row room
relisted old fronts mid fronts' new p q to row bytes place room is b l some m r =
    let count : row_count new q.table ≡ row_count mid q.table = ap (λ d. d.count) (r.others 0 (omega (arith, l.above, l.within)) (λ e. omega (arith, e, l.above))) in
    let x = dope_row mid q.table row in
    let whole : bytes / x.stride * x.stride ≡ bytes = omega (arith, div-add-mod' bytes x.stride, l.whole) in
    let long : row_bytes (dope_row new q.table row) ≡ bytes = ap row_bytes r.own ∙ whole in
    then_need old fronts mid fronts' new p q to q.table row room place is b m (omega (arith, count))
    (record { within = omega (arith, l.within, count); some = omega (arith, some, long, le-block (dope_row new q.table row)) })
    (ap (λ d. d.place) r.own) r.others

-- a list that has no bytes any more
pub no_bytes : (old new : List ℕ) (p : BlockState) (row bytes : ℕ) → IsPool old p.table p.base → 0 < row → bytes ≡ 0 → Relists old new p.table row no_place 0 0 → MovesAtNeed p.base (pool_at old p) (record { bytes = new; table = p.table }) row bytes
no_bytes old new p row bytes is above none r =
    let count : row_count new p.table ≡ row_count old p.table = ap (λ d. d.count) (r.others 0 is.sound.some (λ e. omega (arith, e, above))) in
    let placed : (s : ℕ) → IsFull old p.table s → s ≢ row → (dope_row new p.table s).place ≡ (dope_row old p.table s).place = λ s f other. ap (λ d. d.place) (r.others s f.within other) in
    record {
      still = λ s f other. record { within = omega (arith, f.within, count); some = omega (arith, f.some, ap block_bytes (r.others s f.within other)) };
      own = λ some. absurd (omega (arith, some, none));
      behind = λ e. (placed, λ some. absurd (omega (arith, some, none)));
      hole = λ at never lowest. (placed, λ some. absurd (omega (arith, some, none)));
      order = λ s t f g one other l. omega (arith, l, placed s f one, placed t g other);
      front = λ s f other low. placed s f other ∙ low;
    }

-- the table with a row more
pub row_added : (old fronts mid fronts' new : List ℕ) (p q : BlockState) (to : ℕ → ℕ) (stride room : ℕ) → IsPool old p.table p.base → BlocksMove old fronts mid fronts' p q to → MakesRoom old mid p q 0 room q.table → AddsRow mid new q.table stride
    → MovesAtNeed p.base (pool_at old p) (record { bytes = new; table = q.table }) 0 room
row_added old fronts mid fronts' new p q to stride room is b m a =
    let s = b.blocks.is_pool.sound in
    let count : row_count new q.table ≡ row_count mid q.table + 1 = ap (λ d. d.count) a.first in
    let wide : (dope_row new q.table 0).stride ≡ 10 = ap (λ d. d.stride) a.first ∙ s.stride in
    then_need old fronts mid fronts' new p q to q.table 0 room q.table is b m (omega (arith, count))
    (record { within = omega (arith, count); some = some_bytes (dope_row new q.table 0) (omega (arith, count)) (λ e. omega (arith, e, wide)) })
    (ap (λ d. d.place) a.first ∙ s.place)
    (λ r less other. a.others r (omega (arith, other)) less)

-- as many bytes as there are
pub unmoved : (pool : List ℕ) (p : BlockState) (row bytes : ℕ) → IsPool pool p.table p.base → row < row_count pool p.table → bytes ≡ block_bytes (dope_row pool p.table row) → MovesAtNeed p.base (pool_at pool p) (pool_at pool p) row bytes
unmoved pool p row bytes is within long = record {
  still = λ q full other. full;
  own = λ some. record { within = within; some = omega (arith, some, long) };
  behind = λ e. ((λ q full other. refl), λ some. refl);
  hole = λ at never lowest. (
    (λ q full other. refl),
    λ some.
        let full : IsFull pool p.table row = record { within = within; some = omega (arith, some, long) } in
        absurd (false≢true (sym never ∙ behind_true pool p.table p.base row bytes is full (record {
          above = is.sound.above row full;
          word = is.words row full;
          within = omega (arith, is.sound.within row full, long);
          others = λ q f other. elim (is.sound.apart row q full f (λ e. other (sym e))) [
            | inl l ↦ inl (omega (arith, l, long))
            | inr l ↦ inr l
          ];
          own = λ f. refl;
        }))),
  );
  order = λ q r f g one other l. l;
  front = λ q f other low. low;
}

-- ---- bytes stored once there is room

pub then_stay : (base : ℕ) (old mid new : Pool) (row bytes : ℕ) → MovesAtNeed base old mid row bytes → RowsStay mid new → MovesAtNeed base old new row bytes
then_stay base old mid new row bytes m rows =
    let stay = blocks_stay mid new rows in
    record {
      still = λ q full other. (stay q (m.still q full other)).0;
      own = λ some. (stay row (m.own some)).0;
      behind = λ e. let k = m.behind e in ((λ q full other. (stay q (m.still q full other)).1 ∙ k.0 q full other), λ some. (stay row (m.own some)).1 ∙ k.1 some);
      hole = λ at never lowest. let k = m.hole at never lowest in ((λ q full other. (stay q (m.still q full other)).1 ∙ k.0 q full other), λ some. (stay row (m.own some)).1 ∙ k.1 some);
      order = λ q r f g one other l. omega (arith, m.order q r f g one other l, (stay q (m.still q f one)).1, (stay r (m.still r g other)).1);
      front = λ q f other low. (stay q (m.still q f other)).1 ∙ m.front q f other low;
    }
