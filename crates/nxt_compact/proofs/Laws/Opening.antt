-- Room behind a block: all gaps close, and what stands above moves up.
use Rattle.std.proofs.Common.{◌≡◌, ℕ, ◌+◌, ◌-◌, ◌*◌, ◌<◌, ◌≤◌, inl, inr, Bool, true, false, cond, List, [], ◌∷◌, map, zero, suc, length, refl, ap, sym, ◌∙◌, arith}
use Rattle.std.specs.Prelude.{filter}
use Rattle.std.specs.List.{range_with_len}
use Rattle.std.proofs.lemmas.Bool.{cases_lt, cases_eq, lt-ltb, le-ltb, ltb-false}
use Rattle.std.proofs.lemmas.List.Sums.{sum_by-cons}
use Rattle.nxt_model.specs.Reading.{Block}
use Rattle.nxt_rows.specs.Rows.{dope_row, row_count}
use Rattle.nxt_types.specs.Pool.{round4}
use Rattle.nxt_blocks.specs.Blocks.{has_bytes, total, packed, place_after, unsettled_below}
use Rattle.nxt_blocks.proofs.Laws.Sums.{each_at, sum_le_at}
use Rattle.nxt_blocks.proofs.Laws.Packing.{packed-next, packed-total, fits}
use Rattle.nxt_blocks.proofs.Laws.Settling.{bit, moved-total}
use Rattle.nxt_blocks.proofs.Laws.Lowest.{counts}
use Rattle.nxt_compact.specs.Pools.{block_bytes, block_of, blocks_in, IsSound, IsFull, Moves, Compacts, HasRoom, slid_in}
use Rattle.nxt_compact.specs.Steps.{IsLiftable, up_from}
use Rattle.nxt_compact.proofs.Laws.Shifted.{bytes_of_table}
use Rattle.nxt_compact.proofs.Laws.InPool.{full_in, standing}
use Rattle.nxt_compact.proofs.Lifting.{up_low, up_high}
use Rattle.nxt_compact.proofs.Laws.Compacted.{moved_blocks, compacted_sound}
use Rattle.nxt_compact.proofs.Laws.Going.{then_moves, same_moves, full_before, place_moved, bytes_moved, first_full}

bit_small : (t : Bool) (n : ℕ) → 0 < n → bit t ≤ n
bit_small true n l = omega (arith, l)
bit_small false n l = omega arith

count_small : (base p : ℕ) (xs : List Block) (b : Block) → 0 < b.bytes → counts base xs p b ≤ b.bytes
count_small base p xs b some = bit_small _ b.bytes some

-- there are fewer blocks than 65,535
pub few : (old : List ℕ) (table base p : ℕ) → IsSound old table base → unsettled_below base (blocks_in old table) p < 65535
few old table base p s =
    let xs = blocks_in old table in
    let first = first_full old table base s in
    let big = bytes_of_table (dope_row old table 0) s.stride in
    let one = count_small base p xs (record { place = (dope_row old table 0).place; bytes = 1 }) (omega arith) in
    let most = sum_le_at (counts base xs p) (λ b. b.bytes) 9 xs (block_of old table 0) (λ b i. count_small base p xs b (each_at (λ c. 0 < c.bytes) xs b (standing old table base s).some i)) (full_in old table 0 first) (omega (arith, one, big, s.some)) in
    let low : base ≤ length old = omega (arith, s.above 0 first, s.within 0 first) in
    omega (arith, most, fits xs base (length old) low (standing old table base s), s.size)

-- so all blocks pack
pub all_pack : (old new : List ℕ) (table table' base settled : ℕ) → IsSound old table base → Compacts base 65535 old new table table' settled → Moves base (packed base (blocks_in old table)) old new table table'
all_pack old new table table' base settled s c =
    let xs = blocks_in old table in
    same_moves base (place_after 65535 base xs) (packed base xs) old new table table' (first_full old table base s) s.place c.moves
    (λ r f. ap (λ t. cond t (packed base xs (dope_row old table r).place) (dope_row old table r).place) (lt-ltb (unsettled_below base xs (dope_row old table r).place) 65535 (few old table base (dope_row old table r).place s)))

-- a row that has a block, and so many bytes more that the pool holds
pub record HasRoomFor (pool : List ℕ) (table base row more : ℕ) : Type 0 where
  pub sound : IsSound pool table base
  pub full : IsFull pool table row
  pub fits : base + total (blocks_in pool table) + more ≤ length pool

pub room_for : (pool : List ℕ) (table base row bytes : ℕ) → HasRoom pool table base row bytes → 0 < block_bytes (dope_row pool table row) → HasRoomFor pool table base row (round4 bytes - block_bytes (dope_row pool table row))
room_for pool table base row bytes h some =
    let first = first_full pool table base h.sound in
    record {
      sound = h.sound;
      full = record { within = h.within; some = some };
      fits = omega (arith, h.fits, fits (blocks_in pool table) base (length pool) (omega (arith, h.sound.above 0 first, h.sound.within 0 first)) (standing pool table base h.sound));
    }

pub liftable : (old mid : List ℕ) (table table' base row more above : ℕ) → HasRoomFor old table base row more → Moves base (packed base (blocks_in old table)) old mid table table' → above ≡ (dope_row mid table' row).place + block_bytes (dope_row mid table' row) → IsLiftable mid table' above more
liftable old mid table table' base row more above h m is =
    let s = h.sound in
    let xs = blocks_in old table in
    let to = packed base xs in
    let first = first_full old table base s in
    let before : (q : ℕ) → IsFull mid table' q → IsFull old table q = λ q f. full_before base to old mid table table' q s.some m f in
    let stood : (q : ℕ) → IsFull old table q → (dope_row mid table' q).place ≡ to (dope_row old table q).place = λ q f. place_moved base to old mid table table' q m f in
    let size : (q : ℕ) → q < row_count old table → block_bytes (dope_row mid table' q) ≡ block_bytes (dope_row old table q) = λ q w. bytes_moved base to old mid table table' q m w in
    let order : (a b : ℕ) → IsFull old table a → (dope_row old table a).place < (dope_row old table b).place → to (dope_row old table a).place + block_bytes (dope_row old table a) ≤ to (dope_row old table b).place
    = λ a b f l. packed-next xs base (dope_row old table b).place (block_of old table a) (full_in old table a f) l in
    let top : (q : ℕ) → IsFull old table q → to (dope_row old table q).place + block_bytes (dope_row old table q) + more ≤ length old
    = λ q f. omega (arith, packed-total xs base (block_of old table q) (full_in old table q f), h.fits) in
    let zero : (dope_row mid table' 0).place ≡ table' = stood 0 first ∙ ap to s.place ∙ sym m.told in
    record {
      size = omega (arith, m.size, s.size);
      some = omega (arith, s.some, ap (λ d. d.count) (m.rows 0 s.some));
      place = zero;
      stride = ap (λ d. d.stride) (m.rows 0 s.some) ∙ s.stride;
      gap = omega (arith, is, stood row h.full, size row h.full.within, top row h.full, m.size);
      split = λ q f.
          let g = before q f in
          elim (cases_eq q row) [
            | inl same ↦ inl (omega (arith, is, ap (λ r. (dope_row mid table' r).place + block_bytes (dope_row mid table' r)) same))
            | inr other ↦ elim (s.apart q row g h.full other) [
              | inl under ↦ inl (omega (arith, is, stood q g, stood row h.full, size q g.within, order q row g (omega (arith, under, g.some))))
              | inr over ↦ inr (omega (arith, is, stood q g, stood row h.full, size row h.full.within, order row q h.full (omega (arith, over, h.full.some))))
            ]
          ];
      room = λ q f. let g = before q f in omega (arith, stood q g, size q g.within, top q g, m.size);
      lists = λ q f above'. let g = before q f in elim (s.apart q 0 g first (λ e. omega (arith, e, above'))) [
        | inl under ↦ inl (omega (arith, stood q g, stood 0 first, zero, size q g.within, order q 0 g (omega (arith, under, g.some))))
        | inr over ↦ inr (omega (arith, stood q g, stood 0 first, zero, size 0 s.some, order 0 q first (omega (arith, over, first.some))))
      ];
    }

-- both moves together
pub opened : (old mid new : List ℕ) (table tm table' base row more above : ℕ) → HasRoomFor old table base row more → Moves base (packed base (blocks_in old table)) old mid table tm → above ≡ (dope_row mid tm row).place + block_bytes (dope_row mid tm row) → Moves base (up_from above more) mid new tm table' → Moves base (slid_in old table base row more) old new table table'
opened old mid new table tm table' base row more above h m is n =
    let s = h.sound in
    let xs = blocks_in old table in
    let to = packed base xs in
    let g = (dope_row old table row).place in
    let end : above ≡ to g + block_bytes (dope_row old table row) = is ∙ ap (λ p. p + block_bytes (dope_row mid tm row)) (place_moved base to old mid table tm row m h.full) ∙ ap (λ k. to g + k) (bytes_moved base to old mid table tm row m h.full.within) in
    then_moves base to (up_from above more) (slid_in old table base row more) old mid new table tm table' s.some (first_full old table base s) s.place m n
    (λ r f.
    let p = (dope_row old table r).place in
    elim (cases_lt g p) [
      | inl over ↦
          up_high above more (to p) (omega (arith, end, packed-next xs base p (block_of old table row) (full_in old table row h.full) over))
          ∙ ap (λ k. to p + k) (sym (ap (λ t. cond t more 0) (lt-ltb g p over)))
      | inr most ↦
          up_low above more (to p) (elim (cases_eq p g) [
            | inl same ↦ omega (arith, end, ap to same, h.full.some)
            | inr other ↦ omega (arith, end, packed-next xs base g (block_of old table r) (full_in old table r f) (omega (arith, most, other)), f.some)
          ])
          ∙ omega (arith, ap (λ t. cond t more 0) (le-ltb g p most))
    ])

-- ---- the pool once all blocks pack

pub record Packed (old mid : List ℕ) (table tm base row : ℕ) : Type 0 where
  pub moves : Moves base (packed base (blocks_in old table)) old mid table tm
  pub sound : IsSound mid tm base
  pub fits : tm + 10 * row_count mid tm ≤ length mid
  pub row_fits : tm + 10 * (row + 1) ≤ length mid
  pub size : length mid ≡ length old
  pub bytes : block_bytes (dope_row mid tm row) ≡ block_bytes (dope_row old table row)
  pub total_is : total (blocks_in mid tm) ≡ total (blocks_in old table)
  pub above : base ≤ tm

pub packs : (old mid : List ℕ) (table tm base settled row : ℕ) → IsSound old table base → row < row_count old table → Compacts base 65535 old mid table tm settled → Packed old mid table tm base row
packs old mid table tm base settled row s within c =
    let m = all_pack old mid table tm base settled s c in
    let t = compacted_sound base 65535 old mid table tm settled s c in
    let first = first_full mid tm base t in
    let rows = bytes_of_table (dope_row mid tm 0) t.stride in
    let fits : tm + 10 * row_count mid tm ≤ length mid = omega (arith, rows, t.within 0 first, t.place) in
    record {
      moves = m;
      sound = t;
      fits = fits;
      row_fits = omega (arith, fits, within, ap (λ d. d.count) (m.rows 0 s.some));
      size = m.size;
      bytes = bytes_moved base (packed base (blocks_in old table)) old mid table tm row m within;
      total_is = ap total (moved_blocks base (packed base (blocks_in old table)) old mid table tm s.some m) ∙ moved-total (packed base (blocks_in old table)) (blocks_in old table);
      above = omega (arith, t.above 0 first, t.place);
    }

-- ---- the bytes of all blocks, by rows

abbrev bytes_among : (ℕ → Block) → ℕ → ℕ → ℕ
bytes_among f a n = total (filter has_bytes (map f (range_with_len a n)))

-- with a block more, which counts if it has bytes
with_one : (b : Block) (xs : List Block) → total (filter has_bytes (b ∷ xs)) ≡ b.bytes + total (filter has_bytes xs)
with_one b xs = by (has_bytes b) refl
  where
    by : (t : Bool) → has_bytes b ≡ t → total (cond t (b ∷ filter has_bytes xs) (filter has_bytes xs)) ≡ b.bytes + total (filter has_bytes xs)
    by true e = sum_by-cons (λ c. c.bytes) b (filter has_bytes xs)
    by false e = omega (arith, ltb-false 0 b.bytes e)

one_more : (f : ℕ → Block) (n a : ℕ) → bytes_among f a (suc n) ≡ bytes_among f a n + (f (a + n)).bytes
one_more f zero a = omega (arith, with_one (f a) [], ap (λ r. (f r).bytes) (none a))
  where
    none : (a : ℕ) → a + 0 ≡ a
    none a = omega arith
one_more f (suc n) a = omega (
  arith,
  with_one (f a) (map f (range_with_len (a + 1) (suc n))),
  with_one (f a) (map f (range_with_len (a + 1) n)),
  one_more f n (a + 1),
  ap (λ r. (f r).bytes) (further a n),
)
  where
    further : (a n : ℕ) → a + 1 + n ≡ a + suc n
    further a n = omega arith

-- the bytes of the blocks of the rows before this one
abbrev pub bytes_before : List ℕ → ℕ → ℕ → ℕ
bytes_before pool table row = bytes_among (block_of pool table) 0 row

pub before_next : (pool : List ℕ) (table row : ℕ) → bytes_before pool table (row + 1) ≡ bytes_before pool table row + block_bytes (dope_row pool table row)
before_next pool table row = omega (arith, one_more (block_of pool table) row 0, ap (λ r. block_bytes (dope_row pool table r)) (none row), ap (bytes_before pool table) (next row))
  where
    none : (a : ℕ) → 0 + a ≡ a
    none a = omega arith

    next : (a : ℕ) → suc a ≡ a + 1
    next a = omega arith

before_more : (pool : List ℕ) (table row n : ℕ) → bytes_before pool table row ≤ bytes_before pool table (row + n)
before_more pool table row zero = omega (arith, ap (bytes_before pool table) (none row))
  where
    none : (a : ℕ) → a + 0 ≡ a
    none a = omega arith
before_more pool table row (suc n) = omega (arith, before_more pool table row n, before_next pool table (row + n), ap (bytes_before pool table) (further row n))
  where
    further : (a n : ℕ) → a + suc n ≡ a + n + 1
    further a n = omega arith

pub before_all : (pool : List ℕ) (table : ℕ) → bytes_before pool table (row_count pool table) ≡ total (blocks_in pool table)
unfolding blocks_in
before_all pool table = refl

-- no row passes the whole
pub before_most : (pool : List ℕ) (table row : ℕ) → row < row_count pool table → bytes_before pool table row + block_bytes (dope_row pool table row) ≤ total (blocks_in pool table)
before_most pool table row within = omega (
  arith,
  before_next pool table row,
  before_more pool table (row + 1) (row_count pool table - (row + 1)),
  ap (bytes_before pool table) (rest (row_count pool table) row within),
  before_all pool table,
)
  where
    rest : (n row : ℕ) → row < n → row + 1 + (n - (row + 1)) ≡ n
    rest n row within = omega (arith, within)
