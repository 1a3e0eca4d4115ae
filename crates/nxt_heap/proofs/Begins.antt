-- Where blocks begin, word by word.
use Rattle.std.proofs.Common.{◌≡◌, ◌≢◌, ℕ, ◌+◌, ◌*◌, ◌/◌, ◌%◌, ◌<◌, ◌≤◌, inl, inr, List, length, set, slice_index, refl, ap, sym, subst, ◌∙◌, arith, length-set}
use Rattle.std.proofs.lemmas.Bool.{cases_lt, cases_eq}
use Rattle.std.proofs.lemmas.Grind.{get_or-set_at}
use Rattle.std.proofs.lemmas.List.{get_or-set_other}
use Rattle.nxt_types.specs.Pool.{pool_size}
use Rattle.nxt_rows.specs.Rows.{dope_row, row_count}
use Rattle.nxt_rows.specs.declared.DopeRow.{DopeRow}
use Rattle.nxt_compact.specs.Pools.{block_bytes, IsFull}
use Rattle.nxt_compact.proofs.Laws.Going.{first_full}
use Rattle.nxt_compact.proofs.Laws.Shifted.{bytes_of_table}
use Rattle.nxt_heap.specs.Inside.Pool.{IsPool, AreFronts, AreOtherFronts, AreFrontsBefore, IsFrontIn, IsEndBelow, IsHole, IsClean, IsFit, words, no_row}

-- ---- words

-- a block begins in the pool, at its word
pub record Begins (pool : List ℕ) (table r : ℕ) : Type 0 where
  pub inside : (dope_row pool table r).place / 4 < words
  pub word : 4 * ((dope_row pool table r).place / 4) ≡ (dope_row pool table r).place

pub begins : (pool : List ℕ) (table base r : ℕ) → IsPool pool table base → IsFull pool table r → Begins pool table r
begins pool table base r p f = record {
  inside = omega (arith, p.sound.within r f, f.some, p.size);
  word = omega (arith, p.words r f);
}

-- no two blocks begin at one word
pub one_there : (pool : List ℕ) (table base q r : ℕ) → IsPool pool table base → IsFull pool table q → IsFull pool table r → q ≢ r → (dope_row pool table q).place / 4 ≢ (dope_row pool table r).place / 4
one_there pool table base q r p f g other same =
    let b = begins pool table base q p f in
    let c = begins pool table base r p g in
    elim (p.sound.apart q r f g other) [
      | inl l ↦ omega (arith, l, same, b.word, c.word, f.some)
      | inr l ↦ omega (arith, l, same, b.word, c.word, g.some)
    ]

pub rows_small : (pool : List ℕ) (table base r : ℕ) → IsPool pool table base → r < row_count pool table → r < no_row
rows_small pool table base r p within =
    omega (arith, within, bytes_of_table (dope_row pool table 0) p.sound.stride, p.sound.within 0 (first_full pool table base p.sound), p.size)

pub table_inside : (pool : List ℕ) (table base : ℕ) → IsPool pool table base → table + 10 * row_count pool table ≤ length pool
table_inside pool table base p =
    omega (arith, bytes_of_table (dope_row pool table 0) p.sound.stride, p.sound.within 0 (first_full pool table base p.sound), p.sound.place)

-- ---- all fronts, row by row

pub noted_none : (pool : List ℕ) (table : ℕ) (fronts : List ℕ) → length fronts ≡ words → ((w : ℕ) → w < words → slice_index fronts w ≡ no_row) → AreFrontsBefore pool table 0 fronts
noted_none pool table fronts size none = record {
  size = size;
  told = λ r less f. absurd (omega (arith, less));
  real = λ w less some. absurd (some (none w less));
}

pub noted_more : (pool : List ℕ) (table base row : ℕ) (fronts : List ℕ) → IsPool pool table base → IsFull pool table row → AreFrontsBefore pool table row fronts → AreFrontsBefore pool table (row + 1) (set fronts ((dope_row pool table row).place / 4) row)
noted_more pool table base row fronts p full n =
    let at = (dope_row pool table row).place / 4 in
    let here = begins pool table base row p full in
    record {
      size = length-set fronts at row ∙ n.size;
      told = λ r less f. elim (cases_eq r row) [
        | inl same ↦ get_or-set_at fronts at ((dope_row pool table r).place / 4) row 0 (ap (λ q. (dope_row pool table q).place / 4) same) (omega (arith, here.inside, n.size)) ∙ sym same
        | inr other ↦ get_or-set_other fronts at ((dope_row pool table r).place / 4) row 0 (one_there pool table base r row p f full other) ∙ n.told r (omega (arith, less, other)) f
      ];
      real = λ w less some. elim (cases_eq w at) [
        | inl same ↦
            let is : slice_index (set fronts at row) w ≡ row = get_or-set_at fronts at w row 0 same (omega (arith, here.inside, n.size)) in
            (omega (arith, is), subst (IsFull pool table) (sym is) full, ap (λ q. (dope_row pool table q).place) is ∙ omega (arith, same, here.word))
        | inr other ↦
            let is : slice_index (set fronts at row) w ≡ slice_index fronts w = get_or-set_other fronts at w row 0 other in
            let old = n.real w less (λ e. some (is ∙ e)) in
            (omega (arith, is, old.0), subst (IsFull pool table) (sym is) old.1, ap (λ q. (dope_row pool table q).place) is ∙ old.2)
      ];
    }

pub noted_same : (pool : List ℕ) (table row : ℕ) (fronts : List ℕ) → block_bytes (dope_row pool table row) ≤ 0 → AreFrontsBefore pool table row fronts → AreFrontsBefore pool table (row + 1) fronts
noted_same pool table row fronts none n = record {
  size = n.size;
  told = λ r less f. elim (cases_lt r row) [
    | inl old ↦ n.told r old f
    | inr new ↦ absurd (omega (arith, f.some, none, ap (λ q. block_bytes (dope_row pool table q)) (last r less new)))
  ];
  real = λ w less some. let old = n.real w less some in (omega (arith, old.0), old.1, old.2);
}
  where
    last : (r : ℕ) → r < row + 1 → row ≤ r → r ≡ row
    last r less new = omega (arith, less, new)

pub noted_all : (pool : List ℕ) (table : ℕ) (fronts : List ℕ) → AreFrontsBefore pool table (row_count pool table) fronts → AreFronts pool table fronts
noted_all pool table fronts n = record {
  size = n.size;
  told = λ r f. n.told r f.within f;
  real = λ w less some. let old = n.real w less some in (old.1, old.2);
}

-- ---- the next block

-- a front is that of a full row, and of no block between
pub record Found (pool : List ℕ) (table from to row : ℕ) : Type 0 where
  pub full : IsFull pool table row
  pub low : 4 * from ≤ (dope_row pool table row).place
  pub high : (dope_row pool table row).place < 4 * to
  pub first : (q : ℕ) → IsFull pool table q → 4 * from ≤ (dope_row pool table q).place → (dope_row pool table row).place ≤ (dope_row pool table q).place

pub found : (pool : List ℕ) (table base : ℕ) (fronts : List ℕ) (from to row : ℕ) → IsPool pool table base → AreFronts pool table fronts → to ≤ words → IsFrontIn fronts from to row → Found pool table from to row
found pool table base fronts from to row p fs most f =
    let real = fs.real f.word (omega (arith, f.high, most)) (λ e. f.some (sym f.is ∙ e)) in
    let full : IsFull pool table row = subst (IsFull pool table) f.is real.0 in
    let place : (dope_row pool table row).place ≡ 4 * f.word = ap (λ q. (dope_row pool table q).place) (sym f.is) ∙ real.1 in
    record {
      full = full;
      low = omega (arith, place, f.low);
      high = omega (arith, place, f.high);
      first = λ q g above. elim (cases_lt (dope_row pool table q).place (dope_row pool table row).place) [
        | inr more ↦ more
        | inl less ↦
            let b = begins pool table base q p g in
            absurd (omega (
              arith,
              fs.told q g,
              f.none ((dope_row pool table q).place / 4) (omega (arith, above, b.word)) (omega (arith, less, place, b.word)),
              rows_small pool table base q p g.within,
            ))
      ];
    }

-- where there is no front, no block begins
pub none_found : (pool : List ℕ) (table base : ℕ) (fronts : List ℕ) (from to : ℕ) → IsPool pool table base → AreFronts pool table fronts → ((w : ℕ) → from ≤ w → w < to → slice_index fronts w ≡ no_row) → (q : ℕ) → IsFull pool table q → 4 * from ≤ (dope_row pool table q).place → 4 * to ≤ (dope_row pool table q).place
none_found pool table base fronts from to p fs none q f low = elim (cases_lt (dope_row pool table q).place (4 * to)) [
  | inr more ↦ more
  | inl less ↦
      let b = begins pool table base q p f in
      absurd (omega (arith, fs.told q f, none ((dope_row pool table q).place / 4) (omega (arith, low, b.word)) (omega (arith, less, b.word)), rows_small pool table base q p f.within))
]

-- ---- holes

pub words_of : (row : DopeRow) → block_bytes row % 4 ≡ 0
unfolding block_bytes
words_of row = omega arith

-- what was passed on the way to a hole
pub record Passed (pool : List ℕ) (table start bytes at : ℕ) : Type 0 where
  pub low : start ≤ at
  pub word : at % 4 ≡ 0
  pub inside : at ≤ length pool
  pub clean : IsClean pool table at
  pub first : (p : ℕ) → start ≤ p → IsHole pool table p bytes → at ≤ p

-- no block begins there
pub fit_here : (pool : List ℕ) (table base : ℕ) (fronts : List ℕ) (start bytes at : ℕ) → IsPool pool table base → AreFronts pool table fronts → bytes % 4 ≡ 0 → at + bytes ≤ length pool → Passed pool table start bytes at
    → ((w : ℕ) → at / 4 ≤ w → w < (at + bytes) / 4 → slice_index fronts w ≡ no_row) → IsFit pool table start bytes at
fit_here pool table base fronts start bytes at p fs whole fits passed none = record {
  low = passed.low;
  word = passed.word;
  hole = record {
    within = fits;
    others = λ q f. elim (cases_lt (dope_row pool table q).place at) [
      | inl under ↦ inr (passed.clean q f under)
      | inr over ↦ inl (omega (arith, none_found pool table base fronts (at / 4) ((at + bytes) / 4) p fs none q f (omega (arith, over)), passed.word, whole))
    ];
  };
  first = passed.first;
}

-- a block begins there, and the search goes on behind it
pub fit_behind : (pool : List ℕ) (table base : ℕ) (start bytes at row : ℕ) → IsPool pool table base → bytes % 4 ≡ 0 → Passed pool table start bytes at
    → Found pool table (at / 4) ((at + bytes) / 4) row → Passed pool table start bytes ((dope_row pool table row).place + block_bytes (dope_row pool table row))
fit_behind pool table base start bytes at row p whole passed f = record {
  low = omega (arith, passed.low, passed.word, f.low);
  word = omega (arith, p.words row f.full, words_of (dope_row pool table row));
  inside = p.sound.within row f.full;
  clean = λ q g less. elim (cases_eq q row) [
    | inl same ↦ omega (arith, ap (λ r. (dope_row pool table r).place + block_bytes (dope_row pool table r)) same)
    | inr other ↦ elim (p.sound.apart q row g f.full other) [
      | inl under ↦ omega (arith, under)
      | inr over ↦ absurd (omega (arith, over, less))
    ]
  ];
  first = λ q above hole. elim (hole.others row f.full) [
    | inl under ↦ absurd (omega (arith, under, f.high, passed.word, whole, passed.first q above hole))
    | inr over ↦ over
  ];
}

-- a hole ends in the pool
pub no_fit : (pool : List ℕ) (table start bytes at : ℕ) → length pool < at + bytes → Passed pool table start bytes at → (p : ℕ) → start ≤ p → IsHole pool table p bytes → ⊥
no_fit pool table start bytes at past passed p above hole = omega (arith, past, passed.first p above hole, hole.within)

-- ---- the last block

pub record NoneAbove (fronts : List ℕ) (at below : ℕ) : Type 0 where
  pub most : 4 * at < below + 4
  pub none : (w : ℕ) → at ≤ w → 4 * w < below → slice_index fronts w ≡ no_row

pub last_is : (pool : List ℕ) (table base : ℕ) (fronts : List ℕ) (at below row : ℕ) → IsPool pool table base → AreFronts pool table fronts → below ≤ pool_size → NoneAbove fronts (at + 1) below → slice_index fronts at ≡ row → row ≢ no_row
    → IsEndBelow pool table below ((dope_row pool table row).place + block_bytes (dope_row pool table row)) × IsFull pool table row
last_is pool table base fronts at below row p fs small n is some =
    let real = fs.real at (omega (arith, n.most, small)) (λ e. some (sym is ∙ e)) in
    let full : IsFull pool table row = subst (IsFull pool table) is real.0 in
    let place : (dope_row pool table row).place ≡ 4 * at = ap (λ q. (dope_row pool table q).place) (sym is) ∙ real.1 in (
      record {
        most = λ r f less. elim (cases_eq r row) [
          | inl same ↦ omega (arith, ap (λ q. (dope_row pool table q).place + block_bytes (dope_row pool table q)) same)
          | inr other ↦ elim (p.sound.apart r row f full other) [
            | inl under ↦ omega (arith, under)
            | inr over ↦
                let b = begins pool table base r p f in
                absurd (omega (arith, fs.told r f, n.none ((dope_row pool table r).place / 4) (omega (arith, over, place, full.some, b.word, p.words row full, words_of (dope_row pool table row))) (omega (arith, less, b.word)), rows_small pool table base r p f.within))
          ]
        ];
        is = (row, full, omega (arith, place, n.most), refl);
      },
      full,
    )

-- a block begins below, so one is found
pub none_left : (pool : List ℕ) (table base : ℕ) (fronts : List ℕ) (below r : ℕ) → IsPool pool table base → AreFronts pool table fronts → NoneAbove fronts 0 below → IsFull pool table r → (dope_row pool table r).place < below → ⊥
none_left pool table base fronts below r p fs n f less =
    let b = begins pool table base r p f in
    omega (arith, fs.told r f, n.none ((dope_row pool table r).place / 4) (omega arith) (omega (arith, less, b.word)), rows_small pool table base r p f.within)

-- ---- one front that changes

-- the blocks of the other rows stand as they stood
pub record SameOthers (old new : List ℕ) (table table' row : ℕ) : Type 0 where
  pub then : (q : ℕ) → q ≢ row → IsFull old table q → IsFull new table' q
  pub before : (q : ℕ) → q ≢ row → IsFull new table' q → IsFull old table q
  pub place : (q : ℕ) → q ≢ row → IsFull old table q → (dope_row new table' q).place ≡ (dope_row old table q).place
  pub bytes : (q : ℕ) → q ≢ row → IsFull old table q → block_bytes (dope_row new table' q) ≡ block_bytes (dope_row old table q)

pub drop_front : (pool : List ℕ) (table base : ℕ) (fronts : List ℕ) (row : ℕ) → IsPool pool table base → AreFronts pool table fronts → IsFull pool table row → AreOtherFronts pool table (set fronts ((dope_row pool table row).place / 4) no_row) row
drop_front pool table base fronts row p fs full =
    let at = (dope_row pool table row).place / 4 in
    let here = begins pool table base row p full in
    record {
      size = length-set fronts at no_row ∙ fs.size;
      told = λ r f other. get_or-set_other fronts at ((dope_row pool table r).place / 4) no_row 0 (one_there pool table base r row p f full other) ∙ fs.told r f;
      real = λ w less some. elim (cases_eq w at) [
        | inl same ↦ absurd (some (get_or-set_at fronts at w no_row 0 same (omega (arith, here.inside, fs.size))))
        | inr other ↦
            let is : slice_index (set fronts at no_row) w ≡ slice_index fronts w = get_or-set_other fronts at w no_row 0 other in
            let old = fs.real w less (λ e. some (is ∙ e)) in (
              (λ e. other (omega (arith, old.1, ap (λ q. (dope_row pool table q).place) (sym is ∙ e)))),
              subst (IsFull pool table) (sym is) old.0,
              ap (λ q. (dope_row pool table q).place) is ∙ old.1,
            )
      ];
    }

pub no_front_before : (pool : List ℕ) (table : ℕ) (fronts : List ℕ) (row : ℕ) → AreFronts pool table fronts → (IsFull pool table row → ⊥) → AreOtherFronts pool table fronts row
no_front_before pool table fronts row fs none = record {
  size = fs.size;
  told = λ r f other. fs.told r f;
  real = λ w less some. let old = fs.real w less some in ((λ e. none (subst (IsFull pool table) e old.0)), old.0, old.1);
}

pub fronts_kept : (old new : List ℕ) (table table' : ℕ) (fronts : List ℕ) (row : ℕ) → AreOtherFronts old table fronts row → SameOthers old new table table' row → AreOtherFronts new table' fronts row
fronts_kept old new table table' fronts row fs same = record {
  size = fs.size;
  told = λ r f other. let g = same.before r other f in ap (λ n. slice_index fronts (n / 4)) (same.place r other g) ∙ fs.told r g other;
  real = λ w less some.
      let was = fs.real w less some in
      (was.0, same.then (slice_index fronts w) was.0 was.1, same.place (slice_index fronts w) was.0 was.1 ∙ was.2);
}

pub put_front : (pool : List ℕ) (table base : ℕ) (fronts : List ℕ) (row : ℕ) → IsPool pool table base → AreOtherFronts pool table fronts row → IsFull pool table row → AreFronts pool table (set fronts ((dope_row pool table row).place / 4) row)
put_front pool table base fronts row p fs full =
    let at = (dope_row pool table row).place / 4 in
    let here = begins pool table base row p full in
    record {
      size = length-set fronts at row ∙ fs.size;
      told = λ r f. elim (cases_eq r row) [
        | inl same ↦ get_or-set_at fronts at ((dope_row pool table r).place / 4) row 0 (ap (λ q. (dope_row pool table q).place / 4) same) (omega (arith, here.inside, fs.size)) ∙ sym same
        | inr other ↦ get_or-set_other fronts at ((dope_row pool table r).place / 4) row 0 (one_there pool table base r row p f full other) ∙ fs.told r f other
      ];
      real = λ w less some. elim (cases_eq w at) [
        | inl same ↦
            let is : slice_index (set fronts at row) w ≡ row = get_or-set_at fronts at w row 0 same (omega (arith, here.inside, fs.size)) in
            (subst (IsFull pool table) (sym is) full, ap (λ q. (dope_row pool table q).place) is ∙ omega (arith, same, here.word))
        | inr other ↦
            let is : slice_index (set fronts at row) w ≡ slice_index fronts w = get_or-set_other fronts at w row 0 other in
            let was = fs.real w less (λ e. some (is ∙ e)) in
            (subst (IsFull pool table) (sym is) was.1, ap (λ q. (dope_row pool table q).place) is ∙ was.2)
      ];
    }

pub no_front_then : (pool : List ℕ) (table : ℕ) (fronts : List ℕ) (row : ℕ) → AreOtherFronts pool table fronts row → (IsFull pool table row → ⊥) → AreFronts pool table fronts
no_front_then pool table fronts row fs none = record {
  size = fs.size;
  told = λ r f. fs.told r f (λ e. none (subst (IsFull pool table) e f));
  real = λ w less some. let was = fs.real w less some in (was.1, was.2);
}
