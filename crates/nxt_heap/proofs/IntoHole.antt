-- A block that moves to where no other one has a byte.
use Rattle.std.proofs.Common.{◌≡◌, ◌≢◌, ℕ, ◌+◌, ◌/◌, ◌%◌, ◌<◌, ◌≤◌, inl, inr, List, set, refl, ap, sym, ◌∙◌, arith}
use Rattle.std.proofs.lemmas.Bool.{cases_eq}
use Rattle.nxt_rows.specs.Rows.{dope_row}
use Rattle.nxt_compact.specs.Pools.{block_bytes, IsFull, IsSound, Moves}
use Rattle.nxt_compact.specs.Steps.{IsMovable, moved_to}
use Rattle.nxt_compact.proofs.Laws.Going.{first_full, full_before, moved_full, place_moved, bytes_moved}
use Rattle.nxt_compact.proofs.Laws.Moving.{moved_here, moved_there}
use Rattle.nxt_heap.specs.declared.blocks.BlockState.{BlockState}
use Rattle.nxt_heap.specs.Inside.Pool.{IsPool, IsHole, IsOpenTo, IsEnd, IsEndBelow, AreFronts, HasMoved, no_row}
use Rattle.nxt_heap.proofs.Begins.{SameOthers, drop_front, fronts_kept, put_front}
use Rattle.nxt_heap.proofs.Settled.{end_inside}
use Rattle.nxt_heap.proofs.AfterMoves.{moved_sound, pool_moved}

-- a hole is open to each block
pub hole_open : (pool : List ℕ) (table row at bytes : ℕ) → IsHole pool table at bytes → IsOpenTo pool table row at bytes
hole_open pool table row at bytes h = record { within = h.within; others = λ q f _. h.others q f }

module _ (old : List ℕ) (table base row place : ℕ) (p : IsPool old table base) (full : IsFull old table row) (above : base ≤ place) (word : place % 4 ≡ 0) (hole : IsOpenTo old table row place (block_bytes (dope_row old table row))) where
  first : IsFull old table 0
  first = first_full old table base p.sound

  from : ℕ
  from = (dope_row old table row).place

  pub movable : IsMovable old table row place
  movable = record {
    size = omega (arith, p.size);
    place = p.sound.place;
    stride = p.sound.stride;
    full = full;
    inside = p.sound.within row full;
    room = hole.within;
    table_inside = omega (arith, p.sound.within 0 first, p.sound.place);
    own = λ q f other. p.sound.apart row q full f (λ e. other (sym e));
    others = λ q f other. hole.others q f other;
    lists = λ q f some. elim (p.sound.apart 0 q first f (λ e. omega (arith, e, some))) [
      | inl l ↦ inl (omega (arith, l, p.sound.place))
      | inr l ↦ inr (omega (arith, l, p.sound.place))
    ];
  }

  -- no other block begins there
  pub elsewhere : (q : ℕ) → IsFull old table q → q ≢ row → (dope_row old table q).place ≢ (dope_row old table row).place
  elsewhere q f other same = elim (p.sound.apart q row f full other) [
    | inl l ↦ omega (arith, l, same, f.some)
    | inr l ↦ omega (arith, l, same, full.some)
  ]

  module _ (new : List ℕ) (table' : ℕ) (m : Moves base (moved_to (dope_row old table row).place place) old new table table') where
    to_row : (q : ℕ) → q ≡ row → moved_to (dope_row old table row).place place (dope_row old table q).place ≡ place
    to_row q e = moved_here (dope_row old table row).place place (dope_row old table q).place (ap (λ r. (dope_row old table r).place) e)

    to_other : (q : ℕ) → IsFull old table q → q ≢ row → moved_to (dope_row old table row).place place (dope_row old table q).place ≡ (dope_row old table q).place
    to_other q f other = moved_there (dope_row old table row).place place (dope_row old table q).place (elsewhere q f other)

    same_bytes : (q : ℕ) → q ≡ row → block_bytes (dope_row old table q) ≡ block_bytes (dope_row old table row)
    same_bytes q e = ap (λ r. block_bytes (dope_row old table r)) e

    pub into_sound : IsSound new table' base
    into_sound = moved_sound base (moved_to (dope_row old table row).place place) old new table table' m p.sound
        (λ q r f g other. elim (cases_eq q row) [
          | inl here ↦ elim (hole.others r g (λ e. other (here ∙ sym e))) [
            | inl l ↦ inl (omega (arith, l, to_row q here, same_bytes q here, to_other r g (λ e. other (here ∙ sym e))))
            | inr l ↦ inr (omega (arith, l, to_row q here, to_other r g (λ e. other (here ∙ sym e))))
          ]
          | inr there ↦ elim (cases_eq r row) [
            | inl here ↦ elim (hole.others q f there) [
              | inl l ↦ inr (omega (arith, l, to_row r here, same_bytes r here, to_other q f there))
              | inr l ↦ inl (omega (arith, l, to_row r here, to_other q f there))
            ]
            | inr else ↦ elim (p.sound.apart q r f g other) [
              | inl l ↦ inl (omega (arith, l, to_other q f there, to_other r g else))
              | inr l ↦ inr (omega (arith, l, to_other q f there, to_other r g else))
            ]
          ]
        ])
        (λ r f. elim (cases_eq r row) [
          | inl here ↦ omega (arith, to_row r here, above)
          | inr there ↦ omega (arith, to_other r f there, p.sound.above r f)
        ])
        (λ r f. elim (cases_eq r row) [
          | inl here ↦ omega (arith, to_row r here, same_bytes r here, hole.within)
          | inr there ↦ omega (arith, to_other r f there, p.sound.within r f)
        ])

    pub into_pool : IsPool new table' base
    into_pool = pool_moved base (moved_to (dope_row old table row).place place) old new table table' m p into_sound
        (λ r f. elim (cases_eq r row) [
          | inl here ↦ ap (λ n. n % 4) (to_row r here) ∙ word
          | inr there ↦ ap (λ n. n % 4) (to_other r f there) ∙ p.words r f
        ])

    pub into_others : SameOthers old new table table' row
    into_others = record {
      then = λ q other f. moved_full base (moved_to (dope_row old table row).place place) old new table table' q p.sound.some m f;
      before = λ q other f. full_before base (moved_to (dope_row old table row).place place) old new table table' q p.sound.some m f;
      place = λ q other f. place_moved base (moved_to (dope_row old table row).place place) old new table table' q m f ∙ to_other q f other;
      bytes = λ q other f. bytes_moved base (moved_to (dope_row old table row).place place) old new table table' q m f.within;
    }

    pub into_full : IsFull new table' row
    into_full = moved_full base (moved_to (dope_row old table row).place place) old new table table' row p.sound.some m full

    pub into_place : (dope_row new table' row).place ≡ place
    into_place = place_moved base (moved_to (dope_row old table row).place place) old new table table' row m full ∙ to_row row refl

    into_bytes : block_bytes (dope_row new table' row) ≡ block_bytes (dope_row old table row)
    into_bytes = bytes_moved base (moved_to (dope_row old table row).place place) old new table table' row m full.within

    pub into_fronts : (fronts : List ℕ) → AreFronts old table fronts → AreFronts new table' (set (set fronts ((dope_row old table row).place / 4) no_row) (place / 4) row)
    into_fronts fronts fs =
        let one = set fronts ((dope_row old table row).place / 4) no_row in
        let others = fronts_kept old new table table' one row (drop_front old table base fronts row p fs full) into_others in
        rw (sym into_place) (put_front new table' base one row into_pool others into_full)

    pub into_moved : (q : BlockState) → q.table ≡ table' → IsEnd old table q.end → HasMoved new q row (dope_row old table row).place
    into_moved q is e = rw is (has_moved q e)
      where
        has_moved : (q : BlockState) → IsEnd old table q.end → HasMoved new (record q { table = table' }) row (dope_row old table row).place
        has_moved q e = record {
          full = into_full;
          others = λ r f other. let g = into_others.before r other f in omega (arith, e.most r g, into_others.place r other g, into_others.bytes r other g);
          apart = λ r f other.
              let g = into_others.before r other f in
              elim (p.sound.apart row r full g (λ h. other (sym h))) [
                | inl l ↦ inl (omega (arith, l, into_bytes, into_others.place r other g))
                | inr l ↦ inr (omega (arith, l, into_others.place r other g, into_others.bytes r other g))
              ];
          most = omega (arith, e.most row full, into_bytes);
          inside = end_inside old table base q.end p e;
          was = elim (cases_eq e.is.0 row) [
            | inl here ↦ inl (omega (arith, into_bytes, e.is.2, ap (λ r. (dope_row old table r).place + block_bytes (dope_row old table r)) here))
            | inr there ↦ inr (e.is.0, into_others.then e.is.0 there e.is.1, omega (arith, into_others.place e.is.0 there e.is.1, into_others.bytes e.is.0 there e.is.1, e.is.2))
          ];
        }

-- ---- where the last block then ends

module _ (pool : List ℕ) (q : BlockState) (row from : ℕ) (m : HasMoved pool q row from) where
  pub ends_there : (end : ℕ) → end ≡ (dope_row pool q.table row).place + block_bytes (dope_row pool q.table row) → q.end ≤ end → IsEnd pool q.table end
  ends_there end is high = record {
    most = λ r f. elim (cases_eq r row) [
      | inl same ↦ omega (arith, is, ap (λ k. (dope_row pool q.table k).place + block_bytes (dope_row pool q.table k)) same)
      | inr other ↦ omega (arith, m.others r f other, high)
    ];
    is = (row, m.full, sym is);
  }

  pub ends_below : (end : ℕ) → (dope_row pool q.table row).place + block_bytes (dope_row pool q.table row) < q.end → from + block_bytes (dope_row pool q.table row) ≡ q.end → IsEndBelow pool q.table from end → IsEnd pool q.table end
  ends_below end low was e = record {
    most = λ r f. elim (cases_eq r row) [
      | inl same ↦ e.most r f (omega (arith, low, was, ap (λ k. (dope_row pool q.table k).place) same))
      | inr other ↦ elim (m.apart r f other) [
        | inl over ↦ absurd (omega (arith, over, was, m.others r f other, f.some))
        | inr under ↦ e.most r f (omega (arith, under, f.some))
      ]
    ];
    is = (e.is.0, e.is.1, e.is.3);
  }

  pub ends_still : (dope_row pool q.table row).place + block_bytes (dope_row pool q.table row) < q.end → (from + block_bytes (dope_row pool q.table row) ≡ q.end → ⊥) → IsEnd pool q.table q.end
  ends_still low other_end = record {
    most = λ r f. elim (cases_eq r row) [
      | inl same ↦ omega (arith, low, ap (λ k. (dope_row pool q.table k).place + block_bytes (dope_row pool q.table k)) same)
      | inr other ↦ m.others r f other
    ];
    is = elim m.was [
      | inl same ↦ absurd (other_end same)
      | inr there ↦ there
    ];
  }
