-- Variables that fill a heap without lists are held.
use Rattle.std.proofs.Common.{◌≡◌, ℕ, zero, suc, ◌-◌, subst, List, is_some, inl, inr, None, refl, ap, arith}
use Rattle.std.specs.Prelude.{ℤ}
use Rattle.nxt_types.specs.Shapes.{Members, SpellsAll}
use Rattle.nxt_types.specs.declared.shape.TocEntry.{TocEntry}
use Rattle.nxt_model.specs.Values.{GroupOf}
use Rattle.nxt_facts.proofs.Pairs.{all_pairs}
use Rattle.nxt_heap.specs.Lists.{Lists, list_at, IsAlive, zero_heap}
use Rattle.nxt_values.specs.Held.{values_in, rows_among, IsHeld}
use Rattle.nxt_model.specs.Spans.{HasSpans, FitAll}
use Rattle.nxt_values.specs.Fills.{all_filled, FillsAll, AllHaveRoom}
use Rattle.nxt_values.specs.declared.reading.Region.TheVariants.{Static}
use Rattle.nxt_values.proofs.Laws.Without.{Differ}

-- leaves that are apart and fit have room in the static bytes
pub variables_room : (table : List TocEntry) (ss : Members) (n : ℕ) → HasSpans table ss n → AllHaveRoom table ss 0 0 n
variables_room table ss n e =
    let all : n ≡ n - 0 = omega arith in
    record { within = omega arith; apart = e.apart; fits = subst (FitAll table ss 0) all e.fit }

no_rows : (rows row : ℕ) → list_at (zero_heap 0 rows) row ≡ None
no_rows zero row = refl
no_rows (suc rows) zero = refl
no_rows (suc rows) (suc row) = no_rows rows row

-- a heap at its start has no list
pub none_alive : (static_size rows row : ℕ) → IsAlive (zero_heap static_size rows) row → ⊥
none_alive static_size rows row alive =
    let none : list_at (zero_heap static_size rows) row ≡ None = no_rows rows row in
    let f : ⊥ = cc (alive, ap is_some none) in f

-- what was filled is held
pub filled_held : (table : List TocEntry) (ss : Members) (h g : Lists) (zs rest : List ℤ) → SpellsAll table ss → ((row : ℕ) → IsAlive h row → ⊥) → FillsAll table h g ss 0 Static 0 zs rest → IsHeld table ss g
filled_held table ss h g zs rest spelled none e =
    let rows = rows_among table g ss 0 g.static_bytes 0 in
    record {
      spelled = spelled;
      holds = e.holds;
      own = all_pairs Differ rows e.grows.own;
      named = λ row alive.
          elim (e.grows.named row alive) [
            | inl before ↦ absurd (none row before)
            | inr any ↦ any
          ];
    }

-- and its values are those of the numbers
pub filled_values : (table : List TocEntry) (ss : Members) (h g : Lists) (zs rest : List ℤ) → FillsAll table h g ss 0 Static 0 zs rest → values_in table ss g ≡ GroupOf (all_filled ss zs).0
filled_values table ss h g zs rest e = ap GroupOf e.value
