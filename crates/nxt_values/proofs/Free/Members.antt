-- Members whose lists are freed one after another.
use Rattle.std.proofs.Common.{◌≡◌, ℕ, ◌≤◌, List, ◌++◌, sym, ◌∙◌, subst, append_assoc}
use Rattle.nxt_types.specs.Shapes.{Shape, Members, member}
use Rattle.nxt_types.specs.Names.{size}
use Rattle.nxt_types.specs.declared.shape.TocEntry.{TocEntry}
use Rattle.nxt_types.specs.Pool.{pool_size}
use Rattle.nxt_facts.proofs.Each.{Each}
use Rattle.nxt_heap.specs.Lists.{Lists, IsAlive, footprint}
use Rattle.nxt_values.specs.Ahead.{behind}
use Rattle.nxt_values.specs.Writes.{without, rows_there, all_rows_there, AreOwn}
use Rattle.nxt_values.specs.declared.reading.Place.{Place}
use Rattle.nxt_values.proofs.Laws.Members.{AreThere, others_there}
use Rattle.nxt_values.proofs.Free.Elements.{CanFree, can_free, freed_more, are_next}

-- these members still have their lists; the rows of all are `whole`
pub record Left (table : List TocEntry) (h : Lists) (all : ℕ) (whole : List ℕ) (g : Lists) (ss : Members) (p : Place) : Type 0 where
  pub there : AreThere table h all ss p
  pub alive : Each (IsAlive h) whole
  pub own : AreOwn p.region whole
  pub gone : List ℕ
  pub freed : g ≡ without h gone
  pub both : gone ++ all_rows_there table h ss p ≡ whole

-- the first can be freed
pub member_can : {table : List TocEntry} {h : Lists} {all : ℕ} {whole : List ℕ} {g : Lists} {s : Shape} {ss : Members} {at : Place} → Left table h all whole g (member s ss) at → footprint h ≤ pool_size → CanFree table h g at.region s at.entry at.base
member_can {table} {h} {all} {whole} {g} {s} {ss} {at} e pool =
    can_free
    table
    h
    g
    at.region
    s
    at.entry
    at.base
    e.gone
    e.freed
    pool
    e.there.region
    e.there.holds.0
    (are_next
    h
    at.region
    e.gone
    (rows_there table h s at)
    (all_rows_there table h ss (behind at (size s)))
    (subst (Each (IsAlive h)) (sym e.both) e.alive)
    (subst (AreOwn at.region) (sym e.both) e.own))

-- and then the others are left
pub member_freed : {table : List TocEntry} {h : Lists} {all : ℕ} {whole : List ℕ} {g f : Lists} {s : Shape} {ss : Members} {at : Place} → Left table h all whole g (member s ss) at → footprint h ≤ pool_size → f ≡ without g (rows_there table g s at) → Left table h all whole f ss (behind at (size s))
member_freed {table} {h} {all} {whole} {g} {f} {s} {ss} {at} e pool gone =
    let rows = rows_there table h s at in
    record {
      there = others_there e.there;
      alive = e.alive;
      own = e.own;
      gone = e.gone ++ rows;
      freed = freed_more table h g f at.region s at.entry at.base e.gone e.freed (member_can e pool) gone;
      both = append_assoc e.gone rows (all_rows_there table h ss (behind at (size s))) ∙ e.both;
    }
