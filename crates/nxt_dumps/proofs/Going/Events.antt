-- Each event keeps good states and layouts that follow their marks.
use Rattle.std.proofs.Common.{◌≡◌, ℕ, ◌+◌, ◌≤◌, Bool, true, false, List, [], ◌++◌, Option, Some, None, refl, sym, subst, arith}
use Rattle.std.specs.Prelude.{◌&&◌, if◌then◌else◌, ◌*◌}
use Rattle.std.proofs.lemmas.List.Sums.{sum_by-cons}
use Rattle.nxt_types.specs.Pool.{pool_size, round4}
use Rattle.nxt_types.specs.Shapes.{Cluster}
use Rattle.nxt_model.specs.declared.event.Event.{Event}
use Rattle.nxt_model.specs.declared.event.Event.TheVariants as events
use Rattle.nxt_model.specs.Values.{elements, values}
use Rattle.nxt_model.specs.Reading.{HeldList}
use Rattle.nxt_model.specs.Program.{State, start, is_active}
use Rattle.nxt_model.specs.DirectCommands.{direct, ProgramEffect, Stay, Restart, Halt}
use Rattle.nxt_model.specs.Step.{step, program_effect, with_devices}
use Rattle.nxt_model.specs.Dump.{Content, Dump, Mark, Shows, mark_of, mark_after, ends_turn, is_quiet, is_standing, unless_restarted}
use Rattle.nxt_model.specs.Report.{Setting, IsDump}
use Rattle.nxt_model.proofs.Laws.Reports.{is_plain}
use Rattle.nxt_dumps.specs.Holdable.{IsHoldable, lengths_for, base_for}
use Rattle.nxt_dumps.specs.Layouts.{Lawful, Changes, later_mark}
use Rattle.nxt_dumps.specs.Lengths.{lengths_in}
use Rattle.nxt_dumps.specs.Runnable.{IsRunnable, joined}
use Rattle.nxt_dumps.proofs.Dumps.Found.{found}
use Rattle.nxt_dumps.proofs.Dumps.Shown.{shown_lawful}
use Rattle.nxt_dumps.proofs.Going.Kept.{IsGood, IsKept, Follows, held_in}
use Rattle.nxt_dumps.proofs.Layouts.Lawful.{goes_over, fresh_lawful}
use Rattle.nxt_dumps.proofs.Lengths.Sums.{whole, lengths_sum, joined_are, joined_count, group_are, group_lists, are_group, at_most_same}
use Rattle.nxt_dumps.proofs.Steps.Bytecodes.{bytecode_runs}

-- ---- what the pool holds

pub good_holdable : (s : Setting) (r : IsRunnable s) (st : State) → IsGood s r st → IsHoldable (held_in s r st)
good_holdable s r st g =
    let vs = elements st.values ++ r.constants in
    record {
      few = r.few;
      spelled = r.spelled;
      spans = r.spans;
      are = are_group (joined r.own r.fixed) vs (joined_are r.own r.fixed (elements st.values) r.constants (group_are r.own st.values g.are) r.constants_are);
      rows = omega (arith, g.rows, r.lists st.values g.are, group_lists r.own st.values g.are, joined_count (elements st.values) r.constants);
      fits = omega (arith, g.fits, r.footprint_is st.rows st.values g.are);
    }

-- the lengths of the blocks fit the pool
pub room_for : (c : Content) → IsHoldable c → base_for c + whole (lengths_for c) ≤ pool_size
room_for c h =
    omega (arith, h.fits, sum_by-cons (λ n. n) (round4 (10 * c.rows)) (lengths_in (Cluster c.shapes) c.values), lengths_sum (Cluster c.shapes) c.values)

-- ---- a dump

abbrev any_mark : Mark
any_mark = record { unsettled = 0; places = []; settled = 0; quiet = false; standing = false }

-- where no dump came before, a layout without gaps will do
any_lawful : (c : Content) → IsHoldable c → Lawful (base_for c) (lengths_for c) (later_mark 0 false false any_mark)
any_lawful c h = fresh_lawful (base_for c) (round4 (10 * c.rows)) (lengths_in (Cluster c.shapes) c.values) any_mark (room_for c h)

dump_by : (c : Content) → IsHoldable c → (mark : Option Mark) → Follows c mark → (d : Dump) × (lists : List HeldList) × IsDump c mark d lists
dump_by c h None f =
    let l = any_lawful c h in
    let e = found c l.layout h l.lengths_are l.stand in
    (e.dump, e.lists, record { shows = e.shows; laws = tt })
dump_by c h (Some k) l =
    let e = found c l.layout h l.lengths_are l.stand in
    (e.dump, e.lists, record { shows = e.shows; laws = rw (e.unsettled_is, e.places_are) (l.obeys.falls, l.obeys.stands) })

pub dump_there : (s : Setting) (r : IsRunnable s) (st : State) (mark : Option Mark) → IsKept s r st mark → (d : Dump) × (lists : List HeldList) × IsDump (s.content st) mark d lists
dump_there s r st mark k =
    subst (λ c. (d : Dump) × (lists : List HeldList) × IsDump c mark d lists) (sym (r.holds st k.good.are))
    (dump_by (held_in s r st) (good_holdable s r st k.good) mark k.follows)

pub kept_dump : (s : Setting) (r : IsRunnable s) (st : State) (mark : Option Mark) (d : Dump) (lists : List HeldList) → IsKept s r st mark → IsDump (s.content st) mark d lists → IsKept s r st (Some (mark_of (s.content st) d lists))
kept_dump s r st mark d lists k e =
    let c = held_in s r st in
    let is = r.holds st k.good.are in
    record {
      good = k.good;
      follows = subst (λ x. Lawful (base_for c) (lengths_for c) (mark_of x d lists)) (sym is)
          (shown_lawful c d lists (good_holdable s r st k.good) (subst (λ x. Shows x d lists) is e.shows));
    }

-- ---- the start

pub kept_start : (s : Setting) (r : IsRunnable s) → IsKept s r (start s.program) None
kept_start s r = record { good = record { are = r.start; rows = r.start_rows; fits = r.start_fits }; follows = tt }

-- ---- other events

-- where the variables and the rows stay
kept_same : (s : Setting) (r : IsRunnable s) (st st' : State) (mark : Option Mark) → st'.values ≡ st.values → st'.rows ≡ st.rows → IsKept s r st mark → IsKept s r st' mark
kept_same s r st st' mark values rows k = record {
  good = record { are = rw values k.good.are; rows = rw (values, rows) k.good.rows; fits = rw (values, rows) k.good.fits };
  follows = rw (values, rows) k.follows;
}

-- so many blocks more had leave to settle
more_settled : (b : Bool) (a e : ℕ) → (if b then a + e else a) ≡ a + (if b then e else 0)
more_settled true a e = refl
more_settled false a e = omega arith

kept_bytecode : (s : Setting) (r : IsRunnable s) (st : State) (mark : Option Mark) → IsKept s r st mark → IsKept s r (step s.program st events.Bytecode).state (mark_after s.program s.effort st events.Bytecode mark)
kept_bytecode s r st None k = record { good = (bytecode_runs s r st k.good).good; follows = tt }
kept_bytecode s r st (Some k) e =
    let st' = (step s.program st events.Bytecode).state in
    let c = held_in s r st in
    let c' = held_in s r st' in
    let runs = bytecode_runs s r st e.good in
    let quiet = is_quiet s.program st in
    let standing = is_standing s.program st in
    let n = if ends_turn s.program st then s.effort else 0 in
    let l = goes_over (base_for c) n (round4 (10 * c.rows)) (round4 (10 * c'.rows)) (lengths_in (Cluster c.shapes) c.values) (lengths_in (Cluster c'.shapes) c'.values) quiet standing k runs.changes (room_for c' (good_holdable s r st' runs.good)) e.follows in
    record {
      good = runs.good;
      follows = subst (λ m. Lawful (base_for c') (lengths_for c') (record { unsettled = k.unsettled; places = k.places; settled = m; quiet = k.quiet && quiet; standing = k.standing && standing }))
          (sym (more_settled (ends_turn s.program st) k.settled s.effort))
          l;
    }

and_true : (b : Bool) → (b && true) ≡ b
and_true true = refl
and_true false = refl

kept_compact : (s : Setting) (r : IsRunnable s) (st : State) (mark : Option Mark) (n : ℕ) → IsKept s r st mark → IsKept s r st (mark_after s.program s.effort st (events.Compact n) mark)
kept_compact s r st None n k = k
kept_compact s r st (Some k) n e =
    let c = held_in s r st in
    let stay : Changes (lengths_for c) (lengths_for c) true true = record { same = λ t. refl; less = λ t. at_most_same (lengths_for c) } in
    let ns = lengths_in (Cluster c.shapes) c.values in
    let l = goes_over (base_for c) n (round4 (10 * c.rows)) (round4 (10 * c.rows)) ns ns true true k stay (room_for c (good_holdable s r st e.good)) e.follows in
    record {
      good = e.good;
      follows = subst (λ q. Lawful (base_for c) (lengths_for c) (record { unsettled = k.unsettled; places = k.places; settled = k.settled + n; quiet = q; standing = k.standing }))
          (and_true k.quiet)
          (subst (λ w. Lawful (base_for c) (lengths_for c) (record { unsettled = k.unsettled; places = k.places; settled = k.settled + n; quiet = k.quiet && true; standing = w })) (and_true k.standing) l);
    }

abbrev unless_restarted_any : ProgramEffect → Option Mark → Option Mark
unless_restarted_any e None = None
unless_restarted_any e (Some k) = unless_restarted e k

telegram_by : (s : Setting) (r : IsRunnable s) (st : State) (mark : Option Mark) (e : ProgramEffect) → IsKept s r st mark → IsKept s r (program_effect s.program e st).state (unless_restarted_any e mark)
telegram_by s r st None Stay k = k
telegram_by s r st (Some m) Stay k = k
telegram_by s r st None Restart k = record { good = record { are = r.start; rows = r.start_rows; fits = r.start_fits }; follows = tt }
telegram_by s r st (Some m) Restart k = record { good = record { are = r.start; rows = r.start_rows; fits = r.start_fits }; follows = tt }
telegram_by s r st None Halt k = kept_same s r st (program_effect s.program Halt st).state None refl refl k
telegram_by s r st (Some m) Halt k = kept_same s r st (program_effect s.program Halt st).state (Some m) refl refl k

kept_telegram : (s : Setting) (r : IsRunnable s) (st : State) (mark : Option Mark) (bytes : List ℕ) → IsKept s r st mark → IsKept s r (step s.program st (events.Telegram bytes)).state (mark_after s.program s.effort st (events.Telegram bytes) mark)
kept_telegram s r st None bytes k =
    let d = direct bytes (is_active st) st.clock st.devices in
    telegram_by s r (with_devices d.devices st) None d.effect (kept_same s r st (with_devices d.devices st) None refl refl k)
kept_telegram s r st (Some m) bytes k =
    let d = direct bytes (is_active st) st.clock st.devices in
    telegram_by s r (with_devices d.devices st) (Some m) d.effect (kept_same s r st (with_devices d.devices st) (Some m) refl refl k)

-- what changes the clock or the devices alone
pub kept_plain : (s : Setting) (r : IsRunnable s) (st : State) (mark : Option Mark) (e : Event) → is_plain e ≡ true → IsKept s r st mark → IsKept s r (step s.program st e).state (mark_after s.program s.effort st e mark)
kept_plain s r st mark events.Dump plain k = let f : ⊥ = cc in absurd f
kept_plain s r st mark events.Bytecode plain k = kept_bytecode s r st mark k
kept_plain s r st mark (events.Telegram bytes) plain k = kept_telegram s r st mark bytes k
kept_plain s r st mark (events.Compact n) plain k = kept_compact s r st mark n k
kept_plain s r st None (events.Tick n) plain k = kept_same s r st (step s.program st (events.Tick n)).state None refl refl k
kept_plain s r st (Some m) (events.Tick n) plain k = kept_same s r st (step s.program st (events.Tick n)).state (Some m) refl refl k
kept_plain s r st None (events.Reading a b c d) plain k = kept_same s r st (step s.program st (events.Reading a b c d)).state None refl refl k
kept_plain s r st (Some m) (events.Reading a b c d) plain k = kept_same s r st (step s.program st (events.Reading a b c d)).state (Some m) refl refl k
kept_plain s r st None (events.Tacho a b c d f) plain k = kept_same s r st (step s.program st (events.Tacho a b c d f)).state None refl refl k
kept_plain s r st (Some m) (events.Tacho a b c d f) plain k = kept_same s r st (step s.program st (events.Tacho a b c d f)).state (Some m) refl refl k
kept_plain s r st None (events.Button a b c) plain k = kept_same s r st (step s.program st (events.Button a b c)).state None refl refl k
kept_plain s r st (Some m) (events.Button a b c) plain k = kept_same s r st (step s.program st (events.Button a b c)).state (Some m) refl refl k
kept_plain s r st None (events.Battery n) plain k = kept_same s r st (step s.program st (events.Battery n)).state None refl refl k
kept_plain s r st (Some m) (events.Battery n) plain k = kept_same s r st (step s.program st (events.Battery n)).state (Some m) refl refl k
kept_plain s r st None (events.Random n) plain k = kept_same s r st (step s.program st (events.Random n)).state None refl refl k
kept_plain s r st (Some m) (events.Random n) plain k = kept_same s r st (step s.program st (events.Random n)).state (Some m) refl refl k
