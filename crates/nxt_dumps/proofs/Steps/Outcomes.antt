-- How a bytecode comes out.
use Rattle.std.proofs.Common.{◌≡◌, ℕ, ◌≤◌, ◌⊎◌, inl, inr, Bool, true, false, List, [], ◌∷◌, Option, Some, None, refl, ◌∙◌, nat_lt}
use Rattle.std.proofs.lemmas.Bool.{ltb-false}
use Rattle.nxt_types.specs.Pool.{pool_size}
use Rattle.nxt_model.specs.declared.event.Event.TheVariants as events
use Rattle.nxt_model.specs.Clumps.{Clumps, Ruled, some_activity, is_asleep}
use Rattle.nxt_model.specs.Variables.{put_all}
use Rattle.nxt_model.specs.Program.{Program, State, is_active}
use Rattle.nxt_model.specs.Step.{step, Running, next_running, run_statement, unless_refused, ruled, rule, run_queue, run_if, at_end, test_end, values_after, rows_with, footprint_after, caller_stores, advanced, next_place}

-- the variables and the rows stay
abbrev pub StaysSo : State → State → Type 0
StaysSo st st' = (st'.values ≡ st.values) × (st'.rows ≡ st.rows)

-- a statement ran, with its stores, or with those of the caller too
pub record Ran (p : Program) (st st' : State) (r : Running) : Type 0 where
  pub rows : st'.rows ≡ rows_with p st (values_after st r)
  pub fits : footprint_after p st r ≤ pool_size
  pub values : (st'.values ≡ values_after st r) ⊎ (st'.values ≡ put_all r.instruction.references (caller_stores r.instruction.op r.head r.operands) (values_after st r))

abbrev pub Outcome : Program → State → State → Running → Type 0
Outcome p st st' r = StaysSo st st' ⊎ Ran p st st' r

-- ---- a statement

ruled_by : (p : Program) (st : State) (r : Running) (out : Ruled) → footprint_after p st r ≤ pool_size
    → Ran p st (ruled (record st { values = values_after st r; rows = rows_with p st (values_after st r); devices = r.effect.devices }) r.instruction.references (caller_stores r.instruction.op r.head r.operands) r.effect.lines out).state r
ruled_by p st r (cs, None) fits = record { rows = refl; fits = fits; values = inr refl }
ruled_by p st r (cs, Some why) fits = record { rows = refl; fits = fits; values = inl refl }

unless_by : (p : Program) (st : State) (r : Running) (cs : Clumps) (b : Bool) → nat_lt pool_size (footprint_after p st r) ≡ b → Outcome p st (unless_refused (footprint_after p st r) p st r cs).state r
unless_by p st r cs true is = rw is (inl (refl, refl))
unless_by p st r cs false is =
    rw is (inr (ruled_by p st r (rule r.instruction.op p.plans st.clock r.head r.instruction.mutex r.operands cs) (ltb-false pool_size (footprint_after p st r) is)))

pub statement_out : (p : Program) (st : State) (r : Running) → Outcome p st (run_statement p st r).state r
statement_out p st r = unless_by p st r (advanced r.head (next_place r) st.clumps) (nat_lt pool_size (footprint_after p st r)) refl

-- ---- the end

pub at_end_stays : (queue : List ℕ) (st : State) → StaysSo st (at_end queue st).state
at_end_stays [] st = by (some_activity is_asleep st.clumps) refl
  where
    by : (b : Bool) → some_activity is_asleep st.clumps ≡ b → StaysSo st (at_end [] st).state
    by true is = rw is (refl, refl)
    by false is = rw is (refl, refl)
at_end_stays (h ∷ hs) st = (refl, refl)

test_end_stays : (st : State) → StaysSo st (test_end st).state
test_end_stays st = by (is_active st) refl
  where
    by : (b : Bool) → is_active st ≡ b → StaysSo st (test_end st).state
    by true is = rw is (at_end_stays st.clumps.queue st)
    by false is = rw is (refl, refl)

then_stays : (a b c : State) → StaysSo a b → StaysSo b c → StaysSo a c
then_stays a b c e f = (f.0 ∙ e.0, f.1 ∙ e.1)

outcome_then : (p : Program) (st a b : State) (r : Running) → Outcome p st a r → StaysSo a b → Outcome p st b r
outcome_then p st a b r (inl e) f = inl (then_stays st a b e f)
outcome_then p st a b r (inr e) f =
    inr (record {
      rows = f.1 ∙ e.rows;
      fits = e.fits;
      values = elim e.values [
        | inl is ↦ inl (f.0 ∙ is)
        | inr is ↦ inr (f.0 ∙ is)
      ];
    })

-- ---- a bytecode

-- nothing ran, or the head's statement did
pub data Came (p : Program) (st st' : State) : Type 0 where
  Nothing : StaysSo st st' → Came p st st'
  Head : (h : ℕ) (hs : List ℕ) (r : Running) → is_active st ≡ true → st.clumps.queue ≡ h ∷ hs → next_running p st h ≡ Some r → Outcome p st st' r → Came p st st'

head_by : (p : Program) (st : State) (h : ℕ) (hs : List ℕ) (o : Option Running) → is_active st ≡ true → st.clumps.queue ≡ h ∷ hs → next_running p st h ≡ o
    → Came p st (test_end (run_if p st o).state).state
head_by p st h hs None active queue is = Nothing (test_end_stays st)
head_by p st h hs (Some r) active queue is =
    let mid = (run_statement p st r).state in
    Head h hs r active queue is (outcome_then p st mid (test_end mid).state r (statement_out p st r) (test_end_stays mid))

queue_by : (p : Program) (st : State) (queue : List ℕ) → is_active st ≡ true → st.clumps.queue ≡ queue → Came p st (test_end (run_queue p queue st).state).state
queue_by p st [] active is = Nothing (test_end_stays st)
queue_by p st (h ∷ hs) active is = head_by p st h hs (next_running p st h) active is refl

pub bytecode_came : (p : Program) (st : State) → Came p st (step p st events.Bytecode).state
bytecode_came p st = by (is_active st) refl
  where
    by : (b : Bool) → is_active st ≡ b → Came p st (step p st events.Bytecode).state
    by true is = rw is (queue_by p st st.clumps.queue is refl)
    by false is = rw is (Nothing (refl, refl))
