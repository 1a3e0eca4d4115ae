-- A bytecode keeps good states good, and changes lengths as its words tell.
use Rattle.std.proofs.Common.{◌≡◌, ℕ, zero, suc, ◌+◌, ◌*◌, ◌≤◌, inl, inr, max, Bool, true, ◌||◌, if◌then◌else◌, List, [], ◌∷◌, ◌++◌, Option, Some, None, length, refl, sym, ap, ap₂, ◌∙◌, subst, arith}
use Rattle.std.specs.Prelude.{not, slice_get, option_map}
use Rattle.std.specs.List.{list_all}
use Rattle.std.proofs.lemmas.Bool.{and_parts, and_from}
use Rattle.nxt_facts.proofs.Each.{Each, each_join}
use Rattle.nxt_types.specs.Pool.{round4, pool_size}
use Rattle.nxt_types.specs.Shapes.{Cluster}
use Rattle.nxt_model.specs.declared.event.Event.TheVariants as events
use Rattle.nxt_model.specs.Values.{Value, part}
use Rattle.nxt_model.specs.Clumps.{clump}
use Rattle.nxt_model.specs.Means.Effects.{Store}
use Rattle.nxt_model.specs.Variables.{Reference, PartOf, Constant, Plain, Target, Absent, put_all}
use Rattle.nxt_model.specs.Program.{Instruction, Program, State, is_active, clock_of}
use Rattle.nxt_model.specs.Step.{step, Running, running, next_running, rows_with, caller_stores}
use Rattle.nxt_model.specs.Dump.{Written, shape_under, written_under, written, written_by, written_by_head, written_by_running, is_quiet, is_standing}
use Rattle.nxt_model.specs.Report.{Setting}
use Rattle.nxt_dumps.specs.Holdable.{lengths_for}
use Rattle.nxt_dumps.specs.Layouts.{AtMost, Changes}
use Rattle.nxt_dumps.specs.Runnable.{IsRunnable, IsFit}
use Rattle.nxt_dumps.proofs.Going.Kept.{IsGood, held_in}
use Rattle.nxt_dumps.proofs.Lengths.Compared.{same_lengths, at_most_lengths}
use Rattle.nxt_dumps.proofs.Lengths.Sums.{at_most_same, at_most_count}
use Rattle.nxt_dumps.proofs.Steps.Counted.{Own, own_lengths, all_lengths, same_all, at_most_all, same_lists, same_footprint}
use Rattle.nxt_dumps.proofs.Steps.Fits.{stores_put, caller_same}
use Rattle.nxt_dumps.proofs.Steps.Meant.{meant, caller_meant}
use Rattle.nxt_dumps.proofs.Steps.Outcomes.{StaysSo, Ran, Came, Nothing, Head, bytecode_came}
use Rattle.nxt_dumps.proofs.Steps.Stores.{IsPut, ArePut, ref_of, put_all_of, put_all-append, quiet_test, standing_test, quiet_stores, standing_stores}

pub record Runs (s : Setting) (r : IsRunnable s) (st st' : State) (quiet standing : Bool) : Type 0 where
  pub good : IsGood s r st'
  pub changes : Changes (lengths_for (held_in s r st)) (lengths_for (held_in s r st')) quiet standing

-- ---- what is tested

-- an instruction at a place is fit
fit_at : (s : Setting) (r : IsRunnable s) (code : List Instruction) (k : ℕ) (i : Instruction) → Each (IsFit r.own) code → slice_get code k ≡ Some i → IsFit r.own i
fit_at s r [] k i e is = let f : ⊥ = cc in absurd f
fit_at s r (c ∷ cs) zero i e is = let same : c ≡ i = cc in subst (IsFit r.own) same e.0
fit_at s r (c ∷ cs) (suc k) i e is = fit_at s r cs k i e.1 is

-- the statement that runs is one of the code
record IsRun (s : Setting) (r : IsRunnable s) (st : State) (h : ℕ) (x : Running) : Type 0 where
  place : ℕ
  instruction : Instruction
  fit : IsFit r.own instruction
  is : x ≡ running st h place instruction

run_by : (s : Setting) (r : IsRunnable s) (st : State) (h : ℕ) (x : Running) (place : ℕ) (o : Option Instruction) → slice_get s.program.code place ≡ o → option_map (running st h place) o ≡ Some x → IsRun s r st h x
run_by s r st h x place None found is = let f : ⊥ = cc in absurd f
run_by s r st h x place (Some i) found is = record { place = place; instruction = i; fit = fit_at s r s.program.code place i r.code found; is = let same : running st h place i ≡ x = cc in sym same }

front_by : (test : Written → Bool) (r : Reference) (path : List ℕ) (before after : Value) (ws vs : List Written) → list_all test (written_under r path before after ++ ws) ≡ true → (list_all test ws ≡ true → list_all test vs ≡ true)
    → list_all test (written_under r path before after ++ vs) ≡ true
front_by test (PartOf n) path before after ws vs e h =
    let w : Written = record { shape = shape_under n.shape path; before = part (n.path ++ path) before; after = part (n.path ++ path) after } in
    let both = and_parts (test w) (list_all test ws) e in
    and_from (test w) (list_all test vs) both.0 (h both.1)
front_by test (Constant t w) path before after ws vs e h = h e
front_by test (Plain n) path before after ws vs e h = h e
front_by test Target path before after ws vs e h = h e
front_by test Absent path before after ws vs e h = h e

-- what passes for more stores passes for the first of them
front_tests : (test : Written → Bool) (rs : List Reference) (before after : Value) (xs ys : List Store) → list_all test (written_by rs before after (xs ++ ys)) ≡ true → list_all test (written_by rs before after xs) ≡ true
front_tests test rs before after [] ys e = refl
front_tests test rs before after (x ∷ xs) ys e =
    front_by test (ref_of rs x) x.path before after (written_by rs before after (xs ++ ys)) (written_by rs before after xs) e (front_tests test rs before after xs ys)

-- what is written at a bytecode that runs a statement
written_is : (p : Program) (st : State) (h : ℕ) (hs : List ℕ) (r : Running) → is_active st ≡ true → st.clumps.queue ≡ h ∷ hs → next_running p st h ≡ Some r
    → written p st ≡ written_by r.instruction.references st.values (step p st events.Bytecode).state.values (r.effect.stores ++ caller_stores r.instruction.op r.head r.operands)
written_is p st h hs r active queue is =
    let after = (step p st events.Bytecode).state.values in
    ap (λ b. if b then written_by_head p st after st.clumps.queue else []) active
    ∙ ap (written_by_head p st after) queue
    ∙ ap (written_by_running st after) is

-- ---- where the variables stay

stays_runs : (s : Setting) (r : IsRunnable s) (st st' : State) (quiet standing : Bool) → IsGood s r st → StaysSo st st' → Runs s r st st' quiet standing
stays_runs s r st st' quiet standing g e =
    let same : lengths_for (held_in s r st') ≡ lengths_for (held_in s r st) = ap₂ (λ rows v. round4 (10 * rows) ∷ all_lengths s r v) e.1 e.0 in
    record {
      good = record { are = rw e.0 g.are; rows = rw (e.0, e.1) g.rows; fits = rw (e.0, e.1) g.fits };
      changes = record { same = λ q. same; less = λ q. subst (AtMost (lengths_for (held_in s r st))) (sym same) (at_most_same (lengths_for (held_in s r st))) };
    }

-- ---- where a statement runs

-- the values after the statement's own stores, those after all of them, and the rows
record Ended (s : Setting) (r : IsRunnable s) (st : State) (mid after : Value) (rows : ℕ) (quiet standing : Bool) : Type 0 where
  mid_own : Own s r mid
  after_own : Own s r after
  near : own_lengths s r after ≡ own_lengths s r mid
  rows_are : rows ≡ max st.rows (s.program.lists mid + 1)
  fits : s.program.footprint rows mid ≤ pool_size
  quiet_same : quiet ≡ true → own_lengths s r after ≡ own_lengths s r st.values
  standing_less : standing ≡ true → AtMost (own_lengths s r st.values) (own_lengths s r after)

-- the table doesn't grow where there are as many lists
rows_stay : (rows lists now : ℕ) → lists + 1 ≤ rows → now ≡ lists → max rows (now + 1) ≡ rows
rows_stay rows lists now l e = omega (arith, l, e)

enough : (rows lists : ℕ) → lists + 1 ≤ max rows (lists + 1)
enough rows lists = omega arith

ended_runs : (s : Setting) (r : IsRunnable s) (st st' : State) (mid after : Value) (rows : ℕ) (quiet standing : Bool) → IsGood s r st → st'.values ≡ after → st'.rows ≡ rows → Ended s r st mid after rows quiet standing → Runs s r st st' quiet standing
ended_runs s r st st' mid after rows quiet standing g values many e =
    let own = own_lengths s r in
    let lists_near : s.program.lists after ≡ s.program.lists mid = same_lists s r mid after e.mid_own e.after_own (ap length e.near) in
    let as_many : length (own after) ≡ length (own st.values) → rows ≡ st.rows = λ same.
    e.rows_are ∙ rows_stay st.rows (s.program.lists st.values) (s.program.lists mid) g.rows (sym lists_near ∙ same_lists s r st.values after g.are e.after_own same) in
    let lengths : lengths_for (held_in s r st') ≡ round4 (10 * rows) ∷ all_lengths s r after = ap₂ (λ n v. round4 (10 * n) ∷ all_lengths s r v) many values in
    record {
      good = record {
        are = subst (Own s r) (sym values) e.after_own;
        rows = omega (arith, ap s.program.lists values, many, lists_near, e.rows_are, enough st.rows (s.program.lists mid));
        fits = rw (values, many) (subst (λ n. n ≤ pool_size) (sym (same_footprint s r rows mid after e.mid_own e.after_own e.near)) e.fits);
      };
      changes = record {
        same = λ q. lengths ∙ ap₂ (λ n ns. round4 (10 * n) ∷ ns) (as_many (ap length (e.quiet_same q))) (same_all s r st.values after g.are e.after_own (e.quiet_same q));
        less = λ q.
            let less = e.standing_less q in
            let rows_same = as_many (sym (at_most_count (own st.values) (own after) less)) in
            subst (AtMost (lengths_for (held_in s r st))) (sym lengths)
            (omega (arith, ap (λ n. round4 (10 * n)) rows_same), at_most_all s r st.values after g.are e.after_own less);
      };
    }

-- the values after some stores whose parts pass the tests
module _ (s : Setting) (r : IsRunnable s) (st : State) (g : IsGood s r st) (rs : List Reference) (xs : List Store) (put : ArePut r.own rs xs) where
  abbrev stored : Value
  stored = put_all rs xs st.values

  stored_own : Own s r stored
  stored_own = put_all_of r.own rs xs st.values put g.are

  quiet_after : list_all quiet_test (written_by rs st.values stored xs) ≡ true → own_lengths s r stored ≡ own_lengths s r st.values
  quiet_after t = same_lengths (Cluster r.own) st.values stored g.are stored_own (quiet_stores r.own rs xs st.values stored put t)

  standing_after : list_all standing_test (written_by rs st.values stored xs) ≡ true → AtMost (own_lengths s r st.values) (own_lengths s r stored)
  standing_after t = at_most_lengths (Cluster r.own) st.values stored g.are stored_own (standing_stores r.own rs xs st.values put t)

module _ (s : Setting) (r : IsRunnable s) (st : State) (g : IsGood s r st) (h : ℕ) (hs : List ℕ) (place : ℕ) (i : Instruction) (fit : IsFit r.own i)
    (active : is_active st ≡ true) (queue : st.clumps.queue ≡ h ∷ hs) (is : next_running s.program st h ≡ Some (running st h place i)) where
  abbrev x : Running
  x = running st h place i

  abbrev xs : List Store
  xs = x.effect.stores

  abbrev cs : List Store
  cs = caller_stores i.op h x.operands

  abbrev st' : State
  st' = (step s.program st events.Bytecode).state

  abbrev mid : Value
  mid = put_all i.references xs st.values

  abbrev last : Value
  last = put_all i.references cs mid

  put : ArePut r.own i.references xs
  put = stores_put r.own st.values i fit xs (meant i.op i.cmp st.devices (clock_of st) x.operands)

  put_more : ArePut r.own i.references cs
  put_more = stores_put r.own st.values i fit cs (caller_meant i.op h x.operands)

  put_both : ArePut r.own i.references (xs ++ cs)
  put_both = each_join (λ y. IsPut r.own (ref_of i.references y) y.path y.value) xs cs put put_more

  mid_own : Own s r mid
  mid_own = stored_own s r st g i.references xs put

  last_own : Own s r last
  last_own = put_all_of r.own i.references cs mid put_more mid_own

  last_near : own_lengths s r last ≡ own_lengths s r mid
  last_near = same_lengths (Cluster r.own) mid last mid_own last_own (caller_same r.own mid st.values i h fit)

  together : put_all i.references (xs ++ cs) st.values ≡ last
  together = put_all-append i.references xs cs st.values

  quiet_all : is_quiet s.program st ≡ true → list_all quiet_test (written_by i.references st.values st'.values (xs ++ cs)) ≡ true
  quiet_all q =
      ap (list_all quiet_test) (sym (written_is s.program st h hs x active queue is))
      ∙ (and_parts (not (is_active st) || is_active st') (list_all quiet_test (written s.program st)) q).1

  standing_all : is_standing s.program st ≡ true → list_all standing_test (written_by i.references st.values st'.values (xs ++ cs)) ≡ true
  standing_all q = ap (list_all standing_test) (sym (written_is s.program st h hs x active queue is)) ∙ q

  -- a rule of clumps stopped the program
  stopped_runs : Ran s.program st st' x → st'.values ≡ mid → Runs s r st st' (is_quiet s.program st) (is_standing s.program st)
  stopped_runs ran values =
      let front : (test : Written → Bool) → list_all test (written_by i.references st.values st'.values (xs ++ cs)) ≡ true → list_all test (written_by i.references st.values mid xs) ≡ true = λ test t.
      subst (λ v. list_all test (written_by i.references st.values v xs) ≡ true) values (front_tests test i.references st.values st'.values xs cs t) in
      ended_runs s r st st' mid mid (rows_with s.program st mid) (is_quiet s.program st) (is_standing s.program st) g values ran.rows
      (record {
        mid_own = mid_own;
        after_own = mid_own;
        near = refl;
        rows_are = refl;
        fits = ran.fits;
        quiet_same = λ q. quiet_after s r st g i.references xs put (front quiet_test (quiet_all q));
        standing_less = λ q. standing_after s r st g i.references xs put (front standing_test (standing_all q));
      })

  -- or none did
  whole_runs : Ran s.program st st' x → st'.values ≡ last → Runs s r st st' (is_quiet s.program st) (is_standing s.program st)
  whole_runs ran values =
      let all = put_all i.references (xs ++ cs) st.values in
      let both : (test : Written → Bool) → list_all test (written_by i.references st.values st'.values (xs ++ cs)) ≡ true → list_all test (written_by i.references st.values all (xs ++ cs)) ≡ true = λ test t.
      subst (λ v. list_all test (written_by i.references st.values v (xs ++ cs)) ≡ true) (values ∙ sym together) t in
      ended_runs s r st st' mid last (rows_with s.program st mid) (is_quiet s.program st) (is_standing s.program st) g values ran.rows
      (record {
        mid_own = mid_own;
        after_own = last_own;
        near = last_near;
        rows_are = refl;
        fits = ran.fits;
        quiet_same = λ q. ap (own_lengths s r) (sym together) ∙ quiet_after s r st g i.references (xs ++ cs) put_both (both quiet_test (quiet_all q));
        standing_less = λ q. subst (λ v. AtMost (own_lengths s r st.values) (own_lengths s r v)) together (standing_after s r st g i.references (xs ++ cs) put_both (both standing_test (standing_all q)));
      })

  ran_at : Ran s.program st st' x → Runs s r st st' (is_quiet s.program st) (is_standing s.program st)
  ran_at ran = elim ran.values [
    | inl values ↦ stopped_runs ran values
    | inr values ↦ whole_runs ran values
  ]

ran_runs : (s : Setting) (r : IsRunnable s) (st : State) (g : IsGood s r st) (h : ℕ) (hs : List ℕ) (x : Running) → is_active st ≡ true → st.clumps.queue ≡ h ∷ hs → IsRun s r st h x
    → next_running s.program st h ≡ Some x → Ran s.program st (step s.program st events.Bytecode).state x → Runs s r st (step s.program st events.Bytecode).state (is_quiet s.program st) (is_standing s.program st)
ran_runs s r st g h hs x active queue run =
    subst
    (λ (y : Running). next_running s.program st h ≡ Some y → Ran s.program st (step s.program st events.Bytecode).state y → Runs s r st (step s.program st events.Bytecode).state (is_quiet s.program st) (is_standing s.program st))
    (sym run.is)
    (ran_at s r st g h hs run.place run.instruction run.fit active queue)

pub bytecode_runs : (s : Setting) (r : IsRunnable s) (st : State) → IsGood s r st → Runs s r st (step s.program st events.Bytecode).state (is_quiet s.program st) (is_standing s.program st)
bytecode_runs s r st g = by (bytecode_came s.program st)
  where
    by : Came s.program st (step s.program st events.Bytecode).state → Runs s r st (step s.program st events.Bytecode).state (is_quiet s.program st) (is_standing s.program st)
    by (Nothing e) = stays_runs s r st (step s.program st events.Bytecode).state (is_quiet s.program st) (is_standing s.program st) g e
    by (Head h hs x active queue is (inl e)) = stays_runs s r st (step s.program st events.Bytecode).state (is_quiet s.program st) (is_standing s.program st) g e
    by (Head h hs x active queue is (inr ran)) =
        let place = (clump st.clumps h).place in
        ran_runs s r st g h hs x active queue (run_by s r st h x place (slice_get s.program.code place) refl is) is ran
