use Rattle.std.proofs.Common.{◌≡◌, ℕ, ◌⊎◌, ◌++◌, length, List, sym, ap, ◌∙◌, subst, arith, inl, inr}
use Rattle.std.proofs.lemmas.Bool.{false≢true}
use Rattle.std.proofs.lemmas.Result.{err_from_is_err_and}
use Rattle.nxt_script.specs.declared.fault.ScriptFault.{ScriptFault}
use Rattle.nxt_script.specs.declared.fault.ScriptFault.TheVariants as faults
use Rattle.nxt_script.specs.Scripts.{Front}
use Rattle.nxt_script.specs.Inside.{FindsFault}
use Rattle.nxt_script.proofs.Fronts.{Reads-on, Passes-on, near-on, near-now}
use Rattle.nxt_script.proofs.Calls.{rows_from-passed}
use Rattle.nxt_script.proofs.text.Text.whole_line.Goals as goal

pub returns-then-self-pending-gt-SCRIPT_BYTES-clause-err :
    goal.returns-then-self-pending-gt-SCRIPT_BYTES-clause-err
returns-then-self-pending-gt-SCRIPT_BYTES-clause-err g c =
    let now = c.loop-end.self in
    let taken = c.loop-end.invariant.taken in
    let none = c.first_line.ensures.none c.in_default.is in
    let passed : c.self.inside.passed ≡ now.counts.bytes = ap (λ f. f.counts.bytes) c.self.view_is in
    let over = c.if-self-pending-gt-SCRIPT_BYTES.true in
    let size = ap length c.pending.ensures.bytes in (
      taken.0,
      taken.1,
      near-now c.args.self.now now taken.0 taken.2 c.pending.ensures.few,
      (λ more follows. taken.2.rows more follows ∙ rows_from-passed now.counts now.pending more none.0 (omega (arith, passed, over, size))),
    )

pub loop-end-preserved : goal.loop-end-preserved
loop-end-preserved g c =
    let taken = c.loop-end.invariant.taken in
    let next = c.in_ok-refill.ensures.ok in
    let before = c.loop-end.invariant.later in
    let later = c.refill.ensures.later in
    let none = c.first_line.ensures.none c.in_default.is in
    let is = c.loop-end.invariant.over in
    record {
      taken = (
        taken.0 ++ next.0,
        Reads-on _ _ _ _ _ _ taken.0 next.0 taken.1 next.1,
        Passes-on _ _ _ taken.0 next.0 taken.2 next.2 (λ ended. let s = next.1.still ended in (s.0, s.1)),
      );
      over = λ ended. absurd (false≢true (sym none.1 ∙ (is ended).1));
      later = omega (arith, before, later);
    }

-- a read that fails tells nothing of the script
untold : (a b : Front) (t : List ℕ) (f : ScriptFault) → (f ≡ faults.Failed) ⊎ (f ≡ faults.NoMemory) → FindsFault a b t f
untold a b t f (inl e) = subst (FindsFault a b t) (sym e) (λ more follows. tt)
untold a b t f (inr e) = subst (FindsFault a b t) (sym e) (λ more follows. tt)

pub returns-in_err-refill-clause-err : goal.returns-in_err-refill-clause-err
returns-in_err-refill-clause-err g c =
    let p = err_from_is_err_and c.from_residual.result c.from_residual.ensures.1 in
    let taken = c.loop-end.invariant.taken in
    let next = c.in_err-refill.ensures.err in
    rw (p.1, p.2) (
      taken.0 ++ next.0,
      Reads-on _ _ _ _ _ _ taken.0 next.0 taken.1 next.1,
      near-on c.args.self.now c.loop-end.self taken.0 taken.2 next.0 (λ ended. (next.1.still ended).1) next.2,
      untold c.args.self.now c.refill.new.self (taken.0 ++ next.0) c.in_err-refill.field-0.0 c.in_err-refill.ensures.fault,
    )
