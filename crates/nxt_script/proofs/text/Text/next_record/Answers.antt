use Rattle.std.proofs.Common.{◌≡◌, ℕ, ◌<◌, ◌⊎◌, ◌++◌, length, [], None, Some, sym, ap, ◌∙◌, subst, arith, inl, inr, true}
use Rattle.std.proofs.lemmas.Bool.{true≢false}
use Rattle.std.proofs.lemmas.Bool.Decides.{Decides-eqb}
use Rattle.std.proofs.lemmas.List.{nil_from_length}
use Rattle.std.proofs.lemmas.Result.{err_from_is_err_and}
use Rattle.std.specs.Prelude.{option_map}
use Rattle.csv.specs.Records.{fields_of}
use Rattle.nxt_script.specs.Inside.{HasLine, PassesLine}
use Rattle.nxt_script.specs.Scripts.{Front}
use Rattle.nxt_script.proofs.Fronts.{Reads-on, Passes-on, FindsFields-line, near-on, near-now}
use Rattle.nxt_script.proofs.Calls.{Reads-passed, Passes-through, FindsEnd-none, FindsFault-on, FindsFault-line}
use Rattle.nxt_script.proofs.text.Text.next_record.Goals as goal

pub returns-in_err-end-clause-finds : goal.returns-in_err-end-clause-finds
returns-in_err-end-clause-finds g c =
    let p = err_from_is_err_and c.from_residual.result c.from_residual.ensures.1 in
    let taken = c.loop-end.invariant.taken in
    let next = c.in_err-end.ensures.err in
    rw (p.1, p.2) (
      taken.0 ++ next.0,
      Reads-on _ _ _ _ _ _ taken.0 next.0 taken.1 next.1,
      near-on c.args.self.now c.loop-end.self taken.0 taken.2 next.0 (λ ended. (next.1.still ended).1) next.2,
      FindsFault-on _ _ _ _ _ taken.0 next.0 _ taken.2 next.1 next.3,
    )

-- an empty line that is whole is the end
over : (a : Front) (k : ℕ) → HasLine a k → a.pending ≡ [] → a.ended ≡ true
over a k has none = by has.whole
  where
    by : (k < length a.pending) ⊎ (a.ended ≡ true) → a.ended ≡ true
    by (inl lt) = absurd (omega (arith, lt, ap length none))
    by (inr ended) = ended

pub returns-then-is_empty-clause-finds : goal.returns-then-is_empty-clause-finds
returns-then-is_empty-clause-finds g c =
    let s = c.args.self.now in
    let a = c.whole_line.new.self in
    let taken = c.loop-end.invariant.taken in
    let next = c.in_ok-end.ensures.ok in
    let passes = Passes-on s c.loop-end.self a taken.0 next.0 taken.2 next.2 (λ ended. let k = next.1.still ended in (k.0, k.1)) in
    let size : length c.pending.result.now ≡ 0 = (Decides-eqb (length c.pending.result.now) 0).0 (sym c.is_empty.ensures ∙ c.if-is_empty.true) in
    let none : a.pending ≡ [] = nil_from_length a.pending (omega (arith, size, ap length c.pending.ensures.bytes)) in
    let ended : a.ended ≡ true = over a c.in_ok-end.end c.in_ok-end.ensures.line none in (
      taken.0 ++ next.0,
      Reads-on _ _ _ _ _ _ taken.0 next.0 taken.1 next.1,
      near-now s a (taken.0 ++ next.0) passes c.pending.ensures.few,
      FindsEnd-none s a (taken.0 ++ next.0) passes none ended c.pending.ensures.within,
    )

pub returns-in_err-fields-clause-finds : goal.returns-in_err-fields-clause-finds
returns-in_err-fields-clause-finds g c =
    let p = err_from_is_err_and c.from_residual-in_err-fields.result c.from_residual-in_err-fields.ensures.1 in
    let s = c.args.self.now in
    let a = c.whole_line.new.self in
    let taken = c.loop-end.invariant.taken in
    let next = c.in_ok-end.ensures.ok in
    let passes = Passes-on s c.loop-end.self a taken.0 next.0 taken.2 next.2 (λ ended. let k = next.1.still ended in (k.0, k.1)) in
    let err = c.in_err-fields.ensures.err in
    rw (p.1, p.2) (
      taken.0 ++ next.0,
      Reads-passed _ _ _ _ _ (taken.0 ++ next.0) (Reads-on _ _ _ _ _ _ taken.0 next.0 taken.1 next.1) (ap (λ f. f.ended) err.0),
      near-now s a (taken.0 ++ next.0) passes c.pending.ensures.few,
      FindsFault-line s a c.pass_line.new.self (taken.0 ++ next.0) c.in_err-fields.field-0.0 passes err.0 err.1,
    )

pub returns-in-Some-clause-finds : goal.returns-in-Some-clause-finds
returns-in-Some-clause-finds g c =
    let s = c.args.self.now in
    let a = c.whole_line.new.self in
    let b = c.pass_line.new.self in
    let k = c.in_ok-end.end in
    let taken = c.loop-end.invariant.taken in
    let next = c.in_ok-end.ensures.ok in
    let passes = Passes-on s c.loop-end.self a taken.0 next.0 taken.2 next.2 (λ ended. let e = next.1.still ended in (e.0, e.1)) in
    let line : PassesLine a b k (Some (fields_of c.in-Some.fields)) = subst (PassesLine a b k) (ap (option_map fields_of) c.in-Some.is) c.in_ok-fields.ensures.ok in (
      taken.0 ++ next.0,
      Reads-passed _ _ _ _ _ (taken.0 ++ next.0) (Reads-on _ _ _ _ _ _ taken.0 next.0 taken.1 next.1) line.ended,
      near-now s a (taken.0 ++ next.0) passes c.pending.ensures.few,
      FindsFields-line a k c.in_ok-end.ensures.line b s (taken.0 ++ next.0) passes (fields_of c.in-Some.fields) line,
    )

pub loop-end-smaller : goal.loop-end-smaller
loop-end-smaller g c =
    let a = c.whole_line.new.self in
    let next = c.in_ok-end.ensures.ok in
    let line = c.in_ok-fields.ensures.ok in
    let within = c.in_ok-fields.ensures.within in
    let some : (length c.pending.result.now ≡ 0) → ⊥ = (λ e. true≢false (sym ((Decides-eqb (length c.pending.result.now) 0).1 e) ∙ (sym c.is_empty.ensures ∙ c.if-is_empty.false))) in
    omega (arith, next.2.bytes, line.bytes, within, some, ap length c.pending.ensures.bytes)

pub loop-end-preserved : goal.loop-end-preserved
loop-end-preserved g c =
    let s = c.args.self.now in
    let a = c.whole_line.new.self in
    let b = c.pass_line.new.self in
    let k = c.in_ok-end.end in
    let taken = c.loop-end.invariant.taken in
    let next = c.in_ok-end.ensures.ok in
    let passes = Passes-on s c.loop-end.self a taken.0 next.0 taken.2 next.2 (λ ended. let e = next.1.still ended in (e.0, e.1)) in
    let line : PassesLine a b k None = subst (PassesLine a b k) (ap (option_map fields_of) c.in_default.is) c.in_ok-fields.ensures.ok in
    let before = c.loop-end.invariant.later in
    let later = c.whole_line.ensures.later in
    let is = c.loop-end.invariant.over in
    record {
      taken = (
        taken.0 ++ next.0,
        Reads-passed _ _ _ _ _ (taken.0 ++ next.0) (Reads-on _ _ _ _ _ _ taken.0 next.0 taken.1 next.1) line.ended,
        Passes-through s a b (taken.0 ++ next.0) k passes c.in_ok-end.ensures.line line,
      );
      over = λ ended. let o = is ended in let w = c.whole_line.ensures.over o.1 in (w.0 ∙ o.0, line.ended ∙ (next.1.still o.1).0);
      later = omega (arith, before, later);
    }
