use Rattle.std.proofs.Common.{◌≡◌, ℕ, ◌+◌, ◌-◌, ◌++◌, length, take, drop, List, sym, ap, ◌∙◌, Ok, arith, inl, inr}
use Rattle.std.proofs.lemmas.Bool.{cases_lt, false≢true}
use Rattle.std.proofs.lemmas.Bool.Decides.{Decides-eqb}
use Rattle.std.proofs.lemmas.Result.{err_from_is_err_and}
use Rattle.nxt_edge.proofs.Laws.{rest_is}
use Rattle.nxt_script.proofs.RowsLaw.{at_bytes}
use Rattle.nxt_script.proofs.LongLines.{MayGo}
use Rattle.nxt_script.proofs.Fronts.{near-line}
use Rattle.nxt_script.proofs.Calls.{Passes-read}
use Rattle.nxt_script.proofs.text.Text.refill.Goals as goal

pub returns-in_err-count-clause-err : goal.returns-in_err-count-clause-err
returns-in_err-count-clause-err g c =
    let p = err_from_is_err_and c.from_residual-in_err-count.result c.from_residual-in_err-count.ensures.1 in
    let gone = c.in_err-count.ensures.gone in
    let going = c.requires.going in
    rw (p.1) (
      gone.0,
      record {
        consumes = gone.2;
        end = λ not_yet ended. absurd (false≢true (sym not_yet ∙ ended));
        still = λ ended. absurd (false≢true (sym going ∙ ended));
      },
      near-line c.args.self.now.pending gone.0 c.requires.line (omega (arith, gone.1)),
    )

-- of a line that isn't long nothing goes
may_go : (pending : List ℕ) (n : ℕ) → n ≡ length pending - (512 + 1) → MayGo n pending
may_go pending n is = elim (cases_lt 513 (length pending)) [
  | inl lt ↦ inr (omega (arith, lt, is))
  | inr le ↦ inl (omega (arith, le, is))
]

pub returns-clause-ok : goal.returns-clause-ok
returns-clause-ok g c =
    let a = c.args.self.now in
    let n = c.saturating_sub-passed.result in
    let more = c.in_ok-count.ensures.taken in
    let going = c.requires.going in
    let bytes = c.pending-pending.ensures.bytes in
    let passed : n ≡ length a.pending - (512 + 1) = c.saturating_sub-passed.ensures ∙ ap (λ l. length l - (512 + 1)) bytes in
    let ys = c.pending-pending.result.now in
    let kept : c.append.new.self ≡ drop n a.pending = c.in_ok-append.ensures.ok ∙ (ap (λ l. l ++ take (length ys - n) (drop n ys)) c.new-taken.ensures ∙ rest_is ys a.pending n bytes) in (
      more.0,
      record {
        consumes = more.2;
        end = λ not_yet ended. c.in_ok-count.ensures.end (ap Ok ((Decides-eqb c.in_ok-count.count 0).0 ended));
        still = λ ended. absurd (false≢true (sym going ∙ ended));
      },
      Passes-read a _ n more.0 c.requires.line (may_go a.pending n passed) (omega (arith, passed)) c.requires.within
          (more.1 ∙ ap (λ l. l ++ more.0) kept)
          (ap (λ f. at_bytes (f.counts.bytes + n) f.counts) c.self.view_is),
    )
