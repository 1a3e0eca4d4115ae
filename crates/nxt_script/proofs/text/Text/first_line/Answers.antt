use Rattle.std.proofs.Common.{◌≤◌, ◌∙◌, ℕ, List, length, sym, ap, subst, arith, inl, inr, lt-ltb}
use Rattle.std.proofs.lemmas.Bool.{true≢false}
use Rattle.std.proofs.lemmas.List.{take_all}
use Rattle.nxt_script.specs.Inside.{IsLine, IsFirstLine}
use Rattle.nxt_script.proofs.RowsLaw.{IsFirstLine-position}
use Rattle.nxt_script.proofs.text.Text.first_line.Goals as goal
use Rattle.nxt_script.proofs.text.Text.first_line.Goals.{then-end-pending, else-end-pending}

pub returns-then-self-clause-some : goal.returns-then-self-clause-some
returns-then-self-clause-some c =
    let bytes = c.pending-pending.ensures.bytes in
    record {
      first = rw (c.line_end-end.ensures, bytes) (IsFirstLine-position c.args.self.now.pending);
      whole = elim c.if-end-pending.branch [
        | then-end-pending w ↦ inl (omega (arith, w.if-end-pending.true, ap length bytes))
        | else-end-pending w ↦ inr (ap (λ f. f.ended) (sym c.self.view_is) ∙ (sym w.value-is ∙ c.if-self.true))
      ];
    }

-- a first line that goes to the end is all
all_line : (bytes : List ℕ) (k : ℕ) → IsFirstLine bytes k → length bytes ≤ k → IsLine bytes
all_line bytes k first le = subst IsLine (take_all k bytes le) first.line

pub returns-else-self-clause-none : goal.returns-else-self-clause-none
returns-else-self-clause-none c = λ none. elim c.if-end-pending.branch [
  | then-end-pending w ↦ absurd (true≢false (sym (lt-ltb c.line_end-end.result (length c.pending-pending.result.now) w.if-end-pending.true) ∙ (sym w.value-is ∙ c.if-self.false)))
  | else-end-pending w ↦
      let bytes = c.pending-pending.ensures.bytes in
      let first : IsFirstLine c.args.self.now.pending c.line_end-end.result = rw (c.line_end-end.ensures, bytes) (IsFirstLine-position c.args.self.now.pending) in (
        all_line c.args.self.now.pending c.line_end-end.result first (omega (arith, w.if-end-pending.false, ap length bytes)),
        ap (λ f. f.ended) (sym c.self.view_is) ∙ (sym w.value-is ∙ c.if-self.false),
      )
]
