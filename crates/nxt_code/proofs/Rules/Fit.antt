-- What no rule refuses is fit.
use Rattle.std.proofs.Common.{◌≡◌, ℕ, ◌+◌, ◌-◌, ◌<◌, ◌≤◌, Bool, true, false, not, ◌&&◌, nat_le, nat_lt, List, length, drop, refl, sym, ap, ◌∙◌, inl, inr, arith, Some}
use Rattle.std.specs.Prelude.{ℤ, pos, negsuc, slice_get}
use Rattle.std.specs.List.{list_any}
use Rattle.std.specs.Ordering.{int_eq}
use Rattle.std.proofs.lemmas.Bool.{and_from, true_from_ne_false, false_from_ne_true, or_parts, cases_lt, not-false, both_ways, lt-ltb, le-leb, leb-false}
use Rattle.nxt_types.specs.declared.lists.ClumpRec.{ClumpRec}
use Rattle.nxt_types.specs.Refusals.{IsAccepted, passes}
use Rattle.nxt_types.specs.Statements.{Statement, statement_at, statements}
use Rattle.nxt_types.specs.OperandRules.{operand_fits, sorts_of}
use Rattle.nxt_code.specs.declared.fault.CodeFault.TheVariants.{ClumpStart, Instr, Operand, Jump, FallsOut}
use Rattle.nxt_code.specs.declared.statements.Decoded.{Decoded}
use Rattle.nxt_code.specs.CodeRules.{Program, Broken, IsFit, IsFitAt, begins, is_jump, may_go_on, leads_nowhere, target, is_refused_operand, is_inside, starts_badly}
use Rattle.nxt_code.specs.Decoding.{IsDecoded}
use Rattle.nxt_code.proofs.Sequence.Tiled.{passed_there, ends_there, ends_at, last_there}
use Rattle.nxt_code.proofs.Sequence.Marks.{begins_pos, begins_neg, lacks_at_end, begun_or_inside}

module _ (p : Program) (code : Decoded) (d : IsDecoded p.words code) (accepted : IsAccepted (Broken p)) where
  abbrev sts : List (ℕ × Statement)
  sts = statements p.words

  abbrev end : ℕ
  end = length code.numbers.items

  module _ (w : ℕ) (s : Statement) (n : ℕ) (here : begins sts w ≡ true) (spelled : statement_at (drop w p.words) ≡ Some (s, n)) where
    fit_operand : (k : ℕ) → k < length s.args → operand_fits (length p.clumps) s.op (sorts_of p.shapes s) k ≡ true
    fit_operand k l =
        let fits : ℕ → Bool = λ j. operand_fits (length p.clumps) s.op (sorts_of p.shapes s) j in
        true_from_ne_false (fits k) (λ e. accepted (Operand w (k + 1))
        (passed_there p.words 0 sts end w n s (is_refused_operand p.shapes (length p.clumps) (k + 1)) d.tiled here spelled
        (and_from (nat_lt 0 (k + 1) && nat_le (k + 1) (length s.args)) (not (fits (k + 1 - 1)))
        (and_from (nat_lt 0 (k + 1)) (nat_le (k + 1) (length s.args)) (lt-ltb 0 (k + 1) (omega arith)) (le-leb (k + 1) (length s.args) (omega (arith, l))))
        (ap not (ap fits (let m : k + 1 - 1 ≡ k = omega arith in m) ∙ e)))))

    leads : is_jump s.op ≡ true → list_any (λ t. int_eq (pos t.0) (target w s)) sts ≡ true
    leads jump =
        true_from_ne_false (list_any (λ t. int_eq (pos t.0) (target w s)) sts) (λ e. accepted (Jump w)
        (passed_there p.words 0 sts end w n s (leads_nowhere p.words w) d.tiled here spelled
        (and_from (is_jump s.op) (not (list_any (λ t. int_eq (pos t.0) (target w s)) sts)) jump (ap not e))))

    place : (z : ℤ) → list_any (λ t. int_eq (pos t.0) z) sts ≡ true → (v : ℕ) × (z ≡ pos v) × (begins sts v ≡ true)
    place (pos v) e = (v, refl, sym (begins_pos sts (pos v) v refl) ∙ e)
    place (negsuc v) e = absurd (both_ways (list_any (λ t. int_eq (pos t.0) (negsuc v)) sts) (begins_neg sts v) e)

    follows : may_go_on s ≡ true → begins sts (w + n) ≡ true
    follows more =
        elim (ends_at p.words 0 sts end (w + n) d.tiled (ends_there p.words 0 sts end w n s d.tiled here spelled)) as (λ _. begins sts (w + n) ≡ true) [
          | inl e ↦ e
          | inr e ↦ absurd (accepted (FallsOut w) (last_there p.words 0 sts end w n s may_go_on d.tiled here spelled e more))
        ]

    fit_at : IsFitAt p w s n
    fit_at = record { operands = fit_operand; jumps = λ jump. place (target w s) (leads jump); next = follows }

  whole : length p.words ≤ end
  whole =
      elim (cases_lt end (length p.words)) as (λ _. length p.words ≤ end) [
        | inl l ↦ absurd (accepted (Instr end) (lacks_at_end p.words code d l))
        | inr l ↦ l
      ]

  start_begins : (c : ℕ) (r : ClumpRec) → slice_get p.clumps c ≡ Some r → begins sts r.start ≡ true
  start_begins c r e =
      let all = whole in
      let good : starts_badly p.words r ≡ false = false_from_ne_true (starts_badly p.words r) (λ b. accepted (ClumpStart c) (ap (passes (starts_badly p.words)) e ∙ b)) in
      let parts = or_parts (nat_le (length p.words) r.start) (is_inside p.words r.start) good in
      let l : r.start < length p.words = leb-false (length p.words) r.start parts.0 in
      let m : r.start < end = omega (arith, l, all) in
      not-false (begins sts r.start) (begun_or_inside p.words code d r.start m ∙ parts.1)

  pub fit : IsFit p
  fit = record { starts = start_begins; each = λ w s n here spelled. fit_at w s n here spelled }
