use Rattle.std.proofs.Common.{◌≡◌, ◌+◌, Some, None, sym, ap, ◌∙◌, arith, rules}
use Rattle.std.specs.Prelude.{option_map}
use Rattle.std.proofs.lemmas.Int.{to_z-of_z}
use Rattle.csv.specs.Records.{field_at, fields_of}
use Rattle.nxt_script.proofs.Fields.{one_more, no_number, no_field, a_field_left, one_more_in, all_in}
use Rattle.nxt_script.proofs.row.numbers.Goals as goal
use mir.Syntax.{w64}
use mir.Val.{SFits, to_z, of_z}

pub returns-in_err-field-clause-value : goal.returns-in_err-field-clause-value
returns-in_err-field-clause-value g c =
    let fs = fields_of c.args.fields.now in
    let i = c.loop-i.i in
    let none : field_at fs (i + 1) ≡ None = sym c.get.ensures.value ∙ ap (λ o. option_map (λ s. s.now) o) c.in_err-field.was in
    rw c.from_residual.ensures (sym (no_field _ c.args.ranges.now fs c.loop-i.found i (omega arith) none) ∙ c.loop-i.invariant.value)

pub returns-in_err-found-clause-value : goal.returns-in_err-found-clause-value
returns-in_err-found-clause-value g c =
    let fs = fields_of c.args.fields.now in
    let i = c.loop-i.i in
    let field = c.in_ok-field.field.now in
    let some : field_at fs (i + 1) ≡ Some field = sym c.get.ensures.value ∙ ap (λ o. option_map (λ s. s.now) o) c.in_ok-field.was in
    rw c.from_residual-in_err-found.ensures
    (sym (no_number _ c.args.ranges.now fs c.loop-i.found i _ field (omega arith) some (sym c.number_in.ensures.value ∙ c.in_err-found.was)) ∙ c.loop-i.invariant.value)

pub loop-i-preserved : goal.loop-i-preserved
loop-i-preserved g c =
    let fs = fields_of c.args.fields.now in
    let i = c.loop-i.i in
    let field = c.in_ok-field.field.now in
    let z = c.in_ok-found.field-0 in
    let fits : SFits w64 z = search rules in
    let some : field_at fs (i + 1) ≡ Some field = sym c.get.ensures.value ∙ ap (λ o. option_map (λ s. s.now) o) c.in_ok-field.was in
    let number = sym c.number_in.ensures.value ∙ (c.in_ok-found.was ∙ ap (λ n. Some n) (sym (to_z-of_z w64 z fits))) in
    let same : to_z w64 (of_z w64 z) ≡ z = to_z-of_z w64 z fits in
    record {
      long = search rules;
      value = one_more _ c.args.ranges.now fs c.loop-i.found i _ field _ (omega arith) (omega arith) some number ∙ c.loop-i.invariant.value;
      within = one_more_in (λ q. q.least) (λ q. q.greatest) c.args.ranges.now c.loop-i.found i _ (to_z w64 (of_z w64 z)) (omega arith)
          (rw (← same) at c.in_ok-found.ensures.within) c.loop-i.invariant.within;
    }

pub returns-then-len-clause-value : goal.returns-then-len-clause-value
returns-then-len-clause-value g c =
    sym (a_field_left _ c.args.ranges.now (fields_of c.args.fields.now) c.loop-i.found c.loop-i.i (omega arith) (omega arith)) ∙ c.loop-i.invariant.value

pub returns-clause-within : goal.returns-clause-within
returns-clause-within g c k r e =
    all_in (λ q. q.least) (λ q. q.greatest) c.args.ranges.now c.loop-i.found c.loop-i.i k r (omega arith) c.loop-i.invariant.within e
