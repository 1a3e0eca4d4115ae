use Rattle.std.proofs.Common.{Ok, ap, subst}
use Rattle.std.proofs.lemmas.Result.{err_from_is_err_and}
use Rattle.csv.specs.Records.{fields_of}
use Rattle.nxt_script.specs.Inside.{FindsFields, FindsRecord}
use Rattle.nxt_script.proofs.Calls.{Reads-passed}
use Rattle.nxt_script.proofs.NextRow.{counted_row, counted_fault}
use Rattle.nxt_script.proofs.text.Text.next_row.Goals as goal

pub returns-in_err-fields-clause-finds : goal.returns-in_err-fields-clause-finds
returns-in_err-fields-clause-finds g c =
    let p = err_from_is_err_and c.from_residual.result c.from_residual.ensures.1 in
    let finds = c.in_err-fields.ensures.finds in
    rw (p.1, p.2) (finds.0, finds.1, finds.2, finds.3)

pub returns-in_err-count-clause-finds : goal.returns-in_err-count-clause-finds
returns-in_err-count-clause-finds g c =
    let p = err_from_is_err_and c.from_residual-in_err-count.result c.from_residual-in_err-count.ensures.1 in
    let a = c.args.self.now in
    let b = c.next_record.new.self in
    let finds = c.in_ok-fields.ensures.finds in
    let found : FindsFields a b finds.0 (fields_of c.in-Some.fields) = subst (λ o. FindsRecord a b finds.0 (Ok o)) c.in-Some.is finds.3 in
    let err = c.in_err-count.ensures.err in
    rw (p.1, p.2) (
      finds.0,
      Reads-passed a b c.count.new.self _ _ finds.0 finds.1 (ap (λ f. f.ended) err.0),
      finds.2,
      counted_fault a b c.count.new.self finds.0 (fields_of c.in-Some.fields) found c.in_err-count.field-0.0 err.0 err.1,
    )

pub returns-clause-finds : goal.returns-clause-finds
returns-clause-finds g c =
    let a = c.args.self.now in
    let b = c.next_record.new.self in
    let finds = c.in_ok-fields.ensures.finds in
    let found : FindsFields a b finds.0 (fields_of c.in-Some.fields) = subst (λ o. FindsRecord a b finds.0 (Ok o)) c.in-Some.is finds.3 in
    let ok = c.in_ok-count.ensures.ok in (
      finds.0,
      Reads-passed a b c.count.new.self _ _ finds.0 finds.1 (ap (λ f. f.ended) ok.2),
      finds.2,
      counted_row a b c.count.new.self finds.0 (fields_of c.in-Some.fields) found c.in_ok-count.field-0 ok.0 ok.1 ok.2 c.in_ok-count.ensures.few,
    )
