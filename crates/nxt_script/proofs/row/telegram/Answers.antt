use Rattle.std.proofs.Common.{◌≡◌, Some, sym, ap, ◌∙◌, arith}
use Rattle.std.specs.Prelude.{option_map}
use Rattle.csv.specs.Records.{field_at, fields_of}
use Rattle.nxt_script.proofs.Fields.{no_telegram, one_telegram, field_within}
use Rattle.nxt_script.proofs.row.telegram.Goals as goal

pub returns-in_default : goal.returns-in_default
returns-in_default c = sym (no_telegram (fields_of c.args.fields.now) (sym c.get.ensures.value ∙ ap (λ o. option_map (λ s. s.now) o) c.in_default.is))

pub returns : goal.returns
returns c =
    let fs = fields_of c.args.fields.now in
    let d = c.in-Some.digits.now in
    let e : field_at fs 1 ≡ Some d = sym c.get.ensures.value ∙ ap (λ o. option_map (λ s. s.now) o) c.in-Some.is in
    rw (one_telegram fs d e (omega (arith, field_within fs 1 d e))) c.short_telegram.ensures
