use Rattle.std.proofs.Common.{◌≡◌, Some, sym, ap, ◌∙◌}
use Rattle.std.specs.Prelude.{option_map}
use Rattle.csv.specs.Records.{field_at, fields_of}
use Rattle.nxt_script.proofs.Names.{row_of-none, row_of-telegram, row_of-numbers}
use Rattle.nxt_script.proofs.row.row.Goals as goal

pub returns-in_default : goal.returns-in_default
returns-in_default c = sym (row_of-none (fields_of c.args.fields.now) (sym c.get.ensures.value ∙ ap (λ o. option_map (λ s. s.now) o) c.in_default.is))

pub returns-then-eq : goal.returns-then-eq
returns-then-eq c =
    let fs = fields_of c.args.fields.now in
    let name = c.in-Some.name.now in
    let some : field_at fs 0 ≡ Some name = sym c.get.ensures.value ∙ ap (λ o. option_map (λ s. s.now) o) c.in-Some.is in
    rw (row_of-telegram fs name some (sym c.eq.ensures ∙ c.if-eq.true)) c.telegram.ensures

pub returns : goal.returns
returns c =
    let fs = fields_of c.args.fields.now in
    let name = c.in-Some.name.now in
    let some : field_at fs 0 ≡ Some name = sym c.get.ensures.value ∙ ap (λ o. option_map (λ s. s.now) o) c.in-Some.is in
    rw (row_of-numbers fs name some (sym c.eq.ensures ∙ c.if-eq.false)) c.row_of_numbers.ensures
