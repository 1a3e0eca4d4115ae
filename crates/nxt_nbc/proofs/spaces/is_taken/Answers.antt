use Rattle.std.proofs.Common.{◌∙◌, ◌&&◌, ◌||◌, is_some, sym, ap, ap₂}
use Rattle.nxt_model.specs.Nbc.Header.{constant_named, is_header_struct}
use Rattle.nxt_nbc.proofs.spaces.is_taken.Goals as goal

pub returns-then-is_type : goal.returns-then-is_type
returns-then-is_type c =
    let t = c.args.source.now.structs in
    let name = c.args.name.now in
    let of_header = is_some t.included && (is_some (constant_named name) || is_header_struct name) in
    c.if-is_type.true ∙ sym (ap (λ b. b || of_header) (sym c.is_type.ensures ∙ c.if-is_type.true))

pub returns-then-includes_header : goal.returns-then-includes_header
returns-then-includes_header c =
    let name = c.args.name.now in
    let named = is_some (constant_named name) || is_header_struct name in
    c.is_header_name.ensures
    ∙ sym (ap₂ (λ b i. b || (i && named)) (sym c.is_type.ensures ∙ c.if-is_type.false) (sym c.includes_header.ensures ∙ c.if-includes_header.true))

pub returns-else-includes_header : goal.returns-else-includes_header
returns-else-includes_header c =
    let name = c.args.name.now in
    let named = is_some (constant_named name) || is_header_struct name in
    c.if-includes_header.false
    ∙ sym (ap₂ (λ b i. b || (i && named)) (sym c.is_type.ensures ∙ c.if-is_type.false) (sym c.includes_header.ensures ∙ c.if-includes_header.false))
