use Rattle.std.proofs.Common.{◌≡◌, ◌∙◌, ◌||◌, true, false, is_some, sym, ap}
use Rattle.nxt_model.specs.Nbc.Header.{constant_named, is_header_struct}
use Rattle.nxt_nbc_names.proofs.header.is_header_name.Goals as goal

pub returns-then-is_some : goal.returns-then-is_some
returns-then-is_some c =
    let name = c.args.name.now in
    let found : is_some (constant_named name) ≡ true = sym (c.is_some.ensures ∙ ap is_some c.constant.ensures) ∙ c.if-is_some.true in
    c.if-is_some.true ∙ sym (ap (λ b. b || is_header_struct name) found)

pub returns-else-is_some : goal.returns-else-is_some
returns-else-is_some c =
    let name = c.args.name.now in
    let missing : is_some (constant_named name) ≡ false = sym (c.is_some.ensures ∙ ap is_some c.constant.ensures) ∙ c.if-is_some.false in
    c.is_header_struct.ensures
    ∙ sym (ap (λ b. b || is_header_struct name) missing)
