use Rattle.std.proofs.Common.{◌≡◌, Some, ap, sym, ◌∙◌}
use Rattle.std.specs.Prelude.{slice_get}
use Rattle.std.specs.Option.{option_copied}
use Rattle.nxt_model.specs.Nbc.Forms.{outermost}
use Rattle.nxt_nbc_lines.proofs.OpenLaws.{outermost-first}
use Rattle.nxt_nbc_lines.proofs.opened.Open.outermost.Goals as goal

pub returns-in-Some : goal.returns-in-Some
returns-in-Some c =
    let places = c.self.inside.places.items in
    let first : slice_get places 0 ≡ Some c.in-Some.opened.now =
    ap (λ xs. slice_get xs 0) (sym c.deref.ensures.value) ∙ sym c.first.ensures.value ∙ ap option_copied c.in-Some.is in
    outermost-first places c.in-Some.opened.now first ∙ ap outermost c.self.view_is
