-- What the list of shapes has at an entry is what the entry names.
use Rattle.std.proofs.Common.{◌≡◌, ◌<◌, ◌≤◌, ◌∙◌, ap, arith, length, Some, None, option_map, get_or, refl}
use Rattle.std.proofs.lemmas.Option.{slice_get_past, slice_get_read}
use Rattle.std.specs.Prelude.{slice_get}
use Rattle.nxt_types.specs.Shapes.{tree}
use Rattle.nxt_types.specs.Names.{name_among}
use Rattle.nxt_types.specs.Tables.{Table}
use Rattle.nxt_types.proofs.Laws.Tables.{shape_there, copied_tree}
use Rattle.nxt_types.proofs.toc.Toc.shape.Goals as goal

pub returns-in_err-found : goal.returns-in_err-found
returns-in_err-found c =
    let xs = c.self.inside.shapes.items in
    let same = ap (λ l. length l) c.deref.ensures.value in
    let past : length xs ≤ c.args.i = omega (arith, c.in_err-found.ensures, same) in
    ap (λ o. option_map (λ s. tree s.now) o) c.from_residual.ensures
    ∙ shape_there xs _ c.args.i None c.self.invariant.1 (slice_get_past xs c.args.i past)
    ∙ ap (λ (t : Table). option_map (λ n. n.shape) (name_among t.shapes 0 c.args.i)) c.self.view_is

pub returns : goal.returns
returns c =
    let xs = c.self.inside.shapes.items in
    let same = ap (λ l. length l) c.deref.ensures.value in
    let within : c.args.i < length xs = omega (arith, c.in_ok-found.ensures, same) in
    let there = c.in_ok-found.ensures.lookup.1 ∙ ap (λ l. get_or l c.args.i c.in_ok-found.found.now) c.deref.ensures.value in
    let at : slice_get xs c.args.i ≡ Some c.in_ok-found.found.now = slice_get_read xs (length xs) c.args.i _ refl within there in
    copied_tree c.as_ref.result
    ∙ ap (option_map tree) c.as_ref.ensures.value
    ∙ shape_there xs _ c.args.i (Some c.in_ok-found.found.now) c.self.invariant.1 at
    ∙ ap (λ (t : Table). option_map (λ n. n.shape) (name_among t.shapes 0 c.args.i)) c.self.view_is
