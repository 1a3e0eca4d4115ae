-- Groups convert by their members, of which there must be as many.
use Rattle.std.proofs.Common.{◌≡◌, ◌≢◌, ◌∙◌, List, [], ◌∷◌, length, suc, Bool, true, false, ◌&&◌, ap, sym, refl, map}
use Rattle.std.proofs.lemmas.List.{length-map}
use Rattle.nxt_types.specs.Shapes.{Shape, tree, members, cluster_of, convertible, convertible_members}
use Rattle.nxt_types.proofs.Laws.Trees.{trees_hidden}
use Rattle.nxt_types.proofs.conversion.+convertible.Goals as goal

both_false : (b c : Bool) → false ≡ c → false ≡ (b && c)
both_false true c e = e
both_false false c e = refl

other_count : (ss ts : List Shape) → length ss ≢ length ts → false ≡ convertible_members (members ss) (members ts)
other_count [] [] h = absurd (h refl)
other_count [] (t ∷ ts) h = refl
other_count (s ∷ ss) [] h = refl
other_count (s ∷ ss) (t ∷ ts) h = both_false (convertible s t) _ (other_count ss ts (λ e. h (ap suc e)))

pub are_convertible-returns-then-to-from : goal.are_convertible-returns-then-to-from
are_convertible-returns-then-to-from t c =
    other_count (map tree c.args.to.now) (map tree c.args.from.now) (λ e. c.if-to-from.true (sym (length-map c.args.to.now tree) ∙ e ∙ length-map c.args.from.now tree))

pub convertible-returns-in-Group-from : goal.convertible-returns-in-Group-from
convertible-returns-in-Group-from t c =
    c.are_convertible.ensures
    ∙ ap (λ l. convertible_members (members (map tree l)) (members (map tree c.as_slice-in-Group-from.result.now))) c.as_slice.ensures.value
    ∙ ap (λ l. convertible_members (members (map tree c.in-Group.to.items.items)) (members (map tree l))) c.as_slice-in-Group-from.ensures.value
    ∙ ap (λ s. convertible s (cluster_of (map tree c.in-Group-from.from.items.items))) (sym (trees_hidden c.in-Group.to.items) ∙ ap tree (sym c.in-Group.is))
    ∙ ap (λ s. convertible (tree c.args.to.now) s) (sym (trees_hidden c.in-Group-from.from.items) ∙ ap tree (sym c.in-Group-from.is))
