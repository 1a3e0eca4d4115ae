-- Open arrays, and the elements of rows, row by row.
use Rattle.std.proofs.Common.{◌≡◌, ℕ, ◌+◌, ◌<◌, true, false, List, [], ◌∷◌, flat_map, map, length, drop, length-append, Option, Some, None, if◌then◌else◌, refl, sym, ap, ◌∙◌}
use Rattle.std.specs.Prelude.{slice_index}
use Rattle.std.proofs.lemmas.List.{drop_more}
use Rattle.nxt_layout.specs.declared.reach.OpenArray.{OpenArray}
use Rattle.nxt_layout.specs.Rows.{Ground, row, elements_of}
use Rattle.nxt_facts.proofs.Places.{length-places}
use Rattle.nxt_layout.specs.Inside.RowPasses.{opened, is_back, back_to}

pub close_one : (a : Option ℕ) (os : List OpenArray) → is_back a (map opened os) ≡ false → back_to a (map opened (drop 1 os)) ≡ back_to a (map opened os)
close_one a [] e = absurd (let f : true ≡ false = e in cc)
close_one None (o ∷ os) e = refl
close_one (Some a) (o ∷ os) e = sym (ap (λ b. if b then opened o ∷ map opened os else back_to (Some a) (map opened os)) e)

pub elements_more : (g : Ground) (rows : List ℕ) (k : ℕ) → k < length rows → length (flat_map (elements_of g) (drop k rows)) ≡ (row g (slice_index rows k)).count + length (flat_map (elements_of g) (drop (k + 1) rows))
elements_more g rows k h =
    let r = slice_index rows k in
    ap (λ rs. length (flat_map (elements_of g) rs)) (drop_more rows k 0 h)
    ∙ length-append (elements_of g r) (flat_map (elements_of g) (drop (k + 1) rows))
    ∙ ap (λ n. n + length (flat_map (elements_of g) (drop (k + 1) rows))) (length-places (row g r).place (row g r).stride (row g r).count)
