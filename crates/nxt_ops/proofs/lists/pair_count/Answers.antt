-- Two lists have as many pairs as the shorter one has numbers.
use Rattle.std.proofs.Common.{length, min, sym, ap₂, ◌∙◌}
use Rattle.std.proofs.lemmas.Slice.Zip.{length-zip}
use Rattle.nxt_ops.specs.Elements.{pairs_of}
use Rattle.nxt_ops.proofs.lists.pair_count.Goals as goal

pub returns-in-Each-Each-clause-count : goal.returns-in-Each-Each-clause-count
returns-in-Each-Each-clause-count c =
    c.min.ensures
    ∙ ap₂ (λ xs ys. min (length xs) (length ys)) c.as_slice.ensures c.as_slice-in-Each-Each.ensures
    ∙ sym (length-zip c.in-Each-Each.xs c.in-Each-Each.ys)
    ∙ ap₂ (λ xs ys. length (pairs_of xs ys)) (sym c.in-Each-Each.is-0) (sym c.in-Each-Each.is-1)
