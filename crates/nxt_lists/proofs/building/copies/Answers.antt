-- One more copy.
use Rattle.std.proofs.Common.{◌∷◌, ◌++◌, [], flat_map, replicate, ap, ◌∙◌, List, ℤ}
use Rattle.std.specs.Prelude.{pos}
use Rattle.std.proofs.lemmas.List.{replicate_more, flat_map_more}
use Rattle.nxt_lists.proofs.building.copies.Goals as goal

pub loop-preserved : goal.loop-preserved
loop-preserved c =
    let one = c.args.one.now in
    let had = replicate c.loop.counter one in
    c.in_ok-append.ensures.ok
    ∙ ap (λ zs. zs ++ one) c.loop.invariant
    ∙ flat_map_more (λ (zs : List ℤ). zs) (pos c.args.count ∷ []) had one
    ∙ ap (λ (ws : List (List ℤ)). pos c.args.count ∷ flat_map (λ zs. zs) ws) (replicate_more c.loop.counter one)
