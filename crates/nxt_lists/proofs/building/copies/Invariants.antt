-- So many copies are there.
use Rattle.std.proofs.Common.{◌≡◌, ◌∷◌, flat_map, replicate}
use Rattle.std.specs.Prelude.{pos}
use Rattle.nxt_lists.proofs.building.copies.Given as goal

abbrev pub invariant-loop : goal.invariant-loop
invariant-loop l = l.flat ≡ pos l.count ∷ flat_map (λ zs. zs) (replicate l.counter l.one)
