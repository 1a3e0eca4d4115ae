-- No statement before this one has a refused operand, and what is kept is right.
use Rattle.std.proofs.Common.{◌≡◌, ◌&&◌, ◌==◌, ℕ, false, map, take}
use Rattle.std.specs.List.{list_any}
use Rattle.nxt_code.specs.CodeRules.{is_refused_operand}
use Rattle.nxt_code.specs.Decoding.{placed_of}
use Rattle.nxt_code.specs.Inside.KnownShapes.{IsKnown}
use Rattle.nxt_code.proofs.operands.bad_operand.Given as goal

abbrev pub invariant-loop-placed : goal.invariant-loop-placed
invariant-loop-placed l = record {
  known : IsKnown l.toc.shapes l.known;
  none : (v j : ℕ) → list_any (λ s. (s.0 == v) && is_refused_operand l.toc.shapes l.clumps j s.1) (map (placed_of l.words) (take l.placed-index l.code.placed.items)) ≡ false;
}
