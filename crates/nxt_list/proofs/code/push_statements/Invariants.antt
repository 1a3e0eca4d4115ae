-- The text so far, and the statements that are left.
use Rattle.std.proofs.Common.{◌≡◌, ◌++◌, drop, map}
use Rattle.std.specs.Prelude.{flat_map}
use Rattle.nxt_types.specs.Statements.{statements}
use Rattle.nxt_code.specs.Decoding.{placed_of}
use Rattle.nxt_list.specs.Listing.{statement_line}
use Rattle.nxt_list.proofs.code.push_statements.Given as goal

abbrev pub invariant-loop-placed : goal.invariant-loop-placed
invariant-loop-placed l = l.into ++ flat_map statement_line (map (placed_of l.words) (drop l.placed-index l.code.placed.items)) ≡ l.fn.into ++ flat_map statement_line (statements l.words)
