-- The positions of members in front of others.
use Rattle.std.proofs.Common.{ℕ, List, ◌++◌}
use Rattle.nxt_model.specs.Nbc.Types.{Found}

abbrev pub prefixed : List ℕ → Found → Found
prefixed path f = (path ++ f.0, f.1)
