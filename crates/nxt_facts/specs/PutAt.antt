-- Items that stand at a place of a list.
use Rattle.std.specs.Prelude.{ℕ, ◌+◌, List, ◌++◌, length, take, drop}

-- these from a place on, and the others as they were
abbrev pub put_at : {X : Type 0} → ℕ → List X → List X → List X
put_at at items into = take at into ++ items ++ drop (at + length items) into
