-- Which threads lower which.
use Rattle.std.specs.Prelude.{ℕ, Bool, ◌||◌, if◌then◌else◌, List, map, flat_map, Option, None}
use Rattle.nxt_model.specs.Nbc.Text.{Source, Block, block_named, followed_by, exited_by, dependents_of, holds_number, numbered}

-- a block's number, and the numbers of those that it follows
abbrev pub follower_of : Source → Block → Option ℕ × List ℕ
follower_of src b = (block_named src b.name, flat_map (followed_by src) b.items)

-- its number, where it follows block k
abbrev pub follows : ℕ → Option ℕ × List ℕ → Option ℕ
follows k f = if holds_number f.1 k then f.0 else None

-- the blocks that are lowered when a block ends, and those that it exits to
abbrev pub links : Source → ℕ × Block → List ℕ × List ℕ
links src x = (dependents_of src x.0 x.1, flat_map (exited_by src) x.1.items)

abbrev pub links_of : Source → List (List ℕ × List ℕ)
links_of src = map (links src) (numbered src)

abbrev pub lowers : ℕ → List ℕ × List ℕ → Bool
lowers k l = holds_number l.0 k || holds_number l.1 k
