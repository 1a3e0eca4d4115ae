-- The program's links between threads, as the definitions see them.
use Rattle.std.specs.Prelude.{ℕ, List, Option}
use Rattle.nxt_nbc_program.specs.declared.links.Links.{Links}
use Rattle.nxt_nbc_program.specs.declared.links.Follower.{Follower}

abbrev pub links_seen : Links → List ℕ × List ℕ
links_seen l = (l.dependents, l.exits)

abbrev pub follower_seen : Follower → Option ℕ × List ℕ
follower_seen f = (f.number, f.follows)
