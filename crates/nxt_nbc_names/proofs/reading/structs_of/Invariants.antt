use Rattle.std.proofs.Common.{◌≡◌, ℕ, drop, map}
use Rattle.nxt_model.specs.Nbc.Structs.{types_from, types_of}
use Rattle.nxt_nbc_lines.specs.Firsts.{Ascends}
use Rattle.nxt_nbc_lines.specs.Seen.{line_form_seen}
use Rattle.nxt_nbc_names.specs.Structs.{RisesTo}
use Rattle.nxt_nbc_names.proofs.reading.structs_of.Given as goal

-- what was read so far and the rest give the types of all lines, and the structs stand before the rest
abbrev pub invariant-loop-line : goal.invariant-loop-line
invariant-loop-line l =
    let rest = map line_form_seen (drop l.line-index l.fn.lines) in
    (types_from l.structs l.opened.name.now l.opened.members rest ≡ types_of (map line_form_seen l.fn.lines))
    × ((n : ℕ) × Ascends n rest × RisesTo 0 n l.structs.structs)
