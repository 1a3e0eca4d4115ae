-- The footprint of a judged file is that of its start.
use Rattle.std.proofs.Common.{sym, subst}
use Rattle.nxt_tool.specs.Accepted.{IsSound}
use Rattle.nxt_tool.proofs.FromFile.Parts.{judged_sound}
use Rattle.nxt_tool.proofs.accepting.check.Goals as goal

pub returns : goal.returns
returns c =
    let judged = c.in_ok-layout.ensures in
    let p = judged.0 in
    (p, judged.1, subst (IsSound p) (sym c.footprint.ensures) (judged_sound p c.in_ok-layout.layout c.in_ok-layout._code judged.2))
