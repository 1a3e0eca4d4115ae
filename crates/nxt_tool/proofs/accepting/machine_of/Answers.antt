-- The image of the machine is that of the parts.
use Rattle.std.proofs.Common.{◌∙◌}
use Rattle.nxt_tool.proofs.FromFile.Machine.{made_image}
use Rattle.nxt_tool.proofs.FromFile.Parts.{judged_run}
use Rattle.nxt_tool.proofs.accepting.machine_of.Goals as goal

pub returns-clause-accepted : goal.returns-clause-accepted
returns-clause-accepted c =
    let p = c.args.parts in
    let l = c.in_ok-layout.layout in
    let code = c.in_ok-layout.code in
    let j = c.in_ok-layout.ensures in
    judged_run p l code j c.in_ok-new.field-0.image (c.in_ok-new.ensures.image p j.layout ∙ made_image p l code j)
