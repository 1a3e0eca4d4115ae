use Rattle.std.proofs.Common.{◌<◌, ◌∙◌, length, arith}
use Rattle.nxt_model.specs.Nbc.Text.{variable_of}
use Rattle.nxt_nbc_names.specs.VariablesSeen.{variable_seen}
use Rattle.nxt_nbc_names.proofs.DeclaredLines.{with_one, with_none}
use Rattle.nxt_nbc_names.proofs.variables.Variables.of.Goals as goal
use Rattle.nxt_nbc_names.proofs.variables.Variables.of.Goals.{in-Some+in_ok-push, in_default}

pub loop-line-preserved : goal.loop-line-preserved
loop-line-preserved c =
    let declared = variable_of c.args.structs.now.structs in
    let lines = c.args.lines.now in
    let i = c.loop-line.line-index in
    let within : i < length lines = omega arith in
    elim c.match-variable_of.branch [
      | in-Some+in_ok-push w ↦
          w.variables-is ∙ w.in_ok-push.ensures
          ∙ with_one declared lines i c.line-item.result within c.line-item.is c.loop-line.variables c.loop-line.invariant (variable_seen w.in-Some.variable) w.in-Some.ensures
      | in_default w ↦
          w.variables-is ∙ with_none declared lines i c.line-item.result within c.line-item.is c.loop-line.variables c.loop-line.invariant w.in_default.ensures
    ]
