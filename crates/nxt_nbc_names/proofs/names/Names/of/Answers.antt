use Rattle.std.proofs.Common.{◌<◌, ◌∙◌, length, arith}
use Rattle.nxt_model.specs.Nbc.Text.{declared_name}
use Rattle.nxt_nbc_names.specs.NamesSeen.{name_seen}
use Rattle.nxt_nbc_names.proofs.DeclaredLines.{with_one, with_none}
use Rattle.nxt_nbc_names.proofs.names.Names.of.Goals as goal
use Rattle.nxt_nbc_names.proofs.names.Names.of.Goals.{in-Some+in_ok-push, in_default}

pub loop-line-preserved : goal.loop-line-preserved
loop-line-preserved c =
    let lines = c.args.lines.now in
    let i = c.loop-line.line-index in
    let within : i < length lines = omega arith in
    elim c.match-declared_name.branch [
      | in-Some+in_ok-push w ↦
          w.names-is ∙ w.in_ok-push.ensures
          ∙ with_one declared_name lines i c.line-item.result within c.line-item.is c.loop-line.names c.loop-line.invariant (name_seen w.in-Some.declared) w.in-Some.ensures
      | in_default w ↦
          w.names-is ∙ with_none declared_name lines i c.line-item.result within c.line-item.is c.loop-line.names c.loop-line.invariant w.in_default.ensures
    ]
