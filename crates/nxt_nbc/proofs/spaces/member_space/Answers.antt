use Rattle.std.proofs.Common.{◌+◌, ◌-◌, ◌^◌, min, ◌∙◌, ◌≡◌, [], ap, subst, sym, drop, map}
use Rattle.nxt_model.specs.Nbc.NbcRules.{is_taken, members_in}
use Rattle.nxt_nbc_lines.specs.Seen.{line_form_seen}
use Rattle.nxt_nbc_names.specs.SourceSeen.{source_seen}
use Rattle.nxt_nbc.proofs.SpaceLoops.{Declares, name_read, as_left, all_read}
use Rattle.nxt_nbc.proofs.SpaceLines.{no_lines, members_from, members_end, members_behind}
use Rattle.nxt_nbc.proofs.spaces.member_space.Goals as goal
use Rattle.nxt_nbc.proofs.spaces.member_space.Goals.{in-Member+in_ok-declare-in-Member, in_default, else-loop-line-test, then-loop-line-test+in-CloseStruct}

pub loop-line-preserved : goal.loop-line-preserved
loop-line-preserved c =
    let lines = c.args.behind.now in
    let i = c.loop-line.line-index in
    let l = c.line-item.result in
    let within = c.loop-line-test.true in
    let rest = members_in (map line_form_seen (drop (i + 1) lines)) in
    let whole = members_in (map line_form_seen lines) in
    let taken = is_taken (source_seen c.args.source.now) in
    elim c.match-line.branch [
      | in-Member+in_ok-declare-in-Member w ↦
          subst (λ s. Declares taken s.names s.twice rest whole) (sym w.space-is)
          (name_read l.line w.in-Member.name.now rest c.loop-line.invariant
          (members_from lines i l within c.line-item.is w.in-Member.name w.in-Member.field-1 w.in-Member.is)
          w.in_ok-declare-in-Member.ensures.names w.in_ok-declare-in-Member.ensures.twice)
      | in_default w ↦
          subst (λ s. Declares taken s.names s.twice rest whole) (sym w.space-is)
          (as_left c.loop-line.invariant (members_behind lines i l within c.line-item.is w.in_default.not-Member w.in_default.not-CloseStruct))
    ]

pub returns : goal.returns
returns c =
    let lines = c.args.behind.now in
    let i = c.loop-line.line-index in
    let none : members_in (map line_form_seen (drop i lines)) ≡ [] =
    elim c.loop-line-test.branch [
      | else-loop-line-test w ↦ ap members_in (no_lines lines i w.loop-line-test.false)
      | then-loop-line-test+in-CloseStruct w ↦ members_end lines i w.line-item.result w.loop-line-test.true w.line-item.is w.in-CloseStruct.is
    ] in
    let all = all_read c.loop-line.invariant none in
    record {
      line = c.declarations.ensures.line ∙ all.0;
      held = c.declarations.ensures.held ∙ ap (λ n. min n (2 ^ 64 - 1)) all.1;
    }
