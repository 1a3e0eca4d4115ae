use Rattle.std.proofs.Common.{◌+◌, ◌-◌, ◌^◌, min, ◌∙◌, Some, None, ap, subst, sym, drop, map, filter_map}
use Rattle.nxt_model.specs.Nbc.NbcRules.{is_taken, shared_name}
use Rattle.nxt_nbc_lines.specs.Seen.{line_form_seen}
use Rattle.nxt_nbc_names.specs.SourceSeen.{source_seen}
use Rattle.nxt_nbc.proofs.SpaceLoops.{Declares, name_read, as_left, all_read}
use Rattle.nxt_nbc.proofs.SpaceLines.{no_lines, shared_from}
use Rattle.nxt_nbc.proofs.spaces.shared_space.Goals as goal
use Rattle.nxt_nbc.proofs.spaces.shared_space.Goals.{in-Some+in_ok-declare, in_default}

pub loop-line-preserved : goal.loop-line-preserved
loop-line-preserved c =
    let lines = c.args.lines.now in
    let i = c.loop-line.line-index in
    let l = c.line-item.result in
    let within = c.loop-line-test.true in
    let rest = filter_map shared_name (map line_form_seen (drop (i + 1) lines)) in
    let whole = filter_map shared_name (map line_form_seen lines) in
    let taken = is_taken (source_seen c.args.source.now) in
    elim c.match-shared_name.branch [
      | in-Some+in_ok-declare w ↦
          subst (λ s. Declares taken s.names s.twice rest whole) (sym w.space-is)
          (name_read l.line w.in-Some.name.now rest c.loop-line.invariant
          (shared_from lines i l within c.line-item.is (Some (l.line, w.in-Some.name.now)) (w.in-Some.ensures l.line))
          w.in_ok-declare.ensures.names w.in_ok-declare.ensures.twice)
      | in_default w ↦
          subst (λ s. Declares taken s.names s.twice rest whole) (sym w.space-is)
          (as_left c.loop-line.invariant (shared_from lines i l within c.line-item.is None (w.in_default.ensures l.line)))
    ]

pub returns : goal.returns
returns c =
    let all = all_read c.loop-line.invariant (ap (filter_map shared_name) (no_lines c.args.lines.now c.loop-line.line-index c.loop-line-test.false)) in
    record {
      line = c.declarations.ensures.line ∙ all.0;
      held = c.declarations.ensures.held ∙ ap (λ n. min n (2 ^ 64 - 1)) all.1;
    }
