use Rattle.std.proofs.Common.{◌+◌, [], refl, ap, sym, subst, drop, length, map}
use Rattle.std.proofs.lemmas.List.{take_rest}
use Rattle.nxt_model.specs.Nbc.NbcRules.{is_taken, members_in, member_spaces}
use Rattle.nxt_nbc_lines.specs.Seen.{line_form_seen}
use Rattle.nxt_nbc_names.specs.SourceSeen.{source_seen}
use Rattle.nxt_nbc.specs.Spaces.{least_again}
use Rattle.nxt_nbc.specs.SpacesSeen.{Tells}
use Rattle.nxt_nbc.proofs.SpaceLoops.{Tell, no_space_read, space_read, as_spaces_left, all_spaces_read}
use Rattle.nxt_nbc.proofs.SpaceLines.{no_lines, spaces_from, spaces_behind}
use Rattle.nxt_nbc.proofs.spaces.member_spaces.Goals as goal
use Rattle.nxt_nbc.proofs.spaces.member_spaces.Goals.{in-OpenStruct+in_ok-member_space, in_default}

pub loop-i-init : goal.loop-i-init
loop-i-init c =
    no_space_read (is_taken (source_seen c.args.source.now)) (member_spaces (map line_form_seen c.args.lines.now)) c.none-declared.ensures.line c.none-declared.ensures.held

pub loop-i-preserved : goal.loop-i-preserved
loop-i-preserved c =
    let lines = c.args.lines.now in
    let i = c.loop-i.i in
    let l = c.index-lines-i.result in
    let within = c.loop-i-test.true in
    let there = c.index-lines-i.is in
    let behind = map line_form_seen (drop (i + 1) lines) in
    let taken = is_taken (source_seen c.args.source.now) in
    let t = c.loop-i.invariant in
    let ds = members_in behind in
    let rest = member_spaces behind in
    let whole = member_spaces (map line_form_seen lines) in
    elim c.match-line.branch [
      | in-OpenStruct+in_ok-member_space w ↦
          let of_struct =
          subst (λ bs. Tells w.in_ok-member_space.field-0 (least_again taken [] (members_in (map line_form_seen bs))) (length (members_in (map line_form_seen bs))))
          (take_rest lines (i + 1)) w.in_ok-member_space.ensures in
          let told = w.and-declared.ensures c.loop-i.declared.twice (least_again taken [] ds) t.names (length ds) (record { line = refl; held = t.held }) of_struct in
          subst (λ d. Tell taken d.twice d.count rest whole) (sym w.declared-is)
          (space_read ds rest t (spaces_from lines i l within there w.in-OpenStruct.field-0 w.in-OpenStruct.is) told.line told.held)
      | in_default w ↦
          subst (λ d. Tell taken d.twice d.count rest whole) (sym w.declared-is)
          (as_spaces_left t (spaces_behind lines i l within there w.in_default.not-OpenStruct))
    ]

pub returns : goal.returns
returns c =
    let all = all_spaces_read c.loop-i.invariant (ap member_spaces (no_lines c.args.lines.now c.loop-i.i c.loop-i-test.false)) in
    record { line = all.0; held = all.1 }
