use Rattle.std.proofs.Common.{◌≡◌, ◌+◌, ◌≤◌, [], drop, map, sym, ap, subst, ◌∙◌, arith}
use Rattle.std.proofs.Math.ListN.{drop_of_length-le}
use Rattle.nxt_model.specs.Nbc.Structs.{Types, types_from}
use Rattle.nxt_nbc_lines.specs.Firsts.{Ascends}
use Rattle.nxt_nbc_lines.specs.Seen.{line_form_seen}
use Rattle.nxt_nbc_names.specs.Structs.{RisesTo}
use Rattle.nxt_nbc_names.proofs.ReadLines.{lines_from, rises_on}
use Rattle.nxt_nbc_names.proofs.reading.structs_of.Goals as goal

pub loop-line-init : goal.loop-line-init
loop-line-init c =
    let lines = map line_form_seen c.args.lines.now in
    let structs = c.new-structs.result in
    let none : 0 ≤ 0 = omega arith in (
      ap (λ n. types_from structs n c.new-opened.result.members lines) c.new-opened.ensures.name
          ∙ ap (λ ms. types_from structs [] ms lines) c.new-opened.ensures.members
          ∙ ap (λ t. types_from t [] [] lines) c.new-structs.ensures,
      (0, c.requires, subst (RisesTo 0 0) (sym (ap (λ (t : Types). t.structs) c.new-structs.ensures)) none),
    )

pub read_line-requires : goal.read_line-requires
read_line-requires c =
    let line = c.line-item.result in
    let before = c.loop-line.invariant.1 in
    let ascends = subst (Ascends before.0) (lines_from c.args.lines.now c.loop-line.line-index line c.loop-line-test.true c.line-item.is) before.1 in
    let le : before.0 ≤ line.line = omega (arith, ascends.0) in
    rises_on 0 before.0 line.line c.loop-line.structs.structs le before.2

pub loop-line-preserved : goal.loop-line-preserved
loop-line-preserved c =
    let line = c.line-item.result in
    let i = c.loop-line.line-index in
    let rest = map line_form_seen (drop (i + 1) c.args.lines.now) in
    let from = lines_from c.args.lines.now i line c.loop-line-test.true c.line-item.is in
    let before = c.loop-line.invariant.1 in
    let ascends = subst (Ascends before.0) from before.1 in (
      sym (c.in_ok-read_line.ensures.types rest)
          ∙ ap (types_from c.loop-line.structs c.loop-line.opened.name.now c.loop-line.opened.members) (sym from)
          ∙ c.loop-line.invariant.0,
      (line.line, ascends.1, c.in_ok-read_line.ensures.rises),
    )

pub returns : goal.returns
returns c =
    let none : drop c.loop-line.line-index c.args.lines.now ≡ [] = drop_of_length-le c.args.lines.now (omega (arith, c.loop-line-test.false)) in
    sym (ap (λ ls. types_from c.loop-line.structs c.loop-line.opened.name.now c.loop-line.opened.members (map line_form_seen ls)) none)
    ∙ c.loop-line.invariant.0
