use Rattle.std.proofs.Common.{◌<◌, length, sym, ap, ◌∙◌, arith}
use Rattle.std.proofs.lemmas.Bool.Decides.{nat_tests}
use Rattle.nxt_model.specs.Nbc.Text.{member_of, path_in}
use Rattle.nxt_nbc_lines.specs.Seen.{names_seen}
use Rattle.nxt_nbc_names.specs.SourceSeen.{source_seen}
use Rattle.nxt_nbc_names.proofs.NamesDenoted.{variable_at}
use Rattle.nxt_nbc_names.proofs.source.Source.part.Goals as goal

pub returns-in-Some-2 : goal.returns-in-Some-2
returns-in-Some-2 c =
    let s = c.args.self.now in
    let told = c.in-Some.ensures.lookup in
    let inside = told.0 in
    let under : c.args.variable < length c.as_slice.result.now = grind (arith, nat_tests) in
    ap (member_of (source_seen s) c.args.variable) (sym c.in-Some-2.is ∙ c.in_ok-path.ensures)
    ∙ sym
    (ap (path_in (source_seen s) c.args.variable (names_seen c.args.members.now))
    (variable_at s.variables c.as_slice.result.now c.args.variable c.in-Some.declared.now c.as_slice.ensures under told.1))

pub returns-in-None : goal.returns-in-None
returns-in-None c =
    let s = c.args.self.now in
    let told = c.in-Some.ensures.lookup in
    let inside = told.0 in
    let under : c.args.variable < length c.as_slice.result.now = grind (arith, nat_tests) in
    ap (member_of (source_seen s) c.args.variable) (sym c.in-None.is ∙ c.in_ok-path.ensures)
    ∙ sym
    (ap (path_in (source_seen s) c.args.variable (names_seen c.args.members.now))
    (variable_at s.variables c.as_slice.result.now c.args.variable c.in-Some.declared.now c.as_slice.ensures under told.1))
