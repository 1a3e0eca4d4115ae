use Rattle.std.proofs.Common.{◌≡◌, true, false, nat_lt, ap, ◌∙◌, arith}
use Rattle.std.proofs.lemmas.Bool.Decides.{nat_tests}
use Rattle.nxt_model.specs.Nbc.Structs.{Types}
use Rattle.nxt_nbc_names.proofs.StructTables.{before_none, before_first}
use Rattle.nxt_nbc_names.proofs.structs.StructTable.position_before.Goals as goal

pub returns-in_err-position : goal.returns-in_err-position
returns-in_err-position c =
    c.from_residual.ensures
    ∙ before_none c.self.inside.structs.items c.self.inside.names c.args.self.now.structs c.self.invariant (ap (λ (t : Types). t.structs) c.self.view_is) c.args.name.now c.args.line
    c.in_err-position.ensures

pub returns-then-index-line : goal.returns-then-index-line
returns-then-index-line c =
    let test : nat_lt c.index.result.now.line c.args.line ≡ true = grind (arith, nat_tests) in
    before_first c.self.inside.structs.items c.self.inside.names c.args.self.now.structs c.self.invariant (ap (λ (t : Types). t.structs) c.self.view_is) c.args.name.now c.args.line
    c.in_ok-position.position c.index.result.now true c.in_ok-position.ensures c.index.ensures test

pub returns-else-index-line : goal.returns-else-index-line
returns-else-index-line c =
    let test : nat_lt c.index.result.now.line c.args.line ≡ false = grind (arith, nat_tests) in
    before_first c.self.inside.structs.items c.self.inside.names c.args.self.now.structs c.self.invariant (ap (λ (t : Types). t.structs) c.self.view_is) c.args.name.now c.args.line
    c.in_ok-position.position c.index.result.now false c.in_ok-position.ensures c.index.ensures test
