-- What the passes find is what the rules say.
use Rattle.std.proofs.Common.{◌≡◌, ◌⊎◌}
use Rattle.nxt_types.specs.Refusals.{IsRefusal}
use Rattle.nxt_table.specs.declared.fault.TableFault.TheVariants.{NoMemory}
use Rattle.nxt_table.specs.TableRules.{rank, Broken}
use Rattle.nxt_table.proofs.Laws.Passes.{passed_on}
use Rattle.nxt_table.proofs.Laws.Decided.{table_answer, leaf_answer, keeps_table}
use Rattle.nxt_table.proofs.check.check_table.Goals as goal

pub returns-in_err-placed-clause-refused : goal.returns-in_err-placed-clause-refused
returns-in_err-placed-clause-refused c counts =
    let p = c.args.parts.now in
    let f = c.in_err-placed.field-0.0 in
    passed_on c.from_residual.result f (λ e. (e ≡ NoMemory) ⊎ IsRefusal (Broken p) rank e) c.from_residual.ensures.1
    (table_answer p f c.in_err-placed.ensures.refused)

pub returns-in_err-leaves-clause-refused : goal.returns-in_err-leaves-clause-refused
returns-in_err-leaves-clause-refused c counts =
    let p = c.args.parts.now in
    let f = c.in_err-leaves.field-0.0 in
    passed_on c.from_residual-in_err-leaves.result f (λ e. (e ≡ NoMemory) ⊎ IsRefusal (Broken p) rank e) c.from_residual-in_err-leaves.ensures.1
    (leaf_answer p f c.in_ok-placed.ensures.found.1 c.in_err-leaves.ensures.refused)

pub returns-clause-found : goal.returns-clause-found
returns-clause-found c =
    record {
      kept = keeps_table c.args.parts.now c.in_ok-placed.ensures.found.1 c.in_ok-leaves.ensures.found.1;
      placed = c.in_ok-placed.ensures.found.0;
      leaves = c.in_ok-leaves.ensures.found.0;
      bytes = c.in_ok-bytes.ensures;
    }
