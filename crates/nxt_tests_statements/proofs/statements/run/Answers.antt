-- A statement leaves the table of the variables as it is.
use Rattle.nxt_model.specs.Devices.{at_start}
use Rattle.nxt_tests_statements.proofs.Kept.{same_entries, same_shapes}
use Rattle.nxt_tests_statements.proofs.statements.run.Goals as goal

pub returns-then-runs-clause-entries : goal.returns-then-runs-clause-entries
returns-then-runs-clause-entries c =
    same_entries _ _ c.args.space.now c.run_op.new.space c.run_op.result (c.run_op.ensures.does at_start (record { now = 0; start = 0 }))

pub returns-then-runs-clause-shapes : goal.returns-then-runs-clause-shapes
returns-then-runs-clause-shapes c =
    same_shapes _ _ c.args.space.now c.run_op.new.space c.run_op.result (c.run_op.ensures.does at_start (record { now = 0; start = 0 }))

pub returns-in-Ok-clause-entries : goal.returns-in-Ok-clause-entries
returns-in-Ok-clause-entries c =
    same_entries _ _ c.args.space.now c.run_array.new.space c.run_array.result (c.run_array.ensures.does at_start (record { now = 0; start = 0 }))

pub returns-in-Ok-clause-shapes : goal.returns-in-Ok-clause-shapes
returns-in-Ok-clause-shapes c =
    same_shapes _ _ c.args.space.now c.run_array.new.space c.run_array.result (c.run_array.ensures.does at_start (record { now = 0; start = 0 }))

pub returns-in-Err-clause-entries : goal.returns-in-Err-clause-entries
returns-in-Err-clause-entries c =
    same_entries _ _ c.args.space.now c.run_array.new.space c.run_array.result (c.run_array.ensures.does at_start (record { now = 0; start = 0 }))

pub returns-in-Err-clause-shapes : goal.returns-in-Err-clause-shapes
returns-in-Err-clause-shapes c =
    same_shapes _ _ c.args.space.now c.run_array.new.space c.run_array.result (c.run_array.ensures.does at_start (record { now = 0; start = 0 }))
