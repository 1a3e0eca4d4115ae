use Rattle.std.proofs.Common.{◌≡◌, ◌++◌, replicate}
use Rattle.nxt_model.specs.Assembled.{entry}
use Rattle.nxt_asm_parts.proofs.table.write_inner.Given as goal

abbrev pub invariant-loop : goal.invariant-loop
invariant-loop l = l.table ≡ record l.fn.table { entries = l.fn.table.entries ++ replicate l.counter (entry 7 0) }
