-- So many shapes are added.
use Rattle.std.proofs.Common.{◌≡◌, ◌++◌, List, replicate}
use Rattle.nxt_types.specs.Names.{size}
use Rattle.nxt_types.specs.Shapes.{Shape}
use Rattle.nxt_asm_parts.specs.Firsts.{firsts_of}
use Rattle.nxt_asm_parts.specs.Measures.{held}
use Rattle.nxt_asm_parts.proofs.firsts.FirstEntries.add_all.Given as goal

abbrev pub invariant-loop : goal.invariant-loop
invariant-loop l = (ss : List Shape) (s : Shape) → l.entries ≡ held (size s) → l.fn.self ≡ firsts_of ss → l.self ≡ firsts_of (ss ++ replicate l.counter s)
