-- The leaves' entries are below the table's end, and so are the arrays'.
use Rattle.std.proofs.Common.{◌<◌, length, All, sym, ap, subst, arith}
use Rattle.nxt_table.specs.declared.leaves.PlacedLeaf.{PlacedLeaf}
use Rattle.nxt_table.specs.Inside.Checks.{leaves_of}
use Rattle.nxt_layout.proofs.Dope.Arrays.{table_below, table_few}
use Rattle.nxt_layout.proofs.layout.check_arrays.Goals as goal

pub found_arrays-requires-clause-entries : goal.found_arrays-requires-clause-entries
found_arrays-requires-clause-entries c =
    let p = c.args.parts.now in
    subst (λ ls. All (λ (l : PlacedLeaf). l.entry < c.len.result) ls) (sym c.requires.leaves)
    (subst (λ n. All (λ (l : PlacedLeaf). l.entry < n) (leaves_of p)) (sym c.len.ensures) (table_below p))

pub returns-clause-count : goal.returns-clause-count
returns-clause-count c =
    omega (arith, c.in_ok-arrays.ensures.count, ap length c.requires.leaves, table_few c.args.parts.now, c.requires.count)
