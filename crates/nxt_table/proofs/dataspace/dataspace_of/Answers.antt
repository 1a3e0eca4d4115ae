-- The leaves with defaults lie in the static bytes, and their defaults in the default data.
use Rattle.std.proofs.Common.{◌≡◌, sym, ap, ◌∙◌, subst, length, All, arith}
use Rattle.nxt_table.specs.Inside.Enclosing.{placed_entries}
use Rattle.nxt_table.specs.Inside.LeafPasses.{lacking_from}
use Rattle.nxt_table.specs.Inside.Checks.{leaves_of}
use Rattle.nxt_table.proofs.Placement.Settled.{no_leaf_fault, all_placed, lacking_more, IsPlaced}
use Rattle.nxt_table.proofs.dataspace.dataspace_of.Goals as goal

pub fill-requires-clause-placed : goal.fill-requires-clause-placed
fill-requires-clause-placed c =
    let p = c.args.parts.now in
    let n = no_leaf_fault p c.requires.right in
    let long : length c.as_mut_slice.result.now ≡ p.header.static_size = omega (arith, c.in_ok-bytes.ensures, c.as_mut_slice.ensures.len) in
    subst (λ ls. All (IsPlaced (length c.as_mut_slice.result.now)) ls) (sym c.requires.leaves)
    (subst (λ k. All (IsPlaced k) (leaves_of p)) (sym long) (all_placed p.header.static_size (placed_entries p.toc) n.placed))

pub fill-requires-clause-defaults : goal.fill-requires-clause-defaults
fill-requires-clause-defaults c =
    let p = c.args.parts.now in
    let n = no_leaf_fault p c.requires.right in
    let h = lacking_more p.header.default_size (length p.defaults) 0 (leaves_of p) c.requires.defaults n.enough in
    ap (λ l. lacking_from (length l) 0 c.args.leaves.now) c.as_slice.ensures ∙ ap (lacking_from (length p.defaults) 0) c.requires.leaves ∙ h
