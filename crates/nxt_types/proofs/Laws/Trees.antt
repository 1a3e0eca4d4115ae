-- The tree of a group in the program.
use Rattle.std.proofs.Common.{◌≡◌, List, refl, sym, ap, ◌∙◌, Vec, Global}
use Rattle.std.specs.Prelude.{map}
use mathlib.Core.Former.{Count}
use Rattle.nxt_types.specs.Shapes.{Cluster, member, members, cluster_of, tree, trees}
use Rattle.nxt_types.specs.declared.shape.Shape.{Shape, Group, Group', Row_of-Shape, end_of-Shape, more_of-Shape, items-the_row-Shape, items_hidden-the_row-Shape-0}

trees_are : (n : _) (row : Row_of-Shape n) → trees row ≡ members (map tree (items-the_row-Shape n row))
trees_are n end_of-Shape = refl
trees_are n (more_of-Shape s ss) = ap (member (tree s)) (trees_are _ ss)

abbrev row_of : Shape → (n : Count) × Row_of-Shape n
row_of (Group' _ row) = (_, row)
row_of _ = (_, end_of-Shape)

pub trees_hidden : (shapes : Vec Shape Global) → tree (Group (record { items = shapes })) ≡ cluster_of (map tree shapes.items)
trees_hidden shapes =
    let row = row_of (Group (record { items = shapes })) in
    ap Cluster (trees_are row.0 row.1) ∙ ap (λ l. cluster_of (map tree l)) (items_hidden-the_row-Shape-0 shapes)

-- the tree of a group, by its members as a walk sees them
pub group_tree : (shape : Shape) (shapes : Vec Shape Global) (l : List Shape) → shape ≡ Group (record { items = shapes }) → l ≡ shapes.items → tree shape ≡ cluster_of (map tree l)
group_tree shape shapes l is same =
    ap tree is ∙ trees_hidden shapes ∙ ap (λ k. cluster_of (map tree k)) (sym same)
