-- The entries of leaves rise.
use Rattle.std.proofs.Common.{ℕ, zero, suc, ◌+◌, ◌≤◌, List, [], ◌∷◌, ◌++◌, arith, drop, Option, Some, None}
use Rattle.nxt_types.specs.Shapes.{outline}
use Rattle.nxt_table.specs.declared.item.Item.{Item}
use Rattle.nxt_table.specs.declared.item.Item.TheVariants as items
use Rattle.nxt_table.specs.declared.enclosing.NestedEntry.{NestedEntry}
use Rattle.nxt_table.specs.declared.leaves.PlacedLeaf.{PlacedLeaf}
use Rattle.nxt_table.specs.Inside.Items.{item}
use Rattle.nxt_table.specs.Inside.LeafPasses.{leaf_list, leaves_from}
use Rattle.nxt_table.specs.Inside.Owners.{RisesFrom}

pub rises_later : (i j : ℕ) (ls : List PlacedLeaf) → j ≤ i → RisesFrom i ls → RisesFrom j ls
rises_later i j [] h r = tt
rises_later i j (l ∷ ls) h r = (omega (arith, h, r.0), r.1)

rising_list : (i : ℕ) (p : NestedEntry) (o : Option Item) (ls : List PlacedLeaf) → RisesFrom (i + 1) ls → RisesFrom i (leaf_list i p o ++ ls)
rising_list i p None ls r = rises_later (i + 1) i ls (omega arith) r
rising_list i p (Some items.Void) ls r = rises_later (i + 1) i ls (omega arith) r
rising_list i p (Some (items.Number k)) ls r = (omega arith, r)
rising_list i p (Some items.Array) ls r = (omega arith, r)
rising_list i p (Some (items.Cluster m)) ls r = rises_later (i + 1) i ls (omega arith) r
rising_list i p (Some items.Mutex) ls r = (omega arith, r)

pub rising_leaves : (i : ℕ) (ps : List NestedEntry) → RisesFrom i (leaves_from i ps)
rising_leaves i [] = tt
rising_leaves i (p ∷ ps) = rising_list i p (item (outline p.entry)) (leaves_from (i + 1) ps) (rising_leaves (i + 1) ps)

-- those behind the first so many
pub rising_drop : (i n : ℕ) (ls : List PlacedLeaf) → RisesFrom i ls → RisesFrom 0 (drop n ls)
rising_drop i zero ls r = rises_later i 0 ls (omega arith) r
rising_drop i (suc n) [] r = tt
rising_drop i (suc n) (l ∷ ls) r = rising_drop (l.entry + 1) n ls r.1
