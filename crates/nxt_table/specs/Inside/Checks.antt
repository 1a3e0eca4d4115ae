-- The passes that find the first fault of a table, its leaves and their defaults, and what they give where there is none.
use Rattle.std.specs.Prelude.{◌≡◌, ℕ, ◌+◌, ◌-◌, List, ◌++◌, map, replicate, ◌⊎◌, Option, Some, None}
use Rattle.nxt_types.specs.Shapes.{outline}
use Rattle.nxt_rxe.specs.declared.parts.Parts.{Parts}
use Rattle.nxt_table.specs.declared.fault.TableFault.{TableFault}
use Rattle.nxt_table.specs.declared.fault.TableFault.TheVariants.{TypeCode, TypeOpen, Depth, MutexInside, Place, Overlap, DefaultsShort, NoMemory}
use Rattle.nxt_table.specs.declared.leaves.PlacedLeaf.{PlacedLeaf}
use Rattle.nxt_table.specs.Inside.Items.{first_from, open_from}
use Rattle.nxt_table.specs.Inside.Enclosing.{marks, is_deep, placed_entries, is_inner_mutex}
use Rattle.nxt_table.specs.Inside.LeafPasses.{leaves_from, first_leaf, passes_end, first_pair, lacking_from, filled_from}
use Rattle.nxt_table.specs.Dataspace.{dynamic_bytes}
use Rattle.nxt_table.specs.TableRules.{has_unknown_code}

-- ---- what the passes make

abbrev pub leaves_of : Parts → List PlacedLeaf
leaves_of p = leaves_from 0 (placed_entries p.toc)

-- the bytes of the variables
abbrev pub bytes_of_parts : Parts → List ℕ
bytes_of_parts p =
    filled_from p.defaults 0 (leaves_of p) (replicate p.header.static_size 0)
    ++ dynamic_bytes p
    ++ replicate (p.header.initial - (p.header.static_size + p.header.dyn_size)) 0

-- ---- the passes in their order

abbrev pub fault_or : {F : Type 0} → (ℕ → F) → Option ℕ → Option F → Option F
fault_or fault None later = later
fault_or fault (Some e) later = Some (fault e)

abbrev pub pair_fault_or : Option (ℕ × ℕ) → Option TableFault → Option TableFault
pair_fault_or None later = later
pair_fault_or (Some p) later = Some (Overlap p.0 p.1)

abbrev pub table_fault : Parts → Option TableFault
table_fault p =
    fault_or
    TypeCode
    (first_from has_unknown_code 0 p.toc)
    (fault_or
    TypeOpen
    (open_from 0 0 0 (map outline p.toc))
    (fault_or
    Depth
    (first_from is_deep 0 (marks p.toc))
    (fault_or MutexInside (first_from is_inner_mutex 0 (placed_entries p.toc)) None)))

abbrev pub leaf_fault : Parts → Option TableFault
leaf_fault p =
    fault_or
    Place
    (first_leaf (passes_end p.header.static_size) (leaves_of p))
    (pair_fault_or
    (first_pair (leaves_of p))
    (fault_or DefaultsShort (lacking_from p.header.default_size 0 (leaves_of p)) None))

-- the fault, or there was no memory
abbrev pub IsFound : Option TableFault → TableFault → Type 0
IsFound found fault = (fault ≡ NoMemory) ⊎ (found ≡ Some fault)
