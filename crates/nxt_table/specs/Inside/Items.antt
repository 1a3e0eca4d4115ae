-- What the passes over a table compute, entry by entry.
use Rattle.std.specs.Prelude.{ℕ, zero, suc, ◌+◌, ◌-◌, max, Bool, true, false, ◌==◌, nat_lt, List, [], ◌∷◌, Option, Some, None, if◌then◌else◌}
use Rattle.nxt_types.specs.declared.kind.Kind.TheVariants.{Ubyte, Sbyte, Uword, Sword, Ulong, Slong}
use Rattle.nxt_table.specs.declared.item.Item.{Item}
use Rattle.nxt_table.specs.declared.item.Item.TheVariants.{Void, Number, Array, Cluster, Mutex}

-- what an entry with such a code declares, if it has so many members
abbrev pub item_by : ℕ → ℕ → Option Item
item_by zero n = Some Void
item_by (suc zero) n = Some (Number Ubyte)
item_by (suc (suc zero)) n = Some (Number Sbyte)
item_by (suc (suc (suc zero))) n = Some (Number Uword)
item_by (suc (suc (suc (suc zero)))) n = Some (Number Sword)
item_by (suc (suc (suc (suc (suc zero))))) n = Some (Number Ulong)
item_by (suc (suc (suc (suc (suc (suc zero)))))) n = Some (Number Slong)
item_by (suc (suc (suc (suc (suc (suc (suc zero))))))) n = Some Array
item_by (suc (suc (suc (suc (suc (suc (suc (suc zero)))))))) n = Some (Cluster n)
item_by (suc (suc (suc (suc (suc (suc (suc (suc (suc zero))))))))) n = Some Mutex
item_by (suc (suc (suc (suc (suc (suc (suc (suc (suc (suc code)))))))))) n = None

abbrev pub item : ℕ × ℕ → Option Item
item o = item_by o.0 o.1

-- ---- the first place

-- the number of the first that passes the test, where the first of the list has number i
abbrev pub first_from : {X : Type 0} → (X → Bool) → ℕ → List X → Option ℕ
first_from test i [] = None
first_from test i (x ∷ xs) = if test x then Some i else first_from test (i + 1) xs

-- ---- whole variables

-- how many shapes a variable still needs behind an item, before which it needs n; where it needs none a variable begins
abbrev pub needs_behind : ℕ → Option Item → ℕ
needs_behind n (Some Array) = max n 1
needs_behind n (Some (Cluster m)) = n - 1 + m
needs_behind n _ = n - 1

-- no variable goes on with the item
abbrev pub breaks_off : ℕ → Option Item → Bool
breaks_off n (Some Void) = nat_lt 0 n
breaks_off n (Some (Cluster m)) = m == 0
breaks_off n None = true
breaks_off n _ = false

-- where the first variable begins that the outlines don't spell to its end; the variable before them began at `start`
-- and needs n more shapes
abbrev pub open_from : ℕ → ℕ → ℕ → List (ℕ × ℕ) → Option ℕ
open_from start n i [] = if n == 0 then None else Some start
open_from start n i (o ∷ os) =
    let begun = if n == 0 then i else start in
    if breaks_off n (item o) then Some begun else open_from begun (needs_behind n (item o)) (i + 1) os
