-- The bytes that a file's variables have at the start.
use Rattle.std.specs.Prelude.{ℕ, ◌+◌, ◌-◌, ◌&&◌, not, nat_lt, List, ◌++◌, filter, fold, replicate, slice_range, sum_by}
use Rattle.nxt_facts.specs.PutAt.{put_at}
use Rattle.nxt_types.specs.Shapes.{Members}
use Rattle.nxt_rxe.specs.declared.parts.Parts.{Parts}
use Rattle.nxt_table.specs.Leaves.{Leaf, leaves, width, is_mutex}

-- where a leaf's static default begins in the default data: behind those of the leaves before it
abbrev pub default_place : List Leaf → Leaf → ℕ
default_place ls l = sum_by width (filter (λ m. m.has_default && nat_lt m.entry l.entry) ls)

abbrev pub default_end : List Leaf → Leaf → ℕ
default_end ls l = default_place ls l + width l

-- the leaves that have the bytes of their default; those of a mutex are ignored
abbrev pub set_leaves : List Leaf → List Leaf
set_leaves ls = filter (λ l. l.has_default && not (is_mutex l.shape)) ls

abbrev pub static_bytes : Parts → List Leaf → List ℕ
static_bytes p ls =
    fold
    (λ bytes l. put_at l.place (slice_range p.defaults (default_place ls l) (default_end ls l)) bytes)
    (replicate p.header.static_size 0)
    (set_leaves ls)

abbrev pub dynamic_bytes : Parts → List ℕ
dynamic_bytes p = slice_range p.defaults p.header.dyn_at (p.header.dyn_at + p.header.dyn_size)

-- the static bytes, the dynamic bytes, and zeros
abbrev pub dataspace : Parts → Members → List ℕ
dataspace p ss =
    static_bytes p (leaves p.toc ss)
    ++ dynamic_bytes p
    ++ replicate (p.header.initial - (p.header.static_size + p.header.dyn_size)) 0
