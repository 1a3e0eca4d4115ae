-- A part is no larger than the whole.
use Rattle.std.proofs.Common.{◌≡◌, ℕ, ◌^◌, ◌<◌, ◌≤◌, sum_by, Option, Some, None, refl, sym, ◌∙◌, subst, arith}
use Rattle.std.specs.Prelude.{pos, option_map}
use Rattle.nxt_space.proofs.Laws.NoBytes.{no_bytes}
use Rattle.nxt_types.specs.Names.{Name, name_among}
use Rattle.nxt_types.specs.Shapes.{Shape, Cluster}
use Rattle.nxt_types.specs.Tables.{Table}
use Rattle.nxt_model.specs.Values.{Value, Num, lists_in}
use Rattle.nxt_model.specs.Footprint.{list_bytes}
use Rattle.nxt_types.specs.Pool.{pool_size}
use Rattle.nxt_heap.specs.Lists.{Lists, block_of}
use Rattle.nxt_space.specs.Inside.Kept.{Stand, IsVariable, values_of, shape_in, value_in}
use Rattle.nxt_values.specs.Held.{value_at}
use Rattle.nxt_values.specs.declared.reading.Region.TheVariants.{Static}
use Rattle.nxt_values.specs.Sizes.{size_in, IsCountable}
use Rattle.nxt_space.specs.Variables.{shape_by, value_by}
use Rattle.nxt_values.proofs.Laws.Shapes.{held_of}
use Rattle.nxt_values.proofs.Laws.HeldSizes.{lists_sized}
use Rattle.nxt_values.proofs.Laws.HeldRows.{rows_sized}
use Rattle.nxt_space.proofs.Laws.PartSizes.{lists_with_part, bytes_with_part}
use Rattle.nxt_space.proofs.Parts.Standing.{is_variable}

-- the variables' lists take the bytes of all blocks
pub blocks_are : (toc : Table) (h : Lists) → Stand toc h → list_bytes (Cluster toc.shapes) (values_of toc h) ≡ sum_by block_of h.by_row
blocks_are toc h e = lists_sized toc.entries toc.shapes h e.held ∙ rows_sized toc.entries toc.shapes h e.held

-- of a value in the variables
pub record IsPartOf (toc : Table) (h : Lists) (s : Shape) (v : Value) : Type 0 where
  pub lists : lists_in v ≤ lists_in (values_of toc h)
  pub bytes : list_bytes s v ≤ sum_by block_of h.by_row

of_name : (toc : Table) (h : Lists) (i : ℕ) (o : Option Name) → name_among toc.shapes 0 i ≡ o → Stand toc h → IsPartOf toc h (shape_by o) (value_by o (values_of toc h))
of_name toc h i None named e = record { lists = omega arith; bytes = omega arith }
of_name toc h i (Some n) named e =
    let vars = values_of toc h in
    let is = held_of toc.entries toc.shapes h in
    record {
      lists = omega (arith, lists_with_part toc.shapes i n (Num (pos 0)) vars named is);
      bytes = omega (arith, bytes_with_part toc.shapes i n (Num (pos 0)) vars named is, blocks_are toc h e, no_bytes n.shape);
    }

pub part_bounds : (toc : Table) (h : Lists) (i : ℕ) → Stand toc h → IsPartOf toc h (shape_in toc i) (value_in toc h i)
part_bounds toc h i e = of_name toc h i (name_among toc.shapes 0 i) refl e

-- all blocks are in the pool
pub blocks_within : (toc : Table) (h : Lists) → Stand toc h → sum_by block_of h.by_row ≤ pool_size
blocks_within toc h e = omega (arith, e.pool)

pub countable : (toc : Table) (h : Lists) (s : Shape) (v : Value) → Stand toc h → lists_in (values_of toc h) < 2 ^ 16 → IsPartOf toc h s v → IsCountable (size_in s v)
countable toc h s v e few part = record { lists = omega (arith, few, part.lists); bytes = omega (arith, part.bytes, blocks_within toc h e) }

-- what the table tells of an entry stands in the static bytes
pub variable_there : (toc : Table) (h : Lists) (i : ℕ) (s : Shape) → Stand toc h → Some s ≡ option_map (λ n. n.shape) (name_among toc.shapes 0 i) → IsVariable toc h i s (record { region = Static; entry = i; base = 0 })
variable_there toc h i s e is =
    let v = is_variable toc h i s e is in
    record {
      there = record { region = tt; entries = v.entries; holds = v.holds };
      room = v.room;
      shape = sym v.shape;
      value = v.value;
      countable = λ few.
          countable
          toc
          h
          s
          (value_at toc.entries h s i h.static_bytes 0)
          e
          few
          (subst (λ w. IsPartOf toc h s w) (sym v.value) (subst (λ t. IsPartOf toc h t (value_in toc h i)) v.shape (part_bounds toc h i e)));
    }
