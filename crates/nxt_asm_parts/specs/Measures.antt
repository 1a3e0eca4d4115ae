-- What shapes take in an image.
use Rattle.std.specs.Prelude.{ℕ, ◌-◌, ◌^◌, ◌==◌, min}
use Rattle.nxt_types.specs.Shapes.{Shape}
use Rattle.nxt_types.specs.Names.{size}
use Rattle.nxt_model.specs.Assembled.{arrays_in, bytes_where, leaf_sizes}
use Rattle.nxt_asm_parts.specs.declared.measure.Measure.{Measure}

-- a count, or the greatest that a field holds
abbrev pub held : ℕ → ℕ
held n = min n (2 ^ 64 - 1)

-- the bytes of the leaves that have a size
abbrev pub bytes_of_size : ℕ → Shape → ℕ
bytes_of_size n s = bytes_where (λ m. m == n) (leaf_sizes s)

abbrev pub measure_of : Shape → Measure
measure_of s =
    record {
      entries = held (size s);
      fours = held (bytes_of_size 4 s);
      twos = held (bytes_of_size 2 s);
      ones = held (bytes_of_size 1 s);
      arrays = held (arrays_in s);
    }
