-- Parts that fit in a file.
use Rattle.std.specs.Prelude.{◌≡◌, ◌+◌, ◌*◌, ◌^◌, ◌<◌, ◌≤◌, All, length, sum_by}
use Rattle.nxt_types.specs.Names.{sizes}
use Rattle.nxt_types.specs.Shapes.{members}
use Rattle.nxt_model.specs.Assembled.{all_entries, all_shapes, block_words, code_from, leaves_sizes, places}
use Rattle.nxt_model.specs.TextProgram.{Text, static_size}
use Rattle.nxt_asm_parts.specs.AssembledParts.{arrays_of, dynamic_defaults, parts_of, row_count, static_defaults}
use Rattle.nxt_asm_parts.specs.Lists.{AreSmall, lists_bytes}
use Rattle.nxt_rxe.specs.Files.{HasCounts, HasDynamic}

-- the parts of a text's image have as many bits as a file gives them
pub record PartsFit (p : Text) : Type 0 where
  pub entries : sizes (members (all_shapes p)) ≤ 49151
  pub places : let ss = members (all_shapes p) in All (λ e. e.desc < 2 ^ 16) (all_entries ss (places (leaves_sizes ss)))
  pub size : sum_by block_words p.blocks ≤ 65535
  pub code : All (λ w. w < 65536) (code_from p 0 p.blocks)
  pub small : AreSmall (arrays_of p)
  pub lists : static_size p + 10 * row_count p + length (lists_bytes (arrays_of p)) ≤ 32768
  -- the static defaults are as long as the static bytes, and the dataspace holds both of them
  pub static : length (static_defaults p) ≡ static_size p
  pub dataspace : static_size p + length (dynamic_defaults p) ≤ 32768
  -- what is written of them can be read again
  pub counts : HasCounts (parts_of p)
  pub dynamic : HasDynamic (parts_of p).header
