-- What is known of a program where its operands' words are told.
use Rattle.std.specs.Prelude.{◌≡◌, ℕ, ◌+◌, List, length}
use Rattle.nxt_model.specs.declared.nbc.NbcProgram.{NbcProgram}
use Rattle.nxt_model.specs.declared.nbc.NbcStruct.{NbcStruct}
use Rattle.nxt_model.specs.Assembled.{all_shapes}
use Rattle.nxt_model.specs.TextProgram.{text_of, shapes, constants, texts}
use Rattle.nxt_asm_parts.specs.Constants.{AllConstants}
use Rattle.nxt_asm_parts.specs.Firsts.{firsts_of, places_of}
use Rattle.nxt_asm_parts.specs.declared.firsts.FirstEntries.{FirstEntries}
use Rattle.nxt_asm_parts.specs.declared.firsts.ReturnPlaces.{ReturnPlaces}

-- the structs and constants of the program
pub record AreParts (p : NbcProgram) (structs : List NbcStruct) (all : AllConstants) : Type 0 where
  pub measured : structs ≡ p.structs
  pub numbers : all.numbers ≡ constants (text_of p)
  pub texts : all.texts ≡ texts (text_of p)

-- the entries of its variables and constants, and the positions of the first number and of the first text among them
pub record AreEntries (p : NbcProgram) (firsts : FirstEntries) (places : ReturnPlaces) (m n : ℕ) : Type 0 where
  pub entries : firsts ≡ firsts_of (all_shapes (text_of p))
  pub returned : places ≡ places_of p.blocks
  pub first_number : m ≡ length (shapes (text_of p))
  pub first_text : n ≡ length (shapes (text_of p)) + length (constants (text_of p))
