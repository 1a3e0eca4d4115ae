-- Blocks are lowered fewer than 256 times before they are queued.
use Rattle.std.proofs.Common.{◌≡◌, ℕ, ◌<◌, ◌≤◌, Bool, true, false, ◌||◌, List, length, sym, subst, arith}
use Rattle.std.specs.Prelude.{if◌then◌else◌, count_by, flat_map}
use Rattle.std.proofs.lemmas.List.{length-map}
use Rattle.std.proofs.lemmas.List.Sums.{count_by-le-length}
use Rattle.nxt_model.specs.declared.nbc.NbcProgram.{NbcProgram}
use Rattle.nxt_model.specs.Nbc.Forms.{formed}
use Rattle.nxt_model.specs.Nbc.Text.{Source, Block, dependents_of, exited_by, fire_of, holds_number, is_main, numbered, program_block, program_of, source_of}
use Rattle.nxt_model.specs.Nbc.Tokens.{lines_of}
use Rattle.nxt_model.specs.TextProgram.{Text, text_of}
use Rattle.nxt_nbc.specs.Checked.{IsParsed}
use Rattle.nxt_asm_parts.specs.Sound.{IsSound}
use Rattle.nxt_asm_laws.proofs.Laws.Lists.{Each, each_all, each_map}

module _ (src : Source) (few : length (program_of src).blocks ≤ 255) where
  -- no more often than there are blocks
  fire_below : (k : ℕ) (b : Block) → fire_of src k b < 256
  fire_below k b = by b.subroutine (is_main b)
    where
      most : count_by (λ x. holds_number (dependents_of src x.0 x.1) k || holds_number (flat_map (exited_by src) x.1.items) k) (numbered src) < 256
      most =
          let counted = count_by-le-length (λ x. holds_number (dependents_of src x.0 x.1) k || holds_number (flat_map (exited_by src) x.1.items) k) (numbered src) in
          omega (arith, few, length-map (numbered src) (program_block src), counted)

      by : (s m : Bool)
          → (if s then 1
          else if m then 0
          else count_by (λ x. holds_number (dependents_of src x.0 x.1) k || holds_number (flat_map (exited_by src) x.1.items) k) (numbered src))
          < 256
      by true m = omega arith
      by false true = omega arith
      by false false = most

  blocks_below : Each (λ b. b.fire < 256) (program_of src).blocks
  blocks_below = each_map (λ b. b.fire < 256) (program_block src) (numbered src) (each_all _ (numbered src) (λ x. fire_below x.0 x.1))

-- the blocks of the program of a text that keeps all rules
pub fires_below : (text : List ℕ) (p : NbcProgram) → IsParsed text p → IsSound p → Each (λ b. b.fire < 256) p.blocks
fires_below text p parsed sound =
    let src : Source = source_of (formed (lines_of text parsed.tokens.0)).forms in
    let spelled : text_of p ≡ program_of src = parsed.tokens.2 in
    let few : length (program_of src).blocks ≤ 255 = subst (λ (x : Text). length x.blocks ≤ 255) spelled sound.blocks in
    subst (λ (x : Text). Each (λ b. b.fire < 256) x.blocks) (sym spelled) (blocks_below src few)
