-- What the blocks of a text tell of the rules of main and of counts.
use Rattle.std.proofs.Common.{◌≡◌, ℕ, ◌<◌, ◌≤◌, Bool, arith, true, false, not, ◌||◌, List, [], ◌∷◌, length, map, refl, sym, ap, ◌∙◌}
use Rattle.std.specs.Prelude.{nat_lt}
use Rattle.std.specs.List.{list_any}
use Rattle.std.proofs.lemmas.Bool.{lt-ltb, le-ltb, ltb-false}
use Rattle.std.proofs.lemmas.List.{length-map}
use Rattle.nxt_model.specs.Nbc.Forms.{Formed}
use Rattle.nxt_model.specs.Nbc.Text.{Source, blocks_in, is_main, source_of}
use Rattle.nxt_model.specs.Nbc.NbcRules.{NoMain, TooMany, tells}
use Rattle.nxt_nbc_lines.specs.Firsts.{Keeps}
use Rattle.nxt_nbc_names.specs.BlocksSeen.{block_seen}
use Rattle.nxt_nbc_names.specs.declared.blocks.Block.{Block as ProgramBlock}

main_seen : (ps : List ProgramBlock) → list_any (λ p. is_main (block_seen p)) ps ≡ list_any is_main (map block_seen ps)
main_seen [] = refl
main_seen (p ∷ ps) = ap (λ b. is_main (block_seen p) || b) (main_seen ps)

module _ (fd : Formed) (src : Source) (is : src ≡ source_of fd.forms) (ps : List ProgramBlock) (own : map block_seen ps ≡ src.blocks) where
  same : map block_seen ps ≡ (source_of fd.forms).blocks
  same = own ∙ ap (λ (s : Source). s.blocks) is

  -- whether one is main
  pub main_told : (b : Bool) → list_any (λ p. is_main (block_seen p)) ps ≡ b → tells fd NoMain ≡ not b
  main_told b e = ap (λ xs. not (list_any is_main xs)) (sym same) ∙ ap not (sym (main_seen ps) ∙ e)

  many : length (source_of fd.forms).blocks ≡ length ps
  many = ap (λ xs. length xs) (sym same) ∙ length-map ps block_seen

  -- whether they are too many
  pub many_told : 255 < length ps → tells fd (TooMany 0) ≡ true
  many_told lt = ap (nat_lt 255) many ∙ lt-ltb 255 (length ps) lt

  pub few_told : length ps ≤ 255 → tells fd (TooMany 0) ≡ false
  few_told le = ap (nat_lt 255) many ∙ le-ltb 255 (length ps) le

-- so many names
pub many_names : (fd : Formed) (n : ℕ) → nat_lt 10000 n ≡ tells fd (TooMany 1) → 10000 < n → tells fd (TooMany 1) ≡ true
many_names fd n e lt = sym e ∙ lt-ltb 10000 n lt

pub few_names : (fd : Formed) (n : ℕ) → nat_lt 10000 n ≡ tells fd (TooMany 1) → n ≤ 10000 → tells fd (TooMany 1) ≡ false
few_names fd n e le = sym e ∙ le-ltb 10000 n le

-- where all rules are kept
pub few_blocks : (fd : Formed) → Keeps fd 47 → length (blocks_in fd.forms) ≤ 255
few_blocks fd kept = ltb-false 255 (length (blocks_in fd.forms)) (kept (TooMany 0) (omega arith))
