-- The blocks that are found, with one line or one block more.
use Rattle.std.proofs.Common.{◌≡◌, ℕ, ◌+◌, ◌<◌, Bool, true, false, cond, List, [], ◌∷◌, ◌++◌, length, map, take, drop, get_or, Option, Some, None, refl, sym, ap, subst, ◌∙◌}
use Rattle.std.specs.Prelude.{filter, option_to_list}
use Rattle.std.proofs.lemmas.List.{append-nil, append_assoc, drop_more, map-append, take_more}
use Rattle.std.proofs.lemmas.List.Elements.{filter-append}
use Rattle.nxt_model.specs.Nbc.Text.{Block, blocks_in}
use Rattle.nxt_nbc_lines.specs.Seen.{line_form_seen}
use Rattle.nxt_nbc_lines.specs.declared.forms.LineForm.{LineForm}
use Rattle.nxt_nbc_names.specs.BlocksSeen.{block_seen}
use Rattle.nxt_nbc_names.specs.declared.blocks.Block.{Block as ProgramBlock}

-- ---- those that pass a test

module _ (p : Block → Bool) (bs : List ProgramBlock) (i : ℕ) (b : ProgramBlock) (within : i < length bs) (at : b ≡ get_or bs i b)
    (front : List Block) (vs : List ProgramBlock) (so_far : map block_seen vs ≡ front ++ filter p (map block_seen (take i bs))) where
  filter-one : (passes : Bool) → p (block_seen b) ≡ passes → filter p (block_seen b ∷ []) ≡ cond passes (block_seen b ∷ []) []
  filter-one true e = rw e refl
  filter-one false e = rw e refl

  filter-more : (passes : Bool) → p (block_seen b) ≡ passes
      → filter p (map block_seen (take (i + 1) bs)) ≡ filter p (map block_seen (take i bs)) ++ cond passes (block_seen b ∷ []) []
  filter-more passes e =
      ap (λ xs. filter p (map block_seen xs)) (take_more bs i b within ∙ ap (λ x. take i bs ++ x ∷ []) (sym at))
      ∙ ap (filter p) (map-append block_seen (take i bs) (b ∷ []))
      ∙ filter-append p (map block_seen (take i bs)) (block_seen b ∷ [])
      ∙ ap (λ xs. filter p (map block_seen (take i bs)) ++ xs) (filter-one passes e)

  pub with_passed : p (block_seen b) ≡ true → map block_seen (vs ++ b ∷ []) ≡ front ++ filter p (map block_seen (take (i + 1) bs))
  with_passed e =
      map-append block_seen vs (b ∷ [])
      ∙ ap (λ xs. xs ++ block_seen b ∷ []) so_far
      ∙ append_assoc front (filter p (map block_seen (take i bs))) (block_seen b ∷ [])
      ∙ sym (ap (λ xs. front ++ xs) (filter-more true e))

  pub without_failed : p (block_seen b) ≡ false → map block_seen vs ≡ front ++ filter p (map block_seen (take (i + 1) bs))
  without_failed e = so_far ∙ sym (ap (λ xs. front ++ xs) (filter-more false e ∙ append-nil (filter p (map block_seen (take i bs)))))

-- ---- those that lines open

module _ (ls : List LineForm) (i : ℕ) (l : LineForm) (within : i < length ls) (at : l ≡ get_or ls i l) (behind : List LineForm) (rest : behind ≡ drop (i + 1) ls)
    (vs : List ProgramBlock) (so_far : map block_seen vs ++ blocks_in (map line_form_seen (drop i ls)) ≡ blocks_in (map line_form_seen ls)) where
  abbrev left : List Block
  left = blocks_in (map line_form_seen (drop (i + 1) ls))

  abbrev Opens : Option Block → List LineForm → Type 0
  Opens o xs = blocks_in (line_form_seen l ∷ map line_form_seen xs) ≡ option_to_list o ++ blocks_in (map line_form_seen xs)

  opened : (o : Option Block) → Opens o behind → (map block_seen vs ++ option_to_list o) ++ left ≡ blocks_in (map line_form_seen ls)
  opened o e =
      append_assoc (map block_seen vs) (option_to_list o) left
      ∙ sym (ap (λ bs. map block_seen vs ++ bs)
      (ap (λ xs. blocks_in (map line_form_seen xs)) (drop_more ls i l within ∙ ap (λ x. x ∷ drop (i + 1) ls) (sym at)) ∙ subst (Opens o) rest e))
      ∙ so_far

  -- it opens a block
  pub with_opened : (b : ProgramBlock) → Opens (Some (block_seen b)) behind → map block_seen (vs ++ b ∷ []) ++ left ≡ blocks_in (map line_form_seen ls)
  with_opened b e = ap (λ bs. bs ++ left) (map-append block_seen vs (b ∷ [])) ∙ opened (Some (block_seen b)) e

  -- it opens none
  pub with_none_opened : Opens None behind → map block_seen vs ++ left ≡ blocks_in (map line_form_seen ls)
  with_none_opened e = ap (λ bs. bs ++ left) (sym (append-nil (map block_seen vs))) ∙ opened None e
