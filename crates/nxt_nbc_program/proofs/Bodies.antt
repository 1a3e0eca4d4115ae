-- The statements of blocks, line by line.
use Rattle.std.proofs.Common.{◌≡◌, ℕ, zero, suc, ◌+◌, ◌<◌, ◌≤◌, Bool, true, false, not, cond, List, [], ◌∷◌, ◌++◌, length, map, take, get_or, Option, Some, sym, ap, subst, ◌∙◌, arith}
use Rattle.std.specs.List.{enumerate_from}
use Rattle.std.specs.Prelude.{filter, flat_map, option_to_list, slice_get}
use Rattle.std.proofs.lemmas.List.{append-nil, length-map, map-append, take_more}
use Rattle.std.proofs.lemmas.Grind.{flat_map-append}
use Rattle.nxt_model.specs.Nbc.Forms.{Form}
use Rattle.nxt_model.specs.Nbc.Text.{Source, Block, dependents_of, fire_of, is_main, labels_from, numbered, ordered, program_block, statements_in}
use Rattle.nxt_model.specs.declared.nbc.NbcStatement.{NbcStatement}
use Rattle.nxt_nbc_lines.specs.Seen.{line_form_seen}
use Rattle.nxt_nbc_lines.specs.Whole.{AreWhole, BlocksAreWhole, most_in_text}
use Rattle.nxt_nbc_lines.specs.declared.forms.LineForm.{LineForm}
use Rattle.nxt_nbc_names.specs.Blocks.{main_first}
use Rattle.nxt_nbc_names.specs.BlocksSeen.{block_seen}
use Rattle.nxt_nbc_names.specs.declared.blocks.Block.{Block as ProgramBlock}
use Rattle.nxt_nbc_names.proofs.Laws.Blocks.{ordered_is}
use Rattle.nxt_nbc_program.specs.Links.{links, links_of}
use Rattle.nxt_nbc_program.specs.LinksSeen.{links_seen}
use Rattle.nxt_nbc_program.specs.declared.links.Links.{Links}
use Rattle.nxt_nbc_program.proofs.BlockNumbers.{main_first_count}
use Rattle.nxt_nbc_program.proofs.LinkLists.{numbered_more}

-- ---- lines

-- the statements so far, with those of one line more
pub body_more : (f : ℕ × Form → List NbcStatement) (ls : List LineForm) (i : ℕ) (l : LineForm) → i < length ls → l ≡ get_or ls i l → (ss : List NbcStatement)
    → ss ≡ flat_map f (map line_form_seen (take i ls)) → (o : Option NbcStatement) → option_to_list o ≡ f (line_form_seen l)
    → ss ++ option_to_list o ≡ flat_map f (map line_form_seen (take (i + 1) ls))
body_more f ls i l within at ss so_far o e =
    let front = map line_form_seen (take i ls) in
    ap (λ xs. xs ++ option_to_list o) so_far
    ∙ ap (λ xs. flat_map f front ++ xs) (e ∙ sym (append-nil (f (line_form_seen l))))
    ∙ sym (flat_map-append f front (line_form_seen l ∷ []))
    ∙ sym (ap (flat_map f) (map-append line_form_seen (take i ls) (l ∷ [])))
    ∙ sym (ap (λ xs. flat_map f (map line_form_seen xs)) (take_more ls i l within ∙ ap (λ x. take i ls ++ x ∷ []) (sym at)))

-- ---- blocks

link_by : (src : Source) (k n : ℕ) (ls : List Links) (bs : List Block) (l : Links) (b : Block) → map links_seen ls ≡ map (links src) (enumerate_from n bs)
    → k < length ls → l ≡ get_or ls k l → slice_get bs k ≡ Some b → links_seen l ≡ links src (n + k, b)
link_by src k n [] bs l b e lt at there = absurd (omega (arith, lt))
link_by src k n (x ∷ ls) [] l b e lt at there = absurd cc
link_by src zero n (x ∷ ls) (c ∷ bs) l b e lt at there =
    ap links_seen at ∙ first (links_seen x) (links src (n, c)) (map links_seen ls) (map (links src) (enumerate_from (n + 1) bs)) e
    ∙ ap (λ d. links src (n, d)) (same c b there) ∙ ap (λ j. links src (j, b)) (let z : n ≡ n + 0 = omega arith in z)
  where
    first : {A : Type 0} (x y : A) (xs ys : List A) → x ∷ xs ≡ y ∷ ys → x ≡ y
    first x y xs ys e = cc

    same : (c b : Block) → Some c ≡ Some b → c ≡ b
    same c b e = cc
link_by src (suc k) n (x ∷ ls) (c ∷ bs) l b e lt at there =
    link_by src k (n + 1) ls bs l b (rest (links_seen x) (links src (n, c)) (map links_seen ls) (map (links src) (enumerate_from (n + 1) bs)) e) (omega (arith, lt)) at there
    ∙ ap (λ j. links src (j, b)) (let z : n + 1 + k ≡ n + suc k = omega arith in z)
  where
    rest : {A : Type 0} (x y : A) (xs ys : List A) → x ∷ xs ≡ y ∷ ys → xs ≡ ys
    rest x y xs ys e = cc

-- the links of a block, by its number
pub link_at : (src : Source) (k : ℕ) (ls : List Links) (l : Links) (b : Block) → map links_seen ls ≡ links_of src → k < length ls → l ≡ get_or ls k l
    → slice_get (ordered src) k ≡ Some b → links_seen l ≡ links src (k, b)
link_at src k ls l b e lt at there =
    link_by src k 0 ls (ordered src) l b e lt at there ∙ ap (λ j. links src (j, b)) (let z : 0 + k ≡ k = omega arith in z)

pub block_is : (src : Source) (k : ℕ) (b : Block) (fire : ℕ) (ds copy : List ℕ) (body : List NbcStatement) → fire ≡ fire_of src k b → ds ≡ dependents_of src k b → copy ≡ ds
    → body ≡ flat_map (statements_in src (labels_from 0 b.items) k b.subroutine (length ds)) b.items
    → record { subroutine = b.subroutine; fire = fire; dependents = copy; body = body } ≡ program_block src (k, b)
block_is src k b fire ds copy body fires lowers copied written =
    ap (λ (n : ℕ). record { subroutine = b.subroutine; fire = n; dependents = copy; body = body }) fires
    ∙ ap (λ (xs : List ℕ). record { subroutine = b.subroutine; fire = fire_of src k b; dependents = xs; body = body }) (copied ∙ lowers)
    ∙ ap (λ (ss : List NbcStatement). record { subroutine = b.subroutine; fire = fire_of src k b; dependents = dependents_of src k b; body = ss })
    (written ∙ ap (λ xs. flat_map (statements_in src (labels_from 0 b.items) k b.subroutine (length xs)) b.items) lowers)

-- ---- the order of their numbers

filter_whole : (p : Block → Bool) (bs : List Block) → BlocksAreWhole bs → BlocksAreWhole (filter p bs)
filter_whole p [] h = tt
filter_whole p (b ∷ bs) h = by (p b) (filter_whole p bs h.2)
  where
    by : (c : Bool) → BlocksAreWhole (filter p bs) → BlocksAreWhole (cond c (b ∷ filter p bs) (filter p bs))
    by true more = (h.0, h.1, more)
    by false more = more

append_whole : (a b : List Block) → BlocksAreWhole a → BlocksAreWhole b → BlocksAreWhole (a ++ b)
append_whole [] b h k = k
append_whole (x ∷ a) b h k = (h.0, h.1, append_whole a b h.2 k)

ordered_whole : (bs : List Block) → BlocksAreWhole bs → BlocksAreWhole (main_first bs)
ordered_whole bs h = append_whole (filter is_main bs) (filter (λ b. not (is_main b)) bs) (filter_whole is_main bs h) (filter_whole (λ b. not (is_main b)) bs h)

block_whole_at : (bs : List Block) (k : ℕ) (b : Block) → BlocksAreWhole bs → slice_get bs k ≡ Some b → AreWhole b.items × (length b.items ≤ most_in_text)
block_whole_at [] k b h e = absurd cc
block_whole_at (c ∷ bs) zero b h e = subst (λ d. AreWhole d.items × (length d.items ≤ most_in_text)) (same c b e) (h.0, h.1)
  where
    same : (c b : Block) → Some c ≡ Some b → c ≡ b
    same c b e = cc
block_whole_at (c ∷ bs) (suc k) b h e = block_whole_at bs k b h.2 e

seen_at : (ps : List ProgramBlock) (k : ℕ) (p : ProgramBlock) → k < length ps → p ≡ get_or ps k p → slice_get (map block_seen ps) k ≡ Some (block_seen p)
seen_at [] k p lt at = absurd (omega (arith, lt))
seen_at (q ∷ ps) zero p lt at = ap (λ x. Some (block_seen x)) (sym at)
seen_at (q ∷ ps) (suc k) p lt at = seen_at ps k p (omega (arith, lt)) at

module _ (src : Source) (ps : List ProgramBlock) (is : map block_seen ps ≡ main_first src.blocks) (k : ℕ) (p : ProgramBlock) (within : k < length ps) (at : p ≡ get_or ps k p) where
  -- the block of a number
  pub block_there : slice_get (ordered src) k ≡ Some (block_seen p)
  block_there = ap (λ bs. slice_get bs k) (ordered_is src ∙ sym is) ∙ seen_at ps k p within at

  pub number_there : k < length src.blocks
  number_there =
      let many = main_first_count src.blocks in
      let same = ap (λ bs. length bs) is in
      omega (arith, within, many, same, length-map ps block_seen)

  pub block_whole : BlocksAreWhole src.blocks → AreWhole (block_seen p).items × (length (block_seen p).items ≤ most_in_text)
  block_whole h =
      block_whole_at (main_first src.blocks) k (block_seen p) (ordered_whole src.blocks h) (ap (λ bs. slice_get bs k) (sym is) ∙ seen_at ps k p within at)

-- the blocks so far, with one block more
pub blocks_more : (src : Source) (ps : List ProgramBlock) (k : ℕ) (p : ProgramBlock) → k < length ps → p ≡ get_or ps k p
    → map (program_block src) (enumerate_from 0 (map block_seen (take k ps))) ++ program_block src (k, block_seen p) ∷ []
    ≡ map (program_block src) (enumerate_from 0 (map block_seen (take (k + 1) ps)))
blocks_more src ps k p within at = numbered_more (program_block src) ps k p within at

pub blocks_all : (src : Source) (bs : List Block) → bs ≡ main_first src.blocks → map (program_block src) (enumerate_from 0 bs) ≡ map (program_block src) (numbered src)
blocks_all src bs is = ap (λ xs. map (program_block src) (enumerate_from 0 xs)) (is ∙ sym (ordered_is src))
