-- Blocks have fewer than 256 dependents, and are as many as the text's.
use Rattle.std.proofs.Common.{◌≡◌, ℕ, zero, suc, ◌+◌, ◌<◌, ◌≤◌, ◌==◌, Bool, true, false, ◌||◌, not, cond, List, [], ◌∷◌, ◌++◌, length, position, bytes_eq, nat_lt, Option, Some, None, refl, sym, ap, ◌∙◌, ◌⊎◌, inl, inr, arith, eq-eqb, length-append}
use Rattle.std.specs.Prelude.{if◌then◌else◌, filter, flat_map, option_to_list}
use Rattle.std.specs.List.{enumerate_from, position_or_len}
use Rattle.std.proofs.lemmas.Bool.{cases_eq, ltb-true}
use Rattle.std.proofs.lemmas.List.{length-map}
use Rattle.std.proofs.lemmas.List.Filters.{length-filter_both}
use Rattle.std.proofs.lemmas.Option.{cond_some, none-some}
use Rattle.nxt_model.specs.Nbc.Forms as forms
use Rattle.nxt_model.specs.Nbc.Forms.{Form, Term, Named, Literal, Quote}
use Rattle.nxt_model.specs.Nbc.Text.{Source, Block, block_named, dependents_of, followed_by, followers_of, holds_number, is_main, named_block, numbered, once, ordered, preceded_by, program_block, program_of}
use Rattle.nxt_asm_laws.proofs.Laws.Lists.{Each, each_all, each_append, each_flat, each_given, each_map}

-- ---- how many

-- as many blocks as the text has
length-enumerate_from : {X : Type 0} (n : ℕ) (xs : List X) → length (enumerate_from n xs) ≡ length xs
length-enumerate_from n [] = refl
length-enumerate_from n (x ∷ xs) = ap suc (length-enumerate_from (n + 1) xs)

pub length-ordered : (src : Source) → length (ordered src) ≡ length src.blocks
length-ordered src =
    let others = λ (b : Block). not (is_main b) in
    length-append (filter is_main src.blocks) (filter others src.blocks) ∙ length-filter_both is_main others (λ b. refl) src.blocks

pub length-program_of : (src : Source) → length (program_of src).blocks ≡ length src.blocks
length-program_of src = length-map (numbered src) (program_block src) ∙ length-enumerate_from 0 (ordered src) ∙ length-ordered src

-- ---- numbers that are each there once

-- how many numbers below one are not among these
abbrev free : List ℕ → ℕ → ℕ
free seen zero = 0
free seen (suc n) = free seen n + cond (holds_number seen n) 0 1

free_most : (seen : List ℕ) (n : ℕ) → free seen n ≤ n
free_most seen zero = omega arith
free_most seen (suc n) = by (holds_number seen n) (free_most seen n)
  where
    by : (b : Bool) → free seen n ≤ n → free seen n + cond b 0 1 ≤ suc n
    by true le = omega (arith, le)
    by false le = omega (arith, le)

-- no more with another one seen
free_less : (k : ℕ) (seen : List ℕ) (n : ℕ) → free (k ∷ seen) n ≤ free seen n
free_less k seen zero = omega arith
free_less k seen (suc n) = by (k == n) (holds_number seen n) (free_less k seen n)
  where
    by : (a b : Bool) → free (k ∷ seen) n ≤ free seen n → free (k ∷ seen) n + cond (a || b) 0 1 ≤ free seen n + cond b 0 1
    by true true le = omega (arith, le)
    by true false le = omega (arith, le)
    by false true le = omega (arith, le)
    by false false le = omega (arith, le)

-- and fewer if it is new
free_fewer : (k : ℕ) (seen : List ℕ) (n : ℕ) → k < n → holds_number seen k ≡ false → free (k ∷ seen) n + 1 ≤ free seen n
free_fewer k seen zero lt new = absurd (omega (arith, lt))
free_fewer k seen (suc n) lt new = by (k == n) refl (cases_eq k n) (free_less k seen n) (free_fewer k seen n)
  where
    last : (a b : Bool) → a ≡ true → b ≡ false → free (k ∷ seen) n ≤ free seen n → free (k ∷ seen) n + cond (a || b) 0 1 + 1 ≤ free seen n + cond b 0 1
    last true false is not le = omega (arith, le)
    last false b is not le = cc
    last true true is not le = cc

    earlier : (a b : Bool) → free (k ∷ seen) n + 1 ≤ free seen n → free (k ∷ seen) n + cond (a || b) 0 1 + 1 ≤ free seen n + cond b 0 1
    earlier true true le = omega (arith, le)
    earlier true false le = omega (arith, le)
    earlier false true le = omega (arith, le)
    earlier false false le = omega (arith, le)

    by : (a : Bool) → (k == n) ≡ a → (k ≡ n) ⊎ (k ≡ n → ⊥) → free (k ∷ seen) n ≤ free seen n → (k < n → holds_number seen k ≡ false → free (k ∷ seen) n + 1 ≤ free seen n)
        → free (k ∷ seen) n + cond (a || holds_number seen n) 0 1 + 1 ≤ free seen n + cond (holds_number seen n) 0 1
    by a is (inl same) le more = last a (holds_number seen n) (sym is ∙ eq-eqb k n same) (sym (ap (holds_number seen) same) ∙ new) le
    by a is (inr other) le more = earlier a (holds_number seen n) (more (grind (arith, lt, other)) new)

-- numbers below one that are each there once are no more than it
length-once : (n : ℕ) (seen ks : List ℕ) → Each (λ k. k < n) ks → length (once seen ks) ≤ free seen n
length-once n seen [] below = omega arith
length-once n seen (k ∷ ks) below = by (holds_number seen k) refl (length-once n seen ks below.1) (length-once n (k ∷ seen) ks below.1)
  where
    by : (b : Bool) → holds_number seen k ≡ b → length (once seen ks) ≤ free seen n → length (once (k ∷ seen) ks) ≤ free (k ∷ seen) n
        → length (cond b (once seen ks) (k ∷ once (k ∷ seen) ks)) ≤ free seen n
    by true is same next = same
    by false is same next = let fewer = free_fewer k seen n below.0 is in omega (arith, fewer, next)

-- ---- dependents

-- a position is below the length
position_below : {X : Type 0} (p : X → Bool) (xs : List X) (i : ℕ) → position p xs ≡ Some i → i < length xs
position_below p xs i e =
    let c = cond_some (nat_lt (position_or_len p xs) (length xs)) (position_or_len p xs) i e in
    let lt = ltb-true (position_or_len p xs) (length xs) c.0 in
    omega (arith, lt, c.1)

module _ (src : Source) where
  abbrev pub IsNumber : ℕ → Type 0
  IsNumber k = k < length (ordered src)

  -- a block that is named has a number
  pub named_below : (name : List ℕ) (k : ℕ) → block_named src name ≡ Some k → k < length (ordered src)
  named_below name k e = position_below (λ b. bytes_eq b.name name) (ordered src) k e

  listed : (o : Option ℕ) → ((k : ℕ) → o ≡ Some k → k < length (ordered src)) → Each IsNumber (option_to_list o)
  listed None h = tt
  listed (Some k) h = (h k refl, tt)

  pub term_below : (t : Term) → Each IsNumber (named_block src t)
  term_below (Named (n ∷ [])) = listed (block_named src n) (named_below n)
  term_below t = tt

  pub line_below : (l : ℕ × Form) → Each IsNumber (preceded_by src l)
  line_below (l, forms.Precedes ts) = each_flat IsNumber (named_block src) ts (each_all _ ts term_below)
  line_below (l, f) = tt

  -- and so has one that names it in its follows
  follower_below : (k : ℕ) (b : Block) (j : ℕ) → (if holds_number (flat_map (followed_by src) b.items) k then block_named src b.name else None) ≡ Some j
      → j < length (ordered src)
  follower_below k b j e = by (holds_number (flat_map (followed_by src) b.items) k) e
    where
      by : (c : Bool) → (if c then block_named src b.name else None) ≡ Some j → j < length (ordered src)
      by true e = named_below b.name j e
      by false e = absurd (none-some j e)

  pub followers_below : (k : ℕ) → Each IsNumber (followers_of src k)
  followers_below k = each_given IsNumber _ src.blocks (each_all _ src.blocks (follower_below k))

  -- no more than there are blocks
  length-dependents_of : (k : ℕ) (b : Block) → length (dependents_of src k b) ≤ length (ordered src)
  length-dependents_of k b = by b.subroutine
    where
      below : Each IsNumber (flat_map (preceded_by src) b.items ++ followers_of src k)
      below =
          each_append IsNumber (flat_map (preceded_by src) b.items) (followers_of src k) (each_flat IsNumber (preceded_by src) b.items (each_all _ b.items line_below))
          (followers_below k)

      by : (c : Bool) → length (if c then [] else once [] (flat_map (preceded_by src) b.items ++ followers_of src k)) ≤ length (ordered src)
      by true = omega arith
      by false =
          let n = length (ordered src) in
          let once_each = length-once n [] (flat_map (preceded_by src) b.items ++ followers_of src k) below in
          let most = free_most [] n in
          omega (arith, once_each, most)

  -- the dependents of all blocks
  pub blocks_lower : length src.blocks ≤ 255 → Each (λ b. length b.dependents < 256) (program_of src).blocks
  blocks_lower few =
      each_map (λ b. length b.dependents < 256) (program_block src) (numbered src)
      (each_all _ (numbered src) (λ x. omega (arith, few, length-ordered src, length-dependents_of x.0 x.1)))
