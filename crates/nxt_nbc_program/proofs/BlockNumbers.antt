-- The number of a block is below how many they are.
use Rattle.std.proofs.Common.{◌≡◌, ℕ, ◌+◌, ◌<◌, ◌≤◌, Bool, true, false, not, cond, List, [], ◌∷◌, length, position, bytes_eq, Option, Some, None, refl, sym, ◌∙◌, arith, length-append}
use Rattle.std.specs.Prelude.{filter}
use Rattle.std.proofs.lemmas.List.Quantifiers.{position-Some}
use Rattle.nxt_model.specs.Nbc.Text.{Block, is_main}
use Rattle.nxt_nbc_names.specs.Blocks.{main_first}

parted : (p : Block → Bool) (bs : List Block) → length (filter p bs) + length (filter (λ b. not (p b)) bs) ≡ length bs
parted p [] = refl
parted p (b ∷ bs) = by (p b) (parted p bs)
  where
    by : (c : Bool) → length (filter p bs) + length (filter (λ x. not (p x)) bs) ≡ length bs
        → length (cond c (b ∷ filter p bs) (filter p bs)) + length (cond (not c) (b ∷ filter (λ x. not (p x)) bs) (filter (λ x. not (p x)) bs)) ≡ length (b ∷ bs)
    by true more = omega (arith, more)
    by false more = omega (arith, more)

-- main first, they are as many
pub main_first_count : (bs : List Block) → length (main_first bs) ≡ length bs
main_first_count bs = length-append (filter is_main bs) (filter (λ b. not (is_main b)) bs) ∙ parted is_main bs

pub number_below : (bs : List Block) (name : List ℕ) (o : Option ℕ) (k : ℕ) → length bs ≤ 255 → o ≡ position (λ b. bytes_eq b.name name) (main_first bs) → o ≡ Some k
    → k < 256
number_below bs name o k few is some =
    elim bs as (λ cs. length cs ≤ 255 → o ≡ position (λ b. bytes_eq b.name name) (main_first cs) → k < 256) [
      | [] ↦ λ le e. absurd (none (sym e ∙ some))
      | (b ∷ more) ↦ λ le e.
          let found = position-Some (λ x. bytes_eq x.name name) (main_first (b ∷ more)) k b (sym e ∙ some) in
          omega (arith, found.0, main_first_count (b ∷ more), le)
    ]
    few is
  where
    none : None ≡ Some k → ⊥
    none e = cc
