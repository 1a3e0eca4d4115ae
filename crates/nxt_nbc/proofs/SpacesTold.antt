-- What the names of a text tell.
use Rattle.std.proofs.Common.{◌≡◌, ℕ, ◌+◌, ◌-◌, ◌^◌, min, Bool, List, [], ◌∷◌, ◌++◌, length, map, filter_map, sum_by, Option, refl, sym, ap, subst, ◌∙◌}
use Rattle.std.specs.Prelude.{nat_lt}
use Rattle.std.proofs.lemmas.List.Sums.{sum_by-append, sum_by-cons}
use Rattle.nxt_model.specs.Nbc.Forms.{Form, Formed}
use Rattle.nxt_model.specs.Nbc.Text.{Block, Source, source_of}
use Rattle.nxt_model.specs.Nbc.NbcRules.{Declared, TwiceNamed, TooMany, shared_name, member_spaces, label_space, spaces, is_taken, tells}
use Rattle.nxt_nbc_lines.specs.Firsts.{IsLeast, lesser}
use Rattle.nxt_nbc.specs.Spaces.{least_again, least_in_spaces}
use Rattle.nxt_nbc.proofs.LesserLines.{lesser_assoc, many_held}
use Rattle.nxt_nbc.proofs.NamesAgain.{least_spaces}

-- ---- spaces behind one another

-- how many names they have
abbrev pub names_in : List (List Declared) → ℕ
names_in dss = sum_by (λ ds. length ds) dss

pub least_append : (taken : ℕ → List ℕ → Bool) (a b : List (List Declared)) → least_in_spaces taken (a ++ b) ≡ lesser (least_in_spaces taken a) (least_in_spaces taken b)
least_append taken [] b = refl
least_append taken (ds ∷ a) b =
    ap (lesser (least_again taken [] ds)) (least_append taken a b)
    ∙ sym (lesser_assoc (least_again taken [] ds) (least_in_spaces taken a) (least_in_spaces taken b))

-- one space, and those of two lists
pub spaces_joined : (taken : ℕ → List ℕ → Bool) (a : List Declared) (b c : List (List Declared))
    → least_in_spaces taken (a ∷ (b ++ c)) ≡ lesser (lesser (least_again taken [] a) (least_in_spaces taken b)) (least_in_spaces taken c)
spaces_joined taken a b c = least_append taken (a ∷ b) c

pub names_joined : (a : List Declared) (b c : List (List Declared))
    → sum_by (λ ds. length ds) (a ∷ (b ++ c)) ≡ length a + sum_by (λ ds. length ds) b + sum_by (λ ds. length ds) c
names_joined a b c = sum_by-append (λ ds. length ds) (a ∷ b) c ∙ ap (λ n. n + names_in c) (sum_by-cons (λ ds. length ds) a b)

-- ---- the rules

-- the rule of names that are declared twice
pub twice_least : (fd : Formed) → IsLeast (λ l. tells fd (TwiceNamed l)) (least_in_spaces (is_taken (source_of fd.forms)) (spaces fd.forms))
twice_least fd = least_spaces (is_taken (source_of fd.forms)) (spaces fd.forms)

-- the rule of too many names
pub too_many_names : (fd : Formed) → tells fd (TooMany 1) ≡ nat_lt 10000 (sum_by (λ ds. length ds) (spaces fd.forms))
too_many_names fd = refl

-- ---- by the three kinds of spaces

-- the least line among the names that share one space, the members of structs, and the labels of blocks
abbrev pub twice_in : (ℕ → List ℕ → Bool) → List (ℕ × Form) → List Block → Option ℕ
twice_in taken fs bs =
    lesser (lesser (least_again taken [] (filter_map shared_name fs)) (least_in_spaces taken (member_spaces fs))) (least_in_spaces taken (map label_space bs))

-- and how many names they have
abbrev pub count_in : List (ℕ × Form) → List Block → ℕ
count_in fs bs = length (filter_map shared_name fs) + sum_by (λ ds. length ds) (member_spaces fs) + sum_by (λ ds. length ds) (map label_space bs)

pub twice_told : (fd : Formed) (src : Source) → src ≡ source_of fd.forms → IsLeast (λ l. tells fd (TwiceNamed l)) (twice_in (is_taken src) fd.forms src.blocks)
twice_told fd src is =
    let fs = fd.forms in
    let own : Source = source_of fs in
    subst (λ o. IsLeast (λ l. tells fd (TwiceNamed l)) o)
    (spaces_joined (is_taken own) (filter_map shared_name fs) (member_spaces fs) (map label_space own.blocks)
    ∙ sym (ap (λ (s : Source). twice_in (is_taken s) fs s.blocks) is))
    (twice_least fd)

pub count_told : (fd : Formed) (src : Source) → src ≡ source_of fd.forms → nat_lt 10000 (min (count_in fd.forms src.blocks) (2 ^ 64 - 1)) ≡ tells fd (TooMany 1)
count_told fd src is =
    let fs = fd.forms in
    let own : Source = source_of fs in
    many_held (count_in fs src.blocks)
    ∙ ap (λ (s : Source). nat_lt 10000 (count_in fs s.blocks)) is
    ∙ ap (nat_lt 10000) (sym (names_joined (filter_map shared_name fs) (member_spaces fs) (map label_space own.blocks)))
