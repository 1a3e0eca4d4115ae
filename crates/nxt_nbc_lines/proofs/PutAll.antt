-- Pieces between commas, and what each of them gives.
use Rattle.std.proofs.Common.{◌≡◌, ℕ, ◌+◌, List, [], ◌∷◌, ◌++◌, length, map, Option, Some, None, option_map, refl, sym, ap, ◌∙◌, append_assoc, Bor}
use Rattle.nxt_nbc_lines.specs.declared.words.Word.{Word as ProgramWord}
use Rattle.std.proofs.lemmas.List.{map-append}
use Rattle.nxt_model.specs.Nbc.Forms.{all_of}

-- how many words are left, and one more
abbrev pub words_left : Option (Bor (List ProgramWord)) → ℕ
words_left None = 0
words_left (Some ws) = length ws.now + 1

-- items in front of those that follow, if each has one
abbrev pub put_all : {A : Type 0} → List A → Option (List A) → Option (List A)
put_all xs o = option_map (λ ys. xs ++ ys) o

pub put_none : {A : Type 0} (o : Option (List A)) → o ≡ put_all [] o
put_none None = refl
put_none (Some xs) = refl

pub put_one : {A : Type 0} (xs : List A) (x : A) (o : Option (List A)) → put_all xs (option_map (λ ys. x ∷ ys) o) ≡ put_all (xs ++ x ∷ []) o
put_one xs x None = refl
put_one xs x (Some ys) = ap (λ l. Some l) (sym (append_assoc xs (x ∷ []) ys))

-- what the next piece gives goes behind what those before it gave
pub put_piece : {P A : Type 0} (g : P → Option A) (xs : List A) (x : A) (p : P) (ps : List P) → g p ≡ Some x
    → put_all xs (all_of (map g (p ∷ ps))) ≡ put_all (xs ++ x ∷ []) (all_of (map g ps))
put_piece g xs x p ps e = ap (λ o. put_all xs (all_of (o ∷ map g ps))) e ∙ put_one xs x (all_of (map g ps))

-- the same of items that are seen otherwise than they are held
pub put_seen : {P X A : Type 0} (see : X → A) (g : P → Option A) (xs : List X) (x : X) (p : P) (ps : List P) → Some (see x) ≡ g p
    → put_all (map see xs) (all_of (map g (p ∷ ps))) ≡ put_all (map see (xs ++ x ∷ [])) (all_of (map g ps))
put_seen see g xs x p ps e =
    put_piece g (map see xs) (see x) p ps (sym e) ∙ ap (λ l. put_all l (all_of (map g ps))) (sym (map-append see xs (x ∷ [])))
