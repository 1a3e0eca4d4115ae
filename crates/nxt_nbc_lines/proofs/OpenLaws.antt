-- What is open, with the innermost held last.
use Rattle.std.proofs.Common.{◌≡◌, ℕ, List, [], ◌∷◌, ◌++◌, map, Some, None, refl, ap, sym, ◌∙◌}
use Rattle.std.specs.Prelude.{reverse, slice_get}
use Rattle.std.proofs.lemmas.List.{reverse-append}
use Rattle.nxt_model.specs.Nbc.Tokens.{Word}
use Rattle.nxt_model.specs.Nbc.Forms.{Form, Open, Place, CloseStruct, InData, InStruct, InThread, InSubroutine, ends_empty, form_in, outermost}
use Rattle.nxt_nbc_lines.specs.Places.{ends_empty_at, form_at, innermost}
use Rattle.nxt_nbc_lines.specs.declared.opened.Opened.{Opened}
use Rattle.nxt_nbc_lines.specs.Seen.{open_seen, opened_seen}

outermost-last : (o : Open) (p : ℕ × Place) → outermost (o ++ p ∷ []) ≡ Some p.0
outermost-last [] p = refl
outermost-last (q ∷ []) p = refl
outermost-last (q ∷ r ∷ o) p = outermost-last (r ∷ o) p

pub outermost-first : (os : List Opened) (x : Opened) → slice_get os 0 ≡ Some x → Some x.line ≡ outermost (open_seen os)
outermost-first [] x e = cc
outermost-first (y ∷ ys) x e =
    let same : Some y.line ≡ Some x.line = ap (λ o. elim o [ None ↦ None | Some z ↦ Some z.line ]) e in
    sym same
    ∙ sym (outermost-last (reverse (map opened_seen ys)) (opened_seen y))
    ∙ ap outermost (sym (reverse-append (opened_seen y ∷ []) (map opened_seen ys)))

-- ---- the innermost place is all that a line looks at

pub form_in-is : (o : Open) (ws : List Word) → form_in o ws ≡ form_at (innermost o) ws
form_in-is [] ws = refl
form_in-is ((l, InData) ∷ o) ws = refl
form_in-is ((l, InStruct n has_member) ∷ o) ws = refl
form_in-is ((l, InThread) ∷ o) ws = refl
form_in-is ((l, InSubroutine) ∷ o) ws = refl

pub ends_empty-is : (f : Form) (o : Open) → ends_empty f o ≡ ends_empty_at f (innermost o)
ends_empty-is CloseStruct [] = refl
ends_empty-is CloseStruct ((l, InData) ∷ o) = refl
ends_empty-is CloseStruct ((l, InStruct n has_member) ∷ o) = refl
ends_empty-is CloseStruct ((l, InThread) ∷ o) = refl
ends_empty-is CloseStruct ((l, InSubroutine) ∷ o) = refl
ends_empty-is _ o = refl
