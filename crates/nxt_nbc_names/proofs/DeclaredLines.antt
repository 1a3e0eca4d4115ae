-- What lines declare, with one line more.
use Rattle.std.proofs.Common.{◌≡◌, ℕ, ◌+◌, ◌<◌, List, [], ◌∷◌, ◌++◌, length, map, take, get_or, Option, Some, None, refl, sym, ap, ◌∙◌}
use Rattle.std.specs.Prelude.{filter_map, option_to_list}
use Rattle.std.proofs.lemmas.List.{append-nil, map-append, take_more}
use Rattle.std.proofs.lemmas.List.Elements.{filter_map-append}
use Rattle.nxt_model.specs.Nbc.Forms.{Form}
use Rattle.nxt_nbc_lines.specs.Seen.{line_form_seen}
use Rattle.nxt_nbc_lines.specs.declared.forms.LineForm.{LineForm}

-- of a list of one
filter_map-one : {X Y : Type 0} (h : X → Option Y) (x : X) (o : Option Y) → h x ≡ o → filter_map h (x ∷ []) ≡ option_to_list o
filter_map-one h x None e = rw e refl
filter_map-one h x (Some y) e = rw e refl

module _ {Y : Type 0} (h : ℕ × Form → Option Y) (ls : List LineForm) (i : ℕ) (l : LineForm) (within : i < length ls) (at : l ≡ get_or ls i l)
    (ys : List Y) (so_far : ys ≡ filter_map h (map line_form_seen (take i ls))) where
  with_line : (o : Option Y) → h (line_form_seen l) ≡ o → ys ++ option_to_list o ≡ filter_map h (map line_form_seen (take (i + 1) ls))
  with_line o e =
      let front = map line_form_seen (take i ls) in
      ap (λ xs. xs ++ option_to_list o) so_far
      ∙ sym (ap (λ xs. filter_map h front ++ xs) (filter_map-one h (line_form_seen l) o e))
      ∙ sym (filter_map-append h front (line_form_seen l ∷ []))
      ∙ sym (ap (filter_map h) (map-append line_form_seen (take i ls) (l ∷ [])))
      ∙ sym (ap (λ xs. filter_map h (map line_form_seen xs)) (take_more ls i l within ∙ ap (λ x. take i ls ++ x ∷ []) (sym at)))

  -- it declares one
  pub with_one : (y : Y) → Some y ≡ h (line_form_seen l) → ys ++ y ∷ [] ≡ filter_map h (map line_form_seen (take (i + 1) ls))
  with_one y e = with_line (Some y) (sym e)

  -- it declares none
  pub with_none : None ≡ h (line_form_seen l) → ys ≡ filter_map h (map line_form_seen (take (i + 1) ls))
  with_none e = sym (append-nil ys) ∙ with_line None (sym e)
