-- A line whose last field is written behind the others.
use Rattle.std.proofs.Common.{◌≡◌, ℕ, List, [], ◌∷◌, ◌++◌, refl, append_assoc}
use Rattle.nxt_model.specs.LineText.{fields_then}

fields_more : (fs : List (List ℕ)) (last more : List ℕ) → fields_then fs last ++ more ≡ fields_then fs (last ++ more)
fields_more [] last more = refl
fields_more (f ∷ fs) last more = simp (append_assoc, fields_more fs last more)

pub last_field : (text name : List ℕ) (fs : List (List ℕ)) (last : List ℕ) → ((text ++ (name ++ fields_then fs (44 ∷ []))) ++ last) ++ (10 ∷ []) ≡ text ++ (name ++ fields_then fs (44 ∷ (last ++ (10 ∷ []))))
last_field text name fs last = simp (append_assoc, fields_more)
