-- What references to texts show.
use Rattle.std.proofs.Common.{◌≡◌, ℕ, ◌+◌, Bool, true, false, not, cond, ◌||◌, List, [], ◌∷◌, ◌++◌, map, bytes_eq, Bor, refl, ap, ◌∙◌}
use Rattle.std.specs.Prelude.{if◌then◌else◌}
use Rattle.std.specs.List.{list_any, position_or_len}
use Rattle.std.proofs.lemmas.List.{map_push}
use Rattle.indexmap.specs.IndexSet.{insert_key}

abbrev pub shown : Bor (List ℕ) → List ℕ
shown t = t.now

-- the test of references is that of what they show
abbrev pub same_text : Bor (List ℕ) → Bor (List ℕ) → Bool
same_text a b = bytes_eq a.now b.now

-- a text among texts
any_shown : (t : Bor (List ℕ)) (ts : List (Bor (List ℕ))) → list_any (same_text t) ts ≡ list_any (bytes_eq t.now) (map shown ts)
any_shown t [] = refl
any_shown t (u ∷ us) = ap (λ b. bytes_eq t.now u.now || b) (any_shown t us)

pub place_shown : (t : Bor (List ℕ)) (ts : List (Bor (List ℕ))) → position_or_len (same_text t) ts ≡ position_or_len (bytes_eq t.now) (map shown ts)
place_shown t [] = refl
place_shown t (u ∷ us) = ap (λ n. cond (not (bytes_eq t.now u.now)) (1 + n) 0) (place_shown t us)

-- a text more
pub text_more : (ts : List (Bor (List ℕ))) (t : Bor (List ℕ)) → map shown (insert_key same_text ts t) ≡ insert_key bytes_eq (map shown ts) t.now
text_more ts t = by (list_any (same_text t) ts) ∙ ap (λ b. if b then map shown ts else map shown ts ++ t.now ∷ []) (any_shown t ts)
  where
    by : (b : Bool) → map shown (if b then ts else ts ++ t ∷ []) ≡ (if b then map shown ts else map shown ts ++ t.now ∷ [])
    by true = refl
    by false = map_push shown ts t
