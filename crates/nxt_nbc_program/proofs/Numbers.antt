-- The first of numbers, and lists of numbers with one more.
use Rattle.std.proofs.Common.{◌≡◌, ℕ, ◌+◌, ◌<◌, ◌==◌, Bool, true, false, ◌||◌, cond, List, [], ◌∷◌, ◌++◌, length, map, take, drop, get_or, Option, Some, None, refl, sym, ap, ◌∙◌}
use Rattle.std.specs.Prelude.{filter_map, option_to_list}
use Rattle.std.proofs.lemmas.List.{append_assoc, map-append, take_more, drop_more}
use Rattle.std.proofs.lemmas.List.Elements.{filter_map-append}
use Rattle.std.proofs.lemmas.List.Folds.{list_any-append}
use Rattle.nxt_model.specs.Nbc.Text.{holds_number, once}
use Rattle.nxt_nbc_program.specs.Links.{follows}
use Rattle.nxt_nbc_program.specs.LinksSeen.{follower_seen}
use Rattle.nxt_nbc_program.specs.declared.links.Follower.{Follower}

-- ---- followers

filter_map-one : {X Y : Type 0} (h : X → Option Y) (x : X) (o : Option Y) → h x ≡ o → filter_map h (x ∷ []) ≡ option_to_list o
filter_map-one h x None e = rw e refl
filter_map-one h x (Some y) e = rw e refl

-- the followers of block k, with one more
pub followers_more : (k : ℕ) (start ns : List ℕ) (fs : List Follower) (i : ℕ) (f : Follower) → i < length fs → f ≡ get_or fs i f
    → ns ≡ start ++ filter_map (follows k) (map follower_seen (take i fs)) → (o : Option ℕ) → follows k (follower_seen f) ≡ o
    → ns ++ option_to_list o ≡ start ++ filter_map (follows k) (map follower_seen (take (i + 1) fs))
followers_more k start ns fs i f within at so_far o e =
    let found = filter_map (follows k) in
    let front = map follower_seen (take i fs) in
    ap (λ xs. xs ++ option_to_list o) so_far
    ∙ append_assoc start (found front) (option_to_list o)
    ∙ ap (λ xs. start ++ xs)
    (sym (ap (λ xs. found front ++ xs) (filter_map-one (follows k) (follower_seen f) o e))
    ∙ sym (filter_map-append (follows k) front (follower_seen f ∷ []))
    ∙ sym (ap found (map-append follower_seen (take i fs) (f ∷ [])))
    ∙ sym (ap (λ xs. found (map follower_seen xs)) (take_more fs i f within ∙ ap (λ x. take i fs ++ x ∷ []) (sym at))))

-- one that follows block k, and one that does not
pub follows_held : (k : ℕ) (f : Follower) → holds_number f.follows k ≡ true → follows k (follower_seen f) ≡ f.number
follows_held k f e = ap (λ b. cond b f.number None) e

pub follows_not : (k : ℕ) (f : Follower) → holds_number f.follows k ≡ false → follows k (follower_seen f) ≡ None
follows_not k f e = ap (λ b. cond b f.number None) e

-- ---- each once

-- the same numbers were seen
once_same : (a b : List ℕ) → ((k : ℕ) → holds_number a k ≡ holds_number b k) → (ks : List ℕ) → once a ks ≡ once b ks
once_same a b same [] = refl
once_same a b same (k ∷ ks) =
    ap (λ c. cond c (once a ks) (k ∷ once (k ∷ a) ks)) (same k)
    ∙ ap (λ xs. cond (holds_number b k) xs (k ∷ once (k ∷ a) ks)) (once_same a b same ks)
    ∙ ap (λ xs. cond (holds_number b k) (once b ks) (k ∷ xs)) (once_same (k ∷ a) (k ∷ b) (λ j. ap (λ c. (k == j) || c) (same j)) ks)

last_first : (a : List ℕ) (k j : ℕ) → holds_number (k ∷ a) j ≡ holds_number (a ++ k ∷ []) j
last_first a k j = either (k == j) (holds_number a j) ∙ sym (list_any-append (λ q. q == j) a (k ∷ []))
  where
    either : (b c : Bool) → (b || c) ≡ (c || (b || false))
    either true true = refl
    either true false = refl
    either false true = refl
    either false false = refl

module _ (ks : List ℕ) (i : ℕ) (k : ℕ) (within : i < length ks) (at : k ≡ get_or ks i 0) (firsts whole : List ℕ)
    (so_far : firsts ++ once firsts (drop i ks) ≡ whole) where
  here : drop i ks ≡ k ∷ drop (i + 1) ks
  here = drop_more ks i 0 within ∙ ap (λ x. x ∷ drop (i + 1) ks) (sym at)

  -- a number that was seen
  pub once_seen : holds_number firsts k ≡ true → firsts ++ once firsts (drop (i + 1) ks) ≡ whole
  once_seen e =
      sym (ap (λ xs. firsts ++ xs) (ap (once firsts) here ∙ ap (λ c. cond c (once firsts (drop (i + 1) ks)) (k ∷ once (k ∷ firsts) (drop (i + 1) ks))) e)) ∙ so_far

  -- and a new one
  pub once_new : holds_number firsts k ≡ false → (firsts ++ k ∷ []) ++ once (firsts ++ k ∷ []) (drop (i + 1) ks) ≡ whole
  once_new e =
      append_assoc firsts (k ∷ []) (once (firsts ++ k ∷ []) (drop (i + 1) ks))
      ∙ sym (ap (λ xs. firsts ++ xs)
      (ap (once firsts) here
      ∙ ap (λ c. cond c (once firsts (drop (i + 1) ks)) (k ∷ once (k ∷ firsts) (drop (i + 1) ks))) e
      ∙ ap (λ xs. k ∷ xs) (once_same (k ∷ firsts) (firsts ++ k ∷ []) (last_first firsts k) (drop (i + 1) ks))))
      ∙ so_far
