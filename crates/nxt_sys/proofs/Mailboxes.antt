-- A message of a body.
use Rattle.std.proofs.Common.{◌≡◌, ℕ, suc, ◌+◌, ◌-◌, ◌<◌, Bool, true, false, List, [], ◌∷◌, ◌++◌, Option, Some, None, length, take, drop, replicate, get_or, refl, sym, ap, ◌∙◌, arith, append_assoc}
use Rattle.std.specs.Prelude.{if◌then◌else◌, nat_lt, ◌&&◌, slice_index}
use Rattle.std.proofs.lemmas.Bool.{le-ltb, le-leb, eq-eqb}
use Rattle.std.proofs.lemmas.List.{drop-replicate, length-append, take_at}
use Rattle.nxt_model.specs.Means.Text.{ended}
use Rattle.nxt_model.specs.Messages.{is_message}

three : {a b c : Bool} → a ≡ true → b ≡ true → c ≡ true → (a && b && c) ≡ true
three p q r = cc

last_zero : (b : List ℕ) → get_or (b ++ 0 ∷ []) (length b) 0 ≡ 0
last_zero [] = refl
last_zero (x ∷ b) = last_zero b

pub ended_is_message : (b : List ℕ) → length b < 59 → is_message (ended b) ≡ true
ended_is_message b less =
    let long : length (ended b) ≡ length b + 1 = length-append b (0 ∷ []) in
    let last : slice_index (ended b) (length (ended b) - 1) ≡ 0 =
    let at : length (ended b) - 1 ≡ length b = omega (arith, long) in ap (λ i. get_or (ended b) i 0) at ∙ last_zero b in
    three (le-leb 1 (length (ended b)) (omega (arith, long))) (le-leb (length (ended b)) 59 (omega (arith, long, less))) (eq-eqb _ _ last)

-- the front of the buffer
body_and_zero : (b zs : List ℕ) → take (length b + 1) (b ++ 0 ∷ zs) ≡ ended b
body_and_zero b zs =
    ap (take (length b + 1)) (sym (append_assoc b (0 ∷ []) zs)) ∙ take_at (ended b) zs (length b + 1) (length-append b (0 ∷ []))

some_zero : (n : ℕ) → n < 59 → drop {A = ℕ} n (replicate 59 0) ≡ 0 ∷ replicate (58 - n) 0
some_zero n less =
    let left : 59 - n ≡ suc (58 - n) = omega (arith, less) in drop-replicate n 59 0 ∙ ap (λ m. replicate m 0) left

pub front_of_zeros : (b : List ℕ) → length b < 59 → take (length b + 1) (b ++ drop (length b) (replicate 59 0)) ≡ ended b
front_of_zeros b less =
    ap (λ zs. take (length b + 1) (b ++ zs)) (some_zero (length b) less) ∙ body_and_zero b (replicate (58 - length b) 0)

pub made : (b t : List ℕ) (r : Option (List ℕ)) → length b < 59 → t ≡ ended b → r ≡ (if is_message t then Some t else None) → r ≡ (if nat_lt 59 (length (ended b)) then None else Some (ended b))
made b t r less is e =
    let some : (if is_message t then Some t else None) ≡ Some (ended b) =
    ap (λ xs. if is_message xs then Some xs else None) is
    ∙ ap (λ c. if c then Some (ended b) else None) (ended_is_message b less) in
    let short : nat_lt 59 (length (ended b)) ≡ false = le-ltb 59 (length (ended b)) (omega (arith, less, length-append b (0 ∷ []))) in
    e ∙ some ∙ sym (ap (λ c. if c then None else Some (ended b)) short)
