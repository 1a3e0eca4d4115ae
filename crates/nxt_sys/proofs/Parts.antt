-- Two members that are stored in either order.
use Rattle.std.proofs.Common.{◌≡◌, ◌≢◌, ℕ, List, [], ◌∷◌, ◌++◌, get_or, set, refl, sym, ap, ◌∙◌}
use Rattle.std.specs.Prelude.{pos}
use Rattle.std.proofs.lemmas.List.{set_comm}
use Rattle.nxt_model.specs.Values.{Value, Num, ListOf, GroupOf, values, items, list_of, group_of, with_part}
use Rattle.nxt_model.proofs.Laws.Values.{items-values}
use Rattle.nxt_operands.proofs.Laws.Paths.{element_twice}

elements_apart : (j k : ℕ) (x y : Value) (vs : List Value) → j ≢ k → set (items (values (set vs j x))) k y ≡ set (items (values (set vs k y))) j x
elements_apart j k x y vs e =
    ap (λ ws. set ws k y) (items-values (set vs j x))
    ∙ set_comm vs j k x y e
    ∙ sym (ap (λ ws. set ws j x) (items-values (set vs k y)))

-- two members of the value at a path, in either order
pub members_apart : (p : List ℕ) (j k : ℕ) (x y v : Value) → j ≢ k → with_part (p ++ k ∷ []) y (with_part (p ++ j ∷ []) x v) ≡ with_part (p ++ j ∷ []) x (with_part (p ++ k ∷ []) y v)
members_apart [] j k x y (Num z) e = refl
members_apart [] j k x y (ListOf vs) e = ap list_of (elements_apart j k x y (items vs) e)
members_apart [] j k x y (GroupOf vs) e = ap group_of (elements_apart j k x y (items vs) e)
members_apart (a ∷ p) j k x y (Num z) e = refl
members_apart (a ∷ p) j k x y (ListOf vs) e =
    let first : Value → Value = with_part (p ++ j ∷ []) x in
    let second : Value → Value = with_part (p ++ k ∷ []) y in
    ap list_of
    (element_twice a first second (items vs)
    ∙ ap (set (items vs) a) (members_apart p j k x y (get_or (items vs) a (Num (pos 0))) e)
    ∙ sym (element_twice a second first (items vs)))
members_apart (a ∷ p) j k x y (GroupOf vs) e =
    let first : Value → Value = with_part (p ++ j ∷ []) x in
    let second : Value → Value = with_part (p ++ k ∷ []) y in
    ap group_of
    (element_twice a first second (items vs)
    ∙ ap (set (items vs) a) (members_apart p j k x y (get_or (items vs) a (Num (pos 0))) e)
    ∙ sym (element_twice a second first (items vs)))
