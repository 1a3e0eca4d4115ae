-- What is stored in a text is a text's value.
use Rattle.std.proofs.Common.{◌≡◌, ℕ, true, ◌&&◌, List, [], ◌∷◌, map, refl, ap, ◌∙◌}
use Rattle.std.specs.List.{list_all}
use Rattle.std.proofs.lemmas.Bool.Decides.{Decides-int_eq}
use Rattle.nxt_types.specs.Arithmetic.{word}
use Rattle.nxt_types.specs.Calls.{is_text}
use Rattle.nxt_types.specs.Shapes.{Shape, Void, Number, Array, Cluster, Mutex}
use Rattle.nxt_types.specs.declared.kind.Kind.{Kind}
use Rattle.nxt_types.proofs.Laws.Kinds.{cut-extend}
use Rattle.nxt_model.specs.Values.{Value, number, elements, stored, is_of}
use Rattle.nxt_model.proofs.Laws.Values.{items-values}

number_stored : (k : Kind) (v : Value) → is_of (Number k) (stored (Number k) v) ≡ true
number_stored k v = (Decides-int_eq _ _).1 (cut-extend k (word (number v)))

numbers_stored : (k : Kind) (vs : List Value) → list_all (is_of (Number k)) (map (stored (Number k)) vs) ≡ true
numbers_stored k [] = refl
numbers_stored k (v ∷ vs) =
    ap (λ b. b && list_all (is_of (Number k)) (map (stored (Number k)) vs)) (number_stored k v) ∙ numbers_stored k vs

list_stored : (n : ℕ) (k : Kind) (v : Value) → is_of (Array n (Number k)) (stored (Array n (Number k)) v) ≡ true
list_stored n k v =
    ap (list_all (is_of (Number k))) (items-values (map (stored (Number k)) (elements v))) ∙ numbers_stored k (elements v)

-- a text is a list of numbers
pub text_stored : (t : Shape) (v : Value) → is_text t ≡ true → is_of t (stored t v) ≡ true
text_stored (Array n (Number k)) v e = list_stored n k v
text_stored Void v e = let f : ⊥ = cc in absurd f
text_stored (Number k) v e = let f : ⊥ = cc in absurd f
text_stored (Array n Void) v e = let f : ⊥ = cc in absurd f
text_stored (Array n (Array m s)) v e = let f : ⊥ = cc in absurd f
text_stored (Array n (Cluster ss)) v e = let f : ⊥ = cc in absurd f
text_stored (Array n Mutex) v e = let f : ⊥ = cc in absurd f
text_stored (Cluster ss) v e = let f : ⊥ = cc in absurd f
text_stored Mutex v e = let f : ⊥ = cc in absurd f
