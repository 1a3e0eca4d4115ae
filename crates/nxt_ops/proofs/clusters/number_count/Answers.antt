-- All members are numbers.
use Rattle.std.proofs.Common.{◌≡◌, ℕ, true, ◌&&◌, List, [], ◌∷◌, map, take, length, Option, Some, None, IfSome, Result, Ok, Err, refl, sym, ap, ◌∙◌, subst, option_map}
use Rattle.std.specs.List.{list_all}
use Rattle.std.specs.Result.{OkIff, result_ok}
use Rattle.std.proofs.lemmas.List.{length-map, take_all}
use Rattle.nxt_types.specs.Names.{Name}
use Rattle.nxt_types.specs.Shapes.{Shape, cluster_of, is_number, members, shapes_of, tree}
use Rattle.nxt_types.specs.declared.shape.Shape.{Shape as Seen}
use Rattle.nxt_types.proofs.Laws.Trees.{group_tree}
use Rattle.nxt_space.specs.Variables.{shape_by, shape_of}
use Rattle.nxt_ops.specs.Clusters.{HasNumbers}
use Rattle.nxt_ops.proofs.clusters.number_count.Goals as goal

counted : {E : Type 0} (r : Result ℕ E) (P : Type 0) (n : ℕ) → OkIff r P n → IfSome (result_ok r) (λ x. x ≡ n)
counted (Ok x) P n e = e.1
counted (Err f) P n e = tt

if_some : (o : Option ℕ) (P Q : ℕ → Type 0) → ((n : ℕ) → P n → Q n) → IfSome o P → IfSome o Q
if_some None P Q h e = tt
if_some (Some n) P Q h e = h n e

named_shape : (o : Option Name) (t : Shape) → Some t ≡ option_map (λ (n : Name). n.shape) o → shape_by o ≡ t
named_shape None t e = let f : ⊥ = cc in absurd f
named_shape (Some n) t e = cc

shapes_are : (ss : List Shape) → shapes_of (members ss) ≡ ss
shapes_are [] = refl
shapes_are (s ∷ ss) = ap (λ ts. s ∷ ts) (shapes_are ss)

all_seen : (xs : List Seen) → list_all (λ s. is_number (tree s)) xs ≡ list_all is_number (map tree xs)
all_seen [] = refl
all_seen (x ∷ xs) = ap (λ b. is_number (tree x) && b) (all_seen xs)

pub returns : goal.returns
returns c =
    let s = c.args.space.now.vars in
    let l = c.as_slice-members.result.now in
    let found = c.in-Some-Group in
    let is : tree found.field-0.now ≡ cluster_of (map tree l) = group_tree found.field-0.now found.members.items l found.field-0-is (c.as_slice-members.ensures.value ∙ ap (λ m. m.items.items) found.members-is) in
    let shape : shape_of s c.args.i ≡ cluster_of (map tree l) =
    named_shape _ _ (ap (option_map (λ b. tree b.now)) (sym found.is) ∙ c.shape.ensures) ∙ is in
    let all : take c.loop-shape.shape-index l ≡ l = take_all c.loop-shape.shape-index l c.loop-shape-test.false in
    let numbers : list_all is_number (map tree l) ≡ true = sym (all_seen l) ∙ ap (list_all (λ s. is_number (tree s))) (sym all) ∙ c.loop-shape.invariant in
    let same = shapes_are (map tree l) in
    if_some c.ok.result (λ n. n ≡ length l) (HasNumbers (shape_of s c.args.i))
    (λ n many. record {
      members = members (map tree l);
      shape = shape;
      numbers = ap (list_all is_number) same ∙ numbers;
      many = many ∙ sym (length-map l tree) ∙ ap length (sym same);
    })
    (subst (λ o. IfSome o (λ n. n ≡ length l)) (sym c.ok.ensures.value) (counted c.try_from.result _ (length l) c.try_from.ensures))
