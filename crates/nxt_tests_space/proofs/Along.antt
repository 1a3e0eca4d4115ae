-- A path that is followed a step at a time stays within its lists.
use Rattle.std.proofs.Common.{◌≡◌, ℕ, ◌+◌, ◌<◌, ◌≤◌, List, [], ◌∷◌, ◌++◌, length, take, get_or, refl, sym, ap, ◌∙◌, subst, Option, Some, None, IsSome}
use Rattle.std.specs.Prelude.{pos, ℤ, nat_abs, slice_index_or, option_map}
use Rattle.std.proofs.lemmas.List.{map-append, take_more, take_all}
use Rattle.nxt_types.specs.Names.{Name}
use Rattle.nxt_types.specs.Shapes.{Shape, Void, Number, Array, Cluster, Mutex}
use Rattle.nxt_model.specs.Values.{Value, Num, elements, part}
use Rattle.nxt_space.specs.Variables.{Variables, HasPart, name_of, part_of, shape_by, shape_of, value_of}
use Rattle.nxt_values.specs.Parts.{AreWithin, positions}
use Rattle.nxt_space.specs.declared.path.Path.{Path}

-- the shape to which positions in lists lead
abbrev pub shape_along : List ℕ → Shape → Shape
shape_along [] s = s
shape_along (k ∷ ks) (Array stride s) = shape_along ks s
shape_along (k ∷ ks) _ = Void

module _ (k stride : ℕ) (e : Shape) where
  abbrev More : Shape → Value → List ℕ → Type 0
  More s v ks = AreWithin s v (ks ++ k ∷ []) × (shape_along (ks ++ k ∷ []) s ≡ e)

  within_more : (ks : List ℕ) (s : Shape) (v : Value) → AreWithin s v ks → shape_along ks s ≡ Array stride e → k < length (elements (part ks v)) → More s v ks
  within_more [] s v w is l = subst (λ t. More t v []) (sym is) ((l, tt), refl)
  within_more (j ∷ js) (Array d s) v w is l =
      let more = within_more js s (slice_index_or (elements v) j (Num (pos 0))) w.1 is l in
      ((w.0, more.0), more.1)
  within_more (j ∷ js) Void v w is l = absurd w
  within_more (j ∷ js) (Number n) v w is l = absurd w
  within_more (j ∷ js) (Cluster ss) v w is l = absurd w
  within_more (j ∷ js) Mutex v w is l = absurd w

-- the front of a path, of i positions, is within its lists and leads to the shape
pub record Followed (s : Variables) (path front : Path) (shape : Shape) (i : ℕ) : Type 0 where
  pub same : front.var ≡ path.var
  pub taken : front.steps ≡ take i path.steps
  pub inside : HasPart s front
  pub leads : shape ≡ shape_along (positions front.steps) (shape_of s front.var)

named : (o : Option Name) (t : Shape) → Some t ≡ option_map (λ n. n.shape) o → IsSome o × (t ≡ shape_by o)
named None t e = let f : ⊥ = cc in absurd f
named (Some n) t e = (refl, (let same : t ≡ n.shape = cc in same))

pub followed_start : (s : Variables) (path front : Path) (t : Shape) → Some t ≡ option_map (λ n. n.shape) (name_of s path.var) → front.var ≡ path.var → front.steps ≡ [] → Followed s path front t 0
followed_start s path front t e same none =
    let found = named (name_of s path.var) t e in
    record {
      same = same;
      taken = none;
      inside = subst (λ n. IsSome (name_of s n) × AreWithin (shape_of s n) (value_of s n) (positions front.steps)) (sym same)
          (found.0, subst (λ zs. AreWithin (shape_of s path.var) (value_of s path.var) (positions zs)) (sym none) tt);
      leads = found.1 ∙ ap (λ n. shape_of s n) (sym same) ∙ ap (λ zs. shape_along (positions zs) (shape_of s front.var)) (sym none);
    }

pub followed_more : (s : Variables) (path front more : Path) (t e : Shape) (stride i : ℕ) (x : ℤ) → Followed s path front t i → t ≡ Array stride e → x ≡ get_or path.steps i (pos 0) → i < length path.steps → nat_abs x < length (elements (part_of s front)) → more.var ≡ front.var → more.steps ≡ front.steps ++ x ∷ [] → Followed s path more e (i + 1)
followed_more s path front more t e stride i x f is at inside less same added =
    let ks = positions front.steps in
    let shape = shape_of s front.var in
    let value = value_of s front.var in
    let w = within_more (nat_abs x) stride e ks shape value f.inside.1 (sym f.leads ∙ is) less in
    let spelled : positions more.steps ≡ ks ++ nat_abs x ∷ [] = ap positions added ∙ map-append nat_abs front.steps (x ∷ []) in
    record {
      same = same ∙ f.same;
      taken = added ∙ ap (λ zs. zs ++ x ∷ []) f.taken ∙ ap (λ y. take i path.steps ++ y ∷ []) at ∙ sym (take_more path.steps i (pos 0) inside);
      inside = subst (λ n. IsSome (name_of s n) × AreWithin (shape_of s n) (value_of s n) (positions more.steps)) (sym same)
          (f.inside.0, subst (λ ps. AreWithin shape value ps) (sym spelled) w.0);
      leads = sym w.1 ∙ ap (λ ps. shape_along ps shape) (sym spelled) ∙ ap (λ n. shape_along (positions more.steps) (shape_of s n)) (sym same);
    }

-- where all positions were followed the path is within its lists
pub followed_all : (s : Variables) (path front : Path) (t : Shape) (i : ℕ) → Followed s path front t i → length path.steps ≤ i → HasPart s path
followed_all s path front t i f all =
    let steps : front.steps ≡ path.steps = f.taken ∙ take_all i path.steps all in
    subst
    (λ n. IsSome (name_of s n) × AreWithin (shape_of s n) (value_of s n) (positions path.steps))
    f.same
    (f.inside.0, subst (λ zs. AreWithin (shape_of s front.var) (value_of s front.var) (positions zs)) steps f.inside.1)
