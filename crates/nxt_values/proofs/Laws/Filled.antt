-- What a flat form fills a place with.
use Rattle.std.proofs.Common.{◌≡◌, Bool, true, List, ◌++◌, map, length, refl, sym, ap, ◌∙◌, append_assoc}
use Rattle.std.specs.Prelude.{ℤ, pos}
use Rattle.std.specs.List.{list_all}
use Rattle.std.proofs.lemmas.Bool.{and_parts}
use Rattle.std.proofs.lemmas.Bool.Decides.{Decides-int_eq}
use Rattle.nxt_types.specs.Arithmetic.{cut}
use Rattle.nxt_types.specs.Shapes.{Shape, Void, Number, Array, Cluster, Mutex, Members, no_members, member, convertible, convertible_members}
use Rattle.nxt_model.specs.Values.{Value, Values, Num, ListOf, GroupOf, no_more, values, items, flat, flats, many, stored, stored_members, is_of, are_of, value}
use Rattle.nxt_values.specs.Fills.{filled, all_filled}

-- ---- lists

-- n values are read from the flat forms of as many
many_flat : (next : List ℤ → Value × List ℤ) (of : Value → Bool) (kept : Value → Value) → ((v : Value) (zs : List ℤ) → of v ≡ true → next (flat v ++ zs) ≡ (kept v, zs)) → (vs : Values) (zs : List ℤ) → list_all of (items vs) ≡ true → many (length (items vs)) next (flats vs ++ zs) ≡ (values (map kept (items vs)), zs)
many_flat next of kept h no_more zs e = refl
many_flat next of kept h (value v vs) zs e =
    let both = and_parts (of v) (list_all of (items vs)) e in
    let n = length (items vs) in
    let more : Value × List ℤ → Values × List ℤ = λ o. (value o.0 (many n next o.1).0, (many n next o.1).1) in
    ap (λ xs. more (next xs)) (append_assoc (flat v) (flats vs) zs)
    ∙ ap more (h v (flats vs ++ zs) both.0)
    ∙ ap (λ (r : Values × List ℤ). (value (kept v) r.0, r.1)) (many_flat next of kept h vs zs both.1)

-- ---- a value of a convertible shape

mutual
  pub filled_stored : (s t : Shape) (v : Value) (zs : List ℤ) → convertible s t ≡ true → is_of t v ≡ true → filled s (flat v ++ zs) ≡ (stored s v, zs)
  filled_stored (Number k) (Number l) (Num z) zs c e = refl
  filled_stored (Array n s) (Array m t) (ListOf vs) zs c e =
      ap
      (λ (found : Values × List ℤ). (ListOf found.0, found.1))
      (many_flat (filled s) (is_of t) (stored s) (λ v ys is. filled_stored s t v ys c is) vs zs e)
  filled_stored (Cluster ss) (Cluster ts) (GroupOf vs) zs c e =
      ap (λ (found : Values × List ℤ). (GroupOf found.0, found.1)) (all_stored ss ts vs zs c e)
  filled_stored s t v zs c e = let f : ⊥ = cc in absurd f

  pub all_stored : (ss ts : Members) (vs : Values) (zs : List ℤ) → convertible_members ss ts ≡ true → are_of ts (items vs) ≡ true → all_filled ss (flats vs ++ zs) ≡ (stored_members ss (items vs), zs)
  all_stored no_members no_members no_more zs c e = refl
  all_stored (member s ss) (member t ts) (value v vs) zs c e =
      let both = and_parts (convertible s t) (convertible_members ss ts) c in
      let two = and_parts (is_of t v) (are_of ts (items vs)) e in
      let more : Value × List ℤ → Values × List ℤ = λ o. (value o.0 (all_filled ss o.1).0, (all_filled ss o.1).1) in
      ap (λ xs. more (filled s xs)) (append_assoc (flat v) (flats vs) zs)
      ∙ ap more (filled_stored s t v (flats vs ++ zs) both.0 two.0)
      ∙ ap (λ (r : Values × List ℤ). (value (stored s v) r.0, r.1)) (all_stored ss ts vs zs both.1 two.1)
  all_stored ss ts vs zs c e = let f : ⊥ = cc in absurd f

-- ---- a value of the shape itself

map_same : (vs : Values) → values (map (λ v. v) (items vs)) ≡ vs
map_same no_more = refl
map_same (value v vs) = ap (value v) (map_same vs)

mutual
  pub filled_own : (s : Shape) (v : Value) (zs : List ℤ) → is_of s v ≡ true → filled s (flat v ++ zs) ≡ (v, zs)
  filled_own Void (Num z) zs e = ap (λ y. (Num y, zs)) (sym ((Decides-int_eq z (pos 0)).0 e))
  filled_own (Number k) (Num z) zs e = ap (λ y. (Num y, zs)) ((Decides-int_eq (cut k z) z).0 e)
  filled_own (Array n s) (ListOf vs) zs e =
      ap
      (λ (found : Values × List ℤ). (ListOf found.0, found.1))
      (many_flat (filled s) (is_of s) (λ v. v) (λ v ys is. filled_own s v ys is) vs zs e)
      ∙ ap (λ ws. (ListOf ws, zs)) (map_same vs)
  filled_own (Cluster ss) (GroupOf vs) zs e =
      ap (λ (found : Values × List ℤ). (GroupOf found.0, found.1)) (all_own ss vs zs e)
  filled_own Mutex (Num z) zs e = ap (λ y. (Num y, zs)) (sym ((Decides-int_eq z (pos 0)).0 e))
  filled_own s v zs e = let f : ⊥ = cc in absurd f

  pub all_own : (ss : Members) (vs : Values) (zs : List ℤ) → are_of ss (items vs) ≡ true → all_filled ss (flats vs ++ zs) ≡ (vs, zs)
  all_own no_members no_more zs e = refl
  all_own (member s ss) (value v vs) zs e =
      let two = and_parts (is_of s v) (are_of ss (items vs)) e in
      let more : Value × List ℤ → Values × List ℤ = λ o. (value o.0 (all_filled ss o.1).0, (all_filled ss o.1).1) in
      ap (λ xs. more (filled s xs)) (append_assoc (flat v) (flats vs) zs)
      ∙ ap more (filled_own s v (flats vs ++ zs) two.0)
      ∙ ap (λ (r : Values × List ℤ). (value v r.0, r.1)) (all_own ss vs zs two.1)
  all_own ss vs zs e = let f : ⊥ = cc in absurd f
