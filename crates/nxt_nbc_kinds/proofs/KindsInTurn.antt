-- The kinds of types, one after another.
use Rattle.std.proofs.Common.{◌≡◌, ℕ, zero, suc, ◌+◌, ◌<◌, ◌++◌, List, [], ◌∷◌, map, take, length, get_or, Option, Some, None, refl, sym, ap, ap₂, ◌∙◌, arith}
use Rattle.std.proofs.lemmas.List.{map_more}
use Rattle.nxt_model.specs.declared.nbc.NbcType.{NbcType}
use Rattle.nxt_nbc_kinds.specs.Kinds.{in_front, kinds_of, type_kind}
use Rattle.nxt_nbc_kinds.specs.declared.conversions.TypeKind.{TypeKind}

abbrev joined : Option (List TypeKind) → Option (List TypeKind) → Option (List TypeKind)
joined (Some ks) (Some ls) = Some (ks ++ ls)
joined _ _ = None

abbrev alone : Option TypeKind → Option (List TypeKind)
alone (Some k) = Some (k ∷ [])
alone None = None

-- one more
kinds_push : (structs : List (Option ℕ)) (ts : List NbcType) (t : NbcType) → kinds_of structs (ts ++ t ∷ []) ≡ joined (kinds_of structs ts) (alone (type_kind structs t))
kinds_push structs [] t = by (type_kind structs t)
  where
    by : (o : Option TypeKind) → in_front o (Some []) ≡ joined (Some []) (alone o)
    by None = refl
    by (Some k) = refl
kinds_push structs (s ∷ ts) t =
    ap (in_front (type_kind structs s)) (kinds_push structs ts t) ∙ by (type_kind structs s) (kinds_of structs ts) (alone (type_kind structs t))
  where
    by : (o : Option TypeKind) (p q : Option (List TypeKind)) → in_front o (joined p q) ≡ joined (in_front o p) q
    by None p q = refl
    by (Some k) None q = refl
    by (Some k) (Some ks) None = refl
    by (Some k) (Some ks) (Some ls) = refl

module _ {X : Type 0} (type_of : X → NbcType) (structs : List (Option ℕ)) (xs : List X) (i : ℕ) (d : X) (under : i < length xs) where
  pub kinds_more : (ks : List TypeKind) (k : TypeKind) → kinds_of structs (map type_of (take i xs)) ≡ Some ks → Some k ≡ type_kind structs (type_of (get_or xs i d))
      → kinds_of structs (map type_of (take (i + 1) xs)) ≡ Some (ks ++ k ∷ [])
  kinds_more ks k before here =
      ap (kinds_of structs) (map_more type_of xs i d under)
      ∙ kinds_push structs (map type_of (take i xs)) (type_of (get_or xs i d))
      ∙ ap₂ (λ p o. joined p (alone o)) before (sym here)

-- one that has none
pub kinds_none : {X : Type 0} (type_of : X → NbcType) (structs : List (Option ℕ)) (xs : List X) (i : ℕ) (d : X) → i < length xs
    → None ≡ type_kind structs (type_of (get_or xs i d)) → None ≡ kinds_of structs (map type_of xs)
kinds_none type_of structs [] i d under none = absurd (omega arith)
kinds_none type_of structs (x ∷ xs) zero d under none = ap (λ o. in_front o (kinds_of structs (map type_of xs))) none
kinds_none type_of structs (x ∷ xs) (suc i) d under none =
    by (type_kind structs (type_of x)) ∙ ap (in_front (type_kind structs (type_of x))) (kinds_none type_of structs xs i d (omega arith) none)
  where
    by : (o : Option TypeKind) → None ≡ in_front o None
    by None = refl
    by (Some k) = refl
