-- Stored values are of the shapes that they are stored in.
use Rattle.std.proofs.Common.{◌≡◌, true, List, [], ◌∷◌, map, refl, ap, ◌∙◌}
use Rattle.std.specs.Prelude.{ℤ}
use Rattle.std.specs.List.{list_all}
use Rattle.std.specs.Ordering.{int_eq}
use Rattle.std.proofs.lemmas.Bool.{and_from}
use Rattle.std.proofs.lemmas.Bool.Decides.{Decides-int_eq}
use Rattle.nxt_types.specs.Arithmetic.{cut, word}
use Rattle.nxt_types.specs.declared.kind.Kind.{Kind}
use Rattle.nxt_types.specs.declared.kind.Kind.TheVariants.{Ubyte, Sbyte, Uword, Sword, Ulong, Slong}
use Rattle.nxt_types.specs.Shapes.{Shape, Void, Number, Array, Cluster, Mutex, Members, no_members, member}
use Rattle.nxt_types.proofs.Laws.Kinds.{cut-extend}
use Rattle.nxt_model.specs.Values.{Value, items, number, elements, zero_of, zeros_of, stored, stored_members, is_of, are_of}
use Rattle.nxt_model.proofs.Laws.Values.{items-values}

cut_of : (k : Kind) (z : ℤ) → int_eq (cut k (cut k z)) (cut k z) ≡ true
cut_of k z = (Decides-int_eq (cut k (cut k z)) (cut k z)).1 (cut-extend k (word z))

zero_number : (k : Kind) → is_of (Number k) (zero_of (Number k)) ≡ true
zero_number Ubyte = refl
zero_number Sbyte = refl
zero_number Uword = refl
zero_number Sword = refl
zero_number Ulong = refl
zero_number Slong = refl

mutual
  pub zero_is : (s : Shape) → is_of s (zero_of s) ≡ true
  zero_is Void = refl
  zero_is (Number k) = zero_number k
  zero_is (Array stride s) = refl
  zero_is (Cluster ss) = zeros_are ss
  zero_is Mutex = refl

  zeros_are : (ss : Members) → are_of ss (items (zeros_of ss)) ≡ true
  zeros_are no_members = refl
  zeros_are (member s ss) = and_from (is_of s (zero_of s)) (are_of ss (items (zeros_of ss))) (zero_is s) (zeros_are ss)

each_stored : (s : Shape) → ((v : Value) → is_of s (stored s v) ≡ true) → (vs : List Value) → list_all (is_of s) (map (stored s) vs) ≡ true
each_stored s h [] = refl
each_stored s h (v ∷ vs) = and_from (is_of s (stored s v)) (list_all (is_of s) (map (stored s) vs)) (h v) (each_stored s h vs)

mutual
  pub stored_of : (s : Shape) (v : Value) → is_of s (stored s v) ≡ true
  stored_of Void v = refl
  stored_of (Number k) v = cut_of k (number v)
  stored_of (Array stride s) v = ap (list_all (is_of s)) (items-values (map (stored s) (elements v))) ∙ each_stored s (stored_of s) (elements v)
  stored_of (Cluster ss) v = members_stored ss (elements v)
  stored_of Mutex v = refl

  members_stored : (ss : Members) (vs : List Value) → are_of ss (items (stored_members ss vs)) ≡ true
  members_stored no_members vs = refl
  members_stored (member s ss) [] = and_from (is_of s (zero_of s)) (are_of ss (items (stored_members ss []))) (zero_is s) (members_stored ss [])
  members_stored (member s ss) (v ∷ vs) = and_from (is_of s (stored s v)) (are_of ss (items (stored_members ss vs))) (stored_of s v) (members_stored ss vs)
