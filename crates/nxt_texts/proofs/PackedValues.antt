-- Values without lists, as bytes and as numbers.
use Rattle.std.proofs.Common.{Option, Some, IsSome, subst, Bor, ◌≡◌, ℕ, zero, suc, ◌+◌, ◌-◌, ◌*◌, ◌^◌, ◌<◌, ◌≤◌, Bool, true, false, List, [], ◌∷◌, ◌++◌, length, drop, refl, sym, ap, ap₂, ◌∙◌, append_assoc, append-nil, drop-drop, length-drop, arith}
use Rattle.std.specs.Prelude.{ℤ, nat_abs, ◌||◌}
use Rattle.std.specs.List.{list_all}
use Rattle.std.proofs.lemmas.Bool.{and_parts, and_from}
use Rattle.std.proofs.lemmas.Bool.Decides.{Decides-int_eq}
use Rattle.std.specs.Int.{to_le_bytes}
use Rattle.std.proofs.lemmas.List.{length-take, length-append}
use Rattle.nxt_types.specs.Arithmetic.{cut, word, width_of, leaf_size}
use Rattle.nxt_types.specs.declared.kind.Kind.{Kind}
use Rattle.nxt_types.specs.declared.kind.Kind.TheVariants.{Ubyte, Sbyte, Uword, Sword, Ulong, Slong}
use Rattle.nxt_types.specs.Names.{size, sizes}
use Rattle.nxt_types.specs.Shapes.{Shape, Void, Number, Array, Cluster, Mutex, Members, no_members, member, has_list, some_list}
use Rattle.nxt_model.specs.Footprint.{list_bytes, member_bytes}
use Rattle.nxt_model.specs.Means.Text.{packed, packed_members, packed_size, packed_sizes, unpacked, unpacked_members}
use Rattle.nxt_model.specs.Values.{Value, Values, Num, GroupOf, no_more, items, elements, number, flat, flats, is_of, are_of, lists_in, lists_among, many, value}
use Rattle.nxt_values.specs.Fills.{first_of, filled, all_filled}
use Rattle.nxt_space.specs.Variables.{Variables, AreSound, name_of, shape_of, value_of}
use Rattle.nxt_types.proofs.Laws.Kinds.{cut-extend}
use Rattle.nxt_model.proofs.Laws.Numbers.{number_of_kind}
use Rattle.nxt_operands.proofs.Laws.Sizes.{sound_part, few_entries}
use Rattle.nxt_texts.specs.Packing.{packed_front, packed_fronts, Unpacks}

-- none of both
neither : (x y : Bool) → (x || y) ≡ false → (x ≡ false) × (y ≡ false)
neither true y e = let f : ⊥ = cc in absurd f
neither false y e = (refl, e)

-- ---- packing

-- the flat form of a value begins with the value
mutual
  pub packed_flat : (s : Shape) (v : Value) (zs : List ℤ) → has_list s ≡ false → is_of s v ≡ true → packed_front s (flat v ++ zs) ≡ (packed s v, zs)
  packed_flat Void (Num z) zs n e = refl
  packed_flat (Number k) (Num z) zs n e = refl
  packed_flat (Cluster ss) (GroupOf vs) zs n e = packed_flats ss vs zs n e
  packed_flat Mutex (Num z) zs n e = refl
  packed_flat s v zs n e = let f : ⊥ = cc in absurd f

  packed_flats : (ss : Members) (vs : Values) (zs : List ℤ) → some_list ss ≡ false → are_of ss (items vs) ≡ true → packed_fronts ss (flats vs ++ zs) ≡ (packed_members ss (items vs), zs)
  packed_flats no_members no_more zs n e = refl
  packed_flats (member s ss) (value v vs) zs n e =
      let none = neither (has_list s) (some_list ss) n in
      let two = and_parts (is_of s v) (are_of ss (items vs)) e in
      let more : List ℕ × List ℤ → List ℕ × List ℤ = λ o. (o.0 ++ (packed_fronts ss o.1).0, (packed_fronts ss o.1).1) in
      ap (λ xs. more (packed_front s xs)) (append_assoc (flat v) (flats vs) zs)
      ∙ ap more (packed_flat s v (flats vs ++ zs) none.0 two.0)
      ∙ ap (λ (r : List ℕ × List ℤ). (packed s v ++ r.0, r.1)) (packed_flats ss vs zs none.1 two.1)
  packed_flats ss vs zs n e = let f : ⊥ = cc in absurd f

leaf_few : (k : Kind) → leaf_size k ≤ 4
leaf_few Ubyte = omega arith
leaf_few Sbyte = omega arith
leaf_few Uword = omega arith
leaf_few Sword = omega arith
leaf_few Ulong = omega arith
leaf_few Slong = omega arith

-- a number takes at most 4 bytes, and one entry spells it
mutual
  packed_few : (s : Shape) (v : Value) → length (packed s v) ≤ 4 * size s
  packed_few Void v = omega arith
  packed_few (Number k) v = omega (arith, length-take (leaf_size k) (to_le_bytes (width_of Slong) (word (number v))), leaf_few k)
  packed_few (Array stride s) v = omega arith
  packed_few (Cluster ss) v = omega (arith, all_packed_few ss (elements v))
  packed_few Mutex v = omega arith

  all_packed_few : (ss : Members) (vs : List Value) → length (packed_members ss vs) ≤ 4 * sizes ss
  all_packed_few no_members vs = omega arith
  all_packed_few (member s ss) [] = omega arith
  all_packed_few (member s ss) (v ∷ vs) = omega (arith, length-append (packed s v) (packed_members ss vs), packed_few s v, all_packed_few ss vs)

-- the bytes of a variable's value are few
pub packed_bounded : (s : Variables) (i : ℕ) → AreSound s → length (packed (shape_of s i) (value_of s i)) < 2 ^ 18
packed_bounded s i sound = omega (arith, packed_few (shape_of s i) (value_of s i), few_entries s i sound)

-- the bytes that are added for a variable's flat form
pub value_packed : (s : Variables) (i : ℕ) (t : Shape) (zs : List ℤ) (begun whole : List ℕ) → AreSound s → IsSome (name_of s i) → has_list (shape_of s i) ≡ false → t ≡ shape_of s i → zs ≡ flat (value_of s i) → begun ≡ [] → whole ≡ begun ++ (packed_front t zs).0 → whole ≡ packed (shape_of s i) (value_of s i)
value_packed s i t zs begun whole sound some none same is empty e =
    let v = value_of s i in
    let front = ap₂ packed_front same (is ∙ sym (append-nil (flat v))) ∙ packed_flat (shape_of s i) v [] none (sound_part s i sound some).of in
    e ∙ ap₂ (λ bs (r : List ℕ × List ℤ). bs ++ r.0) empty front

-- members that are still to be packed, from the numbers that are left
pub record StillPacked (whole : List ℕ) (rest : List ℤ) (ss : Members) (into : List ℕ) (left : List ℤ) : Type 0 where
  pub bytes : whole ≡ into ++ (packed_fronts ss left).0
  pub others : rest ≡ (packed_fronts ss left).1

pub one_packed : {whole into more : List ℕ} {rest left behind : List ℤ} {s : Shape} {ss : Members} → StillPacked whole rest (member s ss) into left → more ≡ into ++ (packed_front s left).0 → behind ≡ (packed_front s left).1 → StillPacked whole rest ss more behind
one_packed {whole} {into} {more} {rest} {left} {behind} {s} {ss} h e b =
    let one = packed_front s left in
    record {
      bytes = h.bytes ∙ sym (append_assoc into one.0 (packed_fronts ss one.1).0) ∙ sym (ap₂ (λ xs zs. xs ++ (packed_fronts ss zs).0) e b);
      others = h.others ∙ sym (ap (λ zs. (packed_fronts ss zs).1) b);
    }

-- ---- unpacking

-- what is unpacked is of the shape
mutual
  pub unpacked_of_shape : (s : Shape) (bytes : List ℕ) → is_of s (unpacked s bytes) ≡ true
  unpacked_of_shape Void bytes = refl
  unpacked_of_shape (Number k) bytes = number_of_kind k bytes
  unpacked_of_shape (Array stride s) bytes = refl
  unpacked_of_shape (Cluster ss) bytes = all_of_shapes ss bytes
  unpacked_of_shape Mutex bytes = refl

  all_of_shapes : (ss : Members) (bytes : List ℕ) → are_of ss (items (unpacked_members ss bytes)) ≡ true
  all_of_shapes no_members bytes = refl
  all_of_shapes (member s ss) bytes =
      let rest = drop (packed_size s) bytes in
      and_from (is_of s (unpacked s bytes)) (are_of ss (items (unpacked_members ss rest))) (unpacked_of_shape s bytes) (all_of_shapes ss rest)

-- members that are still to be unpacked, from the bytes that are left
pub record StillUnpacked (all : Members) (bytes : List ℕ) (old : List ℤ) (ss : Members) (left : List ℕ) (into : List ℤ) : Type 0 where
  pub size : packed_sizes all + length left ≡ packed_sizes ss + length bytes
  pub behind : drop (packed_sizes ss) left ≡ drop (packed_sizes all) bytes
  pub numbers : into ++ flats (unpacked_members ss left) ≡ old ++ flats (unpacked_members all bytes)

pub one_unpacked : {all ss : Members} {bytes left rest : List ℕ} {old into more : List ℤ} {s : Shape} → StillUnpacked all bytes old (member s ss) left into → packed_size s ≤ length left → rest ≡ drop (packed_size s) left → more ≡ into ++ flat (unpacked s left) → StillUnpacked all bytes old ss rest more
one_unpacked {all} {ss} {bytes} {left} {rest} {old} {into} {more} {s} h fits r m =
    let n = packed_size s in
    let long : length rest ≡ length left - n = ap length r ∙ length-drop n left in
    record {
      size = omega (arith, h.size, long, fits);
      behind = ap (drop (packed_sizes ss)) r ∙ drop-drop (packed_sizes ss) n left ∙ h.behind;
      numbers = ap₂ (λ zs bs. zs ++ flats (unpacked_members ss bs)) m r
          ∙ append_assoc into (flat (unpacked s left)) (flats (unpacked_members ss (drop n left)))
          ∙ h.numbers;
    }

-- the numbers that are added to none
pub flat_unpacked : (t u : Shape) (bytes : List ℕ) (old new : List ℤ) (found : Option (Bor (List ℕ))) (rest : Bor (List ℕ)) → t ≡ u → old ≡ [] → found ≡ Some rest → Unpacks t bytes old new found → (packed_size u ≤ length bytes) × (new ≡ flat (unpacked u bytes))
flat_unpacked t u bytes old new found rest same none is h =
    let all = subst (Unpacks t bytes old new) is h in
    (subst (λ w. packed_size w ≤ length bytes) same all.0, all.2 ∙ ap₂ (λ zs w. zs ++ flat (unpacked w bytes)) none same)

-- where one is too short the whole is
pub too_short : {all ss : Members} {bytes left : List ℕ} {old into : List ℤ} {s : Shape} → StillUnpacked all bytes old (member s ss) left into → length left < packed_size s → length bytes < packed_sizes all
too_short h less = omega (arith, h.size, less)

-- ---- no lists

-- a value in which no list stands
pub record IsPlain (s : Shape) (v : Value) : Type 0 where
  pub lists : lists_in v ≡ 0
  pub bytes : list_bytes s v ≡ 0

record ArePlain (ss : Members) (vs : Values) : Type 0 where
  lists : lists_among vs ≡ 0
  bytes : member_bytes ss (items vs) ≡ 0

mutual
  pub plain_value : (s : Shape) (v : Value) → has_list s ≡ false → is_of s v ≡ true → IsPlain s v
  plain_value Void (Num z) n e = record { lists = refl; bytes = refl }
  plain_value (Number k) (Num z) n e = record { lists = refl; bytes = refl }
  plain_value (Cluster ss) (GroupOf vs) n e = let all = plain_values ss vs n e in record { lists = all.lists; bytes = all.bytes }
  plain_value Mutex (Num z) n e = record { lists = refl; bytes = refl }
  plain_value s v n e = let f : ⊥ = cc in absurd f

  plain_values : (ss : Members) (vs : Values) → some_list ss ≡ false → are_of ss (items vs) ≡ true → ArePlain ss vs
  plain_values no_members no_more n e = record { lists = refl; bytes = refl }
  plain_values (member s ss) (value v vs) n e =
      let none = neither (has_list s) (some_list ss) n in
      let two = and_parts (is_of s v) (are_of ss (items vs)) e in
      let one = plain_value s v none.0 two.0 in
      let more = plain_values ss vs none.1 two.1 in
      record { lists = omega (arith, one.lists, more.lists); bytes = omega (arith, one.bytes, more.bytes) }
  plain_values ss vs n e = let f : ⊥ = cc in absurd f

-- ---- what numbers fill

all_filled_of : (of : Value → Bool) (next : List ℤ → Value × List ℤ) → ((zs : List ℤ) → of (next zs).0 ≡ true) → (n : ℕ) (zs : List ℤ) → list_all of (items (many n next zs).0) ≡ true
all_filled_of of next h zero zs = refl
all_filled_of of next h (suc n) zs =
    and_from (of (next zs).0) (list_all of (items (many n next (next zs).1).0)) (h zs) (all_filled_of of next h n (next zs).1)

-- what numbers fill a place with is of its shape
mutual
  pub filled_of_shape : (s : Shape) (zs : List ℤ) → is_of s (filled s zs).0 ≡ true
  filled_of_shape Void zs = refl
  filled_of_shape (Number k) zs =
      (Decides-int_eq (cut k (cut k (first_of zs))) (cut k (first_of zs))).1 (cut-extend k (word (first_of zs)))
  filled_of_shape (Array stride s) zs =
      all_filled_of (is_of s) (filled s) (λ ys. filled_of_shape s ys) (nat_abs (first_of zs)) (drop 1 zs)
  filled_of_shape (Cluster ss) zs = members_filled ss zs
  filled_of_shape Mutex zs = refl

  members_filled : (ss : Members) (zs : List ℤ) → are_of ss (items (all_filled ss zs).0) ≡ true
  members_filled no_members zs = refl
  members_filled (member s ss) zs =
      let rest = (filled s zs).1 in
      and_from (is_of s (filled s zs).0) (are_of ss (items (all_filled ss rest).0)) (filled_of_shape s zs) (members_filled ss rest)
