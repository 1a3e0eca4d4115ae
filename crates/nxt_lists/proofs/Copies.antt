-- Lists of copies of a value.
use Rattle.std.proofs.Common.{◌≡◌, ℕ, zero, suc, ◌*◌, ◌<◌, ◌^◌, true, List, ◌∷◌, ◌++◌, map, flat_map, sum_by, replicate, IsSome, refl, sym, ap, ap₂, ◌∙◌, subst, arith, suc-mul}
use Rattle.std.specs.Prelude.{ℤ, pos}
use Rattle.std.proofs.lemmas.List.{length-replicate}
use Rattle.std.proofs.lemmas.List.Elements.{All-replicate}
use Rattle.std.proofs.lemmas.List.Sums.{sum_by-cons}
use Rattle.nxt_types.specs.OperandRules.{is_list, element_of}
use Rattle.nxt_types.specs.Shapes.{Shape, convertible}
use Rattle.nxt_model.specs.Footprint.{list_bytes}
use Rattle.nxt_model.specs.Values.{Value, flat, list_of, stored, lists_in}
use Rattle.nxt_values.specs.Sizes.{size_in, size_of_filled}
use Rattle.nxt_space.specs.Variables.{Variables, AreSound, name_of, shape_of, value_of}
use Rattle.nxt_values.specs.declared.sizing.Size.{Size}
use Rattle.nxt_operands.proofs.Laws.Sizes.{sound_part}
use Rattle.nxt_lists.specs.Pieces.{size_of_each}
use Rattle.nxt_operands.proofs.Laws.Stored.{copy_filled}
use Rattle.nxt_lists.proofs.ListElements.{IsElement}
use Rattle.nxt_lists.proofs.ListStored.{AreFor, AreSmall, HasSize, flat_list, element_small, list_size}
use Rattle.nxt_lists.proofs.Conversions.{element_strides}

-- of so many copies
copies_sum : (f : Value → ℕ) (n : ℕ) (t : Shape) (v : Value) → sum_by f (map (stored t) (replicate n v)) ≡ n * f (stored t v)
copies_sum f zero t v = omega arith
copies_sum f (suc n) t v =
    let w = stored t v in
    omega (arith, sum_by-cons f w (map (stored t) (replicate n v)), copies_sum f n t v, suc-mul n (f w))

copies_sized : (n : ℕ) (t : Shape) (v : Value) (one : Size) → one ≡ size_in t (stored t v) → record { lists = n * one.lists; bytes = n * one.bytes } ≡ size_of_each t (map (stored t) (replicate n v))
copies_sized n t v one is =
    ap (λ (z : Size). let y : Size = record { lists = n * z.lists; bytes = n * z.bytes } in y) is
    ∙ ap₂ (λ l b. let z : Size = record { lists = l; bytes = b } in z) (sym (copies_sum lists_in n t v)) (sym (copies_sum (list_bytes t) n t v))

copies_flat : (n : ℕ) (v : Value) → flat_map (λ (zs : List ℤ). zs) (replicate n (flat v)) ≡ flat_map flat (replicate n v)
copies_flat zero v = refl
copies_flat (suc n) v = ap (λ zs. flat v ++ zs) (copies_flat n v)

pub copies_spelled : (n : ℕ) (v : Value) (one zs : List ℤ) → one ≡ flat v → zs ≡ pos n ∷ flat_map (λ ys. ys) (replicate n one) → zs ≡ flat (list_of (replicate n v))
copies_spelled n v one zs is e =
    e
    ∙ ap (λ ys. pos n ∷ flat_map (λ (xs : List ℤ). xs) (replicate n ys)) is
    ∙ ap₂ (λ m ys. pos m ∷ ys) (sym (length-replicate n v)) (copies_flat n v)
    ∙ sym (flat_list (replicate n v))

-- as an element for the list
pub record IsCopied (s : Variables) (dest value count : ℕ) (one : Size) : Type 0 where
  pub small : AreSmall one 1
  pub are : AreFor s dest (replicate count (value_of s value))
  pub size : HasSize (shape_of s dest) count (record { lists = count * one.lists; bytes = count * one.bytes }) (list_of (replicate count (value_of s value)))

copies_for : (s : Variables) (dest value count : ℕ) → is_list (shape_of s dest) ≡ true → IsElement (element_of (shape_of s dest)) (value_of s value) → count < 2 ^ 32 → AreFor s dest (replicate count (value_of s value))
copies_for s dest value count of_list e few =
    let v = value_of s value in
    record {
      list = of_list;
      elements = All-replicate (IsElement (element_of (shape_of s dest))) count v e;
      few = omega (arith, few, length-replicate count v);
    }

pub is_copied : (s : Variables) (dest value count : ℕ) (t : Shape) (zs : List ℤ) → AreSound s → IsSome (name_of s dest) → IsSome (name_of s value) → is_list (shape_of s dest) ≡ true → convertible (element_of (shape_of s dest)) (shape_of s value) ≡ true → t ≡ element_of (shape_of s dest) → count < 2 ^ 32 → zs ≡ flat (value_of s value) → IsCopied s dest value count (size_of_filled t zs)
is_copied s dest value count t zs sound some some_value of_list fits same few is =
    let u = element_of (shape_of s dest) in
    let v = value_of s value in
    let part = sound_part s value sound some_value in
    let e : IsElement u v = record { shape = shape_of s value; fits = fits; part = part } in
    let sized : size_of_filled t zs ≡ size_in u (stored u v) =
    ap (λ (w : Shape). size_of_filled w zs) same ∙ ap (size_in u) (copy_filled u (shape_of s value) v zs fits part.of is)
    in
    let are = copies_for s dest value count of_list e few in
    record {
      small = subst (λ z. AreSmall z 1) (sym sized) (element_small u v (element_strides (shape_of s dest) of_list (sound_part s dest sound some).strides) e);
      are = are;
      size = list_size s dest (replicate count v) count (let z = size_of_filled t zs in record { lists = count * z.lists; bytes = count * z.bytes }) sound some are (sym (length-replicate count v)) (copies_sized count u v (size_of_filled t zs) sized);
    }
