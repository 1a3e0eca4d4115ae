-- Texts in variables: their bytes, their bodies, and what storing bytes gives.
use Rattle.std.proofs.Common.{◌≡◌, ℕ, ◌+◌, ◌*◌, ◌^◌, ◌%◌, ◌<◌, ◌≤◌, Bool, true, false, List, [], ◌∷◌, ◌++◌, map, length, sum_by, IsSome, refl, sym, ap, ap₂, ◌∙◌, subst, arith, eq-eqb}
use Rattle.std.specs.Prelude.{ℤ, pos, if◌then◌else◌, ◌==◌}
use Rattle.std.specs.List.{list_all, All}
use Rattle.std.proofs.lemmas.Bool.{and_parts, ne_eqb}
use Rattle.std.proofs.lemmas.Bool.Decides.{Decides-int_eq}
use Rattle.std.proofs.lemmas.Int.{ints}
use Rattle.std.proofs.lemmas.List.{length-map, nil_from_length}
use Rattle.std.proofs.lemmas.List.Elements.{All-nil, All-cons}
use Rattle.std.proofs.lemmas.List.Sums.{sum_by-cons}
use Rattle.std.proofs.lemmas.Nat.{mul-le}
use Rattle.nxt_types.specs.Arithmetic.{cut, word}
use Rattle.nxt_types.specs.Calls.{is_text}
use Rattle.nxt_types.specs.Shapes.{Shape, Number, Array, is_numbers}
use Rattle.nxt_types.specs.declared.kind.Kind.{Kind}
use Rattle.nxt_types.specs.declared.kind.Kind.TheVariants.{Ubyte}
use Rattle.nxt_model.specs.Footprint.{list_bytes}
use Rattle.nxt_types.specs.Pool.{round4, pool_size}
use Rattle.nxt_model.specs.Means.Text.{body}
use Rattle.nxt_model.specs.Values.{Value, Num, ListOf, GroupOf, values, items, elements, number, word_of, list_of, byte_list, bytes_of, stored, is_of, lists_in, lists_among, many, value}
use Rattle.nxt_model.proofs.Laws.Values.{items-values}
use Rattle.nxt_values.specs.Fills.{filled}
use Rattle.nxt_values.specs.Sizes.{IsCountable, size_in}
use Rattle.nxt_space.specs.Variables.{Variables, AreSound, name_of, shape_of, value_of}
use Rattle.nxt_values.specs.declared.sizing.Size.{Size}
use Rattle.nxt_values.proofs.Laws.Sizes.{nothing}
use Rattle.nxt_operands.specs.Numbers.{AreNumbers, numbers_in}
use Rattle.nxt_operands.proofs.Laws.Sizes.{IsSoundPart, sound_part}
use Rattle.nxt_operands.proofs.Laws.NumberLists.{variable_numbers}
use Rattle.nxt_operands.proofs.Laws.Stored.{IsStorable}
use Rattle.nxt_operands.specs.Operands.{stride_of, with_list}
use Rattle.nxt_texts.specs.Texts.{IsByte, flat_bytes, text_at}

-- ---- shapes

-- the shape of a text
pub text_shape : (s : Shape) → is_text s ≡ true → (n : ℕ) × (s ≡ Array n (Number Ubyte))
text_shape (Array n (Number Ubyte)) e = (n, refl)
text_shape s e = let f : ⊥ = cc in absurd f

-- a text is a list of numbers
pub text_numbers : (s : Shape) → is_text s ≡ true → is_numbers s ≡ true
text_numbers s e = ap is_numbers (text_shape s e).1

-- ---- bytes

record ByteIs (z : ℤ) : Type 0 where
  same : z ≡ pos (word z)
  less : word z < 256

byte_is : (z : ℤ) → is_of (Number Ubyte) (Num z) ≡ true → ByteIs z
byte_is z e =
    let is : pos (word z % 2 ^ 8) ≡ z = (Decides-int_eq (cut Ubyte z) z).0 e in
    let whole : word z ≡ word z % 2 ^ 8 % 2 ^ 32 = ap word (sym is) in
    let less : word z < 256 = omega (arith, whole) in
    let same : word z % 2 ^ 8 ≡ word z = omega (arith, less) in
    record { same = sym is ∙ ap pos same; less = less }

is_byte : (z : ℤ) → is_of (Number Ubyte) (Num z) ≡ true → IsByte z
is_byte z e = let b = byte_is z e in (omega (arith, ints, b.same), omega (arith, ints, b.same, b.less))

are_bytes : (vs : List Value) → list_all (is_of (Number Ubyte)) vs ≡ true → All IsByte (map number vs)
are_bytes [] e = All-nil IsByte
are_bytes (Num z ∷ vs) e =
    let both = and_parts (is_of (Number Ubyte) (Num z)) (list_all (is_of (Number Ubyte)) vs) e in
    All-cons IsByte z (map number vs) (is_byte z both.0) (are_bytes vs both.1)
are_bytes (ListOf ws ∷ vs) e = let f : ⊥ = cc in absurd f
are_bytes (GroupOf ws ∷ vs) e = let f : ⊥ = cc in absurd f

listed_bytes : (n : ℕ) (v : Value) → is_of (Array n (Number Ubyte)) v ≡ true → All IsByte (numbers_in v)
listed_bytes n (Num z) e = let f : ⊥ = cc in absurd f
listed_bytes n (ListOf vs) e = are_bytes (items vs) e
listed_bytes n (GroupOf vs) e = let f : ⊥ = cc in absurd f

words_again : (vs : List Value) → map word (map number vs) ≡ map word_of vs
words_again [] = refl
words_again (v ∷ vs) = ap (λ ws. word_of v ∷ ws) (words_again vs)

few_elements : (n : ℕ) (v : Value) → IsSoundPart (Array n (Number Ubyte)) v → length (bytes_of v) ≤ pool_size
few_elements n v e =
    let count = length (elements v) in
    omega (arith, length-map (elements v) word_of, mul-le count 1 count n (omega arith) e.strides.0, e.bytes)

-- the text of an entry: its numbers, and its bytes
pub record IsText (s : Variables) (i : ℕ) : Type 0 where
  pub numbers : AreNumbers (value_of s i)
  pub are_bytes : All IsByte (numbers_in (value_of s i))
  pub bytes : map word (numbers_in (value_of s i)) ≡ text_at s i
  pub few : length (text_at s i) ≤ pool_size

pub is_text_there : (s : Variables) (i : ℕ) → AreSound s → IsSome (name_of s i) → is_text (shape_of s i) ≡ true → IsText s i
is_text_there s i sound some text =
    let v = value_of s i in
    let is = text_shape (shape_of s i) text in
    let part = subst (λ t. IsSoundPart t v) is.1 (sound_part s i sound some) in
    record {
      numbers = variable_numbers s i sound some (text_numbers (shape_of s i) text);
      are_bytes = listed_bytes is.0 v part.of;
      bytes = words_again (elements v);
      few = few_elements is.0 v part;
    }

-- ---- bodies

under_choice : (b : Bool) (x : ℕ) (xs ys : List ℕ) → x ∷ (if b then xs else ys) ≡ (if b then x ∷ xs else x ∷ ys)
under_choice true x xs ys = refl
under_choice false x xs ys = refl

-- the body of a text that ends with a byte
pub body_with_last : (front : List ℕ) (b : ℕ) → body (front ++ b ∷ []) ≡ (if b == 0 then front else front ++ b ∷ [])
body_with_last [] b = refl
body_with_last (x ∷ []) b = under_choice (b == 0) x [] (b ∷ [])
body_with_last (x ∷ y ∷ xs) b =
    ap (λ ys. x ∷ ys) (body_with_last (y ∷ xs) b) ∙ under_choice (b == 0) x (y ∷ xs) (y ∷ xs ++ b ∷ [])

pub body_ended : (text front : List ℕ) (b : ℕ) → text ≡ front ++ b ∷ [] → b ≡ 0 → front ≡ body text
body_ended text front b is zero =
    sym (ap body is ∙ body_with_last front b ∙ ap (λ t. if t then front else front ++ b ∷ []) (eq-eqb b 0 zero))

pub body_whole : (text front : List ℕ) (b : ℕ) → text ≡ front ++ b ∷ [] → (b ≡ 0 → ⊥) → text ≡ body text
body_whole text front b is other =
    is ∙ sym (ap body is ∙ body_with_last front b ∙ ap (λ t. if t then front else front ++ b ∷ []) (ne_eqb b 0 other))

pub body_none : (text : List ℕ) → length text ≡ 0 → text ≡ body text
body_none text e = let none = nil_from_length text e in none ∙ sym (ap body none)

-- ---- bytes that are stored

many_bytes : (k : Kind) (bs : List ℕ) → (many (length bs) (filled (Number k)) (map pos bs)).0 ≡ values (map (stored (Number k)) (map (λ b. Num (pos b)) bs))
many_bytes k [] = refl
many_bytes k (b ∷ bs) = ap (value (Num (cut k (pos b)))) (many_bytes k bs)

no_lists : (k : Kind) (vs : List Value) → lists_among (values (map (stored (Number k)) vs)) ≡ 0
no_lists k [] = refl
no_lists k (v ∷ vs) = let e = no_lists k vs in omega (arith, e)

no_blocks : (k : Kind) (vs : List Value) → sum_by (list_bytes (Number k)) vs ≡ 0
no_blocks k [] = refl
no_blocks k (v ∷ vs) = omega (arith, sum_by-cons (list_bytes (Number k)) v vs, no_blocks k vs)

-- the flat form of bytes is stored as their list, which takes one block
pub record IsBlock (s : Shape) (bs : List ℕ) : Type 0 where
  pub filled : (filled s (flat_bytes bs)).0 ≡ stored s (byte_list bs)
  pub lists : lists_in (stored s (byte_list bs)) ≡ 1
  pub bytes : list_bytes s (stored s (byte_list bs)) ≡ round4 (length bs * stride_of s)

listed_block : (n : ℕ) (k : Kind) (bs : List ℕ) → IsBlock (Array n (Number k)) bs
listed_block n k bs =
    let vs = map (λ b. Num (pos b)) bs in
    let same = items-values vs in
    let ws = map (stored (Number k)) (items (values vs)) in
    let long : length (items (values ws)) ≡ length bs =
    ap length (items-values ws) ∙ length-map (items (values vs)) (stored (Number k)) ∙ ap length same ∙ length-map bs (λ b. Num (pos b))
    in
    record {
      filled = ap ListOf (many_bytes k bs) ∙ ap (λ us. list_of (map (stored (Number k)) us)) (sym same);
      lists = let e = no_lists k (items (values vs)) in omega (arith, e);
      bytes = ap₂ (λ m b. round4 (m * n) + b) long (no_blocks k (items (values ws))) ∙ omega arith;
    }

pub block_there : (s : Shape) (bs : List ℕ) → is_text s ≡ true → IsBlock s bs
block_there s bs text =
    let is = text_shape s text in
    subst (λ t. IsBlock t bs) (sym is.1) (listed_block is.0 Ubyte bs)

few_countable : (s : Shape) (bs : List ℕ) → IsBlock s bs → stride_of s < 2 ^ 16 → length bs < 2 ^ 32 → IsCountable (size_in s (stored s (byte_list bs)))
few_countable s bs e less few =
    record {
      lists = omega (arith, e.lists);
      bytes = omega (arith, e.bytes, mul-le (length bs) (stride_of s) (2 ^ 32) (2 ^ 16) (omega (arith, few)) (omega (arith, less)));
    }

pub stride_there : (s : Variables) (i : ℕ) → AreSound s → IsSome (name_of s i) → is_text (shape_of s i) ≡ true → stride_of (shape_of s i) < 2 ^ 16
stride_there s i sound some text =
    let is = text_shape (shape_of s i) text in
    let part = subst (λ t. IsSoundPart t (value_of s i)) is.1 (sound_part s i sound some) in
    subst (λ t. stride_of t < 2 ^ 16) (sym is.1) part.strides.1

-- bytes can be stored at a text's entry
pub bytes_storable : (s : Variables) (i : ℕ) (bs : List ℕ) (zs : List ℤ) → AreSound s → IsSome (name_of s i) → is_text (shape_of s i) ≡ true → length bs < 2 ^ 32 → zs ≡ flat_bytes bs → IsStorable s i (byte_list bs) zs
bytes_storable s i bs zs sound some text few is =
    let t = shape_of s i in
    let block = block_there t bs text in
    let filled = ap (λ ys. (filled t ys).0) is ∙ block.filled in
    record {
      filled = filled;
      countable = subst (λ w. IsCountable (size_in t w)) (sym filled) (few_countable t bs block (stride_there s i sound some text) few);
    }

-- ---- how much of the pool bytes take

-- so many bytes can be counted
pub bytes_countable : (s : Shape) (count : ℕ) → count < 2 ^ 32 → stride_of s < 2 ^ 16 → IsCountable (with_list s count nothing)
bytes_countable s count few less =
    record {
      lists = omega arith;
      bytes = omega (arith, mul-le count (stride_of s) (2 ^ 32) (2 ^ 16) (omega (arith, few)) (omega (arith, less)));
    }

-- they take what was counted
pub bytes_size : (s : Shape) (bs : List ℕ) (count : ℕ) → is_text s ≡ true → count ≡ length bs → with_list s count nothing ≡ size_in s (stored s (byte_list bs))
bytes_size s bs count text is =
    let block = block_there s bs text in
    let bytes : round4 (count * stride_of s) + 0 ≡ list_bytes s (stored s (byte_list bs)) =
    ap (λ n. round4 (n * stride_of s) + 0) is ∙ omega (arith, block.bytes)
    in
    ap₂ (λ l b. let z : Size = record { lists = l; bytes = b } in z) (sym block.lists) bytes
