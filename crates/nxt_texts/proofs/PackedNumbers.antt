-- Numbers as bytes, and back.
use Rattle.std.proofs.Common.{◌≡◌, ℕ, ◌≤◌, ◌<◌, true, false, [], ◌∷◌, ◌++◌, List, Ok, take, length, le-leb, pos, w32, refl, sym, ap, ◌∙◌, subst}
use Rattle.std.proofs.lemmas.Bool.{lt-leb}
use Rattle.std.specs.Int.{from_le_bytes, to_le_bytes}
use Rattle.std.specs.Prelude.{ℤ, if◌then◌else◌, ◌==◌}
use Rattle.nxt_types.specs.Arithmetic.{extend, leaf_size, width_of, word}
use Rattle.nxt_types.specs.Shapes.{Shape, Number, is_number}
use Rattle.nxt_types.specs.declared.kind.Kind.{Kind}
use Rattle.nxt_model.specs.Devices.{Devices}
use Rattle.nxt_model.specs.Means.Effects.{Effect, effect, store}
use Rattle.nxt_model.specs.Means.Strings.{unflatten}
use Rattle.nxt_model.specs.Means.Text.{packed, packed_size, unpacked}
use Rattle.nxt_model.specs.Values.{Value, Num, number, stored}
use Rattle.nxt_space.specs.Outcomes.{Does}
use Rattle.nxt_space.specs.Variables.{Variables, SpaceViews, AreSound, shape_of, value_of, with_value}
use Rattle.nxt_operands.specs.Operands.{Done, given, given_or_left, place_of, place_or_none, values_stored}
use Rattle.nxt_texts.specs.Numerals.{with_number}
use Rattle.nxt_texts.specs.Texts.{text_at}
use Rattle.nxt_texts.proofs.Destinations.{both_numbers, word_stored}

-- ---- to bytes

pub number_packed : (s : Shape) (k : Kind) (v : Value) (w : ℕ) (bytes : List ℕ) → s ≡ Number k → w ≡ word (number v) → bytes ≡ take (leaf_size k) (to_le_bytes w32 w) → bytes ≡ packed s v
number_packed s k v w bytes shape e is =
    is ∙ ap (λ n. take (leaf_size k) (to_le_bytes w32 n)) e ∙ sym (ap (λ t. packed t v) shape)

-- ---- and back

-- the variables with a number at an entry, and another one that is told
abbrev told_beside : Variables → ℕ → ℤ → ℕ → ℤ → Variables
told_beside s dest x error told =
    with_number (record s { values = with_value s dest (stored (shape_of s dest) (Num x)) }) error told

abbrev unpacks : Variables → ℕ → ℕ → ℕ → ℕ → Devices → Value
unpacks s dest error source i d =
    values_stored s (place_of s dest ∷ place_or_none s error ∷ []) (unflatten d (given s dest) (given_or_left s error) (given s source) (given s i))

-- the text is long enough for a number of the kind
pub number_found : (old new : SpaceViews) (dest error source i : ℕ) (k : Kind) (w : ℕ) (x told : ℤ) (d : Devices) → AreSound old.vars → is_number (shape_of old.vars dest) ≡ true → ((error == 0xFFFF) ≡ false → is_number (shape_of old.vars error) ≡ true) → shape_of old.vars i ≡ Number k → leaf_size k ≤ length (text_at old.vars source) → w ≡ from_le_bytes (width_of k) (take (leaf_size k) (text_at old.vars source)) → x ≡ extend k w → told ≡ pos 0 → new.vars ≡ told_beside old.vars dest x error told → Does {T = Unit {0}} Done (unpacks old.vars dest error source i d) old (Ok tt) new
number_found old new dest error source i k w x told d sound is number shape fits e from zero set =
    let s = old.vars in
    let text = text_at s source in
    let v = unpacked (shape_of s i) text in
    let mid : SpaceViews = record old { vars = record s { values = with_value s dest (stored (shape_of s dest) (Num x)) } } in
    let tells : ℤ → Value → Effect = λ z u. effect (store 0 (given s dest) u ++ store 1 (given_or_left s error) (Num z)) d in
    let same : Num x ≡ v = ap Num (from ∙ ap (extend k) e) ∙ sym (ap (λ t. unpacked t text) shape) in
    let long : packed_size (shape_of s i) ≤ length text = subst (λ t. packed_size t ≤ length text) (sym shape) fits in
    subst
    (λ b. Does {T = Unit {0}} Done (values_stored s (place_of s dest ∷ place_or_none s error ∷ []) (if b then tells (pos 0) v else tells (pos 1) (value_of s i))) old (Ok tt) new)
    (sym (le-leb (packed_size (shape_of s i)) (length text) long))
    (both_numbers old mid new dest error v x (pos 0) d sound is number (ap (stored (shape_of s dest)) same) refl (set ∙ ap (with_number mid.vars error) zero))

-- it is too short
pub number_short : (old new : SpaceViews) (dest error source i : ℕ) (k : Kind) (x told : ℤ) (d : Devices) → AreSound old.vars → is_number (shape_of old.vars dest) ≡ true → ((error == 0xFFFF) ≡ false → is_number (shape_of old.vars error) ≡ true) → shape_of old.vars i ≡ Number k → length (text_at old.vars source) < leaf_size k → x ≡ number (value_of old.vars i) → told ≡ pos 1 → new.vars ≡ told_beside old.vars dest x error told → Does {T = Unit {0}} Done (unpacks old.vars dest error source i d) old (Ok tt) new
number_short old new dest error source i k x told d sound is number shape few e one set =
    let s = old.vars in
    let text = text_at s source in
    let v = unpacked (shape_of s i) text in
    let mid : SpaceViews = record old { vars = record s { values = with_value s dest (stored (shape_of s dest) (Num x)) } } in
    let tells : ℤ → Value → Effect = λ z u. effect (store 0 (given s dest) u ++ store 1 (given_or_left s error) (Num z)) d in
    let short : length text < packed_size (shape_of s i) = subst (λ t. length text < packed_size t) (sym shape) few in
    subst
    (λ b. Does {T = Unit {0}} Done (values_stored s (place_of s dest ∷ place_or_none s error ∷ []) (if b then tells (pos 0) v else tells (pos 1) (value_of s i))) old (Ok tt) new)
    (sym (lt-leb (packed_size (shape_of s i)) (length text) short))
    (both_numbers old mid new dest error (value_of s i) x (pos 1) d sound is number (word_stored (shape_of s dest) x (value_of s i) is (ap word e)) refl (set ∙ ap (with_number mid.vars error) one))
