-- A number that is told beside a value.
use Rattle.std.proofs.Common.{length, IsSome, Result, le-leb, ◌≡◌, ℕ, ◌+◌, ◌*◌, ◌≤◌, ◌<◌, ◌==◌, max, Bool, true, false, [], ◌∷◌, ◌++◌, List, Option, Some, None, Ok, Err, refl, sym, ap, ap₂, ◌∙◌, subst, arith}
use Rattle.std.specs.Prelude.{ℤ, pos, if◌then◌else◌, IsErrAnd}
use Rattle.std.proofs.lemmas.Bool.{lt-leb}
use Rattle.nxt_types.specs.Names.{Name, name_among}
use Rattle.nxt_types.specs.Shapes.{convertible, has_list, Shape, Number, Cluster, is_number, is_numbers}
use Rattle.nxt_model.specs.Devices.{Devices}
use Rattle.nxt_model.specs.Footprint.{list_bytes}
use Rattle.nxt_types.specs.Pool.{round4, pool_size}
use Rattle.nxt_model.specs.Means.Effects.{Left, Effect, effect, store}
use Rattle.nxt_model.specs.Means.Strings.{unflatten}
use Rattle.nxt_model.specs.Means.Text.{packed_size, unpacked}
use Rattle.nxt_model.specs.Values.{Value, Num, flat, stored, is_of, part, lists_in}
use Rattle.nxt_model.specs.Variables.{Absent, put, put_all}
use Rattle.nxt_values.specs.Fills.{filled}
use Rattle.nxt_space.specs.Variables.{Variables, SpaceViews, AreSound, name_of, shape_by, shape_of, value_of, with_by, with_value, with_values, footprint_of}
use Rattle.nxt_space.specs.Outcomes.{Does}
use Rattle.nxt_space.specs.declared.fault.OpFault.{OpFault}
use Rattle.nxt_space.specs.declared.fault.OpFault.TheVariants.{PoolPassed, NoMemory}
use Rattle.nxt_space.proofs.Laws.PartSizes.{lists_with_part, bytes_with_part, part_of_shape, with_part_of_shape}
use Rattle.nxt_operands.specs.Operands.{Done, given, given_or_left, place_of, place_or_none, values_stored}
use Rattle.nxt_operands.proofs.Laws.Beside.{list_beside}
use Rattle.nxt_operands.proofs.Laws.Sizes.{IsSoundPart, sound_part}
use Rattle.nxt_operands.proofs.Laws.Refusals.{passed_on}
use Rattle.nxt_operands.proofs.Laws.Stored.{IsStorable, part_storable}
use Rattle.nxt_texts.specs.Packing.{told_in, IsUnpacked}
use Rattle.nxt_texts.specs.Numerals.{with_number}
use Rattle.nxt_texts.specs.Texts.{text_at}
use Rattle.nxt_operands.proofs.Laws.OneStored.{one_placed}
use Rattle.nxt_texts.proofs.PackedValues.{filled_of_shape, plain_value, unpacked_of_shape}

-- ---- sizes

-- the variables take no more and no less
record SameSizes (s : Variables) (v w : Value) : Type 0 where
  lists : lists_in w ≡ lists_in v
  bytes : list_bytes (Cluster s.shapes) w ≡ list_bytes (Cluster s.shapes) v

-- a number stands in no list, and none is in it
record TakesNothing (s : Shape) (old : Value) (z : ℤ) : Type 0 where
  was : lists_in old ≡ 0
  held : list_bytes s old ≡ 0
  is : lists_in (stored s (Num z)) ≡ 0
  holds : list_bytes s (stored s (Num z)) ≡ 0

takes_nothing : (s : Shape) (old : Value) (z : ℤ) → is_number s ≡ true → is_of s old ≡ true → TakesNothing s old z
takes_nothing (Number k) (Num x) z is of = record { was = refl; held = refl; is = refl; holds = refl }
takes_nothing s old z is of = let f : ⊥ = cc in absurd f

same_by : (s : Variables) (i : ℕ) (z : ℤ) (vars : Value) (o : Option Name) → name_of s i ≡ o → is_of (Cluster s.shapes) vars ≡ true → is_number (shape_by o) ≡ true → SameSizes s vars (with_by o (stored (shape_by o) (Num z)) vars)
same_by s i z vars None named of is = record { lists = refl; bytes = refl }
same_by s i z vars (Some n) named of is =
    let v = stored n.shape (Num z) in
    let nothing = takes_nothing n.shape (part n.path vars) z is (part_of_shape s.shapes i n vars named of) in
    record {
      lists = omega (arith, lists_with_part s.shapes i n v vars named of, nothing.was, nothing.is);
      bytes = omega (arith, bytes_with_part s.shapes i n v vars named of, nothing.held, nothing.holds);
    }

-- the variables with a number for an operand, unless it is left out
abbrev number_if : Bool → Variables → ℕ → ℤ → Variables
number_if left_out s i z = if left_out then s else record s { values = with_value s i (stored (shape_of s i) (Num z)) }

same_if : (left_out : Bool) (s : Variables) (i : ℕ) (z : ℤ) (vars : Value) → is_of (Cluster s.shapes) vars ≡ true → (left_out ≡ false → is_number (shape_of s i) ≡ true) → SameSizes s vars (number_if left_out (record s { values = vars }) i z).values
same_if true s i z vars of is = record { lists = refl; bytes = refl }
same_if false s i z vars of is = same_by s i z vars (name_of s i) refl of (is refl)

told_sizes : (s : Variables) (i : ℕ) (z : ℤ) (vars : Value) → is_of (Cluster s.shapes) vars ≡ true → ((i == 0xFFFF) ≡ false → is_number (shape_of s i) ≡ true) → SameSizes s vars (told_in s i z vars)
told_sizes s i z vars of is = same_if (i == 0xFFFF) s i z vars of is

same_footprint : (s : Variables) (v w : Value) → SameSizes s v w → footprint_of (with_values w s) ≡ footprint_of (with_values v s)
same_footprint s v w e =
    ap₂ (λ l b. round4 s.static_size + round4 (10 * max s.rows (l + 1)) + b) e.lists e.bytes

-- ---- a store, and then a number

with_by_of : (s : Variables) (i : ℕ) (v : Value) (o : Option Name) → name_of s i ≡ o → is_of (Cluster s.shapes) s.values ≡ true → is_of (shape_by o) v ≡ true → is_of (Cluster s.shapes) (with_by o v s.values) ≡ true
with_by_of s i v None named of is = of
with_by_of s i v (Some n) named of is = with_part_of_shape s.shapes i n v s.values named of is

-- the variables with what numbers fill an entry with
filled_of : (s : Variables) (i : ℕ) (zs : List ℤ) → AreSound s → is_of (Cluster s.shapes) (with_value s i (filled (shape_of s i) zs).0) ≡ true
filled_of s i zs sound =
    with_by_of s i (filled (shape_of s i) zs).0 (name_of s i) refl sound.shapes (filled_of_shape (shape_of s i) zs)

-- the table of rows stays as it is
rows_if : (left_out : Bool) (s : Variables) (i : ℕ) (z : ℤ) (vars : Value) → SameSizes s vars (number_if left_out (record s { values = vars }) i z).values → number_if left_out (with_values vars s) i z ≡ with_values (number_if left_out (record s { values = vars }) i z).values s
rows_if true s i z vars e = refl
rows_if false s i z vars e =
    let w = with_by (name_of s i) (stored (shape_of s i) (Num z)) vars in
    ap {A = ℕ} (λ l. record s { values = w; rows = max s.rows (l + 1) }) (sym e.lists)

pub set_beside : (s between new : SpaceViews) (i : ℕ) (vars : Value) (z x : ℤ) → is_of (Cluster s.vars.shapes) vars ≡ true → ((i == 0xFFFF) ≡ false → is_number (shape_of s.vars i) ≡ true) → x ≡ z → Does {T = Unit {0}} Done vars s (Ok tt) between → new.vars ≡ with_number between.vars i x → Does {T = Unit {0}} Done (told_in s.vars i z vars) s (Ok tt) new
set_beside s between new i vars z x of number same h set =
    let sizes = told_sizes s.vars i z vars of number in (
      subst (λ n. n ≤ pool_size) (sym (same_footprint s.vars vars (told_in s.vars i z vars) sizes)) h.0,
      set ∙ ap₂ (λ n y. with_number n i y) h.1 same ∙ rows_if (i == 0xFFFF) s.vars i z vars sizes,
      tt,
    )

-- beside what numbers spell
pub told_set : (s between new : SpaceViews) (dest i : ℕ) (zs : List ℤ) (z x : ℤ) → AreSound s.vars → ((i == 0xFFFF) ≡ false → is_number (shape_of s.vars i) ≡ true) → x ≡ z → let vars = with_value s.vars dest (filled (shape_of s.vars dest) zs).0 in Does {T = Unit {0}} Done vars s (Ok tt) between → new.vars ≡ with_number between.vars i x → Does {T = Unit {0}} Done (told_in s.vars i z vars) s (Ok tt) new
told_set s between new dest i zs z x sound number same h set =
    set_beside s between new i (with_value s.vars dest (filled (shape_of s.vars dest) zs).0) z x (filled_of s.vars dest zs sound) number same h set

-- a refused store refuses the statement
told_fault : (s new : SpaceViews) (dest i : ℕ) (zs : List ℤ) (z : ℤ) (fault : OpFault) → AreSound s.vars → ((i == 0xFFFF) ≡ false → is_number (shape_of s.vars i) ≡ true) → let vars = with_value s.vars dest (filled (shape_of s.vars dest) zs).0 in Does {T = Unit {0}} Done vars s (Err fault) new → Does {T = Unit {0}} Done (told_in s.vars i z vars) s (Err fault) new
told_fault s new dest i zs z (PoolPassed bytes) sound number h =
    let vars = with_value s.vars dest (filled (shape_of s.vars dest) zs).0 in
    let same = same_footprint s.vars vars (told_in s.vars i z vars) (told_sizes s.vars i z vars (filled_of s.vars dest zs sound) number) in
    (subst (λ n. pool_size < n) (sym same) h.0, h.1 ∙ sym same, h.2)
told_fault s new dest i zs z NoMemory sound number h = h

pub told_refused : (s new : SpaceViews) (dest i : ℕ) (zs : List ℤ) (z : ℤ) (fault : OpFault) (r : Result Unit OpFault) → AreSound s.vars → ((i == 0xFFFF) ≡ false → is_number (shape_of s.vars i) ≡ true) → let vars = with_value s.vars dest (filled (shape_of s.vars dest) zs).0 in IsErrAnd r (λ f. f ≡ fault) → Does {T = Unit {0}} Done vars s (Err fault) new → Does {T = Unit {0}} Done (told_in s.vars i z vars) s r new
told_refused s new dest i zs z fault r sound number e h =
    let vars = with_value s.vars dest (filled (shape_of s.vars dest) zs).0 in
    passed_on Done Done (told_in s.vars i z vars) s new fault r e (told_fault s new dest i zs z fault sound number h)

-- ---- what a statement stores in two places

told_if : (left_out : Bool) (s : Variables) (dest i : ℕ) (v : Value) (z : ℤ) (d : Devices) → put_all (place_of s dest ∷ (if left_out then Absent else place_of s i) ∷ []) (store 0 (given s dest) v ++ store 1 (if left_out then Left else given s i) (Num z)) s.values ≡ (number_if left_out (record s { values = with_value s dest (stored (shape_of s dest) v) }) i z).values
told_if true s dest i v z d = one_placed s dest v d
told_if false s dest i v z d =
    ap (put (place_of s i) [] (stored (shape_of s i) (Num z))) (one_placed s dest v d)
    ∙ one_placed (record s { values = with_value s dest (stored (shape_of s dest) v) }) i (Num z) d

-- a value, and a number where it isn't left out
pub value_and_number : (s : Variables) (dest i : ℕ) (v : Value) (z : ℤ) (d : Devices) → values_stored s (place_of s dest ∷ place_or_none s i ∷ []) (effect (store 0 (given s dest) v ++ store 1 (given_or_left s i) (Num z)) d) ≡ told_in s i z (with_value s dest (stored (shape_of s dest) v))
value_and_number s dest i v z d = told_if (i == 0xFFFF) s dest i v z d

pub told_value : (s new : SpaceViews) (dest i : ℕ) (v : Value) (zs : List ℤ) (z : ℤ) (result : Result Unit OpFault) (d : Devices) → IsStorable s.vars dest v zs → Does {T = Unit {0}} Done (told_in s.vars i z (with_value s.vars dest (filled (shape_of s.vars dest) zs).0)) s result new → Does {T = Unit {0}} Done (values_stored s.vars (place_of s.vars dest ∷ place_or_none s.vars i ∷ []) (effect (store 0 (given s.vars dest) v ++ store 1 (given_or_left s.vars i) (Num z)) d)) s result new
told_value s new dest i v zs z result d e h =
    subst
    (λ w. Does {T = Unit {0}} Done w s result new)
    (ap (λ x. told_in s.vars i z (with_value s.vars dest x)) e.filled ∙ sym (value_and_number s.vars dest i v z d))
    h

-- ---- what bytes are unpacked to

-- a value of an entry's shape, by the bytes of the text at another entry
pub record IsFound (s : Variables) (source i : ℕ) (zs : List ℤ) : Type 0 where
  pub fits : packed_size (shape_of s i) ≤ length (text_at s source)
  pub is : zs ≡ flat (unpacked (shape_of s i) (text_at s source))

pub found_there : (s : Variables) (source i : ℕ) (zs : List ℤ) (found : Option (List ℤ)) → found ≡ Some zs → IsUnpacked (shape_of s i) (text_at s source) found → IsFound s source i zs
found_there s source i zs found is h =
    let both = subst (IsUnpacked (shape_of s i) (text_at s source)) is h in
    record { fits = both.0; is = both.1 }

pub none_there : (s : Variables) (source i : ℕ) (found : Option (List ℤ)) → found ≡ None → IsUnpacked (shape_of s i) (text_at s source) found → length (text_at s source) < packed_size (shape_of s i)
none_there s source i found is h = subst (IsUnpacked (shape_of s i) (text_at s source)) is h

-- it can be stored where a value of the entry can
pub unpacked_storable : (s : Variables) (dest i : ℕ) (bytes : List ℕ) (zs : List ℤ) → AreSound s → IsSome (name_of s dest) → IsSome (name_of s i) → has_list (shape_of s i) ≡ false → convertible (shape_of s dest) (shape_of s i) ≡ true → zs ≡ flat (unpacked (shape_of s i) bytes) → IsStorable s dest (unpacked (shape_of s i) bytes) zs
unpacked_storable s dest i bytes zs sound there some none fits is =
    let t = shape_of s i in
    let v = unpacked t bytes in
    let of = unpacked_of_shape t bytes in
    let plain = plain_value t v none of in
    let part : IsSoundPart t v = record { strides = (sound_part s i sound some).strides; of = of; lists = omega (arith, plain.lists); bytes = omega (arith, plain.bytes) } in
    part_storable s dest t v zs sound there part fits is

-- ---- the statement

-- the error is 0 where the text is long enough, and else 1
pub unflatten_found : (s new : SpaceViews) (dest error source i : ℕ) (zs : List ℤ) (result : Result Unit OpFault) (d : Devices) → IsFound s.vars source i zs → IsStorable s.vars dest (unpacked (shape_of s.vars i) (text_at s.vars source)) zs → Does {T = Unit {0}} Done (told_in s.vars error (pos 0) (with_value s.vars dest (filled (shape_of s.vars dest) zs).0)) s result new → Does {T = Unit {0}} Done (values_stored s.vars (place_of s.vars dest ∷ place_or_none s.vars error ∷ []) (unflatten d (given s.vars dest) (given_or_left s.vars error) (given s.vars source) (given s.vars i))) s result new
unflatten_found s new dest error source i zs result d found e h =
    let v = unpacked (shape_of s.vars i) (text_at s.vars source) in
    let told : ℤ → Value → Effect = λ z w. effect (store 0 (given s.vars dest) w ++ store 1 (given_or_left s.vars error) (Num z)) d in
    subst
    (λ b. Does {T = Unit {0}} Done (values_stored s.vars (place_of s.vars dest ∷ place_or_none s.vars error ∷ []) (if b then told (pos 0) v else told (pos 1) (value_of s.vars i))) s result new)
    (sym (le-leb (packed_size (shape_of s.vars i)) (length (text_at s.vars source)) found.fits))
    (told_value s new dest error v zs (pos 0) result d e h)

pub unflatten_short : (s new : SpaceViews) (dest error source i : ℕ) (zs : List ℤ) (result : Result Unit OpFault) (d : Devices) → length (text_at s.vars source) < packed_size (shape_of s.vars i) → IsStorable s.vars dest (value_of s.vars i) zs → Does {T = Unit {0}} Done (told_in s.vars error (pos 1) (with_value s.vars dest (filled (shape_of s.vars dest) zs).0)) s result new → Does {T = Unit {0}} Done (values_stored s.vars (place_of s.vars dest ∷ place_or_none s.vars error ∷ []) (unflatten d (given s.vars dest) (given_or_left s.vars error) (given s.vars source) (given s.vars i))) s result new
unflatten_short s new dest error source i zs result d short e h =
    let v = unpacked (shape_of s.vars i) (text_at s.vars source) in
    let told : ℤ → Value → Effect = λ z w. effect (store 0 (given s.vars dest) w ++ store 1 (given_or_left s.vars error) (Num z)) d in
    subst
    (λ b. Does {T = Unit {0}} Done (values_stored s.vars (place_of s.vars dest ∷ place_or_none s.vars error ∷ []) (if b then told (pos 0) v else told (pos 1) (value_of s.vars i))) s result new)
    (sym (lt-leb (packed_size (shape_of s.vars i)) (length (text_at s.vars source)) short))
    (told_value s new dest error (value_of s.vars i) zs (pos 1) result d e h)

-- ---- lists beside the number

beside_if : (left_out : Bool) (t : Variables) (dest i : ℕ) (z : ℤ) → (left_out ≡ false → is_number (shape_of t i) ≡ true) → is_numbers (shape_of t dest) ≡ true → value_of (number_if left_out t i z) dest ≡ value_of t dest
beside_if true t dest i z number numbers = refl
beside_if false t dest i z number numbers = list_beside t dest i (stored (shape_of t i) (Num z)) numbers (number refl)

-- a list of numbers stays as it is
pub told_beside : (s t new : Variables) (dest i : ℕ) (vars : Value) (z : ℤ) → t ≡ with_values vars s → ((i == 0xFFFF) ≡ false → is_number (shape_of s i) ≡ true) → new ≡ with_number t i z → is_numbers (shape_of s dest) ≡ true → value_of new dest ≡ value_of t dest
told_beside s t new dest i vars z is number told numbers =
    let shapes : t.shapes ≡ s.shapes = ap (λ (v : Variables). v.shapes) is in
    ap (λ v. value_of v dest) told
    ∙ beside_if (i == 0xFFFF) t dest i z
    (λ some. ap (λ ss. is_number (shape_by (name_among ss 0 i))) shapes ∙ number some)
    (ap (λ ss. is_numbers (shape_by (name_among ss 0 dest))) shapes ∙ numbers)
