-- Texts to which bytes are added in their place.
use Rattle.std.proofs.Common.{◌≡◌, ℕ, ◌+◌, ◌<◌, ◌≤◌, max, true, List, [], ◌∷◌, ◌++◌, map, set, get_or, drop, take, append_assoc, ◌*◌, ◌-◌, pos, length, Ok, Result, refl, sym, ap, ap₂, ◌∙◌, subst, arith}
use Rattle.std.specs.Prelude.{IsErrAnd}
use Rattle.std.proofs.lemmas.List.{drop_more, length-append, length-drop, length-map, map-append}
use Rattle.std.proofs.Math.Seq.{set-append_seam, take-length}
use Rattle.nxt_types.specs.Arithmetic.{leaf_size, extend}
use Rattle.nxt_types.specs.Calls.{is_text}
use Rattle.nxt_types.specs.Pool.{round4, pool_size}
use Rattle.nxt_types.specs.Shapes.{Shape, Array, Number}
use Rattle.nxt_types.specs.declared.kind.Kind.{Kind}
use Rattle.nxt_types.specs.declared.kind.Kind.TheVariants.{Ubyte}
use Rattle.nxt_model.specs.Footprint.{list_bytes}
use Rattle.nxt_model.specs.Values.{Value, Values, Num, ListOf, GroupOf, is_of, elements, list_of, lists_in, stored}
use Rattle.nxt_model.proofs.Laws.Values.{items-values}
use Rattle.nxt_space.specs.Spots.{IsListSpot, numbers_in_bytes}
use Rattle.nxt_space.specs.Variables.{Variables, SpaceViews, AreSound, footprint_of, footprint_with, list_of_bytes, shape_of, value_of, with_value, with_values}
use Rattle.nxt_space.specs.declared.fault.OpFault.{OpFault}
use Rattle.nxt_space.specs.declared.fault.OpFault.TheVariants.{PoolPassed}
use Rattle.nxt_space.specs.declared.spots.ListSpot.{ListSpot}
use Rattle.nxt_space.proofs.Laws.InBytes.{single_bytes, text_numbers}
use Rattle.nxt_space.proofs.Laws.JoinedBytes.{numbers_joined}
use Rattle.nxt_space.proofs.Laws.Variables.{footprint_told, value_sizes}
use Rattle.nxt_operands.specs.Operands.{stride_of}
use Rattle.nxt_operands.proofs.Laws.InPlace.{list_is, list_named}
use Rattle.nxt_texts.specs.Texts.{StoresBytes}
use Rattle.nxt_texts.proofs.InPlace.{bytes_refused, bytes_set, byte_stored, spot_kind, text_stored}
use Rattle.nxt_texts.proofs.Overwritten.{value_over, value_there}
use Rattle.nxt_texts.proofs.Texts.{block_there}

-- ---- how much of the pool bytes take

-- so many bytes take as much as others
record TakeTheSame (s : Variables) (i : ℕ) (bs cs : List ℕ) : Type 0 where
  pub lists : lists_in (with_value s i (list_of_bytes bs)) ≡ lists_in (with_value s i (list_of_bytes cs))
  pub pool : footprint_of (with_values (with_value s i (list_of_bytes bs)) s) ≡ footprint_of (with_values (with_value s i (list_of_bytes cs)) s)

as_many : (s : Variables) (i : ℕ) (list : ListSpot) (bs cs : List ℕ) → AreSound s → IsListSpot s i list → is_text (shape_of s i) ≡ true → length bs ≡ length cs → TakeTheSame s i bs cs
as_many s i list bs cs sound is text many =
    let t = shape_of s i in
    let some = list_named s i list is in
    let one = block_there t bs text in
    let other = block_there t cs text in
    let first = text_stored s i list bs is text in
    let second = text_stored s i list cs is text in
    let lists : lists_in (list_of_bytes bs) ≡ lists_in (list_of_bytes cs) =
    ap lists_in (sym first) ∙ one.lists ∙ sym other.lists ∙ ap lists_in second in
    let bytes : list_bytes t (list_of_bytes bs) ≡ list_bytes t (list_of_bytes cs) =
    ap (list_bytes t) (sym first) ∙ one.bytes ∙ ap (λ n. round4 (n * stride_of t)) many ∙ sym other.bytes ∙ ap (list_bytes t) second in
    let before = value_sizes s i (list_of_bytes bs) sound.shapes some in
    let after = value_sizes s i (list_of_bytes cs) sound.shapes some in
    record {
      lists = omega (arith, before.lists, after.lists, lists);
      pool = footprint_told s i (list_of_bytes bs) sound.shapes some
          ∙ ap₂ (footprint_with s i) lists bytes
          ∙ sym (footprint_told s i (list_of_bytes cs) sound.shapes some);
    }

-- ---- bytes behind others

-- a text and bytes behind it
pub joined : (s : Variables) (i : ℕ) (k : Kind) (bs cs : List ℕ) → k ≡ Ubyte → value_of s i ≡ numbers_in_bytes k bs → list_of (elements (value_of s i) ++ elements (numbers_in_bytes k cs)) ≡ list_of_bytes (bs ++ cs)
joined s i k bs cs is e =
    let all = numbers_in_bytes k (bs ++ cs) in
    ap (λ v. list_of (elements v ++ elements (numbers_in_bytes k cs))) e
    ∙ ap list_of (sym (numbers_joined k bs cs (single_bytes k bs is)))
    ∙ again k (bs ++ cs)
    ∙ text_numbers k (bs ++ cs) is
  where
    again : (k : Kind) (xs : List ℕ) → list_of (elements (numbers_in_bytes k xs)) ≡ numbers_in_bytes k xs
    again k xs = ap list_of (items-values _)

-- the byte at a place becomes another one
byte_put : (front rest : List ℕ) (b c : ℕ) (k : Kind) → k ≡ Ubyte → list_of (set (elements (list_of_bytes (front ++ b ∷ rest))) (length front) (stored (Number k) (Num (pos c)))) ≡ list_of_bytes (front ++ c ∷ rest)
byte_put front rest b c k is =
    let f : ℕ → Value = λ x. Num (extend Ubyte x) in
    let own : elements (list_of_bytes (front ++ b ∷ rest)) ≡ map f front ++ f b ∷ map f rest =
    items-values (map f (front ++ b ∷ rest)) ∙ map-append f front (b ∷ rest) in
    let new : stored (Number k) (Num (pos c)) ≡ f c = ap (λ j. stored (Number j) (Num (pos c))) is ∙ ap Num (byte_stored c) in
    ap list_of
    (ap₂ (λ vs v. set vs (length front) v) own new
    ∙ ap (λ n. set (map f front ++ f b ∷ map f rest) n (f c)) (sym (length-map front f))
    ∙ set-append_seam (map f front) (f b) (map f rest) (f c)
    ∙ sym (map-append f front (c ∷ rest)))

-- the first of them, and the others
pub first_and_rest : (bs : List ℕ) → 0 < length bs → bs ≡ get_or bs 0 0 ∷ take (length bs - 1) (drop 1 bs)
first_and_rest bs some =
    let rest = drop 1 bs in
    drop_more bs 0 0 some
    ∙ ap (λ xs. get_or bs 0 0 ∷ xs) (sym (ap (λ n. take n rest) (sym (length-drop 1 bs)) ∙ take-length rest))

-- ---- the text in the spot

-- its value is a list
a_list : (n : ℕ) (t : Shape) (v : Value) → is_of (Array n t) v ≡ true → (vs : Values) × (v ≡ ListOf vs)
a_list n t (Num z) e = let f : ⊥ = cc in absurd f
a_list n t (ListOf vs) e = (vs, refl)
a_list n t (GroupOf vs) e = let f : ⊥ = cc in absurd f

value_list : (s : Variables) (i : ℕ) (list : ListSpot) → AreSound s → IsListSpot s i list → (vs : Values) × (value_of s i ≡ ListOf vs)
value_list s i list sound is = a_list (leaf_size list.kind) (Number list.kind) (value_of s i) (list_is s i list sound is)

-- bytes are added behind all of its own
pub added : (old new : SpaceViews) (i : ℕ) (list : ListSpot) (bs more : List ℕ) → IsListSpot old.vars i list → is_text (shape_of old.vars i) ≡ true → value_of old.vars i ≡ numbers_in_bytes list.kind bs
    → let longer = with_values (with_value old.vars i (list_of (elements (value_of old.vars i) ++ elements (numbers_in_bytes list.kind more)))) old.vars in (footprint_of longer ≤ pool_size) × (new.vars ≡ longer)
    → StoresBytes old i (bs ++ more) (Ok tt) new
added old new i list bs more is text e grown =
    let s = old.vars in
    bytes_set old new i list (bs ++ more) (list_of (elements (value_of s i) ++ elements (numbers_in_bytes list.kind more))) is text
    (joined s i list.kind bs more (spot_kind s i list is text) e)
    grown

pub added_refused : (old new : SpaceViews) (i : ℕ) (list : ListSpot) (bs more : List ℕ) {bytes : ℕ} (result : Result Unit OpFault) → IsListSpot old.vars i list → is_text (shape_of old.vars i) ≡ true → value_of old.vars i ≡ numbers_in_bytes list.kind bs
    → IsErrAnd result (λ f. f ≡ PoolPassed bytes)
    → let longer = with_values (with_value old.vars i (list_of (elements (value_of old.vars i) ++ elements (numbers_in_bytes list.kind more)))) old.vars in (pool_size < footprint_of longer) × (bytes ≡ footprint_of longer) × (new ≡ old)
    → StoresBytes old i (bs ++ more) result new
added_refused old new i list bs more {bytes} result is text e passed h =
    let s = old.vars in
    bytes_refused old new i list (bs ++ more) (list_of (elements (value_of s i) ++ elements (numbers_in_bytes list.kind more))) {bytes = bytes} result is text
    (joined s i list.kind bs more (spot_kind s i list is text) e)
    passed
    h

-- bytes are added, the first of which takes the place of the zero
pub put_over : (old mid new : SpaceViews) (i : ℕ) (list : ListSpot) (front rest more : List ℕ) (b c last : ℕ) → AreSound old.vars → IsListSpot old.vars i list → is_text (shape_of old.vars i) ≡ true
    → value_of old.vars i ≡ numbers_in_bytes list.kind (front ++ b ∷ [])
    → last ≡ length front
    → more ≡ c ∷ rest
    → let longer = with_values (with_value old.vars i (list_of (elements (value_of old.vars i) ++ elements (numbers_in_bytes list.kind rest)))) old.vars in (footprint_of longer ≤ pool_size) × (mid.vars ≡ longer)
    → (IsListSpot mid.vars i list → last < length (elements (value_of mid.vars i)) → new.vars ≡ record mid.vars { values = with_value mid.vars i (list_of (set (elements (value_of mid.vars i)) last (stored (Number list.kind) (Num (pos c))))) })
    → StoresBytes old i (front ++ more) (Ok tt) new
put_over old mid new i list front rest more b c last sound is text e place first grown put =
    let s = old.vars in
    let kind = spot_kind s i list is text in
    let bs = front ++ b ∷ rest in
    let cs = front ++ c ∷ rest in
    let longer : list_of (elements (value_of s i) ++ elements (numbers_in_bytes list.kind rest)) ≡ list_of_bytes bs =
    joined s i list.kind (front ++ b ∷ []) rest kind e ∙ ap list_of_bytes (append_assoc front (b ∷ []) rest) in
    let were = value_list s i list sound is in
    let between : mid.vars ≡ with_values (with_value s i (list_of_bytes bs)) s =
    grown.1 ∙ ap (λ v. with_values (with_value s i v) s) longer in
    let held : value_of mid.vars i ≡ list_of_bytes bs =
    ap (λ t. value_of t i) between ∙ value_there s i were.0 (list_of_bytes bs) were.1 in
    let many : length (elements (value_of mid.vars i)) ≡ length bs =
    ap (λ v. length (elements v)) held
    ∙ ap length (items-values (map (λ x. Num (extend Ubyte x)) bs))
    ∙ length-map bs (λ x. Num (extend Ubyte x)) in
    let inside : last < length (elements (value_of mid.vars i)) = omega (arith, many, place, length-append front (b ∷ rest)) in
    let set_there = put (subst (λ t. IsListSpot t i list) (sym between) is) inside in
    let same = as_many s i list bs cs sound is text (length-append front (b ∷ rest) ∙ sym (length-append front (c ∷ rest))) in
    let next : list_of (set (elements (value_of mid.vars i)) last (stored (Number list.kind) (Num (pos c)))) ≡ list_of_bytes cs =
    ap₂ (λ v n. list_of (set (elements v) n (stored (Number list.kind) (Num (pos c))))) held place ∙ byte_put front rest b c list.kind kind in
    let all : new.vars ≡ with_values (with_value s i (list_of_bytes cs)) s =
    set_there
    ∙ ap {A = Value} {B = Variables} (λ v. record mid.vars { values = with_value mid.vars i v }) next
    ∙ ap {A = Variables} {B = Variables} (λ t. record t { values = with_value t i (list_of_bytes cs) }) between
    ∙ ap₂ {A = Value} {B = ℕ} {C = Variables} (λ vars n. record s { values = vars; rows = max s.rows (n + 1) }) (value_over s i (list_of_bytes cs) (list_of_bytes bs)) same.lists in
    let fits : footprint_of (with_values (with_value s i (list_of_bytes cs)) s) ≤ pool_size =
    subst (λ n. n ≤ pool_size) (ap (λ v. footprint_of (with_values (with_value s i v) s)) longer ∙ same.pool) grown.0 in
    subst
    (λ xs. StoresBytes old i (front ++ xs) (Ok tt) new)
    (sym first)
    (bytes_set old new i list cs (list_of_bytes cs) is text refl (fits, all))

-- they are refused
pub over_refused : (old new : SpaceViews) (i : ℕ) (list : ListSpot) (front rest more : List ℕ) (b c : ℕ) {bytes : ℕ} (result : Result Unit OpFault) → AreSound old.vars → IsListSpot old.vars i list → is_text (shape_of old.vars i) ≡ true
    → value_of old.vars i ≡ numbers_in_bytes list.kind (front ++ b ∷ [])
    → more ≡ c ∷ rest
    → IsErrAnd result (λ f. f ≡ PoolPassed bytes)
    → let longer = with_values (with_value old.vars i (list_of (elements (value_of old.vars i) ++ elements (numbers_in_bytes list.kind rest)))) old.vars in (pool_size < footprint_of longer) × (bytes ≡ footprint_of longer) × (new ≡ old)
    → StoresBytes old i (front ++ more) result new
over_refused old new i list front rest more b c {bytes} result sound is text e first passed h =
    let s = old.vars in
    let kind = spot_kind s i list is text in
    let bs = front ++ b ∷ rest in
    let cs = front ++ c ∷ rest in
    let longer : list_of (elements (value_of s i) ++ elements (numbers_in_bytes list.kind rest)) ≡ list_of_bytes bs =
    joined s i list.kind (front ++ b ∷ []) rest kind e ∙ ap list_of_bytes (append_assoc front (b ∷ []) rest) in
    let same = as_many s i list bs cs sound is text (length-append front (b ∷ rest) ∙ sym (length-append front (c ∷ rest))) in
    let pool = ap (λ v. footprint_of (with_values (with_value s i v) s)) longer ∙ same.pool in
    subst
    (λ xs. StoresBytes old i (front ++ xs) result new)
    (sym first)
    (bytes_refused old new i list cs (list_of_bytes cs) {bytes = bytes} result is text refl passed (subst (λ n. pool_size < n) pool h.0, h.1 ∙ pool, h.2))
