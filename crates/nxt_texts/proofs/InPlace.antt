-- Texts whose bytes stand in the pool one behind another.
use Rattle.std.proofs.Common.{◌≡◌, ℕ, ◌<◌, true, List, [], ◌∷◌, map, get_or, pos, Ok, Result, suc, refl, sym, ap, ap₂, ◌∙◌, subst, arith}
use Rattle.std.specs.Prelude.{IsErrAnd}
use Rattle.nxt_types.specs.Arithmetic.{leaf_size, cut, extend, word}
use Rattle.nxt_types.specs.Calls.{is_text}
use Rattle.nxt_types.specs.Pool.{pool_size}
use Rattle.nxt_types.specs.Shapes.{Number, Array}
use Rattle.nxt_types.specs.declared.kind.Kind.{Kind}
use Rattle.nxt_types.specs.declared.kind.Kind.TheVariants.{Ubyte, Sbyte, Uword, Sword, Ulong, Slong}
use Rattle.nxt_model.specs.Values.{Value, Num, byte_list, bytes_of, list_of, stored, word_of}
use Rattle.nxt_model.proofs.Laws.Values.{items-values}
use Rattle.nxt_space.specs.Outcomes.{Does}
use Rattle.nxt_space.specs.Spots.{IsListSpot, numbers_in_bytes}
use Rattle.nxt_space.specs.Variables.{Variables, SpaceViews, Becomes, footprint_of, list_of_bytes, shape_of, value_of, with_value, with_values}
use Rattle.nxt_space.specs.declared.fault.OpFault.{OpFault}
use Rattle.nxt_space.specs.declared.fault.OpFault.TheVariants.{PoolPassed}
use Rattle.nxt_space.specs.declared.spots.ListSpot.{ListSpot}
use Rattle.nxt_space.proofs.Laws.InBytes.{text_numbers}
use Rattle.nxt_operands.specs.Operands.{Done}
use Rattle.nxt_operands.proofs.Laws.OneStored.{given_stored}
use Rattle.nxt_operands.proofs.Laws.Refusals.{passed_on}
use Rattle.nxt_texts.specs.Texts.{StoresBytes, text_at}

-- ---- spots of texts

bytes_alone : (k : Kind) → is_text (Array (leaf_size k) (Number k)) ≡ true → k ≡ Ubyte
bytes_alone Ubyte e = refl
bytes_alone Sbyte e = let f : ⊥ = cc in absurd f
bytes_alone Uword e = let f : ⊥ = cc in absurd f
bytes_alone Sword e = let f : ⊥ = cc in absurd f
bytes_alone Ulong e = let f : ⊥ = cc in absurd f
bytes_alone Slong e = let f : ⊥ = cc in absurd f

-- the list in the spot of a text is one of bytes
pub spot_kind : (s : Variables) (i : ℕ) (list : ListSpot) → IsListSpot s i list → is_text (shape_of s i) ≡ true → list.kind ≡ Ubyte
spot_kind s i list is text = bytes_alone list.kind (subst (λ t. is_text t ≡ true) is.shape text)

-- and a list of bytes is a text
pub spot_text : (s : Variables) (i : ℕ) (list : ListSpot) → IsListSpot s i list → list.kind ≡ Ubyte → is_text (shape_of s i) ≡ true
spot_text s i list is kind = ap is_text is.shape ∙ ap (λ k. is_text (Array (leaf_size k) (Number k))) kind

-- ---- bytes that are lent

byte_again : (b : ℕ) → b < 256 → word (extend Ubyte b) ≡ b
byte_again b less = omega (arith, less)

bytes_again : (bs : List ℕ) → ((k : ℕ) → get_or bs k 0 < 256) → map word_of (map (λ b. Num (extend Ubyte b)) bs) ≡ bs
bytes_again [] small = refl
bytes_again (b ∷ bs) small = ap₂ (λ c cs. c ∷ cs) (byte_again b (small 0)) (bytes_again bs (λ k. small (suc k)))

pub own_bytes : (bs : List ℕ) → ((k : ℕ) → get_or bs k 0 < 256) → bytes_of (list_of_bytes bs) ≡ bs
own_bytes bs small =
    ap (map word_of) (items-values (map (λ b. Num (extend Ubyte b)) bs)) ∙ bytes_again bs small

pub text_lent : (s : Variables) (i : ℕ) (list : ListSpot) (bs : List ℕ) → IsListSpot s i list → is_text (shape_of s i) ≡ true → value_of s i ≡ numbers_in_bytes list.kind bs → bytes_of (list_of_bytes bs) ≡ bs → bs ≡ text_at s i
text_lent s i list bs is text e own =
    sym (ap bytes_of (e ∙ text_numbers list.kind bs (spot_kind s i list is text)) ∙ own)

-- ---- bytes that are stored

pub byte_stored : (b : ℕ) → cut Ubyte (pos b) ≡ extend Ubyte b
byte_stored b = ap pos (omega arith)

bytes_stored : (bs : List ℕ) → map (stored (Number Ubyte)) (map (λ b. Num (pos b)) bs) ≡ map (λ b. Num (extend Ubyte b)) bs
bytes_stored [] = refl
bytes_stored (b ∷ bs) = ap₂ (λ z vs. Num z ∷ vs) (byte_stored b) (bytes_stored bs)

list_stored : (n : ℕ) (bs : List ℕ) → stored (Array n (Number Ubyte)) (byte_list bs) ≡ list_of_bytes bs
list_stored n bs =
    ap (λ vs. list_of (map (stored (Number Ubyte)) vs)) (items-values (map (λ b. Num (pos b)) bs)) ∙ ap list_of (bytes_stored bs)

pub text_stored : (s : Variables) (i : ℕ) (list : ListSpot) (bs : List ℕ) → IsListSpot s i list → is_text (shape_of s i) ≡ true → stored (shape_of s i) (byte_list bs) ≡ list_of_bytes bs
text_stored s i list bs is text =
    ap (λ t. stored t (byte_list bs)) is.shape
    ∙ ap (λ k. stored (Array (leaf_size k) (Number k)) (byte_list bs)) (spot_kind s i list is text)
    ∙ list_stored 1 bs

-- what a value of bytes becomes, stored or refused
stores_bytes : (old new : SpaceViews) (i : ℕ) (list : ListSpot) (bs : List ℕ) (v : Value) (result : Result Unit OpFault) → IsListSpot old.vars i list → is_text (shape_of old.vars i) ≡ true → v ≡ list_of_bytes bs → Does Done (with_value old.vars i v) old result new → StoresBytes old i bs result new
stores_bytes old new i list bs v result is text same h =
    given_stored old new i (byte_list bs) result
    (subst (λ w. Does {T = Unit {0}} Done (with_value old.vars i w) old result new) (same ∙ sym (text_stored old.vars i list bs is text)) h)

pub bytes_set : (old new : SpaceViews) (i : ℕ) (list : ListSpot) (bs : List ℕ) (v : Value) → IsListSpot old.vars i list → is_text (shape_of old.vars i) ≡ true → v ≡ list_of_bytes bs → Becomes old (with_values (with_value old.vars i v) old.vars) (Ok tt) new → StoresBytes old i bs (Ok tt) new
bytes_set old new i list bs v is text same h =
    stores_bytes old new i list bs v (Ok tt) is text same (h.0, h.1, tt)

pub bytes_refused : (old new : SpaceViews) (i : ℕ) (list : ListSpot) (bs : List ℕ) (v : Value) {bytes : ℕ} (result : Result Unit OpFault) → IsListSpot old.vars i list → is_text (shape_of old.vars i) ≡ true → v ≡ list_of_bytes bs → IsErrAnd result (λ f. f ≡ PoolPassed bytes) → let next = with_values (with_value old.vars i v) old.vars in (pool_size < footprint_of next) × (bytes ≡ footprint_of next) × (new ≡ old) → StoresBytes old i bs result new
bytes_refused old new i list bs v {bytes} result is text same e h =
    stores_bytes old new i list bs v result is text same
    (passed_on Done Done (with_value old.vars i v) old new (PoolPassed bytes) result e h)
