-- Whether the pool has room for a value of a size.
use Rattle.std.proofs.Common.{◌≡◌, ℕ, ◌+◌, ◌*◌, ◌<◌, ◌≤◌, Ok, Err, Result, IsSome, refl, sym, ap, ◌∙◌, subst}
use Rattle.std.specs.Prelude.{IfErr, IsErrAnd}
use Rattle.nxt_types.specs.Pool.{round4, pool_size}
use Rattle.nxt_model.specs.Values.{Value}
use Rattle.nxt_space.specs.Outcomes.{Does}
use Rattle.nxt_values.specs.Sizes.{size_in}
use Rattle.nxt_space.specs.Variables.{Variables, SpaceViews, AreSound, name_of, shape_of, with_value, with_values, footprint_of, footprint_with}
use Rattle.nxt_space.specs.declared.fault.OpFault.{OpFault}
use Rattle.nxt_space.specs.declared.fault.OpFault.TheVariants.{PoolPassed}
use Rattle.nxt_values.specs.declared.sizing.Size.{Size}
use Rattle.nxt_space.proofs.Laws.Variables.{footprint_told}
use Rattle.nxt_operands.specs.Operands.{Done, stride_of, with_list}

-- the bytes that the variables take with a value of a size
room_told : (s : Variables) (i : ℕ) (v : Value) (size : Size) → AreSound s → IsSome (name_of s i) → size ≡ size_in (shape_of s i) v → footprint_with s i size.lists size.bytes ≡ footprint_of (with_values (with_value s i v) s)
room_told s i v size sound some is =
    ap (λ (z : Size). footprint_with s i z.lists z.bytes) is ∙ sym (footprint_told s i v sound.shapes some)

-- where the pool has room for the value, and where it has none
pub room_found : (s : Variables) (i : ℕ) (v : Value) (size : Size) → AreSound s → IsSome (name_of s i) → size ≡ size_in (shape_of s i) v → footprint_with s i size.lists size.bytes ≤ pool_size → footprint_of (with_values (with_value s i v) s) ≤ pool_size
room_found s i v size sound some is h = subst (λ n. n ≤ pool_size) (room_told s i v size sound some is) h

room_refused : (s : SpaceViews) (i : ℕ) (v : Value) (size : Size) (bytes : ℕ) → AreSound s.vars → IsSome (name_of s.vars i) → size ≡ size_in (shape_of s.vars i) v → (pool_size < footprint_with s.vars i size.lists size.bytes) × (bytes ≡ footprint_with s.vars i size.lists size.bytes) → Does {T = Unit {0}} Done (with_value s.vars i v) s (Err (PoolPassed bytes)) s
room_refused s i v size bytes sound some is h =
    let told = room_told s.vars i v size sound some is in
    (subst (λ n. pool_size < n) told h.0, h.1 ∙ told, refl)

-- and where a call passes that on
pub room_passed : (s : SpaceViews) (i : ℕ) (v : Value) (size : Size) (bytes : ℕ) (r : Result Unit OpFault) → AreSound s.vars → IsSome (name_of s.vars i) → size ≡ size_in (shape_of s.vars i) v → IsErrAnd r (λ f. f ≡ PoolPassed bytes) → (pool_size < footprint_with s.vars i size.lists size.bytes) × (bytes ≡ footprint_with s.vars i size.lists size.bytes) → IfErr r (λ fault. Does {T = Unit {0}} Done (with_value s.vars i v) s (Err fault) s)
room_passed s i v size bytes (Ok x) sound some is e h = absurd e
room_passed s i v size bytes (Err fault) sound some is e h =
    subst
    (λ f. Does {T = Unit {0}} Done (with_value s.vars i v) s (Err f) s)
    (sym e)
    (room_refused s i v size bytes sound some is h)

-- with the stride of the entry's list
pub listed_there : (s : Variables) (dest stride count : ℕ) (elements size : Size) → stride ≡ stride_of (shape_of s dest) → size ≡ record { lists = elements.lists + 1; bytes = round4 (count * stride) + elements.bytes } → size ≡ with_list (shape_of s dest) count elements
listed_there s dest stride count elements size apart is =
    is ∙ ap (λ n. let z : Size = record { lists = elements.lists + 1; bytes = round4 (count * n) + elements.bytes } in z) apart
