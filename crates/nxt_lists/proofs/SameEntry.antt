-- What is read at an entry, and what is stored there again, once a value is stored there.
use Rattle.std.proofs.Common.{◌≡◌, ℕ, ◌+◌, ◌-◌, ◌≤◌, ◌<◌, max, true, List, [], ◌∷◌, set, get_or, length, Option, Some, None, Ok, Err, IsSome, inl, inr, refl, sym, ap, ◌∙◌, subst, arith}
use Rattle.std.specs.Prelude.{pos}
use Rattle.std.proofs.lemmas.Bool.{cases_lt}
use Rattle.std.proofs.lemmas.List.{set-set, set_past, get_or-set_same}
use Rattle.nxt_types.specs.Names.{Name, name_among}
use Rattle.nxt_types.specs.Pool.{pool_size}
use Rattle.nxt_types.specs.Shapes.{Members, Cluster}
use Rattle.nxt_model.specs.Values.{Value, Num, ListOf, GroupOf, items, list_of, group_of, with_part, is_of, lists_in}
use Rattle.nxt_model.proofs.Laws.Values.{items-values}
use Rattle.nxt_values.specs.Sizes.{size_in}
use Rattle.nxt_values.specs.declared.sizing.Size.{Size}
use Rattle.nxt_space.specs.Outcomes.{Does}
use Rattle.nxt_space.specs.Variables.{Variables, SpaceViews, AreSound, name_of, shape_of, value_of, value_by, with_by, with_value, with_values, footprint_of, footprint_with}
use Rattle.nxt_space.specs.declared.fault.OpFault.{OpFault}
use Rattle.nxt_space.specs.declared.fault.OpFault.TheVariants.{PoolPassed, NoMemory}
use Rattle.nxt_space.proofs.Laws.PartSizes.{part_with_part}
use Rattle.nxt_space.proofs.Laws.Variables.{value_sizes, footprint_told}
use Rattle.nxt_operands.specs.Operands.{Done}
use Rattle.nxt_operands.proofs.Laws.InPlace.{value_again}

-- ---- the value there

reads_back : (ss : Members) (i : ℕ) (v vars : Value) (o : Option Name) → name_among ss 0 i ≡ o → is_of (Cluster ss) vars ≡ true → IsSome o → value_by o (with_by o v vars) ≡ v
reads_back ss i v vars None named is some = let f : ⊥ = cc in absurd f
reads_back ss i v vars (Some n) named is some = part_with_part ss i n v vars named is

pub value_there : (s : Variables) (i : ℕ) (v : Value) → AreSound s → IsSome (name_of s i) → value_by (name_of s i) (with_value s i v) ≡ v
value_there s i v sound some = reads_back s.shapes i v s.values (name_of s i) refl sound.shapes some

-- ---- the value after it

-- another one in the place of a list takes the place of the one before it
place_twice : (path : List ℕ) (k : ℕ) (u v : Value) (xs : List Value) → ((x : Value) → with_part path v (with_part path u x) ≡ with_part path v x) → let z = Num (pos 0) in let ys = set xs k (with_part path u (get_or xs k z)) in set ys k (with_part path v (get_or ys k z)) ≡ set xs k (with_part path v (get_or xs k z))
place_twice path k u v xs twice =
    let z = Num (pos 0) in
    let x = get_or xs k z in
    let a = with_part path u x in
    elim (cases_lt k (length xs)) [
      | inl less ↦
          ap (λ w. set (set xs k a) k (with_part path v w)) (get_or-set_same xs k a z less)
          ∙ ap (set (set xs k a) k) (twice x)
          ∙ set-set xs k a (with_part path v x)
      | inr more ↦ ap (λ ys. set ys k (with_part path v (get_or ys k z))) (set_past xs k a more)
    ]

part_twice : (path : List ℕ) (u v x : Value) → with_part path v (with_part path u x) ≡ with_part path v x
part_twice [] u v x = refl
part_twice (k ∷ ks) u v (Num z) = refl
part_twice (k ∷ ks) u v (ListOf vs) =
    let z = Num (pos 0) in
    let ys = set (items vs) k (with_part ks u (get_or (items vs) k z)) in
    ap (λ ws. list_of (set ws k (with_part ks v (get_or ws k z)))) (items-values ys)
    ∙ ap list_of (place_twice ks k u v (items vs) (part_twice ks u v))
part_twice (k ∷ ks) u v (GroupOf vs) =
    let z = Num (pos 0) in
    let ys = set (items vs) k (with_part ks u (get_or (items vs) k z)) in
    ap (λ ws. group_of (set ws k (with_part ks v (get_or ws k z)))) (items-values ys)
    ∙ ap group_of (place_twice ks k u v (items vs) (part_twice ks u v))

stored_twice : (o : Option Name) (u v vars : Value) → with_by o v (with_by o u vars) ≡ with_by o v vars
stored_twice None u v vars = refl
stored_twice (Some n) u v vars = part_twice n.path u v vars

pub value_twice : (s : Variables) (i : ℕ) (u v : Value) → with_by (name_of s i) v (with_value s i u) ≡ with_value s i v
value_twice s i u v = stored_twice (name_of s i) u v s.values

-- a value of the size of the one before it takes as much
pub same_taken : (s : Variables) (i : ℕ) (v w : Value) → AreSound s → IsSome (name_of s i) → size_in (shape_of s i) v ≡ size_in (shape_of s i) w → footprint_of (with_values (with_value s i v) s) ≡ footprint_of (with_values (with_value s i w) s)
same_taken s i v w sound some same =
    footprint_told s i v sound.shapes some
    ∙ ap (λ (z : Size). footprint_with s i z.lists z.bytes) same
    ∙ sym (footprint_told s i w sound.shapes some)

-- and is refused as it is
pub same_refused : (old new : SpaceViews) (v w : Value) → footprint_of (with_values v old.vars) ≡ footprint_of (with_values w old.vars) → (fault : OpFault) → Does {T = Unit {0}} Done v old (Err fault) new → Does {T = Unit {0}} Done w old (Err fault) new
same_refused old new v w same (PoolPassed f) h = (subst (λ n. pool_size < n) same h.0, h.1 ∙ same, h.2)
same_refused old new v w same NoMemory h = h

pub record IsExchanged (s : Variables) (i : ℕ) (v w : Value) : Type 0 where
  pub fits : footprint_of (with_values (with_value s i w) s) ≤ pool_size
  pub are : record (with_values (with_value s i v) s) { values = with_value s i w } ≡ with_values (with_value s i w) s

pub exchanged : (s : Variables) (i : ℕ) (v w : Value) → AreSound s → IsSome (name_of s i) → size_in (shape_of s i) v ≡ size_in (shape_of s i) w → footprint_of (with_values (with_value s i v) s) ≤ pool_size → IsExchanged s i v w
exchanged s i v w sound some same fits =
    let lists : lists_in (with_value s i v) ≡ lists_in (with_value s i w) =
    (value_sizes s i v sound.shapes some).lists
    ∙ ap (λ (z : Size). lists_in s.values - lists_in (value_of s i) + z.lists) same
    ∙ sym (value_sizes s i w sound.shapes some).lists
    in
    record {
      fits = subst (λ n. n ≤ pool_size) (same_taken s i v w sound some same) fits;
      are = ap {A = ℕ} (λ n. record s { values = with_value s i w; rows = max s.rows (n + 1) }) lists;
    }

-- ---- its own value

-- stored there it changes nothing
pub kept_there : (old : SpaceViews) (i j : ℕ) → AreSound old.vars → i ≡ j → Does {T = Unit {0}} Done (with_value old.vars i (value_of old.vars j)) old (Ok tt) old
kept_there old i j sound same =
    let s = old.vars in
    let rows : max s.rows (lists_in s.values + 1) ≡ s.rows = omega (arith, sound.rows) in
    let again : with_values (with_value s i (value_of s j)) s ≡ s =
    ap (λ n. with_values (with_value s n (value_of s j)) s) same
    ∙ ap (λ vars. with_values vars s) (value_again s j)
    ∙ ap {A = ℕ} (λ n. record s { rows = n }) rows
    in
    (subst (λ t. footprint_of t ≤ pool_size) (sym again) sound.pool, sym again, tt)
