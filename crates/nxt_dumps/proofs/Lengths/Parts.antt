-- Values with other parts are of their shapes.
use Rattle.std.proofs.Common.{◌≡◌, ℕ, zero, suc, true, List, [], ◌∷◌, ◌++◌, get_or, set, refl, ap, ◌∙◌}
use Rattle.std.specs.Prelude.{pos}
use Rattle.std.proofs.lemmas.Bool.{and_parts, and_from, false≢true}
use Rattle.nxt_types.specs.Shapes.{Shape, Void, Number, Array, Cluster, Mutex, Members, no_members, member, shapes_of}
use Rattle.nxt_model.specs.Values.{Value, Num, ListOf, GroupOf, items, is_of, are_of, with_part}
use Rattle.nxt_model.specs.SystemCalls.{field_shape}
use Rattle.nxt_model.specs.Dump.{shape_under}
use Rattle.nxt_model.proofs.Laws.Values.{items-values}
use Rattle.nxt_dumps.specs.Runnable.{EntersNoList}

-- ---- shapes

-- what is no cluster has no fields
pub under_void : (ks : List ℕ) → shape_under Void ks ≡ Void
under_void [] = refl
under_void (k ∷ ks) = under_void ks

pub under_append : (s : Shape) (ks ls : List ℕ) → shape_under s (ks ++ ls) ≡ shape_under (shape_under s ks) ls
under_append s [] ls = refl
under_append s (k ∷ ks) ls = under_append (field_shape k s) ks ls

void_entered : (ks : List ℕ) → EntersNoList Void ks
void_entered [] = tt
void_entered (k ∷ ks) = tt

-- a way goes on from where it led
pub enters_more : (s : Shape) (ks ls : List ℕ) → EntersNoList s ks → EntersNoList (shape_under s ks) ls → EntersNoList s (ks ++ ls)
enters_more s [] ls e f = f
enters_more Void (k ∷ ks) ls e f = tt
enters_more (Number n) (k ∷ ks) ls e f = tt
enters_more (Array stride s) (k ∷ ks) ls e f = absurd e
enters_more (Cluster ss) (k ∷ ks) ls e f = enters_more (field_shape k (Cluster ss)) ks ls e f
enters_more Mutex (k ∷ ks) ls e f = tt

-- ---- members

-- a member, or what stands for one that isn't there
pub member_of : (ss : Members) (vs : List Value) (k : ℕ) → are_of ss vs ≡ true → is_of (get_or (shapes_of ss) k Void) (get_or vs k (Num (pos 0))) ≡ true
member_of no_members [] k e = refl
member_of no_members (v ∷ vs) k e = absurd (false≢true e)
member_of (member s ss) [] k e = absurd (false≢true e)
member_of (member s ss) (v ∷ vs) zero e = (and_parts (is_of s v) (are_of ss vs) e).0
member_of (member s ss) (v ∷ vs) (suc k) e = member_of ss vs k (and_parts (is_of s v) (are_of ss vs) e).1

set_of : (ss : Members) (vs : List Value) (k : ℕ) (w : Value) → are_of ss vs ≡ true → is_of (get_or (shapes_of ss) k Void) w ≡ true → are_of ss (set vs k w) ≡ true
set_of no_members [] k w e f = refl
set_of no_members (v ∷ vs) k w e f = absurd (false≢true e)
set_of (member s ss) [] k w e f = absurd (false≢true e)
set_of (member s ss) (v ∷ vs) zero w e f = and_from (is_of s w) (are_of ss vs) f (and_parts (is_of s v) (are_of ss vs) e).1
set_of (member s ss) (v ∷ vs) (suc k) w e f =
    let both = and_parts (is_of s v) (are_of ss vs) e in
    and_from (is_of s v) (are_of ss (set vs k w)) both.0 (set_of ss vs k w both.1 f)

-- ---- parts

-- a value with another part of its shape is of the same shape
pub with_part_of : (s : Shape) (ks : List ℕ) (w v : Value) → EntersNoList s ks → is_of s v ≡ true → is_of (shape_under s ks) w ≡ true → is_of s (with_part ks w v) ≡ true
with_part_of s [] w v e f g = g
with_part_of Void (k ∷ ks) w (Num z) e f g = f
with_part_of Void (k ∷ ks) w (ListOf vs) e f g = absurd (false≢true f)
with_part_of Void (k ∷ ks) w (GroupOf vs) e f g = absurd (false≢true f)
with_part_of (Number n) (k ∷ ks) w (Num z) e f g = f
with_part_of (Number n) (k ∷ ks) w (ListOf vs) e f g = absurd (false≢true f)
with_part_of (Number n) (k ∷ ks) w (GroupOf vs) e f g = absurd (false≢true f)
with_part_of (Array stride s) (k ∷ ks) w v e f g = absurd e
with_part_of (Cluster ss) (k ∷ ks) w (Num z) e f g = absurd (false≢true f)
with_part_of (Cluster ss) (k ∷ ks) w (ListOf vs) e f g = absurd (false≢true f)
with_part_of (Cluster ss) (k ∷ ks) w (GroupOf vs) e f g =
    let old = get_or (items vs) k (Num (pos 0)) in
    let new = with_part ks w old in
    ap (are_of ss) (items-values (set (items vs) k new))
    ∙ set_of ss (items vs) k new f (with_part_of (field_shape k (Cluster ss)) ks w old e (member_of ss (items vs) k f) g)
with_part_of Mutex (k ∷ ks) w (Num z) e f g = f
with_part_of Mutex (k ∷ ks) w (ListOf vs) e f g = absurd (false≢true f)
with_part_of Mutex (k ∷ ks) w (GroupOf vs) e f g = absurd (false≢true f)
