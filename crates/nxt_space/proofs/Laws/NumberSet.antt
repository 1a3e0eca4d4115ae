-- Sound variables are sound with a number stored in them.
use Rattle.std.proofs.Common.{◌≡◌, ℕ, true, Option, Some, None, IsTrue, refl, arith}
use Rattle.std.specs.Prelude.{ℤ}
use Rattle.std.proofs.lemmas.Bool.Decides.{Decides-int_eq}
use Rattle.nxt_types.specs.Arithmetic.{cut, word}
use Rattle.nxt_types.specs.Names.{Name}
use Rattle.nxt_types.specs.Shapes.{Shape, Void, Number, Array, Cluster, Mutex, is_number}
use Rattle.nxt_model.specs.Values.{Value, Num, ListOf, GroupOf, part, stored, is_of, lists_in}
use Rattle.nxt_model.specs.Footprint.{list_bytes}
use Rattle.nxt_space.specs.Variables.{Variables, AreSound, name_of, shape_of, shape_by, with_by, with_value}
use Rattle.nxt_types.proofs.Laws.Kinds.{cut-extend}
use Rattle.nxt_space.proofs.Laws.PartSizes.{lists_with_part, bytes_with_part, part_of_shape, with_part_of_shape}

-- a value of the shape, in which no list stands
record IsPlain (s : Shape) (v : Value) : Type 0 where
  of : is_of s v ≡ true
  lists : lists_in v ≡ 0
  bytes : list_bytes s v ≡ 0

plain_stored : (s : Shape) (x : ℤ) → IsTrue (is_number s) → IsPlain s (stored s (Num x))
plain_stored (Number k) x is = record { of = (Decides-int_eq (cut k (cut k x)) (cut k x)).1 (cut-extend k (word x)); lists = refl; bytes = refl }
plain_stored Void x is = let f : ⊥ = cc in absurd f
plain_stored (Array stride s) x is = let f : ⊥ = cc in absurd f
plain_stored (Cluster ss) x is = let f : ⊥ = cc in absurd f
plain_stored Mutex x is = let f : ⊥ = cc in absurd f

plain_number : (s : Shape) (v : Value) → IsTrue (is_number s) → is_of s v ≡ true → IsPlain s v
plain_number (Number k) (Num z) is e = record { of = e; lists = refl; bytes = refl }
plain_number (Number k) (ListOf vs) is e = let f : ⊥ = cc in absurd f
plain_number (Number k) (GroupOf vs) is e = let f : ⊥ = cc in absurd f
plain_number Void v is e = let f : ⊥ = cc in absurd f
plain_number (Array stride s) v is e = let f : ⊥ = cc in absurd f
plain_number (Cluster ss) v is e = let f : ⊥ = cc in absurd f
plain_number Mutex v is e = let f : ⊥ = cc in absurd f

sound_by : (s : Variables) (i : ℕ) (x : ℤ) (o : Option Name) → name_of s i ≡ o → IsTrue (is_number (shape_by o)) → AreSound s → AreSound (record s { values = with_by o (stored (shape_by o) (Num x)) s.values })
sound_by s i x None named is e = let f : ⊥ = cc in absurd f
sound_by s i x (Some n) named is e =
    let v = stored n.shape (Num x) in
    let new = plain_stored n.shape x is in
    let old = plain_number n.shape (part n.path s.values) is (part_of_shape s.shapes i n s.values named e.shapes) in
    record {
      entries = e.entries;
      strides = e.strides;
      shapes = with_part_of_shape s.shapes i n v s.values named e.shapes new.of;
      rows = omega (arith, e.rows, lists_with_part s.shapes i n v s.values named e.shapes, old.lists, new.lists);
      pool = omega (arith, e.pool, bytes_with_part s.shapes i n v s.values named e.shapes, old.bytes, new.bytes);
    }

-- where the entry names a number
pub set_sound : (s : Variables) (i : ℕ) (x : ℤ) → IsTrue (is_number (shape_of s i)) → AreSound s → AreSound (record s { values = with_value s i (stored (shape_of s i) (Num x)) })
set_sound s i x is e = sound_by s i x (name_of s i) refl is e
