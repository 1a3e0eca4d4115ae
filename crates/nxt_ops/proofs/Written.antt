-- Words that are written as the bytes of numbers, and the list that they are then.
use Rattle.std.proofs.Common.{◌≡◌, ℕ, ◌+◌, ◌*◌, ◌/◌, ◌%◌, ◌<◌, List, [], ◌∷◌, map, length, get_or, set, pos, refl, sym, ap, ◌∙◌, subst, arith}
use Rattle.std.proofs.Math.Nat.{mul-mod_left}
use Rattle.nxt_types.specs.Arithmetic.{leaf_size, cut}
use Rattle.nxt_types.specs.Shapes.{Number}
use Rattle.nxt_types.specs.declared.kind.Kind.{Kind}
use Rattle.nxt_types.specs.declared.kind.Kind.TheVariants.{Ubyte, Sbyte, Uword, Sword, Ulong, Slong}
use Rattle.nxt_model.specs.Values.{Value, Num, elements, list_of, stored}
use Rattle.nxt_model.proofs.Laws.Values.{items-values}
use Rattle.nxt_values.specs.Writes.{put, bytes_of_number}
use Rattle.nxt_values.proofs.Laws.Numbers.{length_put}
use Rattle.nxt_space.specs.Spots.{IsListSpot, numbers_in_bytes}
use Rattle.nxt_space.specs.Variables.{Variables, shape_of}
use Rattle.nxt_space.specs.declared.spots.ListSpot.{ListSpot}
use Rattle.nxt_space.proofs.Laws.InBytes.{numbers_counted, numbers_put, numbers_listed}
use Rattle.nxt_ops.specs.Passes.{AreWritten, list_of_words}
use Rattle.nxt_ops.proofs.Passing.{Passed, passed_more, passed_all}

-- bytes of so many numbers hold so many
so_many : (k : Kind) (n : ℕ) → n * leaf_size k / leaf_size k ≡ n
so_many Ubyte n = omega arith
so_many Sbyte n = omega arith
so_many Uword n = omega arith
so_many Sword n = omega arith
so_many Ulong n = omega arith
so_many Slong n = omega arith

counted : (k : Kind) (bytes : List ℕ) (n : ℕ) → length bytes ≡ n * leaf_size k → length (elements (numbers_in_bytes k bytes)) ≡ n
counted k bytes n long = sym (numbers_counted k bytes) ∙ ap (λ m. m / leaf_size k) long ∙ so_many k n

-- so many words are written
abbrev pub Write : Kind → List ℕ → List ℕ → List ℕ → ℕ → Type 0
Write kind words old now k =
    Passed (λ w. Num (cut kind (pos w))) words (elements (numbers_in_bytes kind old)) (elements (numbers_in_bytes kind now)) k

-- one more
pub write_more : (kind : Kind) (words old now next : List ℕ) (k : ℕ) → k < length words → length old ≡ length words * leaf_size kind → length now ≡ length old → Write kind words old now k → next ≡ put (bytes_of_number kind (pos (get_or words k 0))) (k * leaf_size kind) now → Write kind words old next (k + 1)
write_more kind words old now next k less long same e is =
    let w = get_or words k 0 in
    let f : ℕ → Value = λ w. Num (cut kind (pos w)) in
    let xs = elements (numbers_in_bytes kind old) in
    let ys = elements (numbers_in_bytes kind now) in
    let many : length now / leaf_size kind ≡ length words = ap (λ m. m / leaf_size kind) (same ∙ long) ∙ so_many kind (length words) in
    let here : elements (numbers_in_bytes kind next) ≡ set ys k (f w) =
    ap (λ bytes. elements (numbers_in_bytes kind bytes)) is
    ∙ ap elements (numbers_put kind now k (pos w) (omega (arith, less, many)))
    ∙ items-values (set ys k (f w)) in
    subst
    (λ zs. Passed f words xs zs (k + 1))
    (sym here)
    (passed_more f words xs ys k 0 (f w) less (counted kind old (length words) long) e refl)

pub write_long : (kind : Kind) (w k : ℕ) (now next old : List ℕ) → next ≡ put (bytes_of_number kind (pos w)) (k * leaf_size kind) now → length now ≡ length old → length next ≡ length old
write_long kind w k now next old is same = ap length is ∙ length_put (bytes_of_number kind (pos w)) (k * leaf_size kind) now ∙ same

-- all of them
pub write_all : (kind : Kind) (words old now : List ℕ) (k : ℕ) → k ≡ length words → length old ≡ length words * leaf_size kind → length now ≡ length old → Write kind words old now k → AreWritten kind now words
write_all kind words old now k end long same e =
    let f : ℕ → Value = λ w. Num (cut kind (pos w)) in
    record {
      long = same ∙ long;
      are = passed_all f words (elements (numbers_in_bytes kind old)) (elements (numbers_in_bytes kind now)) k end (counted kind old (length words) long) e;
    }

-- ---- what they are in a list

pub written_whole : {k : Kind} {bytes ws : List ℕ} → AreWritten k bytes ws → length bytes % leaf_size k ≡ 0
written_whole {k} {bytes} {ws} e = ap (λ m. m % leaf_size k) e.long ∙ mul-mod_left (length ws) (leaf_size k)

cut_words : (k : Kind) (ws : List ℕ) → map (stored (Number k)) (map (λ w. Num (pos w)) ws) ≡ map (λ w. Num (cut k (pos w))) ws
cut_words k [] = refl
cut_words k (w ∷ ws) = ap (λ vs. Num (cut k (pos w)) ∷ vs) (cut_words k ws)

-- they are stored in a list of their kind
pub written_stored : (s : Variables) (i : ℕ) (list : ListSpot) (bytes ws : List ℕ) → IsListSpot s i list → AreWritten list.kind bytes ws → numbers_in_bytes list.kind bytes ≡ stored (shape_of s i) (list_of_words ws)
written_stored s i list bytes ws is e =
    let k = list.kind in
    numbers_listed k bytes
    ∙ ap list_of (e.are ∙ sym (cut_words k ws) ∙ ap (map (stored (Number k))) (sym (items-values (map (λ w. Num (pos w)) ws))))
    ∙ ap (λ t. stored t (list_of_words ws)) (sym is.shape)
