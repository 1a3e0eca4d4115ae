-- Operands by their terms and by their words, side by side, and the classes of operations.
use Rattle.std.proofs.Common.{◌≡◌, ℕ, zero, suc, ◌-◌, ◌<◌, Bool, true, false, ◌&&◌, List, [], ◌∷◌, length, replicate, refl, ◌⊎◌, arith}
use Rattle.std.specs.Prelude.{⊤, slice_index_or}
use Rattle.std.specs.List.{list_all}
use Rattle.std.proofs.lemmas.Bool.{and_from, and_parts, both_ways}
use Rattle.nxt_types.specs.Opcodes.{arity, classes, pairs_of, takes}
use Rattle.nxt_types.specs.OperandRules.{Sort, Word, has_kind, is_allowed, is_of_class, sort_at}
use Rattle.nxt_types.specs.declared.instr.Op.{Op}
use Rattle.nxt_types.specs.declared.instr.Op.TheVariants as ops
use Rattle.nxt_types.specs.declared.opcodes.Class.{Class}
use Rattle.nxt_types.specs.declared.opcodes.Class.TheVariants.{Anything, Immediate, Clump, Offset, Text}
use Rattle.nxt_asm_laws_code.specs.Suits.{is_part_class}

-- ---- sorts side by side

-- an operand by its term and by its word, in a program of so many blocks
abbrev pub Matches : ℕ → Class → Sort → Sort → Type 0
Matches n Immediate o w = (o ≡ w) ⊎ (o ≡ Word 65535)
Matches n Clump o w = is_of_class n Clump w ≡ true
Matches n Offset o w = ⊤
Matches n c o w = o ≡ w

-- the operands of a statement, where those of the text are of their kinds and in range
pub record AreMatched (n : ℕ) (op : Op) (len : ℕ) (os ws : List Sort) : Type 0 where
  pub taken : takes (arity op) len ≡ true
  pub long : length os ≡ len
  pub same : length ws ≡ len
  pub each : (k : ℕ) → k < len → Matches n (slice_index_or (classes op len) k Immediate) (sort_at os k) (sort_at ws k)
  pub kinds : (k : ℕ) → k < len → has_kind 1 op os k ≡ true
  pub ranges : (k : ℕ) → k < len → is_allowed op os k ≡ true

-- lists that are the same at each position
pub same_lists : (os ws : List Sort) → length os ≡ length ws → ((k : ℕ) → k < length os → sort_at os k ≡ sort_at ws k) → os ≡ ws
same_lists [] [] l h = refl
same_lists [] (w ∷ ws) l h = absurd (omega (arith, l))
same_lists (o ∷ os) [] l h = absurd (omega (arith, l))
same_lists (o ∷ os) (w ∷ ws) l h =
    let first : o ≡ w = h 0 (omega arith) in
    let rest : os ≡ ws = same_lists os ws (omega (arith, l)) (λ k lt. h (suc k) (omega (arith, lt))) in
    cc

-- ---- classes

-- a class for which the number of clumps is no matter
abbrev pub is_unclumped : Class → Bool
is_unclumped Clump = false
is_unclumped c = true

unclumped_class : (n : ℕ) (c : Class) (o : Sort) → is_unclumped c ≡ true → is_of_class n c o ≡ is_of_class 1 c o
unclumped_class n Clump o e = absurd (both_ways false refl e)
unclumped_class n c o e = refl

pub unclumped_at : (n : ℕ) (cs : List Class) (k : ℕ) (o : Sort) → list_all is_unclumped cs ≡ true
    → is_of_class n (slice_index_or cs k Immediate) o ≡ is_of_class 1 (slice_index_or cs k Immediate) o
unclumped_at n [] zero o e = refl
unclumped_at n [] (suc k) o e = refl
unclumped_at n (c ∷ cs) zero o e = unclumped_class n c o (and_parts (is_unclumped c) (list_all is_unclumped cs) e).0
unclumped_at n (c ∷ cs) (suc k) o e = unclumped_at n cs k o (and_parts (is_unclumped c) (list_all is_unclumped cs) e).1

-- an operand of a class of parts has the same sort
pub matched_part : (n : ℕ) (c : Class) (o w : Sort) → is_part_class c ≡ true → Matches n c o w → o ≡ w
matched_part n Immediate o w e h = absurd (both_ways false refl e)
matched_part n Clump o w e h = absurd (both_ways false refl e)
matched_part n Offset o w e h = absurd (both_ways false refl e)
matched_part n c o w e h = h

pub part_at : (cs : List Class) (k : ℕ) → k < length cs → list_all is_part_class cs ≡ true → is_part_class (slice_index_or cs k Immediate) ≡ true
part_at [] k lt e = absurd (omega (arith, lt))
part_at (c ∷ cs) zero lt e = (and_parts (is_part_class c) (list_all is_part_class cs) e).0
part_at (c ∷ cs) (suc k) lt e = part_at cs k (omega (arith, lt)) (and_parts (is_part_class c) (list_all is_part_class cs) e).1

-- classes that are all alike, and pairs of them
all_replicated : (p : Class → Bool) (c : Class) (m : ℕ) → p c ≡ true → list_all p (replicate m c) ≡ true
all_replicated p c zero e = refl
all_replicated p c (suc m) e = and_from (p c) (list_all p (replicate m c)) e (all_replicated p c m e)

pub all_pairs : (p : Class → Bool) (c d : Class) (m : ℕ) → p c ≡ true → p d ≡ true → list_all p (pairs_of c d m) ≡ true
all_pairs p c d zero e f = refl
all_pairs p c d (suc m) e f = and_from (p c) (p d && list_all p (pairs_of c d m)) e (and_from (p d) (list_all p (pairs_of c d m)) f (all_pairs p c d m e f))

-- ---- operations

-- the operations with operands that are no parts, and set
abbrev pub is_exact : Op → Bool
is_exact ops.Jmp = false
is_exact ops.Brcmp = false
is_exact ops.Brtst = false
is_exact ops.Finclump = false
is_exact ops.Finclumpimmed = false
is_exact ops.Subcall = false
is_exact ops.Set = false
is_exact ops.Syscall = false
is_exact ops.Setin = false
is_exact ops.Setout = false
is_exact ops.Getin = false
is_exact ops.Getout = false
is_exact op = true

-- their operands are parts
pub exact_parts : (op : Op) (m : ℕ) → is_exact op ≡ true → list_all is_part_class (classes op m) ≡ true
exact_parts ops.Arrbuild m e = all_replicated is_part_class Anything (m - 1) refl
exact_parts ops.Strcat m e = all_replicated is_part_class Text (m - 1) refl
exact_parts ops.Jmp m e = absurd (both_ways false refl e)
exact_parts ops.Brcmp m e = absurd (both_ways false refl e)
exact_parts ops.Brtst m e = absurd (both_ways false refl e)
exact_parts ops.Finclump m e = absurd (both_ways false refl e)
exact_parts ops.Finclumpimmed m e = absurd (both_ways false refl e)
exact_parts ops.Subcall m e = absurd (both_ways false refl e)
exact_parts ops.Set m e = absurd (both_ways false refl e)
exact_parts ops.Syscall m e = absurd (both_ways false refl e)
exact_parts ops.Setin m e = absurd (both_ways false refl e)
exact_parts ops.Setout m e = absurd (both_ways false refl e)
exact_parts ops.Getin m e = absurd (both_ways false refl e)
exact_parts ops.Getout m e = absurd (both_ways false refl e)
exact_parts op m e = refl

-- for which the number of clumps is no matter
part_unclumped : (c : Class) → is_part_class c ≡ true → is_unclumped c ≡ true
part_unclumped Clump e = absurd (both_ways false refl e)
part_unclumped c e = refl

pub parts_unclumped : (cs : List Class) → list_all is_part_class cs ≡ true → list_all is_unclumped cs ≡ true
parts_unclumped [] e = refl
parts_unclumped (c ∷ cs) e =
    let both = and_parts (is_part_class c) (list_all is_part_class cs) e in
    and_from (is_unclumped c) (list_all is_unclumped cs) (part_unclumped c both.0) (parts_unclumped cs both.1)
