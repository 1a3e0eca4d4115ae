-- Immediates that are allowed are no greatest words.
use Rattle.std.proofs.Common.{◌≡◌, ℕ, zero, suc, ◌-◌, ◌/◌, ◌<◌, Bool, true, false, not, nat_le, List, [], ◌∷◌, length, replicate, refl, sym, ap, ◌∙◌, ◌⊎◌, inl, inr, arith, eqb-true}
use Rattle.std.specs.Prelude.{slice_index_or}
use Rattle.std.specs.List.{list_all}
use Rattle.std.proofs.lemmas.Bool.{and_from, and_parts, both_ways}
use Rattle.nxt_types.specs.Calls.{call_of}
use Rattle.nxt_types.specs.Opcodes.{arity, classes, pairs_of, takes}
use Rattle.nxt_types.specs.OperandRules.{Sort, Word, is_allowed, is_call, sort_at, word_of}
use Rattle.nxt_types.specs.declared.instr.Op.{Op}
use Rattle.nxt_types.specs.declared.instr.Op.TheVariants as ops
use Rattle.nxt_types.specs.declared.opcodes.Class.{Class}
use Rattle.nxt_types.specs.declared.opcodes.Class.TheVariants.{Anything, Immediate, NumberIn, Text, NumberOut}
use Rattle.nxt_nbc_lines.proofs.Laws.Classes.{count_classes}
use Rattle.nxt_asm_laws.proofs.Laws.Forms.{is_end}
use Rattle.nxt_asm_laws_code.proofs.SortRules.{is_set, pair_at}

-- ---- classes

abbrev is_immediate : Class → Bool
is_immediate Immediate = true
is_immediate c = false

-- the operations with immediates
abbrev has_immediate : Op → Bool
has_immediate ops.Set = true
has_immediate ops.Finclump = true
has_immediate ops.Syscall = true
has_immediate ops.Setin = true
has_immediate ops.Setout = true
has_immediate ops.Getin = true
has_immediate ops.Getout = true
has_immediate op = false

abbrev is_other : Class → Bool
is_other c = not (is_immediate c)

others_replicated : (c : Class) (m : ℕ) → is_other c ≡ true → list_all is_other (replicate m c) ≡ true
others_replicated c zero e = refl
others_replicated c (suc m) e = and_from (is_other c) (list_all is_other (replicate m c)) e (others_replicated c m e)

others_there : (op : Op) (m : ℕ) → has_immediate op ≡ false → list_all is_other (classes op m) ≡ true
others_there ops.Arrbuild m e = others_replicated Anything (m - 1) refl
others_there ops.Strcat m e = others_replicated Text (m - 1) refl
others_there ops.Set m e = absurd (both_ways true e refl)
others_there ops.Finclump m e = absurd (both_ways true e refl)
others_there ops.Syscall m e = absurd (both_ways true e refl)
others_there ops.Setin m e = absurd (both_ways true e refl)
others_there ops.Setout m e = absurd (both_ways true e refl)
others_there ops.Getin m e = absurd (both_ways true e refl)
others_there ops.Getout m e = absurd (both_ways true e refl)
others_there op m e = refl

none_immediate : (cs : List Class) (k : ℕ) → k < length cs → list_all is_other cs ≡ true → slice_index_or cs k Immediate ≡ Immediate → ⊥
none_immediate [] k lt e is = omega (arith, lt)
none_immediate (c ∷ cs) zero lt e is =
    let no : not (is_immediate c) ≡ true = (and_parts (is_other c) (list_all is_other cs) e).0 in
    both_ways (not (is_immediate c)) (ap (λ x. not (is_immediate x)) is) no
none_immediate (c ∷ cs) (suc k) lt e is = none_immediate cs k (omega (arith, lt)) (and_parts (is_other c) (list_all is_other cs) e).1 is

-- a class that is another one
other_class : (c : Class) → is_immediate c ≡ false → c ≡ Immediate → ⊥
other_class c e is = both_ways (is_immediate c) e (ap is_immediate is)

-- ---- words

-- a test that refuses the greatest word
refuses : (P : ℕ → Bool) (o : Sort) → P 65535 ≡ false → P (word_of o) ≡ true → o ≡ Word 65535 → ⊥
refuses P o none there is = both_ways (P 65535) none (ap (λ s. P (word_of s)) (sym is) ∙ there)

setout_narrow : (len : ℕ) (os : List Sort) (k : ℕ) → takes (arity ops.Setout) len ≡ true → length os ≡ len → k < len → slice_index_or (classes ops.Setout len) k Immediate ≡ Immediate
    → is_allowed ops.Setout os k ≡ true → sort_at os k ≡ Word 65535 → ⊥
setout_narrow len [] k taken long lt is allowed greatest = omega (arith, long, lt)
setout_narrow len (o ∷ os) zero taken long lt is allowed greatest = other_class Anything refl is
setout_narrow len (o ∷ os) (suc j) taken long lt is allowed greatest = by (pair_at ((len - 1) / 2) os j (omega (arith, lt, long)) allowed)
  where
    many : suc (length (pairs_of Immediate NumberIn ((len - 1) / 2))) ≡ len
    many = count_classes ops.Setout len taken

    by : (slice_index_or (pairs_of Immediate NumberIn ((len - 1) / 2)) j Immediate ≡ NumberIn)
        ⊎ ((slice_index_or (pairs_of Immediate NumberIn ((len - 1) / 2)) j Immediate ≡ Immediate) × (nat_le (word_of (sort_at os j)) 14 ≡ true)) ⊎ (length (pairs_of Immediate NumberIn ((len - 1) / 2)) < suc j)
        → ⊥
    by (inl e) = other_class NumberIn refl (sym e ∙ is)
    by (inr (inl f)) = refuses (λ v. nat_le v 14) (sort_at os j) refl f.1 greatest
    by (inr (inr f)) = omega (arith, f, many, lt)

-- an immediate of a statement that a text may have, other than one of a set
pub immediate_narrow : (op : Op) (len : ℕ) (os : List Sort) (k : ℕ) → takes (arity op) len ≡ true → length os ≡ len → k < len
    → slice_index_or (classes op len) k Immediate ≡ Immediate → is_set op ≡ false → is_end op ≡ false → is_allowed op os k ≡ true → sort_at os k ≡ Word 65535 → ⊥
immediate_narrow ops.Set len os k taken long lt is set end allowed greatest = both_ways true set refl
immediate_narrow ops.Finclump len os k taken long lt is set end allowed greatest = both_ways true end refl
immediate_narrow ops.Syscall len os zero taken long lt is set end allowed greatest = refuses (λ v. is_call (call_of v)) (sort_at os 0) refl allowed greatest
immediate_narrow ops.Syscall len os (suc zero) taken long lt is set end allowed greatest = other_class Anything refl is
immediate_narrow ops.Syscall len os (suc (suc k)) taken long lt is set end allowed greatest = let two = eqb-true len 2 taken in omega (arith, lt, two)
immediate_narrow ops.Setin len os zero taken long lt is set end allowed greatest = other_class NumberIn refl is
immediate_narrow ops.Setin len os (suc zero) taken long lt is set end allowed greatest = other_class NumberIn refl is
immediate_narrow ops.Setin len os (suc (suc zero)) taken long lt is set end allowed greatest = refuses (λ v. nat_le v 5) (sort_at os 2) refl allowed greatest
immediate_narrow ops.Setin len os (suc (suc (suc k))) taken long lt is set end allowed greatest = let three = eqb-true len 3 taken in omega (arith, lt, three)
immediate_narrow ops.Getin len os zero taken long lt is set end allowed greatest = other_class NumberOut refl is
immediate_narrow ops.Getin len os (suc zero) taken long lt is set end allowed greatest = other_class NumberIn refl is
immediate_narrow ops.Getin len os (suc (suc zero)) taken long lt is set end allowed greatest = refuses (λ v. nat_le v 5) (sort_at os 2) refl allowed greatest
immediate_narrow ops.Getin len os (suc (suc (suc k))) taken long lt is set end allowed greatest = let three = eqb-true len 3 taken in omega (arith, lt, three)
immediate_narrow ops.Getout len os zero taken long lt is set end allowed greatest = other_class NumberOut refl is
immediate_narrow ops.Getout len os (suc zero) taken long lt is set end allowed greatest = other_class NumberIn refl is
immediate_narrow ops.Getout len os (suc (suc zero)) taken long lt is set end allowed greatest = refuses (λ v. nat_le v 14) (sort_at os 2) refl allowed greatest
immediate_narrow ops.Getout len os (suc (suc (suc k))) taken long lt is set end allowed greatest = let three = eqb-true len 3 taken in omega (arith, lt, three)
immediate_narrow ops.Setout len os k taken long lt is set end allowed greatest = setout_narrow len os k taken long lt is allowed greatest
immediate_narrow op len os k taken long lt is set end allowed greatest =
    let many = count_classes op len taken in none_immediate (classes op len) k (omega (arith, many, lt)) (others_there op len refl) is
