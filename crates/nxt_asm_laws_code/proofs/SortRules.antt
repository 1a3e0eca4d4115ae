-- Statements whose operands fit by their sorts in the text fit by their words.
use Rattle.std.proofs.Common.{◌≡◌, ℕ, zero, suc, ◌-◌, ◌/◌, ◌<◌, Bool, true, false, ◌&&◌, nat_le, List, [], ◌∷◌, length, refl, sym, ap, subst, ◌∙◌, ◌⊎◌, inl, inr, arith, eqb-true}
use Rattle.std.specs.Prelude.{slice_index_or}
use Rattle.std.specs.List.{list_all}
use Rattle.std.proofs.lemmas.Bool.{and_from, both_ways}
use Rattle.nxt_types.specs.Calls.{call_of}
use Rattle.nxt_types.specs.Opcodes.{classes, pairs_of}
use Rattle.nxt_types.specs.OperandRules.{Sort, Word, are_alike, asked, has_kind, is_allowed, is_call, is_plain, is_value, operand_fits, pairs_fit, shape_of, sort_at, word_of}
use Rattle.nxt_types.specs.Shapes.{is_number}
use Rattle.nxt_types.specs.declared.instr.Op.{Op}
use Rattle.nxt_types.specs.declared.instr.Op.TheVariants as ops
use Rattle.nxt_types.specs.declared.opcodes.Class.TheVariants.{Immediate, NumberIn}
use Rattle.nxt_nbc_lines.proofs.Laws.Classes.{count_classes}
use Rattle.nxt_asm_laws_code.proofs.MatchedSorts.{AreMatched, Matches, all_pairs, exact_parts, is_exact, is_unclumped, matched_part, part_at, parts_unclumped, same_lists, unclumped_at}

-- ---- operands that are the same

-- operands that are all the same fit alike
same_fit : (n : ℕ) (op : Op) (len : ℕ) (os ws : List Sort) → AreMatched n op len os ws → ((m : ℕ) → list_all is_unclumped (classes op m) ≡ true)
    → ((k : ℕ) → k < len → sort_at os k ≡ sort_at ws k) → (k : ℕ) → k < len → operand_fits n op ws k ≡ true
same_fit n op len os ws h un alike k lt =
    let l = h.long in
    let m = h.same in
    let all : os ≡ ws = same_lists os ws (omega (arith, l, m)) (λ j under. alike j (omega (arith, under, l))) in
    let more : Bool = slice_index_or (asked op (λ i. shape_of (sort_at os i)) (λ i. word_of (sort_at os i)) os) k true in
    let kind : has_kind n op os k ≡ true = ap (λ b. b && more) (unclumped_at n (classes op (length os)) k (sort_at os k) (un (length os))) ∙ h.kinds k lt in
    subst (λ l. operand_fits n op l k ≡ true) all (and_from (has_kind n op os k) (is_allowed op os k) kind (h.ranges k lt))

-- operations whose operands are all parts
exact_fit : (n : ℕ) (op : Op) (len : ℕ) (os ws : List Sort) → AreMatched n op len os ws → is_exact op ≡ true → (k : ℕ) → k < len → operand_fits n op ws k ≡ true
exact_fit n op len os ws h e =
    let many = count_classes op len h.taken in
    same_fit n op len os ws h (λ m. parts_unclumped (classes op m) (exact_parts op m e))
    (λ k lt. matched_part n (slice_index_or (classes op len) k Immediate) (sort_at os k) (sort_at ws k)
    (part_at (classes op len) k (omega (arith, many, lt)) (exact_parts op len e)) (h.each k lt))

-- an immediate that is no greatest word
not_greatest : (P : ℕ → Bool) (o w : Sort) → P 65535 ≡ false → P (word_of o) ≡ true → (o ≡ w) ⊎ (o ≡ Word 65535) → o ≡ w
not_greatest P o w none there (inl e) = e
not_greatest P o w none there (inr e) = absurd (both_ways (P 65535) none (ap (λ s. P (word_of s)) (sym e) ∙ there))

module _ (n len : ℕ) (os ws : List Sort) where
  syscall_fit : AreMatched n ops.Syscall len os ws → (k : ℕ) → k < len → operand_fits n ops.Syscall ws k ≡ true
  syscall_fit h = same_fit n ops.Syscall len os ws h (λ m. refl) by
    where
      two : len ≡ 2
      two = eqb-true len 2 h.taken

      by : (k : ℕ) → k < len → sort_at os k ≡ sort_at ws k
      by zero lt = not_greatest (λ v. is_call (call_of v)) (sort_at os 0) (sort_at ws 0) refl (h.ranges 0 lt) (h.each 0 lt)
      by (suc zero) lt = h.each 1 lt
      by (suc (suc k)) lt = absurd (omega (arith, lt, two))

  -- properties of sensors and motors
  setin_fit : AreMatched n ops.Setin len os ws → (k : ℕ) → k < len → operand_fits n ops.Setin ws k ≡ true
  setin_fit h = same_fit n ops.Setin len os ws h (λ m. refl) by
    where
      three : len ≡ 3
      three = eqb-true len 3 h.taken

      by : (k : ℕ) → k < len → sort_at os k ≡ sort_at ws k
      by zero lt = h.each 0 lt
      by (suc zero) lt = h.each 1 lt
      by (suc (suc zero)) lt = not_greatest (λ v. nat_le v 5) (sort_at os 2) (sort_at ws 2) refl (h.ranges 2 lt) (h.each 2 lt)
      by (suc (suc (suc k))) lt = absurd (omega (arith, lt, three))

  getin_fit : AreMatched n ops.Getin len os ws → (k : ℕ) → k < len → operand_fits n ops.Getin ws k ≡ true
  getin_fit h = same_fit n ops.Getin len os ws h (λ m. refl) by
    where
      three : len ≡ 3
      three = eqb-true len 3 h.taken

      by : (k : ℕ) → k < len → sort_at os k ≡ sort_at ws k
      by zero lt = h.each 0 lt
      by (suc zero) lt = h.each 1 lt
      by (suc (suc zero)) lt = not_greatest (λ v. nat_le v 5) (sort_at os 2) (sort_at ws 2) refl (h.ranges 2 lt) (h.each 2 lt)
      by (suc (suc (suc k))) lt = absurd (omega (arith, lt, three))

  getout_fit : AreMatched n ops.Getout len os ws → (k : ℕ) → k < len → operand_fits n ops.Getout ws k ≡ true
  getout_fit h = same_fit n ops.Getout len os ws h (λ m. refl) by
    where
      three : len ≡ 3
      three = eqb-true len 3 h.taken

      by : (k : ℕ) → k < len → sort_at os k ≡ sort_at ws k
      by zero lt = h.each 0 lt
      by (suc zero) lt = h.each 1 lt
      by (suc (suc zero)) lt = not_greatest (λ v. nat_le v 14) (sort_at os 2) (sort_at ws 2) refl (h.ranges 2 lt) (h.each 2 lt)
      by (suc (suc (suc k))) lt = absurd (omega (arith, lt, three))

-- ---- pairs

-- a position among pairs is that of a value, or of a property that is in range
pub pair_at : (m : ℕ) (xs : List Sort) (j : ℕ) → j < length xs → slice_index_or (pairs_fit 14 xs) j true ≡ true
    → (slice_index_or (pairs_of Immediate NumberIn m) j Immediate ≡ NumberIn)
    ⊎ ((slice_index_or (pairs_of Immediate NumberIn m) j Immediate ≡ Immediate) × (nat_le (word_of (sort_at xs j)) 14 ≡ true)) ⊎ (length (pairs_of Immediate NumberIn m) < suc j)
pair_at zero xs j lt e = inr (inr (omega arith))
pair_at (suc m) [] j lt e = absurd (omega (arith, lt))
pair_at (suc m) (x ∷ []) zero lt e = inr (inl (refl, e))
pair_at (suc m) (x ∷ []) (suc j) lt e = absurd (omega (arith, lt))
pair_at (suc m) (x ∷ y ∷ xs) zero lt e = inr (inl (refl, e))
pair_at (suc m) (x ∷ y ∷ xs) (suc zero) lt e = inl refl
pair_at (suc m) (x ∷ y ∷ xs) (suc (suc j)) lt e = by (pair_at m xs j (omega (arith, lt)) e)
  where
    by : (slice_index_or (pairs_of Immediate NumberIn m) j Immediate ≡ NumberIn)
        ⊎ ((slice_index_or (pairs_of Immediate NumberIn m) j Immediate ≡ Immediate) × (nat_le (word_of (sort_at xs j)) 14 ≡ true)) ⊎ (length (pairs_of Immediate NumberIn m) < suc j)
        → (slice_index_or (pairs_of Immediate NumberIn m) j Immediate ≡ NumberIn)
        ⊎ ((slice_index_or (pairs_of Immediate NumberIn m) j Immediate ≡ Immediate) × (nat_le (word_of (sort_at xs j)) 14 ≡ true)) ⊎ (suc (suc (length (pairs_of Immediate NumberIn m))) < suc (suc (suc j)))
    by (inl f) = inl f
    by (inr (inl f)) = inr (inl f)
    by (inr (inr f)) = inr (inr (omega (arith, f)))

-- the operands of setout
setout_parts : (n len : ℕ) (os ws : List Sort) → AreMatched n ops.Setout len os ws → (k : ℕ) → k < len → sort_at os k ≡ sort_at ws k
setout_parts n len [] ws h k lt = absurd (let l = h.long in omega (arith, l, lt))
setout_parts n len (o ∷ os) ws h zero lt = h.each 0 lt
setout_parts n len (o ∷ os) ws h (suc j) lt =
    let l = h.long in
    let m : ℕ = (len - 1) / 2 in
    let many = count_classes ops.Setout len h.taken in
    let is = h.each (suc j) lt in
    by (sort_at os j) (sort_at ws (suc j)) m many is (pair_at m os j (omega (arith, lt, l)) (h.ranges (suc j) lt))
  where
    by : (x w : Sort) (m : ℕ) → suc (length (pairs_of Immediate NumberIn m)) ≡ len → Matches n (slice_index_or (pairs_of Immediate NumberIn m) j Immediate) x w
        → (slice_index_or (pairs_of Immediate NumberIn m) j Immediate ≡ NumberIn)
        ⊎ ((slice_index_or (pairs_of Immediate NumberIn m) j Immediate ≡ Immediate) × (nat_le (word_of x) 14 ≡ true)) ⊎ (length (pairs_of Immediate NumberIn m) < suc j)
        → x ≡ w
    by x w m many is (inl e) = subst (λ c. Matches n c x w) e is
    by x w m many is (inr (inl f)) = not_greatest (λ v. nat_le v 14) x w refl f.1 (subst (λ c. Matches n c x w) f.0 is)
    by x w m many is (inr (inr f)) = absurd (omega (arith, f, many, lt))

-- ---- operands that differ

module _ (n len : ℕ) (os ws : List Sort) where
  jmp_fit : AreMatched n ops.Jmp len os ws → (k : ℕ) → k < len → operand_fits n ops.Jmp ws k ≡ true
  jmp_fit h zero lt = refl
  jmp_fit h (suc k) lt = absurd (let one = eqb-true len 1 h.taken in omega (arith, lt, one))

  finclump_fit : AreMatched n ops.Finclump len os ws → (k : ℕ) → k < len → operand_fits n ops.Finclump ws k ≡ true
  finclump_fit h zero lt = refl
  finclump_fit h (suc zero) lt = refl
  finclump_fit h (suc (suc k)) lt = absurd (let two = eqb-true len 2 h.taken in omega (arith, lt, two))

  immediate_fit : AreMatched n ops.Finclumpimmed len os ws → (k : ℕ) → k < len → operand_fits n ops.Finclumpimmed ws k ≡ true
  immediate_fit h zero lt = ap (λ b. (b && true) && true) (h.each 0 lt)
  immediate_fit h (suc k) lt = absurd (let one = eqb-true len 1 h.taken in omega (arith, lt, one))

  subcall_fit : AreMatched n ops.Subcall len os ws → (k : ℕ) → k < len → operand_fits n ops.Subcall ws k ≡ true
  subcall_fit h zero lt = ap (λ b. (b && true) && true) (h.each 0 lt)
  subcall_fit h (suc zero) lt = ap (λ o. (is_number (shape_of o) && true) && true) (sym (h.each 1 lt)) ∙ ap (λ b. b && true) (h.kinds 1 lt)
  subcall_fit h (suc (suc k)) lt = absurd (let two = eqb-true len 2 h.taken in omega (arith, lt, two))

  brtst_fit : AreMatched n ops.Brtst len os ws → (k : ℕ) → k < len → operand_fits n ops.Brtst ws k ≡ true
  brtst_fit h zero lt = refl
  brtst_fit h (suc zero) lt = ap (λ o. (is_number (shape_of o) && true) && true) (sym (h.each 1 lt)) ∙ ap (λ b. b && true) (h.kinds 1 lt)
  brtst_fit h (suc (suc k)) lt = absurd (let two = eqb-true len 2 h.taken in omega (arith, lt, two))

  brcmp_fit : AreMatched n ops.Brcmp len os ws → (k : ℕ) → k < len → operand_fits n ops.Brcmp ws k ≡ true
  brcmp_fit h zero lt = refl
  brcmp_fit h (suc zero) lt = ap (λ o. (is_value (shape_of o) && is_plain (shape_of o)) && true) (sym (h.each 1 lt)) ∙ ap (λ b. b && true) (h.kinds 1 lt)
  brcmp_fit h (suc (suc zero)) lt =
      ap (λ o. (is_value (shape_of (sort_at ws 2)) && are_alike (shape_of o) (shape_of (sort_at ws 2))) && true) (sym (h.each 1 (omega (arith, lt))))
      ∙ ap (λ o. (is_value (shape_of o) && are_alike (shape_of (sort_at os 1)) (shape_of o)) && true) (sym (h.each 2 lt))
      ∙ ap (λ b. b && true) (h.kinds 2 lt)
  brcmp_fit h (suc (suc (suc k))) lt = absurd (let three = eqb-true len 3 h.taken in omega (arith, lt, three))

-- ---- all of them

-- the operation whose code may be another's
abbrev pub is_set : Op → Bool
is_set ops.Set = true
is_set op = false

-- the operands of a statement other than a set fit by their words
pub matched_fit : (n : ℕ) (op : Op) (len : ℕ) (os ws : List Sort) → is_set op ≡ false → AreMatched n op len os ws → (k : ℕ) → k < len → operand_fits n op ws k ≡ true
matched_fit n ops.Set len os ws e h = absurd (both_ways true e refl)
matched_fit n ops.Jmp len os ws e h = jmp_fit n len os ws h
matched_fit n ops.Brcmp len os ws e h = brcmp_fit n len os ws h
matched_fit n ops.Brtst len os ws e h = brtst_fit n len os ws h
matched_fit n ops.Finclump len os ws e h = finclump_fit n len os ws h
matched_fit n ops.Finclumpimmed len os ws e h = immediate_fit n len os ws h
matched_fit n ops.Subcall len os ws e h = subcall_fit n len os ws h
matched_fit n ops.Syscall len os ws e h = syscall_fit n len os ws h
matched_fit n ops.Setin len os ws e h = setin_fit n len os ws h
matched_fit n ops.Getin len os ws e h = getin_fit n len os ws h
matched_fit n ops.Getout len os ws e h = getout_fit n len os ws h
matched_fit n ops.Setout len os ws e h = same_fit n ops.Setout len os ws h (λ m. all_pairs is_unclumped Immediate NumberIn ((m - 1) / 2) refl refl) (setout_parts n len os ws h)
matched_fit n op len os ws e h = exact_fit n op len os ws h refl
