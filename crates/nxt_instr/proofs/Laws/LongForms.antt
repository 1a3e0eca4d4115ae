-- Long forms are read again.
use Rattle.std.proofs.Common.{◌≡◌, ◌≤◌, ◌<◌, ℕ, suc, ◌+◌, ◌-◌, ◌*◌, ◌/◌, ◌%◌, ◌==◌, nat_le, Bool, true, false, ◌&&◌, if◌then◌else◌, List, [], ◌∷◌, ◌++◌, length, take, drop, refl, sym, ap, subst, ◌∙◌, Some, None, arith}
use Rattle.std.specs.Prelude.{option_and_then, slice_get}
use Rattle.std.proofs.lemmas.Bool.Decides.{nat_tests}
use Rattle.std.proofs.lemmas.List.{take_at, length-append, drop_at, append_assoc, append-nil}
use Rattle.nxt_types.specs.declared.kind.Cmp.{Cmp}
use Rattle.nxt_types.specs.declared.kind.Cmp.TheVariants as cmps
use Rattle.nxt_types.specs.declared.instr.Op.{Op}
use Rattle.nxt_types.specs.declared.instr.Op.TheVariants as ops
use Rattle.nxt_types.specs.Opcodes.{opcode, op_of, Arity, exactly, several, pairs, arity, takes, has_comparison}
use Rattle.nxt_types.specs.Statements.{statement, with_words, short_form, short_forms, sized_form, fixed_form, by_arity, comparisons, comparison_number, comparison_of, long_form, statement_at, IsStatement, first_word, long_words, long_form_of}
use Rattle.nxt_types.proofs.Laws.Opcodes.{few_operands, op_of_opcode}
use Rattle.nxt_instr.specs.Decoded.{form_by}

-- ---- the first word

module _ (b c k : ℕ) (fb : b < 16) (fc : c < 6) (fk : k < 256) where
  abbrev w : ℕ
  w = b * 4096 + c * 256 + k

  size : w / 4096 ≡ b
  size = omega arith

  long : w / 2048 % 2 ≡ 0
  long = omega arith

  bits : w / 256 % 8 ≡ c
  bits = omega arith

  low : w % 256 ≡ k
  low = omega arith

below : (op : Op) → opcode op < 256
below ops.Add = omega arith
below _ = omega arith

below_six : (cmp : Cmp) → comparison_number cmp < 6
below_six cmps.Lt = omega arith
below_six _ = omega arith

numbered : (cmp : Cmp) → slice_get comparisons (comparison_number cmp) ≡ Some cmp
numbered cmps.Lt = refl
numbered _ = refl

compared_by : (b : Bool) (cmp : Cmp) → (b ≡ false → cmp ≡ cmps.Lt) → (if b then slice_get comparisons (comparison_number cmp) else Some cmps.Lt) ≡ Some cmp
compared_by true cmp h = numbered cmp
compared_by false cmp h = ap (λ (c : Cmp). Some c) (sym (h refl))

compared : (op : Op) (cmp : Cmp) → (has_comparison op ≡ false → cmp ≡ cmps.Lt) → comparison_of op (comparison_number cmp) ≡ Some cmp
compared op cmp h = compared_by (has_comparison op) cmp h

-- what a first word of an operation and a comparison begins
begins : (op : Op) (cmp : Cmp) (b : ℕ) (rest : List ℕ) → b < 16 → (has_comparison op ≡ false → cmp ≡ cmps.Lt) → statement_at (first_word b op cmp ∷ rest) ≡ by_arity op (arity op) cmp b rest
begins op cmp b rest fb plain =
    let c = comparison_number cmp in
    let k = opcode op in
    let v = first_word b op cmp in
    let zero_bit : v / 2048 % 2 ≡ 0 = long b c k fb (below_six cmp) (below op) in
    let no_short : (v / 2048 % 2 == 1) ≡ false = grind (arith, nat_tests, zero_bit) in
    ap (λ t. if t then short_form (slice_get short_forms (v / 256 % 8)) (v / 4096) (v % 256) rest else long_form (op_of (v % 256)) (v / 4096) (v / 256 % 8) rest) no_short
    ∙ ap (λ n. long_form (op_of n) (v / 4096) (v / 256 % 8) rest) (low b c k fb (below_six cmp) (below op))
    ∙ ap (λ n. long_form (op_of k) n (v / 256 % 8) rest) (size b c k fb (below_six cmp) (below op))
    ∙ ap (λ n. long_form (op_of k) b n rest) (bits b c k fb (below_six cmp) (below op))
    ∙ ap (λ o. long_form o b c rest) (op_of_opcode op)
    ∙ ap (option_and_then (λ d. by_arity op (arity op) d b rest)) (compared op cmp plain)

-- ---- fixed sizes

exactly_by : (op : Op) (cmp : Cmp) (n : ℕ) (rest : List ℕ) → arity op ≡ exactly n → (has_comparison op ≡ false → cmp ≡ cmps.Lt) → by_arity op (arity op) cmp (2 + 2 * n) rest ≡ fixed_form op cmp n (2 + 2 * n) rest
exactly_by ops.Wait cmp n rest e plain =
    let one : 1 ≡ n = cc in
    subst (λ k. by_arity ops.Wait (exactly 1) cmp (2 + 2 * k) rest ≡ fixed_form ops.Wait cmp k (2 + 2 * k) rest) one (ap (λ (d : Cmp). fixed_form ops.Wait d 1 4 rest) (sym (plain refl)))
exactly_by op cmp n rest e plain = ap (λ a. form_by op a cmp (2 + 2 * n) rest) e

fixed_read : (op : Op) (cmp : Cmp) (n : ℕ) (args more : List ℕ) → length args ≡ n → fixed_form op cmp n (2 + 2 * n) (args ++ more) ≡ Some (statement op cmp args, 1 + n)
fixed_read op cmp n args more l =
    let whole : (2 + 2 * n == 2 + 2 * n) ≡ true = grind (arith, nat_tests) in
    let longer : length (args ++ more) ≡ length args + length more = length-append args more in
    let within : n ≤ length (args ++ more) = omega arith in
    let there : nat_le n (length (args ++ more)) ≡ true = grind (arith, nat_tests, within) in
    ap (λ b. if b then with_words n (args ++ more) 1 (statement op cmp) else None) whole
    ∙ ap (λ b. if b then Some (statement op cmp (take n (args ++ more)), 1 + n) else None) there
    ∙ ap (λ ws. Some (statement op cmp ws, 1 + n)) (take_at args more n l)

-- ---- sizes of their own

open_plain : (op : Op) → arity op ≡ several → has_comparison op ≡ false
open_plain ops.Cmp e = absurd (let f : ⊥ = cc in f)
open_plain ops.Tst e = absurd (let f : ⊥ = cc in f)
open_plain ops.Brcmp e = absurd (let f : ⊥ = cc in f)
open_plain ops.Brtst e = absurd (let f : ⊥ = cc in f)
open_plain _ e = refl

pairs_plain : (op : Op) → arity op ≡ pairs → has_comparison op ≡ false
pairs_plain ops.Cmp e = absurd (let f : ⊥ = cc in f)
pairs_plain ops.Tst e = absurd (let f : ⊥ = cc in f)
pairs_plain ops.Brcmp e = absurd (let f : ⊥ = cc in f)
pairs_plain ops.Brtst e = absurd (let f : ⊥ = cc in f)
pairs_plain _ e = refl

several_by : (op : Op) (rest : List ℕ) → arity op ≡ several → by_arity op (arity op) cmps.Lt 14 rest ≡ sized_form op rest
several_by ops.Wait rest e = absurd (let f : ⊥ = cc in f)
several_by op rest e = ap (λ a. form_by op a cmps.Lt 14 rest) e

pairs_by : (op : Op) (rest : List ℕ) → arity op ≡ pairs → by_arity op (arity op) cmps.Lt 14 rest ≡ sized_form op rest
pairs_by ops.Wait rest e = absurd (let f : ⊥ = cc in f)
pairs_by op rest e = ap (λ a. form_by op a cmps.Lt 14 rest) e

sized_read : (op : Op) (args more : List ℕ) → takes (arity op) (length args) ≡ true → sized_form op ((4 + 2 * length args) ∷ args ++ more) ≡ Some (statement op cmps.Lt args, 2 + length args)
sized_read op args more h =
    let n = length args in
    let bytes = 4 + 2 * n in
    let zero_rest : bytes % 2 ≡ 0 = omega arith in
    let even : (bytes % 2 == 0) ≡ true = grind (arith, nat_tests, zero_rest) in
    let count : bytes / 2 - 2 ≡ n = omega arith in
    let longer : length (args ++ more) ≡ length args + length more = length-append args more in
    let within : n ≤ length (args ++ more) = omega arith in
    let there : nat_le n (length (args ++ more)) ≡ true = grind (arith, nat_tests, within) in
    ap (λ b. if b && takes (arity op) (bytes / 2 - 2) then with_words (bytes / 2 - 2) (args ++ more) 2 (statement op cmps.Lt) else None) even
    ∙ ap (λ k. if takes (arity op) k then with_words k (args ++ more) 2 (statement op cmps.Lt) else None) count
    ∙ ap (λ b. if b then with_words n (args ++ more) 2 (statement op cmps.Lt) else None) h
    ∙ ap (λ b. if b then Some (statement op cmps.Lt (take n (args ++ more)), 2 + n) else None) there
    ∙ ap (λ ws. Some (statement op cmps.Lt ws, 2 + n)) (take_at args more n refl)

-- ---- all of them

module _ (op : Op) (cmp : Cmp) (args more : List ℕ) (number : takes (arity op) (length args) ≡ true) (plain : has_comparison op ≡ false → cmp ≡ cmps.Lt) where
  sized_by : (cmp ≡ cmps.Lt) → by_arity op (arity op) cmps.Lt 14 ((4 + 2 * length args) ∷ args ++ more) ≡ sized_form op ((4 + 2 * length args) ∷ args ++ more) →
      statement_at (first_word 14 op cmps.Lt ∷ (4 + 2 * length args) ∷ args ++ more) ≡ Some (statement op cmp args, 2 + length args)
  sized_by e f =
      let fourteen : 14 < 16 = omega arith in
      begins op cmps.Lt 14 ((4 + 2 * length args) ∷ args ++ more) fourteen (λ _. refl) ∙ f ∙ sized_read op args more number
      ∙ ap (λ (c : Cmp). Some (statement op c args, 2 + length args)) (sym e)

  read_by : (a : Arity) → arity op ≡ a → statement_at (long_words a op cmp args ++ more) ≡ Some (statement op cmp args, length (long_words a op cmp args))
  read_by (exactly n) e =
      let few = few_operands op n e in
      let small : 2 + 2 * n < 16 = omega arith in
      let as_many : takes (exactly n) (length args) ≡ true = ap (λ a. takes a (length args)) (sym e) ∙ number in
      let many : length args ≡ n = grind (arith, nat_tests, as_many) in
      let all : 1 + n ≡ suc (length args) = omega arith in
      begins op cmp (2 + 2 * n) (args ++ more) small plain
      ∙ exactly_by op cmp n (args ++ more) e plain
      ∙ fixed_read op cmp n args more many
      ∙ ap (λ k. Some (statement op cmp args, k)) all
  read_by several e =
      let all : 2 + length args ≡ suc (suc (length args)) = omega arith in
      sized_by (plain (open_plain op e)) (several_by op ((4 + 2 * length args) ∷ args ++ more) e) ∙ ap (λ k. Some (statement op cmp args, k)) all
  read_by pairs e =
      let all : 2 + length args ≡ suc (suc (length args)) = omega arith in
      sized_by (plain (pairs_plain op e)) (pairs_by op ((4 + 2 * length args) ∷ args ++ more) e) ∙ ap (λ k. Some (statement op cmp args, k)) all

-- a long form spells its statement, whatever follows
pub long_form_read : (op : Op) (cmp : Cmp) (args more : List ℕ) → takes (arity op) (length args) ≡ true → (has_comparison op ≡ false → cmp ≡ cmps.Lt) →
    statement_at (long_form_of op cmp args ++ more) ≡ Some (statement op cmp args, length (long_form_of op cmp args))
long_form_read op cmp args more number plain = read_by op cmp args more number plain (arity op) refl

module _ (op : Op) (cmp : Cmp) (args old new : List ℕ) (number : takes (arity op) (length args) ≡ true) (plain : has_comparison op ≡ false → cmp ≡ cmps.Lt) where
  pub appended_more : new ≡ old ++ long_form_of op cmp args → (more : List ℕ) → IsStatement (new ++ more) (length old) (statement op cmp args) (length (long_form_of op cmp args))
  appended_more e more =
      let words = long_form_of op cmp args in
      let behind : drop (length old) (new ++ more) ≡ words ++ more =
      ap (λ ws. drop (length old) (ws ++ more)) e ∙ ap (drop (length old)) (append_assoc old words more) ∙ drop_at old (words ++ more) (length old) refl in
      ap statement_at behind ∙ long_form_read op cmp args more number plain

  pub appended : new ≡ old ++ long_form_of op cmp args → IsStatement new (length old) (statement op cmp args) (length (long_form_of op cmp args))
  appended e = subst (λ ws. IsStatement ws (length old) (statement op cmp args) (length (long_form_of op cmp args))) (append-nil new) (appended_more e [])
