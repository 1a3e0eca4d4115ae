-- Forms of an operation, and the instructions that they give.
use Rattle.std.proofs.Common.{◌≡◌, ◌≢◌, ◌≤◌, ℕ, ◌+◌, ◌-◌, ◌*◌, ◌/◌, ◌%◌, ◌==◌, nat_le, Bool, true, false, ◌&&◌, if◌then◌else◌, List, [], ◌∷◌, length, take, drop, get_or, suc, refl, sym, ap, ◌∙◌, Option, Some, None, arith}
use Rattle.std.specs.Prelude.{option_and_then}
use Rattle.std.proofs.Math.Seq.{take-length}
use Rattle.std.proofs.lemmas.Bool.Decides.{nat_tests}
use Rattle.nxt_types.specs.declared.kind.Cmp.{Cmp}
use Rattle.nxt_types.specs.declared.kind.Cmp.TheVariants.{Lt}
use Rattle.nxt_types.specs.declared.instr.Op.{Op}
use Rattle.nxt_types.specs.declared.instr.Op.TheVariants as ops
use Rattle.nxt_types.specs.Opcodes.{op_of, Arity, exactly, several, pairs, arity, takes}
use Rattle.nxt_types.specs.Statements.{Statement, statement, Spelled, with_words, short_form, two, one, short_pair, plus_argument, sized_form, fixed_form, by_arity, comparison_of, long_form}
use Rattle.nxt_instr.specs.Decoded.{instr_by, placed, decoded, form_by, open_ended}

-- what is spelled is of this operation
abbrev IsOf : Op → Option Spelled → Type 0
IsOf op None = Unit {0}
IsOf op (Some s) = s.0.op ≡ op

of_test : (op : Op) (b : Bool) (o : Option Spelled) → IsOf op o → IsOf op (if b then o else None)
of_test op true o h = h
of_test op false o h = tt

of_words : (op : Op) (n : ℕ) (words : List ℕ) (before : ℕ) (make : List ℕ → Statement) → ((ws : List ℕ) → (make ws).op ≡ op) → IsOf op (with_words n words before make)
of_words op n words before make h = of_test op (nat_le n (length words)) (Some (make (take n words), before + n)) (h (take n words))

of_fixed : (op : Op) (cmp : Cmp) (n bytes : ℕ) (rest : List ℕ) → IsOf op (fixed_form op cmp n bytes rest)
of_fixed op cmp n bytes rest = of_test op (bytes == 2 + 2 * n) (with_words n rest 1 (statement op cmp)) (of_words op n rest 1 (statement op cmp) (λ ws. refl))

of_sized : (op : Op) (rest : List ℕ) → IsOf op (sized_form op rest)
of_sized op [] = tt
of_sized op (bytes ∷ rest) =
    of_test op (bytes % 2 == 0 && takes (arity op) (bytes / 2 - 2)) (with_words (bytes / 2 - 2) rest 2 (statement op Lt)) (of_words op (bytes / 2 - 2) rest 2 (statement op Lt) (λ ws. refl))

of_form : (op : Op) (a : Arity) (cmp : Cmp) (bytes : ℕ) (rest : List ℕ) → IsOf op (form_by op a cmp bytes rest)
of_form op (exactly n) cmp bytes rest = of_fixed op cmp n bytes rest
of_form op several cmp bytes rest = of_test op (bytes == 14) (sized_form op rest) (of_sized op rest)
of_form op pairs cmp bytes rest = of_test op (bytes == 14) (sized_form op rest) (of_sized op rest)

of_two : (op : Op) (bytes byte : ℕ) (rest : List ℕ) → IsOf op (short_form (Some (two op)) bytes byte rest)
of_two op bytes byte rest =
    of_test op (bytes == 4) (with_words 1 rest 1 (λ ws. statement op Lt (short_pair op byte ws))) (of_words op 1 rest 1 (λ ws. statement op Lt (short_pair op byte ws)) (λ ws. refl))

of_one : (op : Op) (bytes byte : ℕ) (rest : List ℕ) → IsOf op (short_form (Some (one op)) bytes byte rest)
of_one op bytes byte rest = of_test op (bytes == 2) (Some (statement op Lt (plus_argument byte 0 ∷ []), 1)) refl

-- ---- instructions

placed_of : (op : Op) (at : ℕ) (o : Option Spelled) → IsOf op o → placed (arity op) at o ≡ decoded at o
placed_of op at None h = refl
placed_of op at (Some s) h = ap (λ (p : Op). Some (instr_by (arity p) at s.0, s.1)) (sym h)

closed_of : (op : Op) (at n : ℕ) (o : Option Spelled) → arity op ≡ exactly n → IsOf op o → placed (exactly n) 0 o ≡ decoded at o
closed_of op at n None e h = refl
closed_of op at n (Some s) e h = ap (λ (a : Arity). Some (instr_by a at s.0, s.1)) (sym e ∙ ap arity (sym h))

pub decoded_two : (op : Op) (at bytes byte : ℕ) (rest : List ℕ) → arity op ≡ exactly 2 → placed (exactly 2) 0 (short_form (Some (two op)) bytes byte rest) ≡ decoded at (short_form (Some (two op)) bytes byte rest)
decoded_two op at bytes byte rest e = closed_of op at 2 (short_form (Some (two op)) bytes byte rest) e (of_two op bytes byte rest)

pub decoded_one : (op : Op) (at bytes byte : ℕ) (rest : List ℕ) → arity op ≡ exactly 1 → placed (exactly 1) 0 (short_form (Some (one op)) bytes byte rest) ≡ decoded at (short_form (Some (one op)) bytes byte rest)
decoded_one op at bytes byte rest e = closed_of op at 1 (short_form (Some (one op)) bytes byte rest) e (of_one op bytes byte rest)

-- the form of an operation that isn't wait
pub not_wait : (op : Op) (a : Arity) (cmp : Cmp) (bytes : ℕ) (rest : List ℕ) → op ≢ ops.Wait → form_by op a cmp bytes rest ≡ by_arity op a cmp bytes rest
not_wait ops.Wait a cmp bytes rest h = absurd (h refl)
not_wait _ (exactly n) cmp bytes rest h = refl
not_wait _ several cmp bytes rest h = refl
not_wait _ pairs cmp bytes rest h = refl

pub decoded_long : (op : Op) (cmp : Cmp) (code bits size at : ℕ) (rest : List ℕ) → op_of code ≡ Some op → comparison_of op bits ≡ Some cmp → op ≢ ops.Wait →
    placed (arity op) at (form_by op (arity op) cmp size rest) ≡ decoded at (long_form (op_of code) size bits rest)
decoded_long op cmp code bits size at rest named compared other =
    placed_of op at (form_by op (arity op) cmp size rest) (of_form op (arity op) cmp size rest)
    ∙ ap (decoded at) (not_wait op (arity op) cmp size rest other
    ∙ ap (λ o. option_and_then (λ c. by_arity op (arity op) c size rest) o) (sym compared)
    ∙ ap (λ o. long_form o size bits rest) (sym named))

-- a long form with a size word
pub placed_sized : (op : Op) (size bytes n at : ℕ) (rest : List ℕ) → size ≡ 14 → bytes % 2 ≡ 0 → n ≡ bytes / 2 - 2 → takes (arity op) n ≡ true → n ≤ length rest →
    placed several at (if size == 14 then sized_form op (bytes ∷ rest) else None) ≡ Some (open_ended at (statement op Lt (take n rest)), 2 + n)
placed_sized op size bytes n at rest s even count number within =
    let long : (size == 14) ≡ true = grind (arith, nat_tests, s) in
    let zero_rest : (bytes % 2 == 0) ≡ true = grind (arith, nat_tests, even) in
    let there : nat_le n (length rest) ≡ true = grind (arith, nat_tests, within) in
    ap (λ b. placed several at (if b then sized_form op (bytes ∷ rest) else None)) long
    ∙ ap (λ b. placed several at (if b && takes (arity op) (bytes / 2 - 2) then with_words (bytes / 2 - 2) rest 2 (statement op Lt) else None)) zero_rest
    ∙ ap (λ k. placed several at (if takes (arity op) k then with_words k rest 2 (statement op Lt) else None)) (sym count)
    ∙ ap (λ b. placed several at (if b then with_words n rest 2 (statement op Lt) else None)) number
    ∙ ap (λ b. placed several at (if b then Some (statement op Lt (take n rest), 2 + n) else None)) there

-- a list's first item and what is behind it
pub split_first : (ws : List ℕ) → 1 ≤ length ws → get_or ws 0 0 ∷ take (length ws - 1) (drop 1 ws) ≡ ws
split_first [] h = absurd (omega arith)
split_first (x ∷ xs) h = let less : suc (length xs) - 1 ≡ length xs = omega arith in ap (λ n. x ∷ take n xs) less ∙ ap (λ ys. x ∷ ys) (take-length xs)
