-- A statement that computes, whose operands are numbers, is on numbers alone.
use Rattle.std.proofs.Common.{◌≡◌, ℕ, Bool, true, false, ◌&&◌, [], map, Some, refl, sym, ap, ◌∙◌}
use Rattle.std.specs.List.{list_all}
use Rattle.nxt_types.specs.Names.{named}
use Rattle.nxt_types.specs.OperandRules.{AreFit}
use Rattle.nxt_types.specs.Shapes.{is_number}
use Rattle.nxt_types.specs.declared.instr.Instr.{Instr}
use Rattle.nxt_types.specs.declared.instr.Op.{Op}
use Rattle.nxt_types.specs.declared.instr.Op.TheVariants as ops
use Rattle.nxt_model.specs.Means.Effects.{Operand}
use Rattle.nxt_model.specs.Variables.{part_of, read, references}
use Rattle.nxt_space.specs.Variables.{Variables, shape_by}
use Rattle.nxt_operands.proofs.Laws.Named.{IsNamed, statement_by}
use Rattle.nxt_ops.specs.Ops.{runs, statement_in, operands_in, two_of, one_of}
use Rattle.nxt_ops.specs.Preparing.{has_number, on_numbers, on_numbers_by, is_a_number}
use Rattle.nxt_ops.proofs.Fitting.{two_fit, one_fit, brcmp_fit, mov_fit, set_fit, brtst_fit}
use Rattle.nxt_ops.specs.declared.operator.Two.{Two}
use Rattle.nxt_ops.specs.declared.operator.One.{One}

all_three : (x y z : Bool) → (x && (y && (z && true))) ≡ true → ((x && y) && z) ≡ true
all_three true true true e = refl
all_three true true false e = e
all_three true false z e = let f : ⊥ = cc in absurd f
all_three false y z e = let f : ⊥ = cc in absurd f

all_two : (x y : Bool) → (x && (y && true)) ≡ true → (x && y) ≡ true
all_two true true e = refl
all_two true false e = e
all_two false y e = e

module _ (s : Variables) (i : Instr) (fit : AreFit s.shapes (statement_in i)) where
  -- what a word gives as an operand
  abbrev given : ℕ → Operand
  given w = read s.values (part_of (named s.shapes w))

  same_test : (w : ℕ) → IsNamed s w → is_a_number (given w) ≡ has_number s w
  same_test w m = ap (λ o. is_a_number (read s.values (part_of o))) m.by_word ∙ sym (ap (λ o. is_number (shape_by o)) m.by_entry)

  three : (a b c : ℕ) → IsNamed s a → IsNamed s b → IsNamed s c → (is_a_number (given a) && (is_a_number (given b) && (is_a_number (given c) && true))) ≡ true → (has_number s a && has_number s b && has_number s c) ≡ true
  three a b c l m n e =
      all_three (has_number s a) (has_number s b) (has_number s c)
      (sym
      (ap (λ x. x && (is_a_number (given b) && (is_a_number (given c) && true))) (same_test a l)
      ∙ ap (λ y. has_number s a && (y && (is_a_number (given c) && true))) (same_test b m)
      ∙ ap (λ z. has_number s a && (has_number s b && (z && true))) (same_test c n))
      ∙ e)

  two : (a b : ℕ) → IsNamed s a → IsNamed s b → (is_a_number (given a) && (is_a_number (given b) && true)) ≡ true → (has_number s a && has_number s b) ≡ true
  two a b l m e =
      all_two (has_number s a) (has_number s b)
      (sym (ap (λ x. x && (is_a_number (given b) && true)) (same_test a l) ∙ ap (λ y. has_number s a && (y && true)) (same_test b m)) ∙ e)

  -- the operands of an operation
  abbrev all_by : Op → Bool
  all_by op = list_all is_a_number (map (read s.values) (references s.shapes (statement_by op i [])))

  on_two : (op : Op) (o : Two) → i.op ≡ op → two_of op i.cmp ≡ Some o → (is_a_number (given i.a) && (is_a_number (given i.b) && (is_a_number (given i.c) && true))) ≡ true → (has_number s i.a && has_number s i.b && has_number s i.c) ≡ true
  on_two op o is some e = let f = two_fit s i o (ap (λ p. two_of p i.cmp) is ∙ some) fit in three i.a i.b i.c f.first f.second f.third e

  on_one : (op : Op) (o : One) → i.op ≡ op → one_of op i.cmp ≡ Some o → (is_a_number (given i.a) && (is_a_number (given i.b) && true)) ≡ true → (has_number s i.a && has_number s i.b) ≡ true
  on_one op o is some e = let f = one_fit s i o (ap (λ p. one_of p i.cmp) is ∙ some) fit in two i.a i.b f.first f.second e

  by_op : (op : Op) → i.op ≡ op → runs op ≡ true → all_by op ≡ true → on_numbers_by op s i ≡ true
  by_op ops.Add is run e = on_two ops.Add _ is refl e
  by_op ops.Sub is run e = on_two ops.Sub _ is refl e
  by_op ops.Mul is run e = on_two ops.Mul _ is refl e
  by_op ops.Div is run e = on_two ops.Div _ is refl e
  by_op ops.Mod is run e = on_two ops.Mod _ is refl e
  by_op ops.And is run e = on_two ops.And _ is refl e
  by_op ops.Or is run e = on_two ops.Or _ is refl e
  by_op ops.Xor is run e = on_two ops.Xor _ is refl e
  by_op ops.Cmp is run e = on_two ops.Cmp _ is refl e
  by_op ops.Neg is run e = on_one ops.Neg _ is refl e
  by_op ops.Not is run e = on_one ops.Not _ is refl e
  by_op ops.Tst is run e = on_one ops.Tst _ is refl e
  by_op ops.Mov is run e = let f = mov_fit s i is fit in two i.a i.b f.first f.second e
  by_op ops.Set is run e = (set_fit s i is fit).has
  by_op ops.Jmp is run e = refl
  by_op ops.Brcmp is run e = let f = brcmp_fit s i is fit in two i.b i.c f.first f.second e
  by_op ops.Brtst is run e = (brtst_fit s i is fit).has
  by_op _ is run e = let f : ⊥ = cc in absurd f

  pub given_numbers : runs i.op ≡ true → list_all is_a_number (operands_in s i) ≡ true → on_numbers s i ≡ true
  given_numbers run e = by_op i.op refl run e
