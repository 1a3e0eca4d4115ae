-- Statements that are not on numbers alone are on lists.
use Rattle.std.proofs.Common.{◌≡◌, ◌≢◌, Bool, true, false, ◌&&◌, Some, None, refl, sym, ap, ◌∙◌}
use Rattle.std.proofs.lemmas.Bool.{and_parts, and_from}
use Rattle.nxt_types.specs.OperandRules.{is_plain, are_alike}
use Rattle.nxt_types.specs.Shapes.{Shape, Void, Number, Array, Cluster, Mutex, is_number, convertible}
use Rattle.nxt_types.specs.declared.instr.Instr.{Instr}
use Rattle.nxt_types.specs.declared.instr.Op.{Op}
use Rattle.nxt_types.specs.declared.instr.Op.TheVariants as ops
use Rattle.nxt_types.specs.declared.kind.Cmp.{Cmp}
use Rattle.nxt_types.specs.declared.kind.Kind.{Kind}
use Rattle.std.specs.Prelude.{pos}
use Rattle.nxt_model.specs.Means.Effects.{Operand}
use Rattle.nxt_model.specs.Means.Numbers.{holds, truth}
use Rattle.nxt_model.specs.Values.{Num}
use Rattle.nxt_space.specs.Variables.{Variables, shape_of}
use Rattle.nxt_operands.specs.Operands.{AllTrue}
use Rattle.nxt_ops.specs.Ops.{runs, stores, two_of, one_of, asked_of_two, value_of_two}
use Rattle.nxt_ops.specs.Preparing.{has_number, on_numbers, on_numbers_by}
use Rattle.nxt_ops.specs.declared.operator.Two.{Two}
use Rattle.nxt_ops.specs.declared.operator.Two.TheVariants as two
use Rattle.nxt_ops.specs.declared.operator.One.{One}

not_all : (b : Bool) → b ≡ true → b ≡ false → ⊥
not_all b all none = let f : ⊥ = cc in f

number_alike : (k : Kind) (y : Shape) → are_alike (Number k) y ≡ true → is_number y ≡ true
number_alike k (Number l) alike = refl
number_alike k y alike = let f : ⊥ = cc in absurd f

number_moved : (k : Kind) (y : Shape) → convertible (Number k) y ≡ true → is_number y ≡ true
number_moved k (Number l) fits = refl
number_moved k y fits = let f : ⊥ = cc in absurd f

-- of two that are alike the first is no number where not both are
pub alike_list : (x y : Shape) → are_alike x y ≡ true → (is_number x && is_number y) ≡ false → is_number x ≡ false
alike_list (Number k) y alike none = let f : ⊥ = cc (number_alike k y alike, none) in absurd f
alike_list Void y alike none = refl
alike_list (Array n s) y alike none = refl
alike_list (Cluster ss) y alike none = refl
alike_list Mutex y alike none = refl

-- and of a number that another value goes into the other one is a number
pub moved_list : (x y : Shape) → convertible x y ≡ true → (is_number x && is_number y) ≡ false → is_number x ≡ false
moved_list (Number k) y fits none = let f : ⊥ = cc (number_moved k y fits, none) in absurd f
moved_list Void y fits none = refl
moved_list (Array n s) y fits none = refl
moved_list (Cluster ss) y fits none = refl
moved_list Mutex y fits none = refl

-- the value of a comparison of two lists
pub compared_value : (o : Two) (c : Cmp) (d : Shape) (x y : Operand) → o ≡ two.Compare c → is_number d ≡ true → value_of_two o d x y ≡ Num (pos (truth (holds c x y)))
compared_value o c (Number k) x y is number = ap (λ p. value_of_two p (Number k) x y) is
compared_value o c d x y is number = let f : ⊥ = cc in absurd f

module _ (s : Variables) (i : Instr) where
  by_two : (op : Op) (o : Two) → two_of op i.cmp ≡ Some o → on_numbers_by op s i ≡ (has_number s i.a && has_number s i.b && has_number s i.c)
  by_two ops.Add o e = refl
  by_two ops.Sub o e = refl
  by_two ops.Mul o e = refl
  by_two ops.Div o e = refl
  by_two ops.Mod o e = refl
  by_two ops.And o e = refl
  by_two ops.Or o e = refl
  by_two ops.Xor o e = refl
  by_two ops.Cmp o e = refl
  by_two _ o e = let f : ⊥ = cc in absurd f

  by_one : (op : Op) (o : One) → one_of op i.cmp ≡ Some o → on_numbers_by op s i ≡ (has_number s i.a && has_number s i.b)
  by_one ops.Neg o e = refl
  by_one ops.Not o e = refl
  by_one ops.Tst o e = refl
  by_one _ o e = let f : ⊥ = cc in absurd f

  same_test : (op : Op) (c : Cmp) → two_of op i.cmp ≡ Some (two.Compare c) → c ≡ i.cmp
  same_test ops.Cmp c e = let f : i.cmp ≡ c = cc in sym f
  same_test _ c e = let f : ⊥ = cc in absurd f

  -- a number as destination is for a comparison of two lists
  pub record IsComparison (o : Two) (x y : Shape) : Type 0 where
    pub operator : o ≡ two.Compare i.cmp
    pub plain : is_plain x ≡ true
    pub list : is_number x ≡ false
    pub alike : are_alike x y ≡ true

  comparison_by : (o : Two) (d x y : Shape) → two_of i.op i.cmp ≡ Some o → is_number d ≡ true → AllTrue (asked_of_two o d x y) → (is_number d && is_number x && is_number y) ≡ false → IsComparison o x y
  comparison_by (two.Calculate a) (Number k) x y e is asked none =
      let first = and_parts (is_number x) _ asked in
      let second = and_parts (is_number y) true first.1 in
      absurd (not_all (is_number x && is_number y) (and_from (is_number x) (is_number y) first.0 second.0) none)
  comparison_by (two.Compare c) (Number k) x y e is asked none =
      let first = and_parts (is_plain x) _ asked in
      let alike = (and_parts (are_alike x y) true first.1).0 in
      record { operator = ap two.Compare (same_test i.op c e); plain = first.0; list = alike_list x y alike none; alike = alike }
  comparison_by o d x y e is asked none = let f : ⊥ = cc in absurd f

  pub comparison_of_lists : (o : Two) → two_of i.op i.cmp ≡ Some o → has_number s i.a ≡ true → AllTrue (asked_of_two o (shape_of s i.a) (shape_of s i.b) (shape_of s i.c)) → on_numbers s i ≡ false → IsComparison o (shape_of s i.b) (shape_of s i.c)
  comparison_of_lists o e is asked none = comparison_by o (shape_of s i.a) (shape_of s i.b) (shape_of s i.c) e is asked (sym (by_two i.op o e) ∙ none)

  pub change_of_list : (o : One) → one_of i.op i.cmp ≡ Some o → are_alike (shape_of s i.a) (shape_of s i.b) ≡ true → on_numbers s i ≡ false → has_number s i.a ≡ false
  change_of_list o e alike none = alike_list (shape_of s i.a) (shape_of s i.b) alike (sym (by_one i.op o e) ∙ none)

  moves_by : (op : Op) → runs op ≡ true → stores op ≡ true → two_of op i.cmp ≡ None → one_of op i.cmp ≡ None → (op ≡ ops.Set → has_number s i.a ≡ true) → on_numbers_by op s i ≡ false → op ≡ ops.Mov
  moves_by ops.Mov r p u v set none = refl
  moves_by ops.Set r p u v set none = absurd (not_all (has_number s i.a) (set refl) none)
  moves_by _ r p u v set none = let f : ⊥ = cc in absurd f

  -- what has no operator is a move
  pub moves : runs i.op ≡ true → stores i.op ≡ true → two_of i.op i.cmp ≡ None → one_of i.op i.cmp ≡ None → (i.op ≡ ops.Set → has_number s i.a ≡ true) → on_numbers s i ≡ false → i.op ≡ ops.Mov
  moves r p u v set none = moves_by i.op r p u v set none

  -- and a comparison that jumps is of two lists
  pub brcmp_lists : i.op ≡ ops.Brcmp → on_numbers s i ≡ false → (has_number s i.b && has_number s i.c) ≡ false
  brcmp_lists e none = ap (λ op. on_numbers_by op s i) (sym e) ∙ none

  stores_by : (op : Op) → runs op ≡ true → op ≢ ops.Brcmp → (op ≡ ops.Brtst → has_number s i.b ≡ true) → on_numbers_by op s i ≡ false → stores op ≡ true
  stores_by ops.Jmp r p q none = let f : ⊥ = cc in absurd f
  stores_by ops.Brcmp r p q none = absurd (p refl)
  stores_by ops.Brtst r p q none = absurd (not_all (has_number s i.b) (q refl) none)
  stores_by _ r p q none = refl

  -- what neither is on numbers nor compares lists stores a value
  pub stores_value : runs i.op ≡ true → i.op ≢ ops.Brcmp → (i.op ≡ ops.Brtst → has_number s i.b ≡ true) → on_numbers s i ≡ false → stores i.op ≡ true
  stores_value r p q none = stores_by i.op r p q none

  pub no_jump : stores i.op ≡ true → (i.op ≢ ops.Jmp) × (i.op ≢ ops.Brcmp) × (i.op ≢ ops.Brtst)
  no_jump e = (
    λ is. let f : ⊥ = cc (e, ap stores is) in f,
    λ is. let f : ⊥ = cc (e, ap stores is) in f,
    λ is. let f : ⊥ = cc (e, ap stores is) in f,
  )
