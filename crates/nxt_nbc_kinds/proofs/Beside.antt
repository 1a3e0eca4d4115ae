-- What is asked of an operand beside the others.
use Rattle.std.proofs.Common.{◌≡◌, ℕ, ◌<◌, Bool, true, false, ◌&&◌, List, length, get_or, slice_index_or, sym, ap, ◌∙◌}
use Rattle.std.proofs.lemmas.List.{get_or-map, length-map}
use Rattle.nxt_types.specs.OperandRules.{Unknown, is_of_class, sort_at}
use Rattle.nxt_types.specs.Opcodes.{arity, class_in, classes, row, takes}
use Rattle.nxt_types.specs.declared.instr.Op.{Op}
use Rattle.nxt_types.specs.declared.opcodes.Class.{Class}
use Rattle.nxt_types.specs.declared.opcodes.Class.TheVariants.{Immediate}
use Rattle.nxt_nbc_lines.proofs.Laws.Classes.{class_there}
use Rattle.nxt_model.specs.Nbc.Structs.{Types}
use Rattle.nxt_nbc_kinds.specs.OperandsSeen.{operand_seen, operands_seen}
use Rattle.nxt_nbc_kinds.specs.declared.operand.Operand.{Operand}

-- ---- classes

pub last_decides : (a b : Bool) → a ≡ true → b ≡ (a && b)
last_decides a b e = sym (ap (λ p. p && b) e)

pub first_decides : (a b : Bool) → a ≡ false → false ≡ (a && b)
first_decides a b e = sym (ap (λ p. p && b) e)

-- the test of an operand's class, by its place
pub class_test : (op : Op) (t : Types) (operands : List Operand) (k : ℕ) → takes (arity op) (length operands) ≡ true → k < length operands
    → (class : Class) (d : Operand) → class ≡ class_in (row op).operands k
    → (let os = operands_seen t operands in
    is_of_class 1 class (operand_seen t (get_or operands k d)) ≡ is_of_class 1 (slice_index_or (classes op (length os)) k Immediate) (sort_at os k))
class_test op t operands k taken under class d is =
    let os = operands_seen t operands in
    let n = length-map operands (operand_seen t) in
    ap (λ o. is_of_class 1 class o) (sym (get_or-map (operand_seen t) operands k d Unknown under))
    ∙ ap (λ c. is_of_class 1 c (sort_at os k))
    (is ∙ sym (class_there op (length operands) k taken under) ∙ ap (λ m. get_or (classes op m) k Immediate) (sym n))
