-- The structs and variables of a text that keeps the rules.
use Rattle.std.proofs.Common.{◌≡◌, ℕ, true, List, Some, subst}
use Rattle.std.proofs.lemmas.Bool.{not-false}
use Rattle.std.proofs.lemmas.Option.{none-some, same_Some}
use Rattle.nxt_model.specs.Nbc.Forms as forms
use Rattle.nxt_model.specs.Nbc.Forms.{Form}
use Rattle.nxt_model.specs.Nbc.NbcRules.{start_fits}
use Rattle.nxt_model.specs.Nbc.Structs.{types_of}
use Rattle.nxt_model.specs.Nbc.Text.{Variable, source_of, variable_of}
use Rattle.nxt_model.specs.Nbc.Types.{Struct, is_type_at, member_path, shape_at, shape_in}
use Rattle.nxt_model.specs.declared.nbc.NbcType.{NbcType}
use Rattle.nxt_asm_laws.proofs.Laws.Lists.{Each, each_both, each_given, each_weaker}
use Rattle.nxt_asm_laws.proofs.Laws.Forms.{LineFormed}
use Rattle.nxt_asm_laws.proofs.Laws.Paths.{IsWithin, path_within}
use Rattle.nxt_asm_laws.proofs.Laws.Types.{types_ordered}
use Rattle.nxt_asm_laws.proofs.Laws.Kept.{IsKept, text_bytes}
use Rattle.nxt_asm_laws.proofs.Laws.Starts.{Holds, given_holds}

-- where names of members lead from a type, its shape has a part
pub parts_within : (fs : List (ℕ × Form)) (t : NbcType) (ns : List (List ℕ)) → IsWithin (shape_in (source_of fs).types t) (member_path (source_of fs).types t ns)
parts_within fs t ns = path_within (types_of fs).structs (types_ordered fs) t ns

-- a variable's shape holds its start
abbrev pub VariableHolds : List Struct → Variable → Type 0
VariableHolds types v = Holds (shape_in types v.type) v.given

module _ (fs : List (ℕ × Form)) (kept : Each (IsKept (source_of fs)) fs) where
  abbrev types : List Struct
  types = (source_of fs).types

  line_holds : (l : ℕ × Form) → IsKept (source_of fs) l × LineFormed l → (v : Variable) → variable_of types l ≡ Some v → VariableHolds types v
  line_holds (l, forms.Declare n t g) h v e =
      let known : is_type_at types l t.name ≡ true = not-false (is_type_at types l t.name) h.0.known in
      let range : start_fits (shape_at types l t) g ≡ true = not-false (start_fits (shape_at types l t) g) h.0.range in
      subst (VariableHolds types) (same_Some _ v e) (given_holds types l t g h.1 range (text_bytes types l n t g h.0.text known))
  line_holds (l, f) h v e = absurd (none-some v e)

  pub variables_hold : Each LineFormed fs → Each (VariableHolds types) (source_of fs).vars
  variables_hold whole =
      each_given (VariableHolds types) (variable_of types) fs
      (each_weaker (λ l. IsKept (source_of fs) l × LineFormed l) _ fs line_holds (each_both (IsKept (source_of fs)) LineFormed fs kept whole))
