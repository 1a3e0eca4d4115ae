-- The least operand that a test finds, counted from 1.
use Rattle.std.proofs.Common.{◌≡◌, ℕ, zero, suc, ◌+◌, ◌<◌, ◌≤◌, nat_lt, Bool, true, false, not, ◌&&◌, List, [], length, get_or, slice_get, Option, Some, None, refl, sym, ap, ◌∙◌, arith}
use Rattle.std.proofs.lemmas.Bool.Decides.{nat_tests}
use Rattle.std.proofs.lemmas.List.{get_or-map, length-map}
use Rattle.std.proofs.lemmas.Option.{slice_get-get_or, slice_get_past}
use Rattle.nxt_types.specs.Opcodes.{arity, class_in, row, takes}
use Rattle.nxt_types.specs.OperandRules.{has_kind}
use Rattle.nxt_types.specs.declared.instr.Op.{Op}
use Rattle.nxt_model.specs.Nbc.Forms.{Term, Named, Precedes, Follows}
use Rattle.nxt_model.specs.Nbc.Text.{Source, denoted}
use Rattle.nxt_model.specs.Nbc.NbcRules.{class_at, has_class, is_no_thread, is_thread, is_wrong_kind, is_wrong_term, sorts_of}
use Rattle.nxt_nbc_lines.specs.Firsts.{IsLeast}
use Rattle.nxt_nbc_lines.specs.Seen.{term_seen, terms_seen}
use Rattle.nxt_nbc_lines.specs.declared.terms.Term.{Term as ProgramTerm}
use Rattle.nxt_nbc_lines.proofs.Laws.Classes.{class_there}
use Rattle.nxt_model.specs.Nbc.Structs.{Types}
use Rattle.nxt_nbc_kinds.specs.OperandsSeen.{operand_seen, operands_seen}
use Rattle.nxt_nbc_kinds.specs.declared.operand.Operand.{Operand}
use Rattle.nxt_nbc_kinds.proofs.SortsInTurn.{count_seen}

module _ (test : ℕ → Bool) (no_zero : test 0 ≡ false) where
  pub least_at : (k : ℕ) → ((j : ℕ) → j < k → test (suc j) ≡ false) → test (suc k) ≡ true → IsLeast test (Some (k + 1))
  least_at k before here = (ap test (let more : k + 1 ≡ suc k = omega arith in more) ∙ here, earlier)
    where
      earlier : (j : ℕ) → j < k + 1 → test j ≡ false
      earlier zero under = no_zero
      earlier (suc j) under = before j (omega arith)

  pub least_none : ((j : ℕ) → test (suc j) ≡ false) → IsLeast test None
  least_none none = all
    where
      all : (j : ℕ) → test j ≡ false
      all zero = no_zero
      all (suc j) = none j

  by_place : (n j : ℕ) (b : Bool) → nat_lt j n ≡ b → ((i : ℕ) → i < n → test (suc i) ≡ false) → ((i : ℕ) → n ≤ i → test (suc i) ≡ false) → test (suc j) ≡ false
  by_place n j true e before after = before j (grind (arith, nat_tests))
  by_place n j false e before after = after j (grind (arith, nat_tests))

  -- none of so many, and none behind them
  pub least_past : (n : ℕ) → ((j : ℕ) → j < n → test (suc j) ≡ false) → ((j : ℕ) → n ≤ j → test (suc j) ≡ false) → IsLeast test None
  least_past n before after = least_none (λ j. by_place n j (nat_lt j n) refl before after)

pub least_same : (p q : ℕ → Bool) → ((k : ℕ) → p k ≡ q k) → (o : Option ℕ) → IsLeast p o → IsLeast q o
least_same p q same None least = λ l. sym (same l) ∙ least l
least_same p q same (Some k) least = (sym (same k) ∙ least.0, λ l under. sym (same l) ∙ least.1 l under)

-- ---- threads

module _ (src : Source) (line : ℕ) (terms : List ProgramTerm) where
  pub no_thread_at : (k : ℕ) (term : ProgramTerm) (b : Bool) → k < length terms → term ≡ get_or terms k term → b ≡ is_thread (denoted src line (term_seen term))
      → is_no_thread src line (slice_get (terms_seen terms) k) ≡ not b
  no_thread_at k term b under there is =
      let n = length-map terms term_seen in
      ap (is_no_thread src line)
      (slice_get-get_or (terms_seen terms) k (term_seen term) (omega arith)
      ∙ ap Some (get_or-map term_seen terms k term (term_seen term) under ∙ ap term_seen (sym there)))
      ∙ ap not (sym is)

  pub no_thread_past : (k : ℕ) → length terms ≤ k → is_no_thread src line (slice_get (terms_seen terms) k) ≡ false
  no_thread_past k over =
      let n = length-map terms term_seen in
      ap (is_no_thread src line) (slice_get_past (terms_seen terms) k (omega arith))

-- ---- statements

module _ (src : Source) (line : ℕ) (op : Op) (terms : List ProgramTerm) (taken : takes (arity op) (length terms) ≡ true) where
  abbrev ts : List Term
  ts = terms_seen terms

  class_seen : (k : ℕ) → k < length terms → class_at op (length ts) k ≡ class_in (row op).operands k
  class_seen k under =
      let n = length-map terms term_seen in
      ap (λ m. class_at op m k) n ∙ class_there op (length terms) k taken under

  -- an operand is wrong where one of the tests fails
  pub wrong_at : (k : ℕ) (term : ProgramTerm) (b d : Bool) → k < length terms → term ≡ get_or terms k term
      → b ≡ has_class src line (class_in (row op).operands k) (term_seen term) → d ≡ has_kind 1 op (sorts_of src line op ts) k
      → (nat_lt k (length ts) && is_wrong_term src line op ts k) ≡ not (b && d)
  wrong_at k term b d under there classed kind =
      let n = length-map terms term_seen in
      let inside : nat_lt k (length ts) ≡ true = grind (arith, nat_tests) in
      ap (λ p. p && is_wrong_term src line op ts k) inside
      ∙ ap (λ c. not (has_class src line c (get_or ts k (Named [])) && has_kind 1 op (sorts_of src line op ts) k)) (class_seen k under)
      ∙ ap (λ t. not (has_class src line (class_in (row op).operands k) t && has_kind 1 op (sorts_of src line op ts) k))
      (get_or-map term_seen terms k term (Named []) under ∙ ap term_seen (sym there))
      ∙ ap (λ p. not (p && has_kind 1 op (sorts_of src line op ts) k)) (sym classed)
      ∙ ap (λ p. not (b && p)) (sym kind)

  pub count_operands : (t : Types) (os : List Operand) → operands_seen t os ≡ sorts_of src line op ts → length os ≡ length terms
  count_operands t os is = sym (length-map os (operand_seen t)) ∙ ap (λ ss. length ss) is ∙ count_seen src line op t terms taken

  pub wrong_past : (k : ℕ) → length terms ≤ k → (nat_lt k (length ts) && is_wrong_term src line op ts k) ≡ false
  wrong_past k over =
      let n = length-map terms term_seen in
      let outside : nat_lt k (length ts) ≡ false = grind (arith, nat_tests) in
      ap (λ p. p && is_wrong_term src line op ts k) outside

-- the operands of the two forms that name threads are alike
pub followed : (src : Source) (line : ℕ) (named : List Term) (k : ℕ) → is_wrong_kind src line k (Precedes named) ≡ is_wrong_kind src line k (Follows named)
followed src line named zero = refl
followed src line named (suc k) = refl
