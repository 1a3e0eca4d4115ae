-- What the operands of a statement are, one after another.
use Rattle.std.proofs.Common.{◌≡◌, ℕ, zero, suc, ◌+◌, ◌<◌, ◌≤◌, Bool, true, List, [], ◌∷◌, ◌++◌, take, length, get_or, refl, sym, ap, ap₂, ◌∙◌, arith}
use Rattle.std.specs.Prelude.{zip}
use Rattle.std.proofs.lemmas.List.{get_or-map, length-map, map_push, take_more}
use Rattle.nxt_types.specs.Opcodes.{arity, class_in, classes, row, takes}
use Rattle.nxt_types.specs.OperandRules.{Unknown, is_destination}
use Rattle.nxt_types.specs.declared.instr.Op.{Op}
use Rattle.nxt_types.specs.declared.opcodes.Class.{Class}
use Rattle.nxt_types.specs.declared.opcodes.Class.TheVariants.{Immediate}
use Rattle.nxt_model.specs.Nbc.Forms.{Term, Named}
use Rattle.nxt_model.specs.Nbc.Text.{Source}
use Rattle.nxt_model.specs.Nbc.NbcRules.{sort_of_term, sorts_from, sorts_of}
use Rattle.nxt_nbc_lines.specs.Seen.{term_seen, terms_seen}
use Rattle.nxt_nbc_lines.specs.declared.terms.Term.{Term as ProgramTerm}
use Rattle.nxt_nbc_lines.proofs.Laws.Classes.{class_there, count_classes}
use Rattle.nxt_model.specs.Nbc.Structs.{Types}
use Rattle.nxt_nbc_kinds.specs.OperandsSeen.{operand_seen, operands_seen}
use Rattle.nxt_nbc_kinds.specs.declared.operand.Operand.{Operand}

module _ (src : Source) (line : ℕ) (op : Op) where
  count_from : (j : ℕ) (cs : List Class) (ts : List Term) → length cs ≡ length ts → length (sorts_from src line op j (zip cs ts)) ≡ length ts
  count_from j [] [] same = refl
  count_from j [] (t ∷ ts) same = absurd (omega arith)
  count_from j (c ∷ cs) [] same = absurd (omega arith)
  count_from j (c ∷ cs) (t ∷ ts) same = ap suc (count_from (j + 1) cs ts (omega arith))

  sort_from : (j : ℕ) (cs : List Class) (ts : List Term) (k : ℕ) (d : Term) → length cs ≡ length ts → k < length ts
      → get_or (sorts_from src line op j (zip cs ts)) k Unknown ≡ sort_of_term src line (get_or cs k Immediate) (is_destination op (j + k)) (get_or ts k d)
  sort_from j [] [] k d same under = absurd (omega arith)
  sort_from j [] (t ∷ ts) k d same under = absurd (omega arith)
  sort_from j (c ∷ cs) [] k d same under = absurd (omega arith)
  sort_from j (c ∷ cs) (t ∷ ts) zero d same under = ap (λ n. sort_of_term src line c (is_destination op n) t) (let here : j ≡ j + 0 = omega arith in here)
  sort_from j (c ∷ cs) (t ∷ ts) (suc k) d same under =
      sort_from (j + 1) cs ts k d (omega arith) (omega arith)
      ∙ ap (λ n. sort_of_term src line (get_or cs k Immediate) (is_destination op n) (get_or ts k d)) (let next : j + 1 + k ≡ j + suc k = omega arith in next)

  module _ (ts : List Term) (taken : takes (arity op) (length ts) ≡ true) where
    pub count_sorts : length (sorts_of src line op ts) ≡ length ts
    count_sorts = count_from 0 (classes op (length ts)) ts (count_classes op (length ts) taken)

    sort_there : (k : ℕ) (d : Term) → k < length ts
        → get_or (sorts_of src line op ts) k Unknown ≡ sort_of_term src line (class_in (row op).operands k) (is_destination op k) (get_or ts k d)
    sort_there k d under =
        sort_from 0 (classes op (length ts)) ts k d (count_classes op (length ts) taken) under
        ∙ ap₂ (λ c n. sort_of_term src line c (is_destination op n) (get_or ts k d)) (class_there op (length ts) k taken under) (let here : 0 + k ≡ k = omega arith in here)

  -- ---- in a loop over the operands

  module _ (t : Types) (terms : List ProgramTerm) (taken : takes (arity op) (length terms) ≡ true) where
    taken_seen : takes (arity op) (length (terms_seen terms)) ≡ true
    taken_seen = ap (takes (arity op)) (length-map terms term_seen) ∙ taken

    pub count_seen : length (sorts_of src line op (terms_seen terms)) ≡ length terms
    count_seen = count_sorts (terms_seen terms) taken_seen ∙ length-map terms term_seen

    pub sorts_more : (os next : List Operand) (o : Operand) (k : ℕ) (class : Class) (stored : Bool) (term : ProgramTerm) → k < length terms
        → operands_seen t os ≡ take k (sorts_of src line op (terms_seen terms))
        → class ≡ class_in (row op).operands k → stored ≡ is_destination op k → term ≡ get_or terms k term
        → operand_seen t o ≡ sort_of_term src line class stored (term_seen term) → next ≡ os ++ o ∷ []
        → operands_seen t next ≡ take (k + 1) (sorts_of src line op (terms_seen terms))
    sorts_more os next o k class stored term under before classed destined there here pushed =
        let all = sorts_of src line op (terms_seen terms) in
        let n = count_seen in
        let inside : k < length all = omega arith in
        let m = length-map terms term_seen in
        let seen : k < length (terms_seen terms) = omega arith in
        ap (operands_seen t) pushed
        ∙ map_push (operand_seen t) os o
        ∙ ap₂ (λ xs x. xs ++ x ∷ []) before
        (here
        ∙ ap₂ (λ c b. sort_of_term src line c b (term_seen term)) classed destined
        ∙ ap (λ x. sort_of_term src line (class_in (row op).operands k) (is_destination op k) x)
        (ap term_seen there ∙ sym (get_or-map term_seen terms k term (Named []) under))
        ∙ sym (sort_there (terms_seen terms) taken_seen k (Named []) seen))
        ∙ sym (take_more all k Unknown inside)

    pub sorts_whole : (os : List Operand) (k : ℕ) → length terms ≤ k → operands_seen t os ≡ take k (sorts_of src line op (terms_seen terms))
        → operands_seen t os ≡ sorts_of src line op (terms_seen terms)
    sorts_whole os k over before =
        let n = count_seen in
        before ∙ take_past (sorts_of src line op (terms_seen terms)) k (omega arith)
      where
        take_past : {X : Type 0} (xs : List X) (k : ℕ) → length xs ≤ k → take k xs ≡ xs
        take_past [] zero over = refl
        take_past [] (suc k) over = refl
        take_past (x ∷ xs) zero over = absurd (omega arith)
        take_past (x ∷ xs) (suc k) over = ap (λ more. x ∷ more) (take_past xs k (omega arith))
