-- The operands of a text's statements fit by their words.
use Rattle.std.proofs.Common.{◌≡◌, ℕ, zero, suc, ◌+◌, ◌<◌, ◌≤◌, Bool, true, false, ◌&&◌, not, List, [], ◌∷◌, map, length, refl, sym, ap, subst, ◌∙◌, arith}
use Rattle.std.specs.Prelude.{slice_index_or, sum_by, zip}
use Rattle.std.specs.List.{enumerate_from, list_any}
use Rattle.std.proofs.lemmas.Bool.{and_parts, both_ways, not-false, or_parts}
use Rattle.std.proofs.lemmas.List.{length-map}
use Rattle.nxt_types.specs.Names.{size}
use Rattle.nxt_types.specs.Opcodes.{arity, classes, takes}
use Rattle.nxt_types.specs.OperandRules as image
use Rattle.nxt_types.specs.OperandRules.{Part, Sort, has_kind, is_allowed, is_destination, is_of_class, is_value, operand_fits, shape_of, sort_at, sort_of, sort_of_name}
use Rattle.nxt_types.specs.Shapes.{Members, members}
use Rattle.nxt_types.specs.Statements.{statement}
use Rattle.nxt_types.specs.declared.instr.Op.{Op}
use Rattle.nxt_types.specs.declared.instr.Op.TheVariants as ops
use Rattle.nxt_types.specs.declared.kind.Cmp.{Cmp}
use Rattle.nxt_types.specs.declared.opcodes.Class.{Class}
use Rattle.nxt_types.specs.declared.opcodes.Class.TheVariants.{Immediate}
use Rattle.nxt_model.specs.declared.nbc.NbcArg.{NbcArg}
use Rattle.nxt_model.specs.Nbc.Forms.{Term, Named}
use Rattle.nxt_model.specs.Nbc.NbcRules as rules
use Rattle.nxt_model.specs.Nbc.NbcRules.{has_class, is_out_of_range, is_refused_number, is_wide, is_wrong_kind, is_wrong_term, sort_of_denoted, sort_of_term, sorts_from}
use Rattle.nxt_model.specs.Nbc.Text as text
use Rattle.nxt_model.specs.Nbc.Text.{Source, Denoted, AVariable, ANumber, AText, ABlock, AType, Missing, LabelAt, arg_of, args_of, denoted, denoted_arg, is_word, number_arg, program_of}
use Rattle.nxt_model.specs.Assembled.{all_shapes, arg_word, code_op}
use Rattle.nxt_nbc_lines.proofs.Laws.Classes.{count_classes}
use Rattle.nxt_asm_laws.proofs.Laws.Lists.{Each}
use Rattle.nxt_asm_laws_code.specs.Kept.{HasFit}
use Rattle.nxt_asm_laws_code.proofs.Listed.{IsListed}
use Rattle.nxt_asm_laws_code.proofs.MatchedSorts.{AreMatched, Matches}
use Rattle.nxt_asm_laws_code.proofs.SortRules.{is_set, matched_fit}
use Rattle.nxt_asm_laws_code.proofs.SourceTerms.{HasPart, NamesBlock}
use Rattle.nxt_asm_laws_code.proofs.TermOperands.{term_matches}

-- ---- lists of operands

-- as many pairs as elements
pub length-zip : {X Y : Type 0} (xs : List X) (ys : List Y) → length xs ≡ length ys → length (zip xs ys) ≡ length ys
length-zip [] [] e = refl
length-zip [] (y ∷ ys) e = absurd (omega (arith, e))
length-zip (x ∷ xs) [] e = absurd (omega (arith, e))
length-zip (x ∷ xs) (y ∷ ys) e = ap suc (length-zip xs ys (omega (arith, e)))

-- only a set may be another operation in code
pub code_op-other : (op : Op) (xs : List NbcArg) → is_set op ≡ false → code_op op xs ≡ op
code_op-other ops.Set xs e = absurd (both_ways true e refl)
code_op-other op xs e = refl

module _ (src : Source) (line : ℕ) (op : Op) where
  length-sorts_from : (j : ℕ) (cts : List (Class × Term)) → length (sorts_from src line op j cts) ≡ length cts
  length-sorts_from j [] = refl
  length-sorts_from j (x ∷ cts) = ap suc (length-sorts_from (j + 1) cts)

  -- the sort of a term by its position
  pub sorts_at : (j : ℕ) (cs : List Class) (ts : List Term) (k : ℕ) → length cs ≡ length ts → k < length ts
      → sort_at (sorts_from src line op j (zip cs ts)) k ≡ sort_of_term src line (slice_index_or cs k Immediate) (is_destination op (j + k)) (slice_index_or ts k (Named []))
  sorts_at j [] [] k same lt = absurd (omega (arith, lt))
  sorts_at j [] (t ∷ ts) k same lt = absurd (omega (arith, same))
  sorts_at j (c ∷ cs) [] k same lt = absurd (omega (arith, lt))
  sorts_at j (c ∷ cs) (t ∷ ts) zero same lt = let first : j ≡ j + 0 = omega arith in ap (λ i. sort_of_term src line c (is_destination op i) t) first
  sorts_at j (c ∷ cs) (t ∷ ts) (suc k) same lt =
      let next : j + 1 + k ≡ j + suc k = omega arith in
      sorts_at (j + 1) cs ts k (omega (arith, same)) (omega (arith, lt))
      ∙ ap (λ i. sort_of_term src line (slice_index_or cs k Immediate) (is_destination op i) (slice_index_or ts k (Named []))) next

-- the sort of an operand's word by its position
words_at : (ss : Members) (f : NbcArg → ℕ) (g : Class × Term → NbcArg) (cs : List Class) (ts : List Term) (k : ℕ) → length cs ≡ length ts → k < length ts
    → sort_at (map (λ p. sort_of ss p.0 p.1) (zip cs (map f (map g (zip cs ts))))) k ≡ sort_of ss (slice_index_or cs k Immediate) (f (g (slice_index_or cs k Immediate, slice_index_or ts k (Named []))))
words_at ss f g [] [] k same lt = absurd (omega (arith, lt))
words_at ss f g [] (t ∷ ts) k same lt = absurd (omega (arith, same))
words_at ss f g (c ∷ cs) [] k same lt = absurd (omega (arith, lt))
words_at ss f g (c ∷ cs) (t ∷ ts) zero same lt = refl
words_at ss f g (c ∷ cs) (t ∷ ts) (suc k) same lt = words_at ss f g cs ts k (omega (arith, same)) (omega (arith, lt))

-- as many as terms
length-words : (ss : Members) (f : NbcArg → ℕ) (g : Class × Term → NbcArg) (cs : List Class) (ts : List Term) → length cs ≡ length ts
    → length (map (λ p. sort_of ss p.0 p.1) (zip cs (map f (map g (zip cs ts))))) ≡ length ts
length-words ss f g [] [] same = refl
length-words ss f g [] (t ∷ ts) same = absurd (omega (arith, same))
length-words ss f g (c ∷ cs) [] same = absurd (omega (arith, same))
length-words ss f g (c ∷ cs) (t ∷ ts) same = ap suc (length-words ss f g cs ts (omega (arith, same)))

-- what holds of each operand holds of the one at a position
each_at : (P : NbcArg → Type 0) (g : Class × Term → NbcArg) (cs : List Class) (ts : List Term) (k : ℕ) → length cs ≡ length ts → k < length ts
    → Each P (map g (zip cs ts)) → P (g (slice_index_or cs k Immediate, slice_index_or ts k (Named [])))
each_at P g [] [] k same lt h = absurd (omega (arith, lt))
each_at P g [] (t ∷ ts) k same lt h = absurd (omega (arith, same))
each_at P g (c ∷ cs) [] k same lt h = absurd (omega (arith, lt))
each_at P g (c ∷ cs) (t ∷ ts) zero same lt h = h.0
each_at P g (c ∷ cs) (t ∷ ts) (suc k) same lt h = each_at P g cs ts k (omega (arith, same)) (omega (arith, lt)) h.1

-- a test that passes at none fails at each position
none_numbered : (p : ℕ × Term → Bool) (j : ℕ) (ts : List Term) (k : ℕ) → k < length ts → list_any p (enumerate_from j ts) ≡ false → p (j + k, slice_index_or ts k (Named [])) ≡ false
none_numbered p j [] k lt e = absurd (omega (arith, lt))
none_numbered p j (t ∷ ts) zero lt e = let first : j + 0 ≡ j = omega arith in ap (λ i. p (i, t)) first ∙ (or_parts (p (j, t)) (list_any p (enumerate_from (j + 1) ts)) e).0
none_numbered p j (t ∷ ts) (suc k) lt e =
    let next : j + suc k ≡ j + 1 + k = omega arith in
    ap (λ i. p (i, slice_index_or ts k (Named []))) next
    ∙ none_numbered p (j + 1) ts k (omega (arith, lt)) (or_parts (p (j, t)) (list_any p (enumerate_from (j + 1) ts)) e).1

-- ---- a line's statement

-- what is known of a statement of a text that keeps the rules
pub record IsFine (src : Source) (ls : List LabelAt) (line : ℕ) (op : Op) (ts : List Term) : Type 0 where
  pub taken : takes (arity op) (length ts) ≡ true
  pub kinds : (k : ℕ) → k < length ts → is_wrong_term src line op ts k ≡ false
  pub ranges : list_any (is_refused_number src line op ts) (enumerate_from 0 ts) ≡ false
  pub listed : Each (IsListed (program_of src)) (args_of src ls line op ts)

module _ (src : Source) (few : sum_by size (all_shapes (program_of src)) ≤ 49151) (parts : (line : ℕ) (t : Term) → HasPart src (denoted src line t))
    (names : (line : ℕ) (t : Term) → NamesBlock src t (denoted src line t)) where
  module _ (ls : List LabelAt) (line : ℕ) (op : Op) (ts : List Term) (h : IsFine src ls line op ts) where
    abbrev cs : List Class
    cs = classes op (length ts)

    abbrev os : List Sort
    os = rules.sorts_of src line op ts

    -- as many classes and sorts as terms
    pub many : length cs ≡ length ts
    many = count_classes op (length ts) h.taken

    pub long : length os ≡ length ts
    long = length-sorts_from src line op 0 (zip cs ts) ∙ length-zip cs ts many

    -- each term is of its kind, and in range
    pub right_term : (k : ℕ) → k < length ts → (has_class src line (slice_index_or cs k Immediate) (slice_index_or ts k (Named [])) ≡ true) × (has_kind 1 op os k ≡ true)
    right_term k lt =
        let class : Bool = has_class src line (slice_index_or cs k Immediate) (slice_index_or ts k (Named [])) in
        and_parts class (has_kind 1 op os k) (not-false (class && has_kind 1 op os k) (h.kinds k lt))

    pub right_number : (k : ℕ) → k < length ts → is_allowed op os k ≡ true
    right_number k lt =
        let none = none_numbered (is_refused_number src line op ts) 0 ts k lt h.ranges in
        let same : 0 + k ≡ k = omega arith in
        not-false (is_allowed op os k)
        (ap (λ i. not (is_allowed op os i)) (sym same)
        ∙ (or_parts (is_wide (denoted src line (slice_index_or ts k (Named [])))) (not (is_allowed op os (0 + k))) none).1)

    -- an operand is of its class
    pub right_class : (k : ℕ) → k < length ts
        → is_of_class 1 (slice_index_or cs k Immediate) (sort_of_term src line (slice_index_or cs k Immediate) (is_destination op (0 + k)) (slice_index_or ts k (Named []))) ≡ true
    right_class k lt =
        let more : Bool = slice_index_or (image.asked op (λ i. shape_of (sort_at os i)) (λ i. image.word_of (sort_at os i)) os) k true in
        let own = (and_parts (is_of_class 1 (slice_index_or (classes op (length os)) k Immediate) (sort_at os k)) more (right_term k lt).1).0 in
        subst (λ o. is_of_class 1 (slice_index_or cs k Immediate) o ≡ true) (sorts_at src line op 0 cs ts k many lt)
        (subst (λ n. is_of_class 1 (slice_index_or (classes op n) k Immediate) (sort_at os k) ≡ true) long own)

    module _ (at : List ℕ) (here : ℕ) where
      abbrev f : NbcArg → ℕ
      f a = arg_word (program_of src) at here a

      abbrev g : Class × Term → NbcArg
      g p = arg_of src ls line p.0 p.1

      abbrev ws : List Sort
      ws = map (λ p. sort_of (members (all_shapes (program_of src))) p.0 p.1) (zip cs (map f (map g (zip cs ts))))

      matched : AreMatched (length (program_of src).blocks) op (length ts) os ws
      matched = record {
        taken = h.taken;
        long = long;
        same = length-words (members (all_shapes (program_of src))) f g cs ts many;
        each = λ k lt.
            let c : Class = slice_index_or cs k Immediate in
            let t : Term = slice_index_or ts k (Named []) in
            subst (λ o. Matches (length (program_of src).blocks) c o (sort_at ws k)) (sym (sorts_at src line op 0 cs ts k many lt))
            (subst (λ w. Matches (length (program_of src).blocks) c (sort_of_term src line c (is_destination op (0 + k)) t) w)
            (sym (words_at (members (all_shapes (program_of src))) f g cs ts k many lt))
            (term_matches src few at here ls line (is_destination op (0 + k)) t (parts line t) (names line t) c (right_term k lt).0 (right_class k lt)
            (each_at (IsListed (program_of src)) g cs ts k many lt h.listed)));
        kinds = λ k lt. (right_term k lt).1;
        ranges = right_number;
      }

    -- a statement other than a set
    pub other_fit : (cmp : Cmp) → is_set op ≡ false → HasFit (program_of src) (text.statement line op cmp (args_of src ls line op ts))
    other_fit cmp plain at here k lt =
        let xs : List NbcArg = args_of src ls line op ts in
        let ss : Members = members (all_shapes (program_of src)) in
        let n : ℕ = length (program_of src).blocks in
        let words : List ℕ = map (f at here) xs in
        let args_long : length xs ≡ length ts = length-map (zip cs ts) (g at here) ∙ length-zip cs ts many in
        let words_long : length words ≡ length ts = length-map xs (f at here) ∙ args_long in
        subst (λ o. operand_fits n o (image.sorts_of ss (statement o cmp words)) k ≡ true) (sym (code_op-other op xs plain))
        (subst (λ m. operand_fits n op (map (λ p. sort_of ss p.0 p.1) (zip (classes op m) words)) k ≡ true) (sym words_long)
        (matched_fit n op (length ts) os (ws at here) plain (matched at here) k (omega (arith, lt, args_long))))
