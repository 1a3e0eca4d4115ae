-- The code of blocks that keep the rules is accepted.
use Rattle.std.proofs.Common.{◌≡◌, ℕ, ◌-◌, ◌<◌, ◌≤◌, ◌==◌, Bool, true, false, ◌||◌, ◌&&◌, not, nat_lt, nat_le, All, List, [], ◌∷◌, length, Option, Some, None, refl, sym, ap, subst, ◌∙◌, inl, inr, arith, eqb-true}
use Rattle.std.specs.Prelude.{flat_map, slice_get}
use Rattle.std.specs.List.{list_any}
use Rattle.std.proofs.lemmas.Bool.{and_parts, both_ways, false_from_ne_true, leb-true, lt-leb, ltb-true, or_from}
use Rattle.std.proofs.lemmas.List.{length-map}
use Rattle.nxt_types.specs.Refusals.{IsAccepted, passes}
use Rattle.nxt_types.specs.Shapes.{Members, members}
use Rattle.nxt_types.specs.OperandRules.{operand_fits, sorts_of}
use Rattle.nxt_types.specs.Statements.{Statement, statements}
use Rattle.nxt_types.specs.declared.lists.ClumpRec.{ClumpRec}
use Rattle.nxt_code.specs.CodeRules as code
use Rattle.nxt_code.specs.CodeRules.{Broken, begins, breaks, dependent_at, dependent_in, dependent_lists, end_of, falls_out, is_bad_count, is_bad_start, is_due, is_inside, is_last_at, is_refused_operand, is_spelled, lacks_statement, leads_nowhere, may_go_on, program, starts_badly}
use Rattle.nxt_code.specs.Decoding.{Tiles}
use Rattle.nxt_code.specs.declared.fault.CodeFault.TheVariants.{ClumpCount, ClumpStart, Dependent, Instr, Operand, Jump, FallsOut, NoMemory}
use Rattle.nxt_model.specs.declared.nbc.NbcBlock.{NbcBlock}
use Rattle.nxt_model.specs.Assembled.{all_shapes, arg_word, code_from, records_from}
use Rattle.nxt_model.specs.TextProgram.{Text}
use Rattle.nxt_asm_parts.specs.Codable.{IsCodableBlock}
use Rattle.nxt_asm_rules.specs.AsmRules.{far_in_blocks}
use Rattle.nxt_asm_rules.proofs.Laws.Counts.{records_length}
use Rattle.nxt_asm_laws.proofs.Laws.Lists.{Each, each_weaker}
use Rattle.nxt_asm_laws_code.specs.Kept.{Closes, HasFit, IsKept}
use Rattle.nxt_asm_laws_code.specs.Placed.{placed_from, spelled}
use Rattle.nxt_asm_laws_code.proofs.Laws.Decoded.{statements-code_from}
use Rattle.nxt_asm_laws_code.proofs.KeptCode.{Ends, blocks_lead, code_ends, dependent_below, dependent_lists-records, each_placed, none_at, record_begins}
use Rattle.nxt_asm_laws_code.proofs.Tiled.{begins_between, code_tiled, due_spelled, either_true, first_spelled, none_inside}

-- what passes a test is not there
passes_none : {X : Type 0} (test : X → Bool) (o : Option X) → ((x : X) → o ≡ Some x → test x ≡ false) → passes test o ≡ false
passes_none test None h = refl
passes_none test (Some x) h = h x refl

-- the operands of a statement are refused nowhere
fit_operand : (ss : Members) (clumps k : ℕ) (s : Statement) → ((j : ℕ) → j < length s.args → operand_fits clumps s.op (sorts_of ss s) j ≡ true) → is_refused_operand ss clumps k s ≡ false
fit_operand ss clumps k s h =
    false_from_ne_true (is_refused_operand ss clumps k s)
    (λ is.
    let fits : Bool = operand_fits clumps s.op (sorts_of ss s) (k - 1) in
    let first = and_parts (nat_lt 0 k && nat_le k (length s.args)) (not fits) is in
    let second = and_parts (nat_lt 0 k) (nat_le k (length s.args)) first.0 in
    let some = ltb-true 0 k second.0 in
    let most = leb-true k (length s.args) second.1 in
    both_ways (not fits) (ap not (h (k - 1) (omega (arith, some, most)))) first.1)

-- where nothing follows the last, it doesn't go on
last_none : (sts : List (ℕ × Statement)) (w : ℕ) → Ends sts → is_last_at w may_go_on sts ≡ false
last_none [] w h = absurd h
last_none (s ∷ ss) w h = h w

module _ (p : Text) (codable : All IsCodableBlock p.blocks) (some : 1 ≤ length p.blocks) (few : length p.blocks ≤ 255) (near : (line : ℕ) → far_in_blocks line 0 p.blocks ≡ false)
    (kept : Each (IsKept p) p.blocks) where
  abbrev words : List ℕ
  words = code_from p 0 p.blocks

  abbrev placed : List (ℕ × Statement)
  placed = placed_from p 0 p.blocks

  abbrev records : List ClumpRec
  records = records_from 0 p.blocks

  abbrev shapes : Members
  shapes = members (all_shapes p)

  abbrev whole : code.Program
  whole = program shapes records (flat_map (λ b. b.dependents) p.blocks) words

  -- the statements, which stand one behind another
  decoded : statements words ≡ placed
  decoded = statements-code_from p p.blocks codable

  tiled : Tiles words 0 (statements words) (length words)
  tiled = subst (λ l. Tiles words 0 l (length words)) (sym decoded) (code_tiled p codable)

  closed : Each (λ (b : NbcBlock). Closes b.body) p.blocks
  closed = each_weaker (IsKept p) (λ (b : NbcBlock). Closes b.body) p.blocks (λ b h. h.closed) kept

  -- the rules, one by one
  count_kept : (n : ℕ) → is_bad_count (length records) n ≡ false
  count_kept n = false_from_ne_true (is_bad_count (length records) n) (λ is.
      let all = records_length 0 p.blocks in
      let both = and_parts (n == length records) ((n == 0) || nat_lt 255 n) is in
      let same = eqb-true n (length records) both.0 in
      elim (either_true (n == 0) (nat_lt 255 n) both.1) as (λ _. ⊥) [
        | inl none ↦ let zero = eqb-true n 0 none in omega (arith, all, same, zero, some)
        | inr over ↦ let many = ltb-true 255 n over in omega (arith, all, same, many, few)
      ])

  start_kept : (c : ℕ) → is_bad_start words records c ≡ false
  start_kept c = passes_none (starts_badly words) (slice_get records c) (λ r e.
      let begun : begins (statements words) r.start ≡ true = ap (λ l. begins l r.start) decoded ∙ record_begins p 0 p.blocks c r closed e in
      let under = (begins_between words (statements words) 0 (length words) r.start tiled begun).1 in
      or_from (nat_le (length words) r.start) (is_inside words r.start) (lt-leb (length words) r.start under)
      (none_inside words (statements words) 0 (length words) r.start tiled begun))

  dependent_kept : (c k : ℕ) → passes (λ d. nat_le (length records) d) (dependent_at records (flat_map (λ b. b.dependents) p.blocks) c k) ≡ false
  dependent_kept c k =
      ap (λ n. passes (λ d. nat_le n d) (dependent_at records (flat_map (λ b. b.dependents) p.blocks) c k)) (records_length 0 p.blocks)
      ∙ ap (λ l. passes (λ d. nat_le (length p.blocks) d) (dependent_in (slice_get l c) k)) (dependent_lists-records 0 p.blocks)
      ∙ dependent_below (length p.blocks) p.blocks c k (each_weaker (IsKept p) _ p.blocks (λ b h. h.dependents) kept)

  statement_kept : (w : ℕ) → lacks_statement words w ≡ false
  statement_kept w = false_from_ne_true (lacks_statement words w) (λ is.
      let first = and_parts (is_due words w && nat_lt w (length words)) (not (is_spelled words w)) is in
      let second = and_parts (is_due words w) (nat_lt w (length words)) first.0 in
      let under = ltb-true w (length words) second.1 in
      let there : is_spelled words w ≡ true = elim (either_true (w == 0) (list_any (λ s. end_of words s == w) (statements words)) second.0) as (λ _. is_spelled words w ≡ true) [
        | inl none ↦
            let at = eqb-true w 0 none in
            subst (λ v. is_spelled words v ≡ true) (sym at) (first_spelled words (statements words) 0 (length words) tiled (omega (arith, at, under)))
        | inr ended ↦ due_spelled words (statements words) 0 (length words) w tiled ended under
      ] in
      both_ways (not (is_spelled words w)) (ap not there) first.1)

  operand_kept : (w k : ℕ) → list_any (λ s. (s.0 == w) && is_refused_operand shapes (length records) k s.1) (statements words) ≡ false
  operand_kept w k =
      ap (λ l. list_any (λ s. (s.0 == w) && is_refused_operand shapes (length records) k s.1) l) decoded
      ∙ none_at (λ v s. is_refused_operand shapes (length records) k s) placed w
      (each_placed p (λ s. is_refused_operand shapes (length records) k s.1 ≡ false) (HasFit p)
      (λ at here s h. ap (λ n. is_refused_operand shapes n k (spelled p at here s)) (records_length 0 p.blocks)
      ∙ fit_operand shapes (length p.blocks) k (spelled p at here s) (λ j lt. let long = length-map s.args (arg_word p at here) in h at here j (omega (arith, lt, long))))
      0 p.blocks (each_weaker (IsKept p) _ p.blocks (λ b h. h.operands) kept))

  jump_kept : (w : ℕ) → list_any (λ s. (s.0 == w) && leads_nowhere words w s.1) (statements words) ≡ false
  jump_kept w =
      none_at (leads_nowhere words) (statements words) w
      (subst (λ l. Each (λ s. leads_nowhere words s.0 s.1 ≡ false) l) (sym decoded)
      (blocks_lead p (statements words) 0 p.blocks near (each_weaker (IsKept p) _ p.blocks (λ b h. h.jumps) kept)
      (λ test e. ap (λ l. list_any (λ t. test t.0) l) decoded ∙ e)))

  end_kept : (w : ℕ) → falls_out words w ≡ false
  end_kept w = ap (is_last_at w may_go_on) decoded ∙ by p.blocks some closed
    where
      by : (bs : List NbcBlock) → 1 ≤ length bs → Each (λ (b : NbcBlock). Closes b.body) bs → is_last_at w may_go_on (placed_from p 0 bs) ≡ false
      by [] le h = absurd (omega (arith, le))
      by (b ∷ bs) le h = last_none (placed_from p 0 (b ∷ bs)) w (code_ends p 0 b bs h)

  -- none of the rules of code is broken
  pub kept_accepted : IsAccepted (Broken whole)
  kept_accepted (ClumpCount n) is = both_ways (breaks whole (ClumpCount n)) (count_kept n) is
  kept_accepted (ClumpStart c) is = both_ways (breaks whole (ClumpStart c)) (start_kept c) is
  kept_accepted (Dependent c k) is = both_ways (breaks whole (Dependent c k)) (dependent_kept c k) is
  kept_accepted (Instr w) is = both_ways (breaks whole (Instr w)) (statement_kept w) is
  kept_accepted (Operand w k) is = both_ways (breaks whole (Operand w k)) (operand_kept w k) is
  kept_accepted (Jump w) is = both_ways (breaks whole (Jump w)) (jump_kept w) is
  kept_accepted (FallsOut w) is = both_ways (breaks whole (FallsOut w)) (end_kept w) is
  kept_accepted NoMemory is = both_ways (breaks whole NoMemory) refl is
