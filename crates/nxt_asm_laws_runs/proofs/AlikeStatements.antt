-- A statement of a text and the one that its words spell are alike.
use Rattle.std.proofs.Common.{◌≡◌, ℕ, zero, suc, ◌+◌, ◌<◌, ◌≤◌, Bool, true, false, ◌&&◌, List, [], ◌∷◌, ◌++◌, map, length, pos, refl, sym, ap, subst, ◌∙◌, inl, inr, arith, length-append}
use Rattle.std.specs.Prelude.{if◌then◌else◌, nat_abs, slice_index, slice_index_or, sum_by, zip}
use Rattle.std.specs.List.{list_any}
use Rattle.std.proofs.lemmas.Bool.{and_parts, both_ways, or_parts}
use Rattle.std.proofs.lemmas.List.{length-map, take-append-le}
use Rattle.nxt_facts.proofs.Each.{Each}
use Rattle.nxt_types.specs.Names.{named, size}
use Rattle.nxt_types.specs.Opcodes.{classes}
use Rattle.nxt_types.specs.OperandRules.{is_destination, is_mutex, operand_fits, shape_of, sort_of_name, sorts_of}
use Rattle.nxt_types.specs.Shapes.{Array, Cluster, Members, Mutex, Number, Shape, Void, member, members, no_members, shapes_of}
use Rattle.nxt_types.specs.Statements.{Statement, statement, statement_number}
use Rattle.nxt_types.specs.declared.instr.Op.{Op}
use Rattle.nxt_types.specs.declared.instr.Op.TheVariants as ops
use Rattle.nxt_types.specs.declared.kind.Cmp.{Cmp}
use Rattle.nxt_types.specs.declared.kind.Kind.TheVariants.{Slong}
use Rattle.nxt_types.specs.declared.opcodes.Class.TheVariants.{Mutex as AMutex}
use Rattle.nxt_model.specs.declared.nbc.NbcArg.{NbcArg}
use Rattle.nxt_model.specs.declared.nbc.NbcArg.TheVariants as args
use Rattle.nxt_model.specs.declared.nbc.NbcStatement.{NbcStatement}
use Rattle.nxt_model.specs.Assembled.{all_shapes, arg_word, code_op, entry_of, has_constant}
use Rattle.nxt_model.specs.Image as image
use Rattle.nxt_model.specs.TextProgram as text
use Rattle.nxt_model.specs.TextProgram.{Text, constants, declared, jump_place, number_of, reference, returns, shape_of_part, shapes, text_shape, texts, variable_number}
use Rattle.nxt_model.specs.Variables.{refers}
use Rattle.nxt_asm_rules.specs.AsmRules.{is_far, jumps_far}
use Rattle.nxt_asm_laws_code.specs.Kept.{HasFit, JumpsBelow, LeadsBelow}
use Rattle.nxt_asm_laws_code.specs.Placed.{spelled}
use Rattle.nxt_asm_laws_code.specs.Suits.{IsSuited, SuitFrom, Suits, is_part_class}
use Rattle.nxt_asm_laws_code.specs.There.{IsThere, LeadsTo}
use Rattle.nxt_asm_laws_code.proofs.Laws.Landings.{landing-near}
use Rattle.nxt_asm_laws_code.proofs.Laws.Operands.{declared_at, named_number, named_part, named_return, named_text}
use Rattle.nxt_asm_laws_layout.proofs.Laws.Parts.{AreParts, IsPart, IsVariable}
use Rattle.nxt_asm_laws_runs.proofs.Agreement.{agree_all, constant_values, places_of, variable_count}
use Rattle.nxt_asm_laws_runs.proofs.Constants.{AgreeAll}
use Rattle.nxt_asm_laws_runs.proofs.SameStatements.{AreAlike, SameOp, has_mutex}

-- ---- mutexes

-- no part of a part is a mutex
mutual
  no_mutex : (s : Shape) (path : List ℕ) → IsPart s → LeadsTo s path → is_mutex (shape_of_part s path) ≡ true → ⊥
  no_mutex Void path h leads e = h
  no_mutex (Number k) [] h leads e = both_ways false refl e
  no_mutex (Number k) (j ∷ path) h leads e = let lt = leads.0 in omega (arith, lt)
  no_mutex (Array m s) [] h leads e = both_ways false refl e
  no_mutex (Array m s) (j ∷ path) h leads e = let lt = leads.0 in omega (arith, lt)
  no_mutex (Cluster ss) [] h leads e = both_ways false refl e
  no_mutex (Cluster ss) (j ∷ path) h leads e = none_mutex ss j path h.1 leads.0 leads.1 e
  no_mutex Mutex path h leads e = h

  none_mutex : (ss : Members) (j : ℕ) (path : List ℕ) → AreParts ss → j < length (shapes_of ss) → LeadsTo (slice_index_or (shapes_of ss) j Void) path
      → is_mutex (shape_of_part (slice_index_or (shapes_of ss) j Void) path) ≡ true → ⊥
  none_mutex no_members j path h lt leads e = omega (arith, lt)
  none_mutex (member s ss) zero path h lt leads e = no_mutex s path h.0 leads e
  none_mutex (member s ss) (suc j) path h lt leads e = none_mutex ss j path h.1 (omega (arith, lt)) leads e

-- a mutex is a variable as a whole
mutex_whole : (s : Shape) (path : List ℕ) → IsVariable s → LeadsTo s path → is_mutex (shape_of_part s path) ≡ true → path ≡ []
mutex_whole s [] h leads e = refl
mutex_whole Mutex (j ∷ path) h leads e = absurd (let lt = leads.0 in omega (arith, lt))
mutex_whole Void (j ∷ path) h leads e = absurd (let lt = leads.0 in omega (arith, lt))
mutex_whole (Number k) (j ∷ path) h leads e = absurd (let lt = leads.0 in omega (arith, lt))
mutex_whole (Array m s) (j ∷ path) h leads e = absurd (let lt = leads.0 in omega (arith, lt))
mutex_whole (Cluster ss) (j ∷ path) h leads e = absurd (no_mutex (Cluster ss) (j ∷ path) h.0 leads e)

-- ---- operations

code_same : (op : Op) (xs : List NbcArg) → SameOp op (code_op op xs)
code_same ops.Set xs = by (has_constant xs)
  where
    by : (b : Bool) → SameOp ops.Set (if b then ops.Mov else ops.Set)
    by true = inr (refl, refl)
    by false = inl refl
code_same op xs = inl refl

-- what is known of a statement of a text that is assembled, at its word
pub record IsAssembledAt (p : Text) (m : ℕ) (at : List ℕ) (here : ℕ) (s : NbcStatement) : Type 0 where
  pub there : Each (IsThere p) s.args
  pub suited : IsSuited s
  pub fit : HasFit p s
  pub leads : JumpsBelow m s
  pub near : list_any (jumps_far at here) s.args ≡ false

module _ (p : Text) (few : sum_by size (all_shapes p) ≤ 49151) (variables : (i : ℕ) → i < length (declared p) → IsVariable (slice_index_or (declared p) i Void)) (code : List (ℕ × Statement))
    (first here m : ℕ) (at : List ℕ) (numbered : (place : ℕ) → place < m → statement_number code (pos (slice_index at place)) ≡ first + place) where
  abbrev ss : Members
  ss = members (all_shapes p)

  -- ---- jumps

  target_by : (xs : List NbcArg) → LeadsBelow m xs → list_any (jumps_far at here) xs ≡ false
      → image.target code here (slice_index (map (arg_word p at here) xs) 0) ≡ jump_place first (slice_index_or xs 0 args.Left)
  target_by (args.Jump place ∷ xs) below near =
      let own : is_far here (slice_index at place) ≡ false = (or_parts (is_far here (slice_index at place)) (list_any (jumps_far at here) xs) near).0 in
      ap (statement_number code) (landing-near here (slice_index at place) own) ∙ numbered place below
  target_by [] below near = absurd below
  target_by (args.Left ∷ xs) below near = absurd below
  target_by (args.Var i path ∷ xs) below near = absurd below
  target_by (args.Number z ∷ xs) below near = absurd below
  target_by (args.Text bytes ∷ xs) below near = absurd below
  target_by (args.Imm m ∷ xs) below near = absurd below
  target_by (args.Block b ∷ xs) below near = absurd below
  target_by (args.Back b ∷ xs) below near = absurd below

  -- ---- mutexes

  -- a variable's number among all entries
  same_number : (i : ℕ) → i ≤ length (shapes p) → variable_number (all_shapes p) i ≡ variable_number (shapes p) i
  same_number i le =
      let numbers : List Shape = map (λ z. Number Slong) (constants p) in
      let others : List Shape = map (λ t. text_shape) (texts p) in
      let both = length-append (shapes p) numbers in
      ap (sum_by size) (take-append-le i (shapes p ++ numbers) others (omega (arith, le, both)) ∙ take-append-le i (shapes p) numbers le)

  mutex_by : (stored : Bool) (a : NbcArg) → IsThere p a → Suits AMutex stored a → is_mutex (shape_of (sort_of_name (named ss (arg_word p at here a)))) ≡ true → arg_word p at here a ≡ number_of p a
  mutex_by stored args.Left there suits e = absurd (both_ways false refl e)
  mutex_by stored (args.Var i path) there suits e =
      let ks : List ℕ = map nat_abs path in
      let both = length-append (declared p) (returns p) in
      let under = there.0 in
      let name = (named_part p few i ks there.0 there.1).0 in
      let own : is_mutex (shape_of_part (slice_index_or (shapes p) i Void) ks) ≡ true = ap (λ o. is_mutex (shape_of (sort_of_name o))) (sym name) ∙ e in
      let whole : ks ≡ [] =
      mutex_whole (slice_index_or (declared p) i Void) ks (variables i there.0) there.1
      (ap (λ s. is_mutex (shape_of_part s ks)) (sym (declared_at p few i there.0)) ∙ own) in
      let none : variable_number (all_shapes p) i + 0 ≡ variable_number (all_shapes p) i = omega arith in
      ap (entry_of (all_shapes p) i) whole ∙ none ∙ same_number i (omega (arith, under, both))
  mutex_by stored (args.Number z) there suits e =
      absurd (both_ways false refl (ap (λ o. is_mutex (shape_of (sort_of_name o))) (sym (named_number p few _ there).0) ∙ e))
  mutex_by stored (args.Text bytes) there suits e =
      absurd (both_ways false refl (ap (λ o. is_mutex (shape_of (sort_of_name o))) (sym (named_text p few _ there).0) ∙ e))
  mutex_by stored (args.Back b) there suits e =
      absurd (both_ways false refl (ap (λ o. is_mutex (shape_of (sort_of_name o))) (sym (named_return p few _ there).0) ∙ e))
  mutex_by stored (args.Imm m) there suits e = absurd (both_ways (is_part_class AMutex) (ap is_part_class suits) refl)
  mutex_by stored (args.Block b) there suits e = absurd (both_ways (is_part_class AMutex) (ap is_part_class suits) refl)
  mutex_by stored (args.Jump place) there suits e = absurd (both_ways (is_part_class AMutex) (ap is_part_class suits) refl)

  acquired : (cmp : Cmp) (xs : List NbcArg) → Each (IsThere p) xs → SuitFrom ops.Acquire 0 (AMutex ∷ []) xs
      → ((k : ℕ) → k < length xs → operand_fits (length p.blocks) ops.Acquire (sorts_of ss (statement ops.Acquire cmp (map (arg_word p at here) xs))) k ≡ true)
      → slice_index (map (arg_word p at here) xs) 0 ≡ number_of p (slice_index_or xs 0 args.Left)
  acquired cmp [] there suits fit = absurd suits
  acquired cmp (a ∷ []) there suits fit =
      let own : Bool = is_mutex (shape_of (sort_of_name (named ss (arg_word p at here a)))) in
      mutex_by false a there.0 suits.0 (and_parts own true (and_parts (own && true) true (fit 0 (omega arith))).0).0
  acquired cmp (a ∷ b ∷ xs) there suits fit = absurd suits.1

  released : (cmp : Cmp) (xs : List NbcArg) → Each (IsThere p) xs → SuitFrom ops.Release 0 (AMutex ∷ []) xs
      → ((k : ℕ) → k < length xs → operand_fits (length p.blocks) ops.Release (sorts_of ss (statement ops.Release cmp (map (arg_word p at here) xs))) k ≡ true)
      → slice_index (map (arg_word p at here) xs) 0 ≡ number_of p (slice_index_or xs 0 args.Left)
  released cmp [] there suits fit = absurd suits
  released cmp (a ∷ []) there suits fit =
      let own : Bool = is_mutex (shape_of (sort_of_name (named ss (arg_word p at here a)))) in
      mutex_by false a there.0 suits.0 (and_parts own true (and_parts (own && true) true (fit 0 (omega arith))).0).0
  released cmp (a ∷ b ∷ xs) there suits fit = absurd suits.1

  -- the number of a mutex is its word
  mutex_same : (op : Op) (cmp : Cmp) (xs : List NbcArg) → has_mutex op ≡ true → Each (IsThere p) xs → SuitFrom op 0 (classes (code_op op xs) (length xs)) xs
      → ((k : ℕ) → k < length xs → operand_fits (length p.blocks) (code_op op xs) (sorts_of ss (statement (code_op op xs) cmp (map (arg_word p at here) xs))) k ≡ true)
      → slice_index (map (arg_word p at here) xs) 0 ≡ number_of p (slice_index_or xs 0 args.Left)
  mutex_same ops.Acquire cmp xs e there suits fit = acquired cmp xs there suits fit
  mutex_same ops.Release cmp xs e there suits fit = released cmp xs there suits fit
  mutex_same op cmp xs e there suits fit = absurd (both_ways false refl e)

  -- ---- statements

  -- a statement and the one that its words spell
  pub alike : (s : NbcStatement) → IsAssembledAt p m at here s
      → AreAlike (variable_count p) (constant_values p) (text.instruction p first s) (image.instruction ss code (here, spelled p at here s))
  alike s h =
      let op : Op = code_op s.op s.args in
      let words : List ℕ = map (arg_word p at here) s.args in
      record {
        op = code_same s.op s.args;
        cmp = refl;
        references = subst (λ k. AgreeAll (variable_count p) (constant_values p) (map (reference p) s.args) (map (λ q. refers ss q.0 q.1) (zip (classes op k) words)))
            (sym (length-map s.args (arg_word p at here))) (agree_all p few at here s.op 0 (classes op (length s.args)) s.args h.there h.suited);
        places = λ k e. let same : 0 + k ≡ k = omega arith in places_of p s.op 0 (classes op (length s.args)) s.args h.suited k (ap (is_destination s.op) same ∙ e);
        target = λ jumps. target_by s.args (h.leads jumps) h.near;
        mutex = λ has. mutex_same s.op s.cmp s.args has h.there h.suited (h.fit at here);
      }
