-- The clumps and the statements of blocks that keep the rules.
use Rattle.std.proofs.Common.{◌≡◌, ℕ, zero, suc, ◌+◌, ◌<◌, ◌==◌, Bool, true, false, ◌&&◌, not, nat_le, List, [], ◌∷◌, ◌++◌, map, length, drop, pos, Option, Some, None, refl, sym, ap, subst, ◌∙◌, eqb-true, eq-eqb}
use Rattle.std.specs.Prelude.{if◌then◌else◌, flat_map, slice_get, slice_index}
use Rattle.std.specs.List.{list_any}
use Rattle.std.specs.Ordering.{int_eq}
use Rattle.std.proofs.lemmas.Bool.{and_parts, and_right, both_ways, false_from_ne_true, lt-leb, or_from, or_left, or_parts, or_right}
use Rattle.std.proofs.lemmas.Bool.Decides.{Decides-int_eq}
use Rattle.std.proofs.lemmas.List.{drop_at, take_at}
use Rattle.std.proofs.lemmas.List.Folds.{list_any-append}
use Rattle.std.proofs.lemmas.Option.{none-some, same_Some}
use Rattle.nxt_types.specs.Refusals.{passes}
use Rattle.nxt_types.specs.Statements.{Statement, landing, offset_of}
use Rattle.nxt_types.specs.declared.instr.Op.{Op}
use Rattle.nxt_types.specs.declared.instr.Op.TheVariants as ops
use Rattle.nxt_types.specs.declared.lists.ClumpRec.{ClumpRec}
use Rattle.nxt_code.specs.CodeRules.{begins, begins_at, dependent_in, dependent_lists, is_jump, is_last_at, may_go_on, target}
use Rattle.nxt_model.specs.declared.nbc.NbcArg.{NbcArg}
use Rattle.nxt_model.specs.declared.nbc.NbcArg.TheVariants as args
use Rattle.nxt_model.specs.declared.nbc.NbcBlock.{NbcBlock}
use Rattle.nxt_model.specs.declared.nbc.NbcStatement.{NbcStatement}
use Rattle.nxt_model.specs.Assembled.{arg_word, block_words, code_op, has_constant, records_from, starts_from, word_count}
use Rattle.nxt_model.specs.TextProgram.{Text}
use Rattle.nxt_asm_rules.specs.AsmRules.{far_in_blocks, far_in_body, is_far, jumps_far}
use Rattle.nxt_asm_laws.proofs.Laws.Lists.{Each, each_append, each_got}
use Rattle.nxt_asm_laws_code.specs.Kept.{Closes, JumpsBelow, LeadsBelow}
use Rattle.nxt_asm_laws_code.specs.Placed.{placed_body, placed_from, spelled}
use Rattle.nxt_asm_laws_code.proofs.Laws.Landings.{landing-near, start_begins}

-- ---- tests of statements

-- what passes at no statement is found at no word
pub none_at : (test : ℕ → Statement → Bool) (sts : List (ℕ × Statement)) (w : ℕ) → Each (λ s. test s.0 s.1 ≡ false) sts → list_any (λ s. (s.0 == w) && test w s.1) sts ≡ false
none_at test [] w h = refl
none_at test (s ∷ ss) w h =
    or_from ((s.0 == w) && test w s.1) (list_any (λ s. (s.0 == w) && test w s.1) ss)
    (false_from_ne_true ((s.0 == w) && test w s.1)
    (λ is. let both = and_parts (s.0 == w) (test w s.1) is in both_ways (test w s.1) (subst (λ v. test v s.1 ≡ false) (eqb-true s.0 w both.0) h.0) both.1))
    (none_at test ss w h.1)

-- what holds of each statement, wherever it stands
each_placed_body : (p : Text) (P : ℕ × Statement → Type 0) (Q : NbcStatement → Type 0) (at : List ℕ) → ((here : ℕ) (s : NbcStatement) → Q s → P (here, spelled p at here s))
    → (here : ℕ) (ss : List NbcStatement) → Each Q ss → Each P (placed_body p at here ss)
each_placed_body p P Q at to here [] h = tt
each_placed_body p P Q at to here (s ∷ ss) h = (to here s h.0, each_placed_body p P Q at to (here + word_count s) ss h.1)

-- the same of all blocks
pub each_placed : (p : Text) (P : ℕ × Statement → Type 0) (Q : NbcStatement → Type 0) → ((at : List ℕ) (here : ℕ) (s : NbcStatement) → Q s → P (here, spelled p at here s))
    → (here : ℕ) (bs : List NbcBlock) → Each (λ (b : NbcBlock). Each Q b.body) bs → Each P (placed_from p here bs)
each_placed p P Q to here [] h = tt
each_placed p P Q to here (b ∷ bs) h =
    let at : List ℕ = starts_from here b.body in
    each_append P (placed_body p at here b.body) (placed_from p (here + block_words b) bs) (each_placed_body p P Q at (to at) here b.body h.0)
    (each_placed p P Q to (here + block_words b) bs h.1)

-- ---- clumps

-- a block's code begins at a statement
body_begins : (p : Text) (at : List ℕ) (here : ℕ) (ss : List NbcStatement) → Closes ss → begins (placed_body p at here ss) here ≡ true
body_begins p at here [] h = absurd h
body_begins p at here (s ∷ ss) h = or_left (here == here) (begins (placed_body p at (here + word_count s) ss) here) (eq-eqb here here refl)

-- and so does its clump
pub record_begins : (p : Text) (here : ℕ) (bs : List NbcBlock) (c : ℕ) (r : ClumpRec) → Each (λ (b : NbcBlock). Closes b.body) bs → slice_get (records_from here bs) c ≡ Some r
    → begins (placed_from p here bs) r.start ≡ true
record_begins p here [] c r h e = absurd (none-some r e)
record_begins p here (b ∷ bs) zero r h e =
    let at : List ℕ = starts_from here b.body in
    let same : here ≡ r.start = ap (λ (x : ClumpRec). x.start) (same_Some (record { fire = b.fire; dependents = length b.dependents; start = here }) r e) in
    subst (λ w. begins (placed_from p here (b ∷ bs)) w ≡ true) same
    (list_any-append (λ s. s.0 == here) (placed_body p at here b.body) (placed_from p (here + block_words b) bs)
    ∙ or_left (begins (placed_body p at here b.body) here) (begins (placed_from p (here + block_words b) bs) here) (body_begins p at here b.body h.0))
record_begins p here (b ∷ bs) (suc c) r h e =
    let at : List ℕ = starts_from here b.body in
    list_any-append (λ s. s.0 == r.start) (placed_body p at here b.body) (placed_from p (here + block_words b) bs)
    ∙ or_right (begins (placed_body p at here b.body) r.start) (begins (placed_from p (here + block_words b) bs) r.start)
    (record_begins p (here + block_words b) bs c r h.1 e)

-- each clump takes its block's dependents
pub dependent_lists-records : (here : ℕ) (bs : List NbcBlock)
    → dependent_lists (records_from here bs) (flat_map (λ (b : NbcBlock). b.dependents) bs) ≡ map (λ (b : NbcBlock). b.dependents) bs
dependent_lists-records here [] = refl
dependent_lists-records here (b ∷ bs) =
    let rest : List ℕ = flat_map (λ (b : NbcBlock). b.dependents) bs in
    let n : ℕ = length b.dependents in
    ap (λ l. l ∷ dependent_lists (records_from (here + block_words b) bs) (drop n (b.dependents ++ rest))) (take_at b.dependents rest n refl)
    ∙ ap (λ ds. b.dependents ∷ dependent_lists (records_from (here + block_words b) bs) ds) (drop_at b.dependents rest n refl)
    ∙ ap (λ l. b.dependents ∷ l) (dependent_lists-records (here + block_words b) bs)

-- each of which is below a number
pub dependent_below : (n : ℕ) (bs : List NbcBlock) (c k : ℕ) → Each (λ (b : NbcBlock). Each (λ d. d < n) b.dependents) bs
    → passes (λ d. nat_le n d) (dependent_in (slice_get (map (λ (b : NbcBlock). b.dependents) bs) c) k) ≡ false
dependent_below n [] c k h = refl
dependent_below n (b ∷ bs) zero k h = by (slice_get b.dependents k) refl
  where
    by : (o : Option ℕ) → slice_get b.dependents k ≡ o → passes (λ d. nat_le n d) o ≡ false
    by None e = refl
    by (Some d) e = lt-leb n d (each_got (λ d. d < n) b.dependents k d h.0 e)
dependent_below n (b ∷ bs) (suc c) k h = dependent_below n bs c k h.1

-- ---- the last statement

-- the last of more statements
last_append : (w : ℕ) (xs ys : List (ℕ × Statement)) (y : ℕ × Statement) → is_last_at w may_go_on (xs ++ y ∷ ys) ≡ is_last_at w may_go_on (y ∷ ys)
last_append w [] ys y = refl
last_append w (x ∷ []) ys y = refl
last_append w (x ∷ z ∷ xs) ys y = last_append w (z ∷ xs) ys y

-- it isn't empty, and nothing follows its last
abbrev pub Ends : List (ℕ × Statement) → Type 0
Ends [] = ⊥
Ends (s ∷ ss) = (w : ℕ) → is_last_at w may_go_on (s ∷ ss) ≡ false

-- what ends behind others ends
ends_append : (xs ys : List (ℕ × Statement)) → Ends ys → Ends (xs ++ ys)
ends_append [] ys h = h
ends_append xs [] h = absurd h
ends_append (x ∷ xs) (y ∷ ys) h = λ w. last_append w (x ∷ xs) ys y ∙ h w

-- a body and blocks end
body_ends : (p : Text) (at : List ℕ) (here : ℕ) (ss : List NbcStatement) → Closes ss → Ends (placed_body p at here ss)
body_ends p at here [] h = absurd h
body_ends p at here (s ∷ []) h = λ w. and_right (here == w) (may_go_on (spelled p at here s)) (h (slice_index (map (arg_word p at here) s.args) 0))
body_ends p at here (s ∷ t ∷ ss) h = λ w. body_ends p at (here + word_count s) (t ∷ ss) h w

append_empty : (xs : List (ℕ × Statement)) → Ends xs → Ends (xs ++ [])
append_empty [] h = h
append_empty (x ∷ xs) h = λ w. by w xs x ∙ h w
  where
    by : (w : ℕ) (xs : List (ℕ × Statement)) (x : ℕ × Statement) → is_last_at w may_go_on (x ∷ xs ++ []) ≡ is_last_at w may_go_on (x ∷ xs)
    by w [] x = refl
    by w (y ∷ ys) x = by w ys y

pub code_ends : (p : Text) (here : ℕ) (b : NbcBlock) (bs : List NbcBlock) → Each (λ (b : NbcBlock). Closes b.body) (b ∷ bs) → Ends (placed_from p here (b ∷ bs))
code_ends p here b [] h = append_empty (placed_body p (starts_from here b.body) here b.body) (body_ends p (starts_from here b.body) here b.body h.0)
code_ends p here b (c ∷ bs) h =
    ends_append (placed_body p (starts_from here b.body) here b.body) (placed_from p (here + block_words b) (c ∷ bs)) (code_ends p (here + block_words b) c bs h.1)

-- ---- jumps

-- a set of a constant is no jump either
is_jump-code_op : (op : Op) (xs : List NbcArg) → is_jump (code_op op xs) ≡ is_jump op
is_jump-code_op ops.Set xs = by (has_constant xs)
  where
    by : (c : Bool) → is_jump (if c then ops.Mov else ops.Set) ≡ false
    by true = refl
    by false = refl
is_jump-code_op op xs = refl

module _ (p : Text) (all : List (ℕ × Statement)) where
  -- a jump of a block doesn't lead nowhere
  abbrev Lost : ℕ × Statement → Bool
  Lost s = is_jump s.1.op && not (begins_at all (target s.0 s.1))

  -- a first operand that leads below is found
  lands : (at : List ℕ) (here : ℕ) (xs : List NbcArg) (n : ℕ) → LeadsBelow n xs → list_any (jumps_far at here) xs ≡ false
      → ((test : ℕ → Bool) (place : ℕ) → place < n → test (slice_index at place) ≡ true → list_any (λ t. test t.0) all ≡ true)
      → begins_at all (landing here (offset_of (slice_index (map (arg_word p at here) xs) 0))) ≡ true
  lands at here (args.Jump place ∷ more) n below near there =
      let to : ℕ = slice_index at place in
      let first = (or_parts (is_far here to) (list_any (jumps_far at here) more) near).0 in
      ap (begins_at all) (landing-near here to first) ∙ there (λ w. int_eq (pos w) (pos to)) place below ((Decides-int_eq (pos to) (pos to)).1 refl)
  lands at here [] n below near there = absurd below
  lands at here (args.Left ∷ more) n below near there = absurd below
  lands at here (args.Var i path ∷ more) n below near there = absurd below
  lands at here (args.Number z ∷ more) n below near there = absurd below
  lands at here (args.Text bytes ∷ more) n below near there = absurd below
  lands at here (args.Imm k ∷ more) n below near there = absurd below
  lands at here (args.Block k ∷ more) n below near there = absurd below
  lands at here (args.Back k ∷ more) n below near there = absurd below

  -- jumps of a body
  body_leads : (at : List ℕ) (n : ℕ) → ((test : ℕ → Bool) (place : ℕ) → place < n → test (slice_index at place) ≡ true → list_any (λ t. test t.0) all ≡ true)
      → (here : ℕ) (ss : List NbcStatement) → ((line : ℕ) → far_in_body line at here ss ≡ false) → Each (JumpsBelow n) ss → Each (λ s. Lost s ≡ false) (placed_body p at here ss)
  body_leads at n there here [] near h = tt
  body_leads at n there here (s ∷ ss) near h =
      let far : Bool = list_any (jumps_far at here) s.args in
      let rest : ℕ → Bool = λ line. far_in_body line at (here + word_count s) ss in
      let own = (or_parts ((s.line == s.line) && far) (rest s.line) (near s.line)).0 in
      let this : far ≡ false = sym (ap (λ t. t && far) (eq-eqb s.line s.line refl)) ∙ own in (
        false_from_ne_true (Lost (here, spelled p at here s))
            (λ is.
            let both = and_parts (is_jump (code_op s.op s.args)) (not (begins_at all (target here (spelled p at here s)))) is in
            let jumps : is_jump s.op ≡ true = sym (is_jump-code_op s.op s.args) ∙ both.0 in
            let found = lands at here s.args n (h.0 jumps) this there in
            both_ways (not (begins_at all (target here (spelled p at here s)))) (ap not found) both.1),
        body_leads at n there (here + word_count s) ss (λ line. (or_parts ((s.line == line) && far) (rest line) (near line)).1) h.1,
      )

  -- jumps that are not far lead to statements
  pub blocks_lead : (here : ℕ) (bs : List NbcBlock) → ((line : ℕ) → far_in_blocks line here bs ≡ false) → Each (λ (b : NbcBlock). Each (JumpsBelow (length b.body)) b.body) bs
      → ((test : ℕ → Bool) → list_any (λ t. test t.0) (placed_from p here bs) ≡ true → list_any (λ t. test t.0) all ≡ true)
      → Each (λ s. Lost s ≡ false) (placed_from p here bs)
  blocks_lead here [] near h inside = tt
  blocks_lead here (b ∷ bs) near h inside =
      let at : List ℕ = starts_from here b.body in
      let own : List (ℕ × Statement) = placed_body p at here b.body in
      let more : List (ℕ × Statement) = placed_from p (here + block_words b) bs in
      let first : ℕ → Bool = λ line. far_in_body line at here b.body in
      let rest : ℕ → Bool = λ line. far_in_blocks line (here + block_words b) bs in
      each_append (λ s. Lost s ≡ false) own more
      (body_leads at (length b.body)
      (λ test place lt e. inside test (list_any-append (λ t. test t.0) own more ∙ or_left (list_any (λ t. test t.0) own) (list_any (λ t. test t.0) more) (start_begins p at test b.body here place lt e)))
      here b.body (λ line. (or_parts (first line) (rest line) (near line)).0) h.0)
      (blocks_lead (here + block_words b) bs (λ line. (or_parts (first line) (rest line) (near line)).1) h.1
      (λ test e. inside test (list_any-append (λ t. test t.0) own more ∙ or_right (list_any (λ t. test t.0) own) (list_any (λ t. test t.0) more) e)))
