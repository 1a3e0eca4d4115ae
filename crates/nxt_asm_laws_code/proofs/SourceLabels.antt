-- The bodies of blocks: they close, their labels stand below their ends, and their jumps lead to labels.
use Rattle.std.proofs.Common.{◌≡◌, ℕ, ◌+◌, ◌<◌, ◌≤◌, Bool, true, false, ◌&&◌, List, [], ◌∷◌, ◌++◌, map, length, Option, Some, None, refl, sym, ap, subst, arith, length-append, bytes_eq}
use Rattle.std.specs.Prelude.{if◌then◌else◌, drop, find, flat_map, is_none, option_map, unwrap_or, zip}
use Rattle.std.specs.List.{list_any}
use Rattle.std.proofs.lemmas.Bool.{and_parts, both_ways, not-false, or_parts}
use Rattle.nxt_types.specs.Opcodes.{arity, classes, takes}
use Rattle.nxt_types.specs.OperandRules.{has_kind}
use Rattle.nxt_types.specs.declared.instr.Op.{Op}
use Rattle.nxt_types.specs.declared.instr.Op.TheVariants as ops
use Rattle.nxt_types.specs.declared.opcodes.Class.{Class}
use Rattle.nxt_code.specs.CodeRules.{is_jump}
use Rattle.nxt_model.specs.declared.nbc.NbcArg.{NbcArg}
use Rattle.nxt_model.specs.declared.nbc.NbcStatement.{NbcStatement}
use Rattle.nxt_model.specs.Nbc.Forms as forms
use Rattle.nxt_model.specs.Nbc.Forms.{Form, Term, Named, Literal, Quote}
use Rattle.nxt_model.specs.Nbc.NbcRules.{is_label, is_subroutine, is_thread, is_unknown, is_wrong_term, lacks_label, sorts_of}
use Rattle.nxt_model.specs.Nbc.Text.{Source, Denoted, AVariable, ANumber, AText, ABlock, AType, Missing, LabelAt, args_of, denoted, ending, is_statement, label_arg, label_at, label_of, labels_from, named_block, returning, statements_in}
use Rattle.nxt_asm_laws.proofs.Laws.Lists.{Each, each_append, each_found, each_weaker}
use Rattle.nxt_asm_laws_code.specs.Kept.{Closes, LeadsBelow, Stops}
use Rattle.nxt_asm_laws_code.specs.Lines.{GoodItems}
use Rattle.nxt_asm_laws_code.proofs.SourceLines.{IsKeptLine}
use Rattle.nxt_asm_laws_code.proofs.SourceTerms.{NamesBlock}

-- ---- ends

-- a body behind others, which isn't empty
closes_append : (xs ys : List NbcStatement) → Closes ys → Closes (xs ++ ys)
closes_append [] ys h = h
closes_append (x ∷ []) [] h = absurd h
closes_append (x ∷ []) (y ∷ ys) h = h
closes_append (x ∷ z ∷ xs) ys h = closes_append (z ∷ xs) ys h

closes_some : (ss : List NbcStatement) → Closes ss → 1 ≤ length ss
closes_some [] h = absurd h
closes_some (s ∷ ss) h = omega arith

module _ (src : Source) (ls : List LabelAt) (k : ℕ) (sub : Bool) (n : ℕ) where
  abbrev of_line : ℕ × Form → List NbcStatement
  of_line l = statements_in src ls k sub n l

  abbrev of_lines : List (ℕ × Form) → List NbcStatement
  of_lines items = flat_map (statements_in src ls k sub n) items

  -- the last line
  closing_stops : (line : ℕ) (c : Bool) → Stops (if c then returning line k else ending line n)
  closing_stops line true = λ w. refl
  closing_stops line false = λ w. refl

  -- a block's body ends where its lines do
  pub body_closes : (c : Bool) (items : List (ℕ × Form)) → GoodItems c items → Closes (flat_map (statements_in src ls k sub n) items)
  body_closes c [] h = absurd h
  body_closes c ((l, forms.CloseBlock) ∷ fs) h =
      subst (λ rest. Closes ((if sub then returning l k else ending l n) ∷ of_lines rest)) (sym h) (closing_stops l sub)
  body_closes c ((l, forms.Return) ∷ fs) h = closes_append (of_line (l, forms.Return)) (of_lines fs) (body_closes c fs h.1)
  body_closes c ((l, f) ∷ fs) h = closes_append (of_line (l, f)) (of_lines fs) (body_closes c fs h)

  -- ---- labels

  -- a line that is a statement adds one
  abbrev pub Adds : ℕ × Form → Type 0
  Adds l = is_statement l.1 ≡ true → 1 ≤ length (statements_in src ls k sub n l)

  -- below a position
  abbrev Below : ℕ → LabelAt → Type 0
  Below m l = l.position < m

  label_below : (line j m : ℕ) (o : Option (List ℕ)) → j < m → Each (Below m) (label_at line j o)
  label_below line j m None lt = tt
  label_below line j m (Some l) lt = (lt, tt)

  -- one more line
  label_more : (c : Bool) (line : ℕ) (f : Form) (fs : List (ℕ × Form)) (j : ℕ) → Adds (line, f) → GoodItems c fs
      → ((i : ℕ) → Each (Below (i + length (of_lines fs))) (labels_from i fs)) → Each (Below (j + length (of_line (line, f) ++ of_lines fs))) (labels_from j ((line, f) ∷ fs))
  label_more c line f fs j adds good more =
      let some = closes_some (of_lines fs) (body_closes c fs good) in
      let long = length-append (of_line (line, f)) (of_lines fs) in
      let m : ℕ = j + length (of_line (line, f) ++ of_lines fs) in
      each_append (Below m) (label_at line j (label_of f)) (labels_from (if is_statement f then j + 1 else j) fs) (label_below line j m (label_of f) (omega (arith, some, long)))
      (by (is_statement f) adds long)
    where
      by : (b : Bool) → (b ≡ true → 1 ≤ length (of_line (line, f))) → length (of_line (line, f) ++ of_lines fs) ≡ length (of_line (line, f)) + length (of_lines fs)
          → Each (Below (j + length (of_line (line, f) ++ of_lines fs))) (labels_from (if b then j + 1 else j) fs)
      by true one long =
          let first = one refl in
          each_weaker (Below (j + 1 + length (of_lines fs))) (Below (j + length (of_line (line, f) ++ of_lines fs))) (labels_from (j + 1) fs) (λ l lt. omega (arith, lt, long, first)) (more (j + 1))
      by false one long =
          each_weaker (Below (j + length (of_lines fs))) (Below (j + length (of_line (line, f) ++ of_lines fs))) (labels_from j fs) (λ l lt. omega (arith, lt, long)) (more j)

  -- the labels of a block stand below the end of its body
  pub labels_below : (c : Bool) (items : List (ℕ × Form)) → GoodItems c items → Each Adds items → (j : ℕ)
      → Each (λ l. l.position < j + length (flat_map (statements_in src ls k sub n) items)) (labels_from j items)
  labels_below c [] h adds j = tt
  labels_below c ((l, forms.CloseBlock) ∷ fs) h adds j =
      subst (λ rest. Each (Below (j + length (of_line (l, forms.CloseBlock) ++ of_lines rest))) (labels_from (j + 1) rest)) (sym h) tt
  labels_below c ((l, forms.Return) ∷ fs) h adds j = label_more c l forms.Return fs j adds.0 h.1 (labels_below c fs h.1 adds.1)
  labels_below c ((l, f) ∷ fs) h adds j = label_more c l f fs j adds.0 h (labels_below c fs h adds.1)

-- ---- statements of lines

-- a subroutine that is named, and a thread
subroutine_named : (src : Source) (t : Term) (d : Denoted) → NamesBlock src t d → is_subroutine d ≡ true → 1 ≤ length (named_block src t)
subroutine_named src t (ABlock k sub) names e = let one = ap length names.0 in omega (arith, one)
subroutine_named src t (AVariable i path s) names e = absurd (both_ways false refl e)
subroutine_named src t (ANumber z) names e = absurd (both_ways false refl e)
subroutine_named src t (AText bytes) names e = absurd (both_ways false refl e)
subroutine_named src t AType names e = absurd (both_ways false refl e)
subroutine_named src t Missing names e = absurd (both_ways false refl e)

thread_named : (src : Source) (t : Term) (d : Denoted) → NamesBlock src t d → is_thread d ≡ true → 1 ≤ length (named_block src t)
thread_named src t (ABlock k sub) names e = let one = ap length names.0 in omega (arith, one)
thread_named src t (AVariable i path s) names e = absurd (both_ways false refl e)
thread_named src t (ANumber z) names e = absurd (both_ways false refl e)
thread_named src t (AText bytes) names e = absurd (both_ways false refl e)
thread_named src t AType names e = absurd (both_ways false refl e)
thread_named src t Missing names e = absurd (both_ways false refl e)

-- as many statements as names
length-mapped : {X Y : Type 0} (f : X → Y) (xs : List X) → 1 ≤ length xs → 1 ≤ length (map f xs)
length-mapped f [] le = le
length-mapped f (x ∷ xs) le = omega arith

module _ (src : Source) (names : (line : ℕ) (t : Term) → NamesBlock src t (denoted src line t)) (ls own : List LabelAt) (k : ℕ) (sub : Bool) (n : ℕ) where
  pub line_adds : (l : ℕ × Form) → IsKeptLine src own l → Adds src ls k sub n l
  line_adds (line, forms.Do label op cmp ts) h e = omega arith
  line_adds (line, forms.Call t) h e =
      length-mapped _ (named_block src t) (subroutine_named src t (denoted src line t) (names line t) (not-false (is_subroutine (denoted src line t)) (h.kinds 1)))
  line_adds (line, forms.Return) h e = omega arith
  line_adds (line, forms.Exit) h e = omega arith
  line_adds (line, forms.ExitTo t) h e =
      length-mapped _ (named_block src t) (thread_named src t (denoted src line t) (names line t) (not-false (is_thread (denoted src line t)) (h.kinds 1)))
  line_adds (line, forms.CloseBlock) h e = omega arith
  line_adds (line, f) h e = absurd (both_ways false refl e)

-- ---- jumps

-- a label that is there leads below the end
label_leads : (src : Source) (ls : List LabelAt) (line m : ℕ) (t : Term) (more : List NbcArg) → Each (λ l. l.position < m) ls → is_label t ≡ true → lacks_label src ls line t ≡ false
    → LeadsBelow m (label_arg ls t ∷ more)
label_leads src ls line m (Named (l ∷ [])) more below is known = by (find (λ x. bytes_eq x.name l) ls) refl known
  where
    by : (o : Option LabelAt) → find (λ x. bytes_eq x.name l) ls ≡ o → is_none (option_map (λ (x : LabelAt). x.position) o) ≡ false
        → unwrap_or (option_map (λ (x : LabelAt). x.position) o) 0 < m
    by None e f = absurd (both_ways true f refl)
    by (Some x) e f = (each_found (λ x. x.position < m) (λ x. bytes_eq x.name l) ls x below e).0
label_leads src ls line m (Named []) more below is known = absurd (both_ways false refl is)
label_leads src ls line m (Named (l ∷ o ∷ ns)) more below is known = absurd (both_ways false refl is)
label_leads src ls line m (Literal z) more below is known = absurd (both_ways false refl is)
label_leads src ls line m (Quote s) more below is known = absurd (both_ways false refl is)

-- the classes behind the first
abbrev rest_of : Op → ℕ → List Class
rest_of op n = drop 1 (classes op n)

-- a jump leads below the end of its block
pub jump_leads : (src : Source) (ls : List LabelAt) (line m : ℕ) (op : Op) (ts : List Term) → Each (λ l. l.position < m) ls → takes (arity op) (length ts) ≡ true
    → (0 < length ts → is_wrong_term src line op ts 0 ≡ false) → list_any (λ p. is_unknown src ls line p.0 p.1) (zip (classes op (length ts)) ts) ≡ false → is_jump op ≡ true
    → LeadsBelow m (args_of src ls line op ts)
jump_leads src ls line m ops.Jmp [] below taken kind known jumps = absurd (both_ways false refl taken)
jump_leads src ls line m ops.Jmp (t ∷ ts) below taken kind known jumps =
    label_leads src ls line m t _ below
    (and_parts (is_label t) (has_kind 1 ops.Jmp (sorts_of src line ops.Jmp (t ∷ ts)) 0) (not-false (is_label t && has_kind 1 ops.Jmp (sorts_of src line ops.Jmp (t ∷ ts)) 0) (kind (omega arith)))).0
    (or_parts (lacks_label src ls line t) (list_any (λ p. is_unknown src ls line p.0 p.1) (zip [] ts)) known).0
jump_leads src ls line m ops.Brtst [] below taken kind known jumps = absurd (both_ways false refl taken)
jump_leads src ls line m ops.Brtst (t ∷ ts) below taken kind known jumps =
    label_leads src ls line m t _ below
    (and_parts (is_label t) (has_kind 1 ops.Brtst (sorts_of src line ops.Brtst (t ∷ ts)) 0) (not-false (is_label t && has_kind 1 ops.Brtst (sorts_of src line ops.Brtst (t ∷ ts)) 0) (kind (omega arith)))).0
    (or_parts (lacks_label src ls line t) (list_any (λ p. is_unknown src ls line p.0 p.1) (zip (rest_of ops.Brtst (length (t ∷ ts))) ts)) known).0
jump_leads src ls line m ops.Brcmp [] below taken kind known jumps = absurd (both_ways false refl taken)
jump_leads src ls line m ops.Brcmp (t ∷ ts) below taken kind known jumps =
    label_leads src ls line m t _ below
    (and_parts (is_label t) (has_kind 1 ops.Brcmp (sorts_of src line ops.Brcmp (t ∷ ts)) 0) (not-false (is_label t && has_kind 1 ops.Brcmp (sorts_of src line ops.Brcmp (t ∷ ts)) 0) (kind (omega arith)))).0
    (or_parts (lacks_label src ls line t) (list_any (λ p. is_unknown src ls line p.0 p.1) (zip (rest_of ops.Brcmp (length (t ∷ ts))) ts)) known).0
jump_leads src ls line m op ts below taken kind known jumps = absurd (both_ways false refl jumps)
