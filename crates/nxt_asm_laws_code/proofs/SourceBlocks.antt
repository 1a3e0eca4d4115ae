-- The blocks of a text that keeps the rules keep those of code.
use Rattle.std.proofs.Common.{◌≡◌, ℕ, zero, suc, ◌+◌, ◌<◌, ◌≤◌, Bool, true, false, ◌&&◌, cond, List, [], ◌∷◌, ◌++◌, map, length, Option, Some, refl, sym, ap, subst, ◌∙◌, arith}
use Rattle.std.specs.Prelude.{if◌then◌else◌, ⊤, flat_map, option_map, slice_get, sum_by}
use Rattle.std.specs.List.{enumerate_from}
use Rattle.std.proofs.lemmas.Bool.{both_ways, lt-ltb, not-false}
use Rattle.std.proofs.lemmas.Option.{slice_get-map}
use Rattle.nxt_types.specs.Names.{size}
use Rattle.nxt_types.specs.declared.instr.Op.{Op}
use Rattle.nxt_types.specs.declared.instr.Op.TheVariants as ops
use Rattle.nxt_types.specs.declared.kind.Cmp.{Cmp}
use Rattle.nxt_types.specs.declared.kind.Cmp.TheVariants.{Lt}
use Rattle.nxt_model.specs.declared.nbc.NbcArg.TheVariants as args
use Rattle.nxt_model.specs.declared.nbc.NbcBlock.{NbcBlock}
use Rattle.nxt_model.specs.declared.nbc.NbcStatement.{NbcStatement}
use Rattle.nxt_model.specs.Nbc.Forms as forms
use Rattle.nxt_model.specs.Nbc.Forms.{Form, Term}
use Rattle.nxt_model.specs.Nbc.NbcRules.{is_subroutine, is_wrong_term}
use Rattle.nxt_model.specs.Nbc.Text.{Source, Block, Denoted, AVariable, ANumber, AText, ABlock, AType, Missing, LabelAt, args_of, denoted, dependents_of, ending, followers_of, holds_number, labels_from, named_block, numbered, once, ordered, preceded_by, program_block, program_of, returning, statement, statements_in}
use Rattle.nxt_model.specs.Assembled.{all_shapes}
use Rattle.nxt_model.specs.TextProgram.{returns, subroutine_number}
use Rattle.nxt_asm_laws.proofs.Laws.Dependents.{followers_below, length-ordered, length-program_of, line_below, term_below}
use Rattle.nxt_asm_laws.proofs.Laws.Lists.{Each, each_all, each_append, each_both, each_flat, each_map, each_weaker}
use Rattle.nxt_asm_laws_code.specs.Kept.{HasFit, IsKept, JumpsBelow}
use Rattle.nxt_asm_laws_code.specs.Lines.{GoodItems}
use Rattle.nxt_asm_laws_code.proofs.Listed.{IsListed, blocks_listed, each_parts, length-returns, return_below}
use Rattle.nxt_asm_laws_code.proofs.SetFits.{call_fit, ending_fit, exit_fit, returning_fit, set_fit}
use Rattle.nxt_asm_laws_code.proofs.SourceLabels.{Adds, body_closes, jump_leads, labels_below, line_adds}
use Rattle.nxt_asm_laws_code.proofs.SourceLines.{IsKeptAt, IsKeptLine}
use Rattle.nxt_asm_laws_code.proofs.SourceTerms.{HasPart, NamesBlock}
use Rattle.nxt_asm_laws_code.proofs.StatementFits.{IsFine, other_fit}

-- ---- dependents

-- what is there once is there
each_once : (P : ℕ → Type 0) (seen ks : List ℕ) → Each P ks → Each P (once seen ks)
each_once P seen [] h = tt
each_once P seen (k ∷ ks) h = by (holds_number seen k) (each_once P seen ks h.1) (each_once P (k ∷ seen) ks h.1)
  where
    by : (c : Bool) → Each P (once seen ks) → Each P (once (k ∷ seen) ks) → Each P (cond c (once seen ks) (k ∷ once (k ∷ seen) ks))
    by true same next = same
    by false same next = (h.0, next)

module _ (src : Source) where
  pub count_blocks : length (program_of src).blocks ≡ length (ordered src)
  count_blocks = length-program_of src ∙ sym (length-ordered src)

  -- the dependents of a block are numbers of blocks
  dependents_below : (k : ℕ) (b : Block) → Each (λ d. d < length (program_of src).blocks) (dependents_of src k b)
  dependents_below k b = subst (λ n. Each (λ d. d < n) (dependents_of src k b)) (sym count_blocks) (by b.subroutine)
    where
      by : (c : Bool) → Each (λ d. d < length (ordered src)) (if c then [] else once [] (flat_map (preceded_by src) b.items ++ followers_of src k))
      by true = tt
      by false =
          each_once (λ d. d < length (ordered src)) [] (flat_map (preceded_by src) b.items ++ followers_of src k)
          (each_append (λ d. d < length (ordered src)) (flat_map (preceded_by src) b.items) (followers_of src k)
          (each_flat (λ d. d < length (ordered src)) (preceded_by src) b.items (each_all _ b.items (line_below src))) (followers_below src k))

  -- ---- return variables

  -- a numbered element
  slice_get-enumerate_from : {X : Type 0} (n : ℕ) (xs : List X) (k : ℕ) → slice_get (enumerate_from n xs) k ≡ option_map (λ x. (n + k, x)) (slice_get xs k)
  slice_get-enumerate_from n [] zero = refl
  slice_get-enumerate_from n [] (suc k) = refl
  slice_get-enumerate_from n (x ∷ xs) zero = let first : n ≡ n + 0 = omega arith in ap (λ i. Some (i, x)) first
  slice_get-enumerate_from n (x ∷ xs) (suc k) =
      let next : n + 1 + k ≡ n + suc k = omega arith in
      slice_get-enumerate_from (n + 1) xs k ∙ ap (λ i. option_map (λ x. (i, x)) (slice_get xs k)) next

  -- a subroutine has a return variable
  pub return_there : (k : ℕ) (b : Block) → slice_get (ordered src) k ≡ Some b → b.subroutine ≡ true → subroutine_number (program_of src) k < length (returns (program_of src))
  return_there k b e sub =
      let there : slice_get (program_of src).blocks k ≡ Some (program_block src (0 + k, b)) =
      slice_get-map (program_block src) (numbered src) k
      ∙ ap (option_map (program_block src)) (slice_get-enumerate_from 0 (ordered src) k)
      ∙ ap (λ o. option_map (program_block src) (option_map (λ x. (0 + k, x)) o)) e in
      let lt = return_below (program_of src).blocks k (program_block src (0 + k, b)) there sub in
      let all = length-returns (program_of src) in
      omega (arith, lt, all)

-- ---- lines

-- a return stands in a subroutine
abbrev pub InPlace : Bool → ℕ × Form → Type 0
InPlace sub (l, forms.Return) = sub ≡ true
InPlace sub (l, f) = ⊤

-- in a block whose lines are good
pub in_place : (sub : Bool) (items : List (ℕ × Form)) → GoodItems sub items → Each (InPlace sub) items
in_place sub [] h = tt
in_place sub ((l, forms.CloseBlock) ∷ fs) h = (tt, subst (Each (InPlace sub)) (sym h) tt)
in_place sub ((l, forms.Return) ∷ fs) h = (h.0, in_place sub fs h.1)
in_place sub ((l, f) ∷ fs) h = (tt, in_place sub fs h)

module _ (src : Source) (few : sum_by size (all_shapes (program_of src)) ≤ 49151) (parts : (line : ℕ) (t : Term) → HasPart src (denoted src line t))
    (names : (line : ℕ) (t : Term) → NamesBlock src t (denoted src line t)) where
  -- a statement with its operands
  pub do_fine : (ls : List LabelAt) (line : ℕ) (label : Option (List ℕ)) (op : Op) (cmp : Cmp) (ts : List Term) → IsKeptLine src ls (line, forms.Do label op cmp ts)
      → Each (IsListed (program_of src)) (args_of src ls line op ts) → IsFine src ls line op ts
  do_fine ls line label op cmp ts h listed = record {
    taken = h.formed.0;
    kinds = λ k lt. sym (ap (λ b. b && is_wrong_term src line op ts k) (lt-ltb k (length ts) lt)) ∙ h.kinds (suc k);
    ranges = h.range;
    listed = listed;
  }

  -- which fits
  do_fit : (ls : List LabelAt) (line : ℕ) (op : Op) (cmp : Cmp) (ts : List Term) → IsFine src ls line op ts → HasFit (program_of src) (statement line op cmp (args_of src ls line op ts))
  do_fit ls line ops.Set cmp ts h = set_fit src few parts names ls line cmp ts h
  do_fit ls line op cmp ts h = other_fit src few parts names ls line op ts h cmp refl

  -- a call
  subroutine_fit : (line : ℕ) (t : Term) (d : Denoted) → NamesBlock src t d → is_subroutine d ≡ true
      → Each (HasFit (program_of src)) (map (λ s. statement line ops.Subcall Lt (args.Block s ∷ args.Back s ∷ [])) (named_block src t))
  subroutine_fit line t (ABlock k sub) named e =
      let call : ℕ → NbcStatement = λ s. statement line ops.Subcall Lt (args.Block s ∷ args.Back s ∷ []) in
      let below : Each (λ s. s < length (ordered src)) (named_block src t) = term_below src t in
      let own : k < length (ordered src) = (subst (Each (λ s. s < length (ordered src))) named.0 below).0 in
      let all = count_blocks src in
      subst (λ l. Each (HasFit (program_of src)) (map call l)) (sym named.0)
      (call_fit (program_of src) few line k (omega (arith, own, all)) (return_there src k named.1 named.2 (named.3 ∙ e)), tt)
  subroutine_fit line t (AVariable i path s) named e = absurd (both_ways false refl e)
  subroutine_fit line t (ANumber z) named e = absurd (both_ways false refl e)
  subroutine_fit line t (AText bytes) named e = absurd (both_ways false refl e)
  subroutine_fit line t AType named e = absurd (both_ways false refl e)
  subroutine_fit line t Missing named e = absurd (both_ways false refl e)

  module _ (ls : List LabelAt) (k : ℕ) (b : Block) (there : slice_get (ordered src) k ≡ Some b) (n : ℕ) where
    closing_fit : (line : ℕ) (c : Bool) → b.subroutine ≡ c → HasFit (program_of src) (if c then returning line k else ending line n)
    closing_fit line true e = returning_fit (program_of src) few line k (return_there src k b there e)
    closing_fit line false e = ending_fit (program_of src) few line n

    -- the statements of a line
    line_fit : (l : ℕ × Form) → IsKeptLine src ls l → InPlace b.subroutine l
        → Each (λ (s : NbcStatement). Each (IsListed (program_of src)) s.args) (statements_in src ls k b.subroutine n l) → Each (HasFit (program_of src)) (statements_in src ls k b.subroutine n l)
    line_fit (line, forms.Do label op cmp ts) h place listed = (do_fit ls line op cmp ts (do_fine ls line label op cmp ts h listed.0), tt)
    line_fit (line, forms.Call t) h place listed = subroutine_fit line t (denoted src line t) (names line t) (not-false (is_subroutine (denoted src line t)) (h.kinds 1))
    line_fit (line, forms.Return) h place listed = (returning_fit (program_of src) few line k (return_there src k b there place), tt)
    line_fit (line, forms.Exit) h place listed = (ending_fit (program_of src) few line n, tt)
    line_fit (line, forms.ExitTo t) h place listed =
        let exit : ℕ → NbcStatement = λ s. statement line ops.Finclumpimmed Lt (args.Block s ∷ []) in
        let all = count_blocks src in
        each_map (HasFit (program_of src)) exit (named_block src t)
        (each_weaker (λ s. s < length (ordered src)) (λ s. HasFit (program_of src) (exit s)) (named_block src t)
        (λ s lt. exit_fit (program_of src) few line s (omega (arith, lt, all))) (term_below src t))
    line_fit (line, forms.CloseBlock) h place listed = (closing_fit line b.subroutine refl, tt)
    line_fit (line, f) h place listed = tt

    -- and their jumps
    line_leads : (m : ℕ) → Each (λ l. l.position < m) ls → (l : ℕ × Form) → IsKeptLine src ls l → Each (JumpsBelow m) (statements_in src ls k b.subroutine n l)
    line_leads m below (line, forms.Do label op cmp ts) h = (
      λ jumps. jump_leads src ls line m op ts below h.formed.0
          (λ some. sym (ap (λ c. c && is_wrong_term src line op ts 0) (lt-ltb 0 (length ts) some)) ∙ h.kinds 1)
          h.known jumps,
      tt,
    )
    line_leads m below (line, forms.Call t) h =
        each_map (JumpsBelow m) (λ s. statement line ops.Subcall Lt (args.Block s ∷ args.Back s ∷ [])) (named_block src t)
        (each_all _ (named_block src t) (λ s e. absurd (both_ways false refl e)))
    line_leads m below (line, forms.Return) h = (λ e. absurd (both_ways false refl e), tt)
    line_leads m below (line, forms.Exit) h = (λ e. absurd (both_ways false refl e), tt)
    line_leads m below (line, forms.ExitTo t) h =
        each_map (JumpsBelow m) (λ s. statement line ops.Finclumpimmed Lt (args.Block s ∷ [])) (named_block src t)
        (each_all _ (named_block src t) (λ s e. absurd (both_ways false refl e)))
    line_leads m below (line, forms.CloseBlock) h = (by b.subroutine, tt)
      where
        by : (c : Bool) → JumpsBelow m (if c then returning line k else ending line n)
        by true e = absurd (both_ways false refl e)
        by false e = absurd (both_ways false refl e)
    line_leads m below (line, f) h = tt

  -- ---- blocks

  -- what holds of each line and its statements
  pub both_lines : (P Q : ℕ × Form → Type 0) (R : ℕ × Form → Type 0) (xs : List (ℕ × Form)) → Each P xs → Each Q xs → Each R xs → Each (λ l. P l × Q l × R l) xs
  both_lines P Q R [] f g h = tt
  both_lines P Q R (x ∷ xs) f g h = ((f.0, g.0, h.0), both_lines P Q R xs f.1 g.1 h.1)

  -- a block
  block_kept : (x : ℕ × Block) → IsKeptAt src x → Each (λ (s : NbcStatement). Each (IsListed (program_of src)) s.args) (program_block src x).body → IsKept (program_of src) (program_block src x)
  block_kept (k, b) h listed =
      let n : ℕ = length (dependents_of src k b) in
      let ls : List LabelAt = labels_from 0 b.items in
      let of_line : ℕ × Form → List NbcStatement = statements_in src ls k b.subroutine n in
      let body : List NbcStatement = flat_map of_line b.items in
      let adds = each_weaker (IsKeptLine src ls) (Adds src ls k b.subroutine n) b.items (line_adds src names ls ls k b.subroutine n) h.kept.lines in
      let same : 0 + length body ≡ length body = omega arith in
      let below : Each (λ l. l.position < length body) ls =
      subst (λ m. Each (λ l. l.position < m) ls) same (labels_below src ls k b.subroutine n b.subroutine b.items h.kept.good adds 0) in
      let Listed : NbcStatement → Type 0 = λ s. Each (IsListed (program_of src)) s.args in
      let each = both_lines (IsKeptLine src ls) (InPlace b.subroutine) (λ l. Each Listed (of_line l)) b.items h.kept.lines (in_place b.subroutine b.items h.kept.good) (each_parts Listed of_line b.items listed) in
      record {
        closed = body_closes src ls k b.subroutine n b.subroutine b.items h.kept.good;
        jumps = each_flat (JumpsBelow (length body)) of_line b.items (each_weaker (IsKeptLine src ls) _ b.items (line_leads ls k b h.there n (length body) below) h.kept.lines);
        dependents = dependents_below src k b;
        operands = each_flat (HasFit (program_of src)) of_line b.items
            (each_weaker (λ l. IsKeptLine src ls l × InPlace b.subroutine l × Each Listed (of_line l)) _ b.items (λ l f. line_fit ls k b h.there n l f.0 f.1 f.2) each);
      }

  -- what holds of each that a function gives
  pub each_mapped : {X Y : Type 0} (P : Y → Type 0) (f : X → Y) (xs : List X) → Each P (map f xs) → Each (λ x. P (f x)) xs
  each_mapped P f [] h = tt
  each_mapped P f (x ∷ xs) h = (h.0, each_mapped P f xs h.1)

  -- the blocks of a text that keeps the rules
  pub program_kept : Each (IsKeptAt src) (numbered src) → Each (IsKept (program_of src)) (program_of src).blocks
  program_kept h =
      let Listed : NbcBlock → Type 0 = λ b. Each (λ (s : NbcStatement). Each (IsListed (program_of src)) s.args) b.body in
      each_map (IsKept (program_of src)) (program_block src) (numbered src)
      (each_weaker (λ x. IsKeptAt src x × Listed (program_block src x)) _ (numbered src) (λ x f. block_kept x f.0 f.1)
      (each_both (IsKeptAt src) (λ x. Listed (program_block src x)) (numbered src) h (each_mapped Listed (program_block src) (numbered src) (blocks_listed (program_of src)))))
