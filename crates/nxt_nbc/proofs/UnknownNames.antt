-- The first lines that use what isn't there.
use Rattle.std.proofs.Common.{◌≡◌, ℕ, zero, suc, ◌+◌, ◌<◌, Bool, true, false, List, [], ◌∷◌, length, map, drop, get_or, Option, sym, ap, subst, ◌∙◌, arith}
use Rattle.std.specs.Prelude.{zip}
use Rattle.std.specs.List.{list_any}
use Rattle.std.proofs.lemmas.List.{drop_more, get_or-map, length-map}
use Rattle.nxt_types.specs.Opcodes.{arity, takes, classes, class_in, row}
use Rattle.nxt_types.specs.declared.instr.Op.{Op}
use Rattle.nxt_types.specs.declared.opcodes.Class.{Class}
use Rattle.nxt_model.specs.Nbc.Forms.{Form, Formed, Term}
use Rattle.nxt_model.specs.Nbc.Text.{LabelAt, Source, labels_from, source_of}
use Rattle.nxt_model.specs.Nbc.NbcRules.{UnknownName, tells, uses_unknown, uses_unknown_type}
use Rattle.nxt_nbc_lines.specs.Firsts.{Ascends, IsLeast, first_in_blocks, first_line, lesser}
use Rattle.nxt_nbc_lines.specs.Seen.{term_seen, terms_seen}
use Rattle.nxt_nbc_lines.specs.Whole.{AreWhole, BlocksAreWhole}
use Rattle.nxt_nbc_lines.specs.declared.terms.Term.{Term as ProgramTerm}
use Rattle.nxt_nbc_lines.proofs.Laws.Classes.{any_classed, none_classed}
use Rattle.nxt_nbc_lines.proofs.Laws.FirstRules.{least_unknown}
use Rattle.nxt_nbc_names.specs.BlocksSeen.{block_seen}
use Rattle.nxt_nbc_names.specs.declared.blocks.Block.{Block as ProgramBlock}
use Rattle.nxt_nbc.proofs.LesserLines.{lesser_assoc}

-- ---- operands

seen_none : (q : Term → Bool) (ts : List ProgramTerm) (k : ℕ) (d : Term) → k < length ts → ((e : ProgramTerm) → k < length ts → q (term_seen (get_or ts k e)) ≡ false)
    → q (get_or (terms_seen ts) k d) ≡ false
seen_none q [] k d l each = absurd (omega (arith, l))
seen_none q (t ∷ ts) k d l each = ap q (get_or-map term_seen (t ∷ ts) k t d l) ∙ each t l

module _ (p : Class × Term → Bool) (op : Op) (ts : List ProgramTerm) (taken : takes (arity op) (length ts) ≡ true) where
  taken_seen : takes (arity op) (length (terms_seen ts)) ≡ true
  taken_seen = ap (takes (arity op)) (length-map ts term_seen) ∙ taken

  -- a test finds an operand with its class
  pub any_term : (k : ℕ) (t : ProgramTerm) → k < length ts → t ≡ get_or ts k t → p (class_in (row op).operands k, term_seen t) ≡ true
      → list_any p (zip (classes op (length (terms_seen ts))) (terms_seen ts)) ≡ true
  any_term k t l at h =
      any_classed p op (terms_seen ts) taken_seen k (term_seen t) (let n = length-map ts term_seen in omega (arith, n, l))
      (ap (λ u. p (class_in (row op).operands k, u)) (get_or-map term_seen ts k t (term_seen t) l ∙ ap term_seen (sym at)) ∙ h)

  -- or none
  pub none_of_terms : ((k : ℕ) (d : ProgramTerm) → k < length ts → p (class_in (row op).operands k, term_seen (get_or ts k d)) ≡ false)
      → list_any p (zip (classes op (length (terms_seen ts))) (terms_seen ts)) ≡ false
  none_of_terms h =
      none_classed p op (terms_seen ts) taken_seen
      (λ k d l. seen_none (λ x. p (class_in (row op).operands k, x)) ts k d (let n = length-map ts term_seen in omega (arith, n, l)) (h k))

-- ---- blocks

module _ (test : ℕ → List LabelAt → Form → Bool) (bs : List ProgramBlock) (i : ℕ) (b : ProgramBlock) (within : i < length bs) (at : b ≡ get_or bs i b) where
  -- the first line of the blocks so far, with one block more
  pub first_more : (found now : Option ℕ) (o : Option ℕ) (whole : Option ℕ) → lesser found (first_in_blocks test (map block_seen (drop i bs))) ≡ whole
      → o ≡ first_line (λ line f. test line (labels_from 0 (block_seen b).items) f) (block_seen b).items → now ≡ lesser found o
      → lesser now (first_in_blocks test (map block_seen (drop (i + 1) bs))) ≡ whole
  first_more found now o whole so_far e is =
      let left = first_in_blocks test (map block_seen (drop (i + 1) bs)) in
      ap (λ x. lesser x left) (is ∙ ap (lesser found) e)
      ∙ lesser_assoc found (first_line (λ line f. test line (labels_from 0 (block_seen b).items) f) (block_seen b).items) left
      ∙ sym (ap (λ xs. lesser found (first_in_blocks test (map block_seen xs))) (drop_more bs i b within ∙ ap (λ x. x ∷ drop (i + 1) bs) (sym at)))
      ∙ so_far

pub block_whole_at : (bs : List ProgramBlock) (i : ℕ) (b : ProgramBlock) → BlocksAreWhole (map block_seen bs) → i < length bs → b ≡ get_or bs i b → AreWhole (block_seen b).items
block_whole_at [] i b h lt at = absurd (omega (arith, lt))
block_whole_at (c ∷ bs) zero b h lt at = subst (λ x. AreWhole (block_seen x).items) (sym at) h.0
block_whole_at (c ∷ bs) (suc i) b h lt at = block_whole_at bs i b h.2 (omega (arith, lt)) at

-- ---- texts

pub unknown_told : (fd : Formed) (src : Source) → src ≡ source_of fd.forms → Ascends 0 fd.forms
    → IsLeast (λ l. tells fd (UnknownName l)) (lesser (first_line (uses_unknown_type src) fd.forms) (first_in_blocks (λ line ls. uses_unknown src ls line) src.blocks))
unknown_told fd src is up =
    subst (λ (s : Source). IsLeast (λ l. tells fd (UnknownName l)) (lesser (first_line (uses_unknown_type s) fd.forms) (first_in_blocks (λ line ls. uses_unknown s ls line) s.blocks)))
    (sym is) (least_unknown fd 0 up)
