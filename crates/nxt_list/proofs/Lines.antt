-- Lines whose fields are written part by part, and rows one after another.
use Rattle.std.proofs.Common.{◌≡◌, ℕ, zero, suc, ◌+◌, List, [], ◌∷◌, ◌++◌, refl, sym, ap, ap₂, ◌∙◌, append_assoc, append-nil, add-one, arith}
use Rattle.std.specs.Prelude.{flat_map, codes, decimal}
use Rattle.std.specs.List.{range_with_len}
use Rattle.nxt_model.specs.LineText.{fields, fields_then}
use Rattle.nxt_model.specs.Reading.{Memory}
use Rattle.nxt_types.specs.Opcodes.{op_name}
use Rattle.nxt_types.specs.Statements.{Statement}
use Rattle.nxt_list.specs.Listing.{row_line, lines_of_rows, comparison_fields, operand_fields, statement_line}

-- ---- fields

fields_both : (fs gs : List (List ℕ)) (last : List ℕ) → fields_then (fs ++ gs) last ≡ fields_then fs [] ++ fields_then gs last
fields_both [] gs last = refl
fields_both (f ∷ fs) gs last = ap (λ rest. 44 ∷ f ++ rest) (fields_both fs gs last) ∙ sym (append_assoc (44 ∷ f) (fields_then fs []) (fields_then gs last))

-- a statement's line, written field by field
pub statement_written : (t₀ t₁ t₂ t₃ t₄ name : List ℕ) (w : ℕ) (s : Statement)
    → t₁ ≡ t₀ ++ codes "code" → t₂ ≡ t₁ ++ 44 ∷ decimal w → t₃ ≡ t₂ ++ 44 ∷ name → name ≡ op_name s.op
    → t₄ ≡ t₃ ++ fields_then (comparison_fields s.op s.cmp) []
    → t₄ ++ fields (operand_fields s.op s.args) ≡ t₀ ++ statement_line (w, s)
statement_written t₀ t₁ t₂ t₃ t₄ name w s word number operation named comparison =
    ap (λ t. t ++ fields (operand_fields s.op s.args)) comparison
    ∙ append_assoc t₃ (fields_then (comparison_fields s.op s.cmp) []) (fields (operand_fields s.op s.args))
    ∙ ap₂ (λ (t u : List ℕ). t ++ u) (operation ∙ ap₂ (λ (t u : List ℕ). t ++ 44 ∷ u) (number ∙ ap (λ t. t ++ 44 ∷ decimal w) word) named) (sym (fields_both (comparison_fields s.op s.cmp) (operand_fields s.op s.args) (10 ∷ [])))
    ∙ joined t₀ (codes "code") (44 ∷ decimal w) (44 ∷ op_name s.op) (fields (comparison_fields s.op s.cmp ++ operand_fields s.op s.args))
  where
    joined : (a b c d e : List ℕ) → (((a ++ b) ++ c) ++ d) ++ e ≡ a ++ (b ++ (c ++ (d ++ e)))
    joined a b c d e = simp append_assoc

-- ---- rows

lines_more : (f : ℕ → List ℕ) (a n : ℕ) → flat_map f (range_with_len a (suc n)) ≡ flat_map f (range_with_len a n) ++ f (a + n)
lines_more f a zero = let e : a ≡ a + 0 = omega arith in append-nil (f a) ∙ ap f e
lines_more f a (suc n) =
    let e : (a + 1) + n ≡ a + suc n = omega arith in
    ap (λ rest. f a ++ rest) (lines_more f (a + 1) n)
    ∙ sym (append_assoc (f a) (flat_map f (range_with_len (a + 1) n)) (f ((a + 1) + n)))
    ∙ ap (λ b. (f a ++ flat_map f (range_with_len (a + 1) n)) ++ f b) e

-- one more row
pub row_more : (text : List ℕ) (m : Memory) (r : ℕ) → text ++ lines_of_rows m (r + 1) ≡ (text ++ lines_of_rows m r) ++ row_line m r
row_more text m r =
    let e : 0 + r ≡ r = omega arith in
    ap (λ n. text ++ lines_of_rows m n) (add-one r)
    ∙ ap (λ rest. text ++ rest) (lines_more (row_line m) 0 r ∙ ap (λ n. lines_of_rows m r ++ row_line m n) e)
    ∙ sym (append_assoc text (lines_of_rows m r) (row_line m r))
