-- Statements that stand one behind another: where they begin, what lies inside, and where one is due.
use Rattle.std.proofs.Common.{◌≡◌, ℕ, ◌+◌, ◌<◌, ◌≤◌, ◌==◌, Bool, true, false, ◌||◌, ◌&&◌, nat_lt, List, [], ◌∷◌, ◌++◌, length, drop, All, Option, Some, None, refl, sym, ap, subst, ◌∙◌, ◌⊎◌, inl, inr, arith, append_assoc, eqb-true}
use Rattle.std.specs.Prelude.{is_some, option_map, sum_by}
use Rattle.std.specs.List.{list_any}
use Rattle.std.proofs.lemmas.Bool.{and_left, and_right, le-ltb, or_from}
use Rattle.std.proofs.lemmas.List.{drop-drop}
use Rattle.std.proofs.lemmas.List.Elements.{All-head, All-tail}
use Rattle.std.proofs.lemmas.List.Sums.{sum_by-cons}
use Rattle.std.proofs.lemmas.Option.{none-some}
use Rattle.nxt_types.specs.Statements.{Spelled, Statement, statement_at}
use Rattle.nxt_code.specs.CodeRules.{begins, end_of, is_spelled, length_of}
use Rattle.nxt_code.specs.Decoding.{Tiles}
use Rattle.nxt_model.specs.declared.nbc.NbcBlock.{NbcBlock}
use Rattle.nxt_model.specs.declared.nbc.NbcStatement.{NbcStatement}
use Rattle.nxt_model.specs.Assembled.{block_words, body_words, code_from, starts_from, statement_words, word_count}
use Rattle.nxt_model.specs.TextProgram.{Text}
use Rattle.nxt_asm_parts.specs.Codable.{IsCodable, IsCodableBlock}
use Rattle.nxt_asm_rules.proofs.Laws.Counts.{code_length}
use Rattle.nxt_asm_laws_code.specs.Placed.{placed_body, placed_from, spelled}
use Rattle.nxt_asm_laws_code.proofs.Laws.Decoded.{behind_statement, statement_read, word_count_positive}

-- one of two tests
pub either_true : (a b : Bool) → (a || b) ≡ true → (a ≡ true) ⊎ (b ≡ true)
either_true true b e = inl refl
either_true false b e = inr e

-- ---- one behind another

module _ (words : List ℕ) where
  tiles_rise : (sts : List (ℕ × Statement)) (from to : ℕ) → Tiles words from sts to → from ≤ to
  tiles_rise [] from to t = omega (arith, t)
  tiles_rise (s ∷ ss) from to t =
      let more = tiles_rise ss (end_of words s) to t.3 in
      let lt = t.1 in
      omega (arith, more, lt)

  -- a statement begins between the ends
  pub begins_between : (sts : List (ℕ × Statement)) (from to w : ℕ) → Tiles words from sts to → begins sts w ≡ true → (from ≤ w) × (w < to)
  begins_between [] from to w t e = absurd (let no : ⊥ = cc in no)
  begins_between (s ∷ ss) from to w t e =
      let lt = t.1 in
      let at = t.0 in
      elim (either_true (s.0 == w) (begins ss w) e) as (λ _. (from ≤ w) × (w < to)) [
        | inl same ↦
            let is = eqb-true s.0 w same in
            let up = tiles_rise ss (end_of words s) to t.3 in
            (omega (arith, is, at), omega (arith, is, at, lt, up))
        | inr later ↦
            let more = begins_between ss (end_of words s) to w t.3 later in
            let low = more.0 in
            (omega (arith, low, lt), more.1)
      ]

  -- a word behind a statement's first and before its end
  abbrev inside : ℕ → ℕ × Statement → Bool
  inside w s = nat_lt s.0 w && nat_lt w (end_of words s)

  -- the first of the words is inside none
  none_before : (sts : List (ℕ × Statement)) (from to w : ℕ) → Tiles words from sts to → w ≤ from → list_any (inside w) sts ≡ false
  none_before [] from to w t le = refl
  none_before (s ∷ ss) from to w t le =
      let at = t.0 in
      let lt = t.1 in
      or_from (inside w s) (list_any (inside w) ss) (and_left (nat_lt s.0 w) (nat_lt w (end_of words s)) (le-ltb s.0 w (omega (arith, at, le))))
      (none_before ss (end_of words s) to w t.3 (omega (arith, lt, le)))

  -- where a statement begins, it is inside none
  pub none_inside : (sts : List (ℕ × Statement)) (from to w : ℕ) → Tiles words from sts to → begins sts w ≡ true → list_any (inside w) sts ≡ false
  none_inside [] from to w t e = refl
  none_inside (s ∷ ss) from to w t e =
      elim (either_true (s.0 == w) (begins ss w) e) as (λ _. list_any (inside w) (s ∷ ss) ≡ false) [
        | inl same ↦
            let is = eqb-true s.0 w same in
            let at = t.0 in
            none_before (s ∷ ss) from to w t (omega (arith, is, at))
        | inr later ↦
            let low = (begins_between ss (end_of words s) to w t.3 later).0 in
            or_from (inside w s) (list_any (inside w) ss) (and_right (nat_lt s.0 w) (nat_lt w (end_of words s)) (le-ltb w (end_of words s) low))
            (none_inside ss (end_of words s) to w t.3 later)
      ]

  -- a statement is spelled at the first of the words
  pub first_spelled : (sts : List (ℕ × Statement)) (from to : ℕ) → Tiles words from sts to → from < to → is_spelled words from ≡ true
  first_spelled [] from to t lt = absurd (omega (arith, t, lt))
  first_spelled (s ∷ ss) from to t lt = by (statement_at (drop from words)) t.2
    where
      by : (o : Option Spelled) → option_map (λ x. x.0) o ≡ Some s.1 → is_some o ≡ true
      by None e = absurd (none-some s.1 e)
      by (Some x) e = refl

  -- and wherever one ends before the end
  pub due_spelled : (sts : List (ℕ × Statement)) (from to w : ℕ) → Tiles words from sts to → list_any (λ s. end_of words s == w) sts ≡ true → w < to → is_spelled words w ≡ true
  due_spelled [] from to w t e lt = absurd (let no : ⊥ = cc in no)
  due_spelled (s ∷ ss) from to w t e lt =
      elim (either_true (end_of words s == w) (list_any (λ s. end_of words s == w) ss) e) as (λ _. is_spelled words w ≡ true) [
        | inl same ↦
            let at : end_of words s ≡ w = eqb-true (end_of words s) w same in
            subst (λ v. is_spelled words v ≡ true) at (first_spelled ss (end_of words s) to t.3 (omega (arith, at, lt)))
        | inr more ↦ due_spelled ss (end_of words s) to w t.3 more lt
      ]

-- ---- a program's statements

module _ (words : List ℕ) (p : Text) where
  body_tiled : (at : List ℕ) (ss : List NbcStatement) (here : ℕ) (more : List ℕ) (rest : List (ℕ × Statement)) (to : ℕ) → All IsCodable ss
      → drop here words ≡ body_words p at here ss ++ more → (drop (here + sum_by word_count ss) words ≡ more → Tiles words (here + sum_by word_count ss) rest to)
      → Tiles words here (placed_body p at here ss ++ rest) to
  body_tiled at [] here more rest to all e follow =
      let same : here + 0 ≡ here = omega arith in
      subst (λ h. Tiles words h rest to) same (follow (ap (λ h. drop h words) same ∙ e))
  body_tiled at (s ∷ ss) here more rest to all e follow =
      let tail : List ℕ = body_words p at (here + word_count s) ss in
      let front : drop here words ≡ statement_words p at here s ++ (tail ++ more) = e ∙ append_assoc (statement_words p at here s) tail more in
      let read : statement_at (drop here words) ≡ Some (spelled p at here s, word_count s) =
      ap statement_at front ∙ statement_read p at here s (tail ++ more) (All-head IsCodable s ss all) in
      let behind : drop (here + word_count s) words ≡ tail ++ more =
      sym (drop-drop (word_count s) here words) ∙ ap (drop (word_count s)) front ∙ behind_statement p at here s (tail ++ more) in
      let end : end_of words (here, spelled p at here s) ≡ here + word_count s = ap (λ o. here + length_of o) read in
      let some = word_count_positive s in
      let sum = sum_by-cons word_count s ss in
      let place : here + word_count s + sum_by word_count ss ≡ here + sum_by word_count (s ∷ ss) = omega (arith, sum) in
      let later = body_tiled at ss (here + word_count s) more rest to (All-tail IsCodable s ss all) behind
      (subst (λ h. drop h words ≡ more → Tiles words h rest to) (sym place) follow) in
      (refl, omega (arith, end, some), ap (option_map (λ x. x.0)) read, subst (λ h. Tiles words h (placed_body p at (here + word_count s) ss ++ rest) to) (sym end) later)

  -- the same of blocks
  blocks_tiled : (bs : List NbcBlock) (here to : ℕ) → All IsCodableBlock bs → drop here words ≡ code_from p here bs → to ≡ here + sum_by block_words bs
      → Tiles words here (placed_from p here bs) to
  blocks_tiled [] here to all e end = omega (arith, end)
  blocks_tiled (b ∷ bs) here to all e end =
      let sum = sum_by-cons block_words b bs in
      body_tiled (starts_from here b.body) b.body here (code_from p (here + block_words b) bs) (placed_from p (here + block_words b) bs) to
      (All-head IsCodableBlock b bs all) e
      (λ next. blocks_tiled bs (here + block_words b) to (All-tail IsCodableBlock b bs all) next (omega (arith, end, sum)))

-- the statements of a program's code stand one behind another, from the first word to the last
pub code_tiled : (p : Text) → All IsCodableBlock p.blocks → Tiles (code_from p 0 p.blocks) 0 (placed_from p 0 p.blocks) (length (code_from p 0 p.blocks))
code_tiled p all =
    let words : List ℕ = code_from p 0 p.blocks in
    let long = code_length p 0 p.blocks in
    blocks_tiled words p p.blocks 0 (length words) all refl (omega (arith, long))
