-- The numbers of statements: how many begin before a word.
use Rattle.std.proofs.Common.{◌≡◌, ℕ, zero, suc, ◌+◌, ◌<◌, ◌≤◌, Bool, true, false, List, [], ◌∷◌, ◌++◌, length, nat_lt, pos, refl, ap, ap₂, ◌∙◌, arith, length-append}
use Rattle.std.specs.Prelude.{slice_index, sum_by}
use Rattle.std.proofs.lemmas.Bool.{le-ltb, lt-ltb}
use Rattle.std.proofs.lemmas.List.Sums.{sum_by-cons}
use Rattle.nxt_facts.proofs.Sums.{bit, tally, tally-append, tally_is}
use Rattle.nxt_types.specs.Statements.{Statement, statement_number}
use Rattle.nxt_model.specs.declared.nbc.NbcBlock.{NbcBlock}
use Rattle.nxt_model.specs.declared.nbc.NbcStatement.{NbcStatement}
use Rattle.nxt_model.specs.Assembled.{block_words, starts_from, word_count}
use Rattle.nxt_model.specs.TextProgram.{Text}
use Rattle.nxt_asm_laws_code.specs.Placed.{placed_body, placed_from, spelled}
use Rattle.nxt_asm_laws_code.proofs.Laws.Decoded.{word_count_positive}

-- a statement begins before the word
abbrev pub is_before : ℕ → ℕ × Statement → Bool
is_before w s = nat_lt s.0 w

counts_more : {X : Type 0} (test : X → Bool) (x : X) (xs : List X) → test x ≡ true → tally test (x ∷ xs) ≡ suc (tally test xs)
counts_more test x xs e = let one : bit (test x) ≡ 1 = ap bit e in omega (arith, one)

counts_same : {X : Type 0} (test : X → Bool) (x : X) (xs : List X) → test x ≡ false → tally test (x ∷ xs) ≡ tally test xs
counts_same test x xs e = let none : bit (test x) ≡ 0 = ap bit e in omega (arith, none)

-- a number is that of the statements before the word
number_counted : (sts : List (ℕ × Statement)) (w : ℕ) → statement_number sts (pos w) ≡ tally (is_before w) sts
number_counted sts w = tally_is (is_before w) sts

-- ---- blocks one by one

module _ (p : Text) where
  -- none of those behind a word begins before it
  none_behind : (at : List ℕ) (ss : List NbcStatement) (here w : ℕ) → w ≤ here → tally (is_before w) (placed_body p at here ss) ≡ 0
  none_behind at [] here w le = refl
  none_behind at (s ∷ ss) here w le =
      counts_same (is_before w) (here, spelled p at here s) (placed_body p at (here + word_count s) ss) (le-ltb here w le) ∙ none_behind at ss (here + word_count s) w (omega (arith, le))

  -- all of those in front of a word do
  all_before : (at : List ℕ) (ss : List NbcStatement) (here w : ℕ) → here + sum_by word_count ss ≤ w → tally (is_before w) (placed_body p at here ss) ≡ length ss
  all_before at [] here w le = refl
  all_before at (s ∷ ss) here w le =
      let some = word_count_positive s in
      let all = sum_by-cons word_count s ss in
      let under : here < w = omega (arith, le, some, all) in
      let rest : here + word_count s + sum_by word_count ss ≤ w = omega (arith, le, all) in
      counts_more (is_before w) (here, spelled p at here s) (placed_body p at (here + word_count s) ss) (lt-ltb here w under) ∙ ap suc (all_before at ss (here + word_count s) w rest)

  -- a start is behind the first word
  start_behind : (ss : List NbcStatement) (here place : ℕ) → place ≤ length ss → here ≤ slice_index (starts_from here ss) place
  start_behind [] here zero le = omega arith
  start_behind [] here (suc place) le = absurd (omega (arith, le))
  start_behind (s ∷ ss) here zero le = omega arith
  start_behind (s ∷ ss) here (suc place) le = let more = start_behind ss (here + word_count s) place (omega (arith, le)) in omega (arith, more)

  -- the start of a statement is behind as many as stand before it
  start_number : (at : List ℕ) (ss : List NbcStatement) (here place : ℕ) → place < length ss → tally (is_before (slice_index (starts_from here ss) place)) (placed_body p at here ss) ≡ place
  start_number at [] here place lt = absurd (omega (arith, lt))
  start_number at (s ∷ ss) here zero lt = none_behind at (s ∷ ss) here here (omega arith)
  start_number at (s ∷ ss) here (suc place) lt =
      let w : ℕ = slice_index (starts_from (here + word_count s) ss) place in
      let some = word_count_positive s in
      let behind = start_behind ss (here + word_count s) place (omega (arith, lt)) in
      let under : here < w = omega (arith, some, behind) in
      counts_more (is_before w) (here, spelled p at here s) (placed_body p at (here + word_count s) ss) (lt-ltb here w under) ∙ ap suc (start_number at ss (here + word_count s) place (omega (arith, lt)))

  -- and so in the body's last start
  start_inside : (ss : List NbcStatement) (here place : ℕ) → place < length ss → slice_index (starts_from here ss) place ≤ here + sum_by word_count ss
  start_inside [] here place lt = absurd (omega (arith, lt))
  start_inside (s ∷ ss) here zero lt = omega arith
  start_inside (s ∷ ss) here (suc place) lt =
      let more = start_inside ss (here + word_count s) place (omega (arith, lt)) in let all = sum_by-cons word_count s ss in omega (arith, more, all)

  -- blocks behind a word
  blocks_behind : (bs : List NbcBlock) (here w : ℕ) → w ≤ here → tally (is_before w) (placed_from p here bs) ≡ 0
  blocks_behind [] here w le = refl
  blocks_behind (b ∷ bs) here w le =
      tally-append (is_before w) (placed_body p (starts_from here b.body) here b.body) (placed_from p (here + block_words b) bs)
      ∙ ap₂ (λ (m n : ℕ). m + n) (none_behind (starts_from here b.body) b.body here w le) (blocks_behind bs (here + block_words b) w (omega (arith, le)))

  length-placed_body : (at : List ℕ) (ss : List NbcStatement) (here : ℕ) → length (placed_body p at here ss) ≡ length ss
  length-placed_body at [] here = refl
  length-placed_body at (s ∷ ss) here = ap suc (length-placed_body at ss (here + word_count s))

  -- ---- blocks behind others

  -- statements that all begin before a word, and as many as this
  pub record IsFront (here first : ℕ) (front : List (ℕ × Statement)) : Type 0 where
    pub long : length front ≡ first
    pub before : (w : ℕ) → here ≤ w → tally (is_before w) front ≡ first

  pub front_empty : IsFront 0 0 []
  front_empty = record { long = refl; before = λ w le. refl }

  -- with one more block
  pub front_more : (here first : ℕ) (front : List (ℕ × Statement)) (b : NbcBlock) → IsFront here first front
      → IsFront (here + block_words b) (first + length b.body) (front ++ placed_body p (starts_from here b.body) here b.body)
  front_more here first front b h =
      let body : List (ℕ × Statement) = placed_body p (starts_from here b.body) here b.body in
      record {
        long = length-append front body ∙ ap₂ (λ (m n : ℕ). m + n) h.long (length-placed_body (starts_from here b.body) b.body here);
        before = λ w le. tally-append (is_before w) front body ∙ ap₂ (λ (m n : ℕ). m + n) (h.before w (omega (arith, le))) (all_before (starts_from here b.body) b.body here w le);
      }

  -- the number of a block's first statement
  pub block_number : (here first : ℕ) (front : List (ℕ × Statement)) (bs : List NbcBlock) → IsFront here first front → statement_number (front ++ placed_from p here bs) (pos here) ≡ first
  block_number here first front bs h =
      let under : here ≤ here = omega arith in
      let none : first + 0 ≡ first = omega arith in
      number_counted (front ++ placed_from p here bs) here
      ∙ tally-append (is_before here) front (placed_from p here bs) ∙ ap₂ (λ (m n : ℕ). m + n) (h.before here under) (blocks_behind bs here here under)
      ∙ none

  -- the number of a statement of a block
  pub place_number : (here first : ℕ) (front : List (ℕ × Statement)) (b : NbcBlock) (bs : List NbcBlock) (place : ℕ) → IsFront here first front → place < length b.body
      → statement_number (front ++ placed_from p here (b ∷ bs)) (pos (slice_index (starts_from here b.body) place)) ≡ first + place
  place_number here first front b bs place h lt =
      let w : ℕ = slice_index (starts_from here b.body) place in
      let body : List (ℕ × Statement) = placed_body p (starts_from here b.body) here b.body in
      let rest : List (ℕ × Statement) = placed_from p (here + block_words b) bs in
      let over = start_behind b.body here place (omega (arith, lt)) in
      let under = start_inside b.body here place lt in
      let none : first + (place + 0) ≡ first + place = omega arith in
      number_counted (front ++ placed_from p here (b ∷ bs)) w
      ∙ tally-append (is_before w) front (body ++ rest)
      ∙ ap₂ (λ (m n : ℕ). m + n) (h.before w over)
      (tally-append (is_before w) body rest
      ∙ ap₂ (λ (m n : ℕ). m + n) (start_number (starts_from here b.body) b.body here place lt) (blocks_behind bs (here + block_words b) w under))
      ∙ none
