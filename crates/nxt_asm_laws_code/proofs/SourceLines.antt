-- What the lines of blocks keep, in a text where no rule is broken.
use Rattle.std.proofs.Common.{◌≡◌, ℕ, suc, ◌+◌, Bool, false, List, [], ◌∷◌, Some, ap, ◌∙◌, slice_get, arith}
use Rattle.std.specs.Prelude.{filter, not}
use Rattle.std.specs.List.{enumerate_from, list_any}
use Rattle.std.proofs.lemmas.Bool.{or_parts}
use Rattle.nxt_model.specs.Nbc.Forms as forms
use Rattle.nxt_model.specs.Nbc.Forms.{Form, Formed}
use Rattle.nxt_model.specs.Nbc.NbcRules.{TextFault, OutOfRange, UnknownName, WrongKind, at_line, in_blocks, is_out_of_range, is_wrong_kind, tells, uses_unknown, uses_unknown_type}
use Rattle.nxt_model.specs.Nbc.Text.{Source, Block, LabelAt, blocks_in, is_main, items_of, labels_from, numbered, ordered, source_of}
use Rattle.nxt_asm_laws.proofs.Laws.Forms.{LineFormed}
use Rattle.nxt_asm_laws.proofs.Laws.Kept.{kept_lines}
use Rattle.nxt_asm_laws.proofs.Laws.Lists.{Each, each_append, each_both, each_filter, each_numbered, each_weaker}
use Rattle.nxt_asm_laws_code.specs.Lines.{IsGood}

-- a line of a block with these labels
pub record IsKeptLine (src : Source) (ls : List LabelAt) (l : ℕ × Form) : Type 0 where
  pub formed : LineFormed l
  pub kinds : (k : ℕ) → is_wrong_kind src l.0 k l.1 ≡ false
  pub range : is_out_of_range src l.0 l.1 ≡ false
  pub known : uses_unknown src ls l.0 l.1 ≡ false

-- its lines keep the rules, and it is closed
pub record IsKeptBlock (src : Source) (b : Block) : Type 0 where
  pub lines : Each (IsKeptLine src (labels_from 0 b.items)) b.items
  pub good : IsGood b

-- ---- lists

-- what holds for each number
each_forall : {X : Type 0} (P : ℕ → X → Type 0) (xs : List X) → ((k : ℕ) → Each (P k) xs) → Each (λ x. (k : ℕ) → P k x) xs
each_forall P [] h = tt
each_forall P (x ∷ xs) h = (λ k. (h k).0, each_forall P xs (λ k. (h k).1))

-- a test that finds none fails at each
none_each : {X : Type 0} (test : X → Bool) (xs : List X) → list_any test xs ≡ false → Each (λ x. test x ≡ false) xs
none_each test [] e = tt
none_each test (x ∷ xs) e = let both = or_parts (test x) (list_any test xs) e in (both.0, none_each test xs both.1)

-- the lines of blocks are lines of the text
items_each : (P : ℕ × Form → Type 0) (fs : List (ℕ × Form)) → Each P fs → Each P (items_of fs)
items_each P [] h = tt
items_each P ((l, forms.CloseBlock) ∷ fs) h = (h.0, tt)
items_each P ((l, f) ∷ fs) h = (h.0, items_each P fs h.1)

-- of all blocks
blocks_each : (P : ℕ × Form → Type 0) (fs : List (ℕ × Form)) → Each P fs → Each (λ (b : Block). Each P b.items) (blocks_in fs)
blocks_each P [] h = tt
blocks_each P ((l, forms.OpenThread name) ∷ fs) h = (items_each P fs h.1, blocks_each P fs h.1)
blocks_each P ((l, forms.OpenSubroutine name) ∷ fs) h = (items_each P fs h.1, blocks_each P fs h.1)
blocks_each P ((l, f) ∷ fs) h = blocks_each P fs h.1

-- ---- lines

-- a line that is formed, of its kinds and in range
abbrev IsRight : Source → ℕ × Form → Type 0
IsRight src l = LineFormed l × ((k : ℕ) → is_wrong_kind src l.0 k l.1 ≡ false) × (is_out_of_range src l.0 l.1 ≡ false)

right_lines : (src : Source) (fs : List (ℕ × Form)) → Each LineFormed fs → Each (λ l. (k : ℕ) → is_wrong_kind src l.0 k l.1 ≡ false) fs
    → Each (λ l. is_out_of_range src l.0 l.1 ≡ false) fs → Each (IsRight src) fs
right_lines src [] formed kinds ranges = tt
right_lines src (l ∷ fs) formed kinds ranges = ((formed.0, kinds.0, ranges.0), right_lines src fs formed.1 kinds.1 ranges.1)

-- the lines of a block
block_lines : (src : Source) (b : Block) → Each (IsRight src) b.items
    → ((line : ℕ) → list_any (uses_unknown src (labels_from 0 b.items) line) (at_line line b.items) ≡ false) → Each (IsKeptLine src (labels_from 0 b.items)) b.items
block_lines src b right none =
    let ls : List LabelAt = labels_from 0 b.items in
    each_weaker (λ l. IsRight src l × (uses_unknown src ls l.0 l.1 ≡ false)) (IsKeptLine src ls) b.items
    (λ l h. record { formed = h.0.0; kinds = h.0.1; range = h.0.2; known = h.1 })
    (each_both (IsRight src) (λ l. uses_unknown src ls l.0 l.1 ≡ false) b.items right (kept_lines (uses_unknown src ls) b.items none))

-- the blocks of a text
pub blocks_kept : (fd : Formed) → ((f : TextFault) → tells fd f ≡ false) → Each LineFormed fd.forms → Each IsGood (source_of fd.forms).blocks
    → Each (IsKeptBlock (source_of fd.forms)) (source_of fd.forms).blocks
blocks_kept fd told formed good =
    let fs = fd.forms in
    let src : Source = source_of fs in
    let right : Each (IsRight src) fs =
    right_lines src fs formed
    (each_forall (λ k l. is_wrong_kind src l.0 k l.1 ≡ false) fs (λ k. kept_lines (λ line f. is_wrong_kind src line k f) fs (λ line. told (WrongKind line k))))
    (kept_lines (is_out_of_range src) fs (λ line. told (OutOfRange line))) in
    let test : ℕ → Block → Bool = λ line b. list_any (uses_unknown src (labels_from 0 b.items) line) (at_line line b.items) in
    let known : Each (λ b. (line : ℕ) → test line b ≡ false) src.blocks =
    each_forall (λ line b. test line b ≡ false) src.blocks
    (λ line. none_each (test line) src.blocks
    (or_parts (list_any (uses_unknown_type src line) (at_line line fs)) (in_blocks src line (λ ls. uses_unknown src ls line)) (told (UnknownName line))).1) in
    let lines : Each (λ (b : Block). Each (IsRight src) b.items) src.blocks = blocks_each (IsRight src) fs right in
    each_weaker (λ b. (Each (IsRight src) b.items × ((line : ℕ) → test line b ≡ false)) × IsGood b) (IsKeptBlock src) src.blocks
    (λ b h. record { lines = block_lines src b h.0.0 h.0.1; good = h.1 })
    (each_both (λ b. Each (IsRight src) b.items × ((line : ℕ) → test line b ≡ false)) IsGood src.blocks
    (each_both (λ b. Each (IsRight src) b.items) (λ b. (line : ℕ) → test line b ≡ false) src.blocks lines known) good)

-- ---- numbers of blocks

-- each of a list by its number
each_own : {X : Type 0} (all : List X) (n : ℕ) (xs : List X) → ((k : ℕ) → slice_get all (n + k) ≡ slice_get xs k) → Each (λ x. slice_get all x.0 ≡ Some x.1) (enumerate_from n xs)
each_own all n [] h = tt
each_own all n (x ∷ xs) h =
    let first : n ≡ n + 0 = omega arith in
    let next : (k : ℕ) → n + 1 + k ≡ n + suc k = λ k. omega arith in
    (ap (slice_get all) first ∙ h 0, each_own all (n + 1) xs (λ k. ap (slice_get all) (next k) ∙ h (suc k)))

-- a block with its number
pub record IsKeptAt (src : Source) (x : ℕ × Block) : Type 0 where
  pub kept : IsKeptBlock src x.1
  pub there : slice_get (ordered src) x.0 ≡ Some x.1

-- the blocks by their numbers
pub numbered_kept : (src : Source) → Each (IsKeptBlock src) src.blocks → Each (IsKeptAt src) (numbered src)
numbered_kept src h =
    let others = λ (b : Block). not (is_main b) in
    let all : Each (IsKeptBlock src) (ordered src) =
    each_append (IsKeptBlock src) (filter is_main src.blocks) (filter others src.blocks) (each_filter (IsKeptBlock src) is_main src.blocks h) (each_filter (IsKeptBlock src) others src.blocks h) in
    let same : (k : ℕ) → 0 + k ≡ k = λ k. omega arith in
    each_weaker (λ x. IsKeptBlock src x.1 × (slice_get (ordered src) x.0 ≡ Some x.1)) (IsKeptAt src) (numbered src) (λ x h. record { kept = h.0; there = h.1 })
    (each_both (λ x. IsKeptBlock src x.1) (λ x. slice_get (ordered src) x.0 ≡ Some x.1) (numbered src) (each_numbered (IsKeptBlock src) 0 (ordered src) all)
    (each_own (ordered src) 0 (ordered src) (λ k. ap (slice_get (ordered src)) (same k))))
