-- The code of statements and blocks, with one more of them at the end.
use Rattle.std.proofs.Common.{◌≡◌, ℕ, zero, suc, ◌+◌, ◌*◌, ◌<◌, List, [], ◌∷◌, ◌++◌, map, length, take, slice_index_or, All, refl, sym, ap, subst, ◌∙◌, append_assoc, append-nil, arith}
use Rattle.std.specs.Prelude.{sum_by, slice_index}
use Rattle.std.proofs.lemmas.List.{take_more}
use Rattle.std.proofs.lemmas.List.Elements.{All-cons, All-head, All-nil, All-tail}
use Rattle.nxt_types.specs.Opcodes.{Arity, exactly, several, pairs, arity}
use Rattle.nxt_types.specs.Statements.{first_word, long_words}
use Rattle.nxt_types.specs.declared.instr.Op.{Op}
use Rattle.nxt_types.specs.declared.kind.Cmp.{Cmp}
use Rattle.nxt_types.specs.declared.kind.Cmp.TheVariants.{Lt}
use Rattle.nxt_model.specs.declared.nbc.NbcBlock.{NbcBlock}
use Rattle.nxt_model.specs.declared.nbc.NbcStatement.{NbcStatement}
use Rattle.nxt_model.specs.Assembled.{arg_word, block_words, body_words, code_from, code_op, starts_from, statement_words, word_count}
use Rattle.nxt_model.specs.TextProgram.{Text}
use Rattle.nxt_asm_parts.specs.Starts.{blocks_starts}
use Rattle.nxt_asm_parts.proofs.Laws.Words.{block_at, past_none, past_one}

-- ---- words that fit

abbrev AreNarrow : List ℕ → Type 0
AreNarrow ws = All (λ w. w < 65536) ws

narrow_front : (xs ys : List ℕ) → AreNarrow (xs ++ ys) → AreNarrow xs
narrow_front [] ys all = All-nil (λ w. w < 65536)
narrow_front (x ∷ xs) ys all =
    All-cons (λ w. w < 65536) x xs (All-head (λ w. w < 65536) x (xs ++ ys) all) (narrow_front xs ys (All-tail (λ w. w < 65536) x (xs ++ ys) all))

narrow_back : (xs ys : List ℕ) → AreNarrow (xs ++ ys) → AreNarrow ys
narrow_back [] ys all = all
narrow_back (x ∷ xs) ys all = narrow_back xs ys (All-tail (λ w. w < 65536) x (xs ++ ys) all)

narrow_words : (a : Arity) (op : Op) (cmp : Cmp) (xs : List ℕ) → AreNarrow (long_words a op cmp xs) → AreNarrow xs
narrow_words (exactly n) op cmp xs all = All-tail (λ w. w < 65536) (first_word (2 + 2 * n) op cmp) xs all
narrow_words several op cmp xs all =
    All-tail (λ w. w < 65536) (4 + 2 * length xs) xs (All-tail (λ w. w < 65536) (first_word 14 op Lt) ((4 + 2 * length xs) ∷ xs) all)
narrow_words pairs op cmp xs all =
    All-tail (λ w. w < 65536) (4 + 2 * length xs) xs (All-tail (λ w. w < 65536) (first_word 14 op Lt) ((4 + 2 * length xs) ∷ xs) all)

narrow_each : {X : Type 0} (f : X → ℕ) (xs : List X) → AreNarrow (map f xs) → All (λ x. f x < 65536) xs
narrow_each f [] all = All-nil (λ x. f x < 65536)
narrow_each f (x ∷ xs) all =
    All-cons (λ x. f x < 65536) x xs (All-head (λ w. w < 65536) (f x) (map f xs) all) (narrow_each f xs (All-tail (λ w. w < 65536) (f x) (map f xs) all))

-- the operands of a statement
pub narrow_args : (p : Text) (at : List ℕ) (here : ℕ) (s : NbcStatement) → AreNarrow (statement_words p at here s) → All (λ a. arg_word p at here a < 65536) s.args
narrow_args p at here s all =
    narrow_each (arg_word p at here) s.args (narrow_words (arity (code_op s.op s.args)) (code_op s.op s.args) s.cmp (map (arg_word p at here) s.args) all)

-- ---- statements

body_push : (p : Text) (at : List ℕ) (here : ℕ) (xs : List NbcStatement) (s : NbcStatement)
    → body_words p at here (xs ++ s ∷ []) ≡ body_words p at here xs ++ statement_words p at (here + sum_by word_count xs) s
body_push p at here [] s = append-nil (statement_words p at here s) ∙ ap (λ h. statement_words p at h s) (past_none here)
body_push p at here (x ∷ xs) s =
    ap (λ l. statement_words p at here x ++ l) (body_push p at (here + word_count x) xs s)
    ∙ ap (λ h. statement_words p at here x ++ (body_words p at (here + word_count x) xs ++ statement_words p at h s)) (past_one word_count here x xs)
    ∙ sym (append_assoc (statement_words p at here x) (body_words p at (here + word_count x) xs) (statement_words p at (here + sum_by word_count (x ∷ xs)) s))

-- code with one more statement
pub body_more : (p : Text) (at : List ℕ) (here : ℕ) (ss : List NbcStatement) (j : ℕ) (s : NbcStatement) (w : ℕ) (begun code next : List ℕ)
    → j < length ss → s ≡ slice_index_or ss j s → w ≡ here + sum_by word_count (take j ss) → code ≡ begun ++ body_words p at here (take j ss)
    → next ≡ code ++ statement_words p at w s → next ≡ begun ++ body_words p at here (take (j + 1) ss)
body_more p at here ss j s w begun code next lt is place known added =
    let more = take_more ss j s lt ∙ ap (λ x. take j ss ++ x ∷ []) (sym is) in
    let all = ap (body_words p at here) more ∙ body_push p at here (take j ss) s ∙ ap (λ h. body_words p at here (take j ss) ++ statement_words p at h s) (sym place) in
    added ∙ ap (λ l. l ++ statement_words p at w s) known
    ∙ append_assoc begun (body_words p at here (take j ss)) (statement_words p at w s)
    ∙ ap (λ l. begun ++ l) (sym all)

narrow_in : (p : Text) (at : List ℕ) (here : ℕ) (ss : List NbcStatement) (j : ℕ) (d : NbcStatement) → j < length ss → AreNarrow (body_words p at here ss)
    → AreNarrow (statement_words p at (here + sum_by word_count (take j ss)) (slice_index_or ss j d))
narrow_in p at here [] j d lt all = absurd (omega (arith, lt))
narrow_in p at here (s ∷ ss) zero d lt all =
    subst (λ h. AreNarrow (statement_words p at h s)) (past_none here) (narrow_front (statement_words p at here s) (body_words p at (here + word_count s) ss) all)
narrow_in p at here (s ∷ ss) (suc j) d lt all =
    subst (λ h. AreNarrow (statement_words p at h (slice_index_or ss j d))) (past_one word_count here s (take j ss))
    (narrow_in p at (here + word_count s) ss j d (omega (arith, lt)) (narrow_back (statement_words p at here s) (body_words p at (here + word_count s) ss) all))

pub narrow_statement : (p : Text) (at : List ℕ) (here : ℕ) (ss : List NbcStatement) (j : ℕ) (s : NbcStatement) (w : ℕ) → j < length ss → s ≡ slice_index_or ss j s
    → w ≡ here + sum_by word_count (take j ss) → AreNarrow (body_words p at here ss) → AreNarrow (statement_words p at w s)
narrow_statement p at here ss j s w lt is place all =
    subst (λ h. AreNarrow (statement_words p at h s)) (sym place)
    (subst (λ t. AreNarrow (statement_words p at (here + sum_by word_count (take j ss)) t)) (sym is) (narrow_in p at here ss j s lt all))

-- ---- blocks

abbrev block_code : Text → ℕ → NbcBlock → List ℕ
block_code p here b = body_words p (starts_from here b.body) here b.body

code_push : (p : Text) (here : ℕ) (xs : List NbcBlock) (b : NbcBlock) → code_from p here (xs ++ b ∷ []) ≡ code_from p here xs ++ block_code p (here + sum_by block_words xs) b
code_push p here [] b = append-nil (block_code p here b) ∙ ap (λ h. block_code p h b) (past_none here)
code_push p here (x ∷ xs) b =
    ap (λ l. block_code p here x ++ l) (code_push p (here + block_words x) xs b)
    ∙ ap (λ h. block_code p here x ++ (code_from p (here + block_words x) xs ++ block_code p h b)) (past_one block_words here x xs)
    ∙ sym (append_assoc (block_code p here x) (code_from p (here + block_words x) xs) (block_code p (here + sum_by block_words (x ∷ xs)) b))

-- code with one more block
pub code_more : (p : Text) (bs : List NbcBlock) (i : ℕ) (b : NbcBlock) (w : ℕ) (code next : List ℕ) → i < length bs → b ≡ slice_index_or bs i b
    → w ≡ 0 + sum_by block_words (take i bs) → code ≡ code_from p 0 (take i bs) → next ≡ code ++ block_code p w b → next ≡ code_from p 0 (take (i + 1) bs)
code_more p bs i b w code next lt is place known added =
    let more = take_more bs i b lt ∙ ap (λ x. take i bs ++ x ∷ []) (sym is) in
    let all = ap (code_from p 0) more ∙ code_push p 0 (take i bs) b ∙ ap (λ h. code_from p 0 (take i bs) ++ block_code p h b) (sym place) in
    added ∙ ap (λ l. l ++ block_code p w b) known ∙ sym all

narrow_block_in : (p : Text) (here : ℕ) (bs : List NbcBlock) (i : ℕ) (d : NbcBlock) → i < length bs → AreNarrow (code_from p here bs)
    → AreNarrow (block_code p (here + sum_by block_words (take i bs)) (slice_index_or bs i d))
narrow_block_in p here [] i d lt all = absurd (omega (arith, lt))
narrow_block_in p here (b ∷ bs) zero d lt all =
    subst (λ h. AreNarrow (block_code p h b)) (past_none here) (narrow_front (block_code p here b) (code_from p (here + block_words b) bs) all)
narrow_block_in p here (b ∷ bs) (suc i) d lt all =
    subst (λ h. AreNarrow (block_code p h (slice_index_or bs i d))) (past_one block_words here b (take i bs))
    (narrow_block_in p (here + block_words b) bs i d (omega (arith, lt)) (narrow_back (block_code p here b) (code_from p (here + block_words b) bs) all))

pub narrow_block : (p : Text) (bs : List NbcBlock) (i : ℕ) (b : NbcBlock) (w : ℕ) → i < length bs → b ≡ slice_index_or bs i b
    → w ≡ 0 + sum_by block_words (take i bs) → AreNarrow (code_from p 0 bs) → AreNarrow (block_code p w b)
narrow_block p bs i b w lt is place all =
    subst (λ h. AreNarrow (block_code p h b)) (sym place)
    (subst (λ t. AreNarrow (block_code p (0 + sum_by block_words (take i bs)) t)) (sym is) (narrow_block_in p 0 bs i b lt all))

-- ---- places

first_start : (here : ℕ) (ss : List NbcStatement) → slice_index (starts_from here ss) 0 ≡ here
first_start here [] = refl
first_start here (s ∷ ss) = refl

-- where a block's statements begin
pub block_place : (bs : List NbcBlock) (i : ℕ) (b : NbcBlock) (starts : List (List ℕ)) (at : List ℕ) (w : ℕ) → i < length bs → b ≡ slice_index_or bs i b
    → starts ≡ blocks_starts 0 bs → at ≡ slice_index_or starts i [] → w ≡ slice_index at 0 → (w ≡ 0 + sum_by block_words (take i bs)) × (at ≡ starts_from w b.body)
block_place bs i b starts at w lt is placed found first =
    let h = 0 + sum_by block_words (take i bs) in
    let all : at ≡ starts_from h b.body =
    found ∙ ap (λ l. slice_index_or l i []) placed ∙ block_at 0 bs i b lt ∙ ap (λ x. starts_from h x.body) (sym is) in
    let same : w ≡ h = first ∙ ap (λ l. slice_index l 0) all ∙ first_start h b.body in
    (same, all ∙ ap (λ k. starts_from k b.body) (sym same))

-- the code of a block whose statements are read from a slice
pub block_read : (p : Text) (b : NbcBlock) (at : List ℕ) (w : ℕ) (body : List NbcStatement) → at ≡ starts_from w b.body → body ≡ b.body → body_words p at w body ≡ block_code p w b
block_read p b at w body is read =
    ap (λ l. body_words p at w l) read ∙ ap (λ l. body_words p l w b.body) is
