-- Where statements begin, with one more statement or block at the end.
use Rattle.std.proofs.Common.{◌≡◌, ℕ, zero, suc, ◌+◌, ◌-◌, ◌<◌, ◌≤◌, List, [], ◌∷◌, ◌++◌, length, take, Option, Some, None, refl, sym, ap, ap₂, ◌∙◌, subst, arith}
use Rattle.std.specs.Prelude.{sum_by, slice_get, slice_index, slice_index_or, SomeIff}
use Rattle.std.proofs.lemmas.List.{take_all, take_more}
use Rattle.std.proofs.lemmas.List.Sums.{sum_by-cons, sum_by_more, sum_by-take-le}
use Rattle.nxt_types.specs.declared.lists.ClumpRec.{ClumpRec}
use Rattle.nxt_model.specs.declared.nbc.NbcBlock.{NbcBlock}
use Rattle.nxt_model.specs.declared.nbc.NbcStatement.{NbcStatement}
use Rattle.nxt_model.specs.Assembled.{starts_from, block_words, word_count, records_from}
use Rattle.nxt_asm_parts.specs.Starts.{blocks_starts}

-- ---- sums

-- from a word on, past one item and then the others
pub past_one : {X : Type 0} (f : X → ℕ) (here : ℕ) (x : X) (xs : List X) → here + f x + sum_by f xs ≡ here + sum_by f (x ∷ xs)
past_one f here x xs = by (f x) (sum_by f xs) (sum_by f (x ∷ xs)) (sum_by-cons f x xs)
  where
    by : (a b c : ℕ) → c ≡ a + b → here + a + b ≡ here + c
    by a b c e = omega (arith, e)

pub past_none : (here : ℕ) → here ≡ here + 0
past_none here = omega arith

pub from_zero : (n : ℕ) → n ≡ 0 + n
from_zero n = omega arith

-- ---- statements

-- one more statement begins where the others end
pub starts_push : (here : ℕ) (xs : List NbcStatement) (s : NbcStatement)
    → starts_from here (xs ++ s ∷ []) ≡ starts_from here xs ++ (here + sum_by word_count xs + word_count s) ∷ []
starts_push here [] s = ap (λ h. here ∷ (h + word_count s) ∷ []) (past_none here)
starts_push here (x ∷ xs) s =
    ap (λ l. here ∷ l) (starts_push (here + word_count x) xs s)
    ∙ ap (λ h. here ∷ starts_from (here + word_count x) xs ++ (h + word_count s) ∷ []) (past_one word_count here x xs)

-- the word behind one more statement
pub word_more : (here : ℕ) (ss : List NbcStatement) (i : ℕ) (s : NbcStatement) (w n : ℕ) → i < length ss → s ≡ slice_index_or ss i s
    → w ≡ here + sum_by word_count (take i ss) → n ≡ w + word_count s → n ≡ here + sum_by word_count (take (i + 1) ss)
word_more here ss i s w n lt is at next =
    by (sum_by word_count (take i ss)) (sum_by word_count (take (i + 1) ss)) (word_count s) at next
    (sum_by_more word_count ss i s lt ∙ ap (λ t. sum_by word_count (take i ss) + word_count t) (sym is))
  where
    by : (a b c : ℕ) → w ≡ here + a → n ≡ w + c → b ≡ a + c → n ≡ here + b
    by a b c e f g = omega (arith, e, f, g)

pub starts_more : (here : ℕ) (ss : List NbcStatement) (i : ℕ) (s : NbcStatement) (w n : ℕ) (ws ms : List ℕ) → i < length ss → s ≡ slice_index_or ss i s
    → w ≡ here + sum_by word_count (take i ss) → n ≡ w + word_count s → ws ++ w ∷ [] ≡ starts_from here (take i ss)
    → ms ≡ ws ++ w ∷ [] → ms ++ n ∷ [] ≡ starts_from here (take (i + 1) ss)
starts_more here ss i s w n ws ms lt is at next all more =
    ap₂ (λ l m. l ++ m ∷ []) (more ∙ all) (next ∙ ap₂ (λ h t. h + word_count t) at is)
    ∙ sym (starts_push here (take i ss) (slice_index_or ss i s))
    ∙ ap (starts_from here) (sym (take_more ss i s lt))

-- a sum that fits
pub fitting_sum : (o : Option ℕ) (P : Type 0) (n v : ℕ) → o ≡ Some n → SomeIff o P v → n ≡ v
fitting_sum o P n v is fits = (subst (λ p. SomeIff p P v) is fits).1

-- a statement begins past those before it
pub start_at : (here : ℕ) (ss : List NbcStatement) (j : ℕ) → j ≤ length ss → slice_index (starts_from here ss) j ≡ here + sum_by word_count (take j ss)
start_at here [] zero le = past_none here
start_at here [] (suc j) le = absurd (omega (arith, le))
start_at here (s ∷ ss) zero le = past_none here
start_at here (s ∷ ss) (suc j) le =
    start_at (here + word_count s) ss j (omega (arith, le)) ∙ past_one word_count here s (take j ss)

pub length-starts : (here : ℕ) (ss : List NbcStatement) → length (starts_from here ss) ≡ length ss + 1
length-starts here [] = refl
length-starts here (s ∷ ss) = let more = length-starts (here + word_count s) ss in omega (arith, more)

-- the last one is the word behind them all
pub end_at : (here : ℕ) (ss : List NbcStatement) → slice_index (starts_from here ss) (length (starts_from here ss) - 1) ≡ here + sum_by word_count ss
end_at here ss =
    let long = length-starts here ss in
    let last : length (starts_from here ss) - 1 ≡ length ss = omega (arith, long) in
    ap (slice_index (starts_from here ss)) last
    ∙ start_at here ss (length ss) (omega arith)
    ∙ ap (λ l. here + sum_by word_count l) (take_all (length ss) ss (omega arith))

-- ---- blocks

-- one more block begins where the others end
pub blocks_push : (here : ℕ) (xs : List NbcBlock) (b : NbcBlock)
    → blocks_starts here (xs ++ b ∷ []) ≡ blocks_starts here xs ++ starts_from (here + sum_by block_words xs) b.body ∷ []
blocks_push here [] b = ap (λ h. starts_from h b.body ∷ []) (past_none here)
blocks_push here (x ∷ xs) b =
    ap (λ l. starts_from here x.body ∷ l) (blocks_push (here + block_words x) xs b)
    ∙ ap (λ h. starts_from here x.body ∷ blocks_starts (here + block_words x) xs ++ starts_from h b.body ∷ []) (past_one block_words here x xs)

-- the word behind one more block
pub size_more : (bs : List NbcBlock) (i : ℕ) (b : NbcBlock) (h n : ℕ) → i < length bs → b ≡ slice_index_or bs i b
    → h ≡ sum_by block_words (take i bs) → n ≡ h + block_words b → n ≡ sum_by block_words (take (i + 1) bs)
size_more bs i b h n lt is at next =
    next ∙ ap₂ (λ m c. m + block_words c) at is ∙ sym (sum_by_more block_words bs i b lt)

pub blocks_more : (bs : List NbcBlock) (i : ℕ) (b : NbcBlock) (h : ℕ) (ws : List ℕ) (all more : List (List ℕ)) → i < length bs → b ≡ slice_index_or bs i b
    → h ≡ sum_by block_words (take i bs) → all ≡ blocks_starts 0 (take i bs) → ws ≡ starts_from h b.body
    → more ≡ all ++ ws ∷ [] → more ≡ blocks_starts 0 (take (i + 1) bs)
blocks_more bs i b h ws all more lt is at found own e =
    e
    ∙ ap₂ (λ l m. l ++ m ∷ []) found (own ∙ ap₂ (λ m c. starts_from m c.body) (at ∙ from_zero (sum_by block_words (take i bs))) is)
    ∙ sym (blocks_push 0 (take i bs) (slice_index_or bs i b))
    ∙ ap (blocks_starts 0) (sym (take_more bs i b lt))

-- a block begins past those before it
pub block_at : (here : ℕ) (bs : List NbcBlock) (i : ℕ) (d : NbcBlock) → i < length bs
    → slice_index_or (blocks_starts here bs) i [] ≡ starts_from (here + sum_by block_words (take i bs)) (slice_index_or bs i d).body
block_at here [] i d lt = absurd (omega (arith, lt))
block_at here (b ∷ bs) zero d lt = ap (λ h. starts_from h b.body) (past_none here)
block_at here (b ∷ bs) (suc i) d lt =
    block_at (here + block_words b) bs i d (omega (arith, lt))
    ∙ ap (λ h. starts_from h (slice_index_or bs i d).body) (past_one block_words here b (take i bs))

abbrev last_of : {X : Type 0} → List X → Option X
last_of xs = slice_get xs (length xs - 1)

last_cons : {X : Type 0} (x y : X) (zs : List X) → last_of (x ∷ y ∷ zs) ≡ last_of (y ∷ zs)
last_cons x y zs =
    let step : length (x ∷ y ∷ zs) - 1 ≡ suc (length (y ∷ zs) - 1) = omega arith in
    ap (slice_get (x ∷ y ∷ zs)) step

-- where the last block ends, the code does
pub code_end : (here : ℕ) (bs : List NbcBlock) (ws : List ℕ) (n : ℕ) → last_of (blocks_starts here bs) ≡ Some ws
    → ((h : ℕ) (ss : List NbcStatement) → ws ≡ starts_from h ss → n ≡ h + sum_by word_count ss) → n ≡ here + sum_by block_words bs
code_end here [] ws n e ends = absurd (let no : None ≡ Some ws = e in cc)
code_end here (b ∷ []) ws n e ends =
    let found : Some (starts_from here b.body) ≡ Some ws = e in
    let same : ws ≡ starts_from here b.body = cc in
    ends here b.body same ∙ past_none (here + block_words b) ∙ past_one block_words here b []
code_end here (b ∷ c ∷ bs) ws n e ends =
    code_end (here + block_words b) (c ∷ bs) ws n (sym (last_cons (starts_from here b.body) (starts_from (here + block_words b) c.body) (blocks_starts (here + block_words b + block_words c) bs)) ∙ e) ends
    ∙ past_one block_words here b (c ∷ bs)

-- with no block there is no code
some_code : (here : ℕ) (b : NbcBlock) (bs : List NbcBlock) → last_of (blocks_starts here (b ∷ bs)) ≡ None → ⊥
some_code here b [] e = let no : Some (starts_from here b.body) ≡ None = e in cc
some_code here b (c ∷ bs) e = some_code (here + block_words b) c bs (sym (last_cons (starts_from here b.body) (starts_from (here + block_words b) c.body) (blocks_starts (here + block_words b + block_words c) bs)) ∙ e)

pub no_code : (here : ℕ) (bs : List NbcBlock) → last_of (blocks_starts here bs) ≡ None → 0 ≡ sum_by block_words bs
no_code here [] e = refl
no_code here (b ∷ bs) e = absurd (some_code here b bs e)

-- ---- records

-- a block's first statement begins past the blocks before it
pub first_at : (bs : List NbcBlock) (i : ℕ) (d : NbcBlock) → i < length bs
    → slice_index (slice_index_or (blocks_starts 0 bs) i []) 0 ≡ sum_by block_words (take i bs)
first_at bs i d lt =
    ap (λ ws. slice_index ws 0) (block_at 0 bs i d lt)
    ∙ start_at (0 + sum_by block_words (take i bs)) (slice_index_or bs i d).body 0 (omega arith)
    ∙ sym (from_zero (sum_by block_words (take i bs)) ∙ past_none (0 + sum_by block_words (take i bs)))

-- no block begins past the code
pub first_below : (bs : List NbcBlock) (i most w : ℕ) (d : NbcBlock) → i < length bs → sum_by block_words bs ≤ most
    → w ≡ slice_index (slice_index_or (blocks_starts 0 bs) i []) 0 → w ≤ most
first_below bs i most w d lt le is =
    by (sum_by block_words (take i bs)) (sum_by block_words bs) (is ∙ first_at bs i d lt) (sum_by-take-le block_words bs i) le
  where
    by : (a b : ℕ) → w ≡ a → a ≤ b → b ≤ most → w ≤ most
    by a b e f g = omega (arith, e, f, g)

-- the record of a block that begins at a word
abbrev pub record_at : ℕ → NbcBlock → ClumpRec
record_at here b = record { fire = b.fire; dependents = length b.dependents; start = here }

records_push : (here : ℕ) (xs : List NbcBlock) (b : NbcBlock)
    → records_from here (xs ++ b ∷ []) ≡ records_from here xs ++ record_at (here + sum_by block_words xs) b ∷ []
records_push here [] b = ap (λ h. record_at h b ∷ []) (past_none here)
records_push here (x ∷ xs) b =
    ap (λ l. record_at here x ∷ l) (records_push (here + block_words x) xs b)
    ∙ ap (λ h. record_at here x ∷ records_from (here + block_words x) xs ++ record_at h b ∷ []) (past_one block_words here x xs)

-- one more record
pub records_more : (bs : List NbcBlock) (i : ℕ) (b : NbcBlock) (w : ℕ) (r : ClumpRec) (rs more : List ClumpRec) → i < length bs
    → b ≡ slice_index_or bs i b → w ≡ slice_index (slice_index_or (blocks_starts 0 bs) i []) 0 → r ≡ record_at w b
    → rs ≡ records_from 0 (take i bs) → more ≡ rs ++ r ∷ [] → more ≡ records_from 0 (take (i + 1) bs)
records_more bs i b w r rs more lt is at own found e =
    e
    ∙ ap₂ (λ l m. l ++ m ∷ []) found (own ∙ ap₂ record_at (at ∙ first_at bs i b lt ∙ from_zero (sum_by block_words (take i bs))) is)
    ∙ sym (records_push 0 (take i bs) (slice_index_or bs i b))
    ∙ ap (records_from 0) (sym (take_more bs i b lt))
