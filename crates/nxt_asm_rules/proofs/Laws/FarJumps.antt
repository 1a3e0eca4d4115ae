-- The least line with a far jump, with one more statement or block at the end.
use Rattle.std.proofs.Common.{◌≡◌, ℕ, ◌+◌, ◌<◌, Bool, true, false, ◌||◌, ◌&&◌, ◌==◌, List, [], ◌∷◌, ◌++◌, length, take, Option, Some, None, refl, sym, ap, ap₂, ◌∙◌, subst, arith, eq-eqb, ne_eqb}
use Rattle.std.specs.Prelude.{sum_by, slice_index, slice_index_or}
use Rattle.std.specs.List.{list_any}
use Rattle.std.proofs.lemmas.List.{take_more}
use Rattle.nxt_model.specs.declared.nbc.NbcBlock.{NbcBlock}
use Rattle.nxt_model.specs.declared.nbc.NbcStatement.{NbcStatement}
use Rattle.nxt_model.specs.Assembled.{starts_from, block_words, word_count}
use Rattle.nxt_asm_parts.specs.Starts.{blocks_starts}
use Rattle.nxt_asm_parts.proofs.Laws.Words.{past_one, past_none, start_at, block_at}
use Rattle.nxt_asm_rules.specs.AsmRules.{jumps_far, far_in_body, far_in_blocks}
use Rattle.nxt_nbc_lines.specs.Firsts.{IsLeast, lesser}
use Rattle.nxt_nbc_lines.proofs.Laws.FirstLines.{least_lesser, least_like}

-- ---- least lines

abbrev either : (ℕ → Bool) → (ℕ → Bool) → ℕ → Bool
either t u l = t l || u l

-- a line at which a test passes, or none where it doesn't
pub least_here : (line : ℕ) (b : Bool) → b ≡ true → IsLeast (λ l. (line == l) && b) (Some line)
least_here line b e =
    (ap (λ a. a && b) (eq-eqb line line refl) ∙ e, λ l lt. ap (λ a. a && b) (ne_eqb line l (λ same. let no : ⊥ = omega (arith, same, lt) in no)))

pub least_nowhere : (line : ℕ) (b : Bool) → b ≡ false → IsLeast (λ l. (line == l) && b) None
least_nowhere line b e = λ l. by (line == l) b e
  where
    by : (a b : Bool) → b ≡ false → (a && b) ≡ false
    by true b e = e
    by false b e = refl

-- ---- one more

or_assoc : (a b c : Bool) → (a || (b || c)) ≡ ((a || b) || c)
or_assoc true b c = refl
or_assoc false b c = refl

or_false : (a : Bool) → (a || false) ≡ a
or_false true = refl
or_false false = refl

-- a statement of the line jumps too far
abbrev pub far_one : ℕ → List ℕ → ℕ → NbcStatement → Bool
far_one line at here s = (s.line == line) && list_any (jumps_far at here) s.args

body_push : (line : ℕ) (at : List ℕ) (here : ℕ) (xs : List NbcStatement) (s : NbcStatement)
    → far_in_body line at here (xs ++ s ∷ []) ≡ (far_in_body line at here xs || far_one line at (here + sum_by word_count xs) s)
body_push line at here [] s = or_false (far_one line at here s) ∙ ap (λ h. far_one line at h s) (past_none here)
body_push line at here (x ∷ xs) s =
    ap (λ b. far_one line at here x || b) (body_push line at (here + word_count x) xs s)
    ∙ ap (λ h. far_one line at here x || (far_in_body line at (here + word_count x) xs || far_one line at h s)) (past_one word_count here x xs)
    ∙ or_assoc (far_one line at here x) (far_in_body line at (here + word_count x) xs) (far_one line at (here + sum_by word_count (x ∷ xs)) s)

blocks_push : (line here : ℕ) (xs : List NbcBlock) (b : NbcBlock)
    → far_in_blocks line here (xs ++ b ∷ [])
    ≡ (far_in_blocks line here xs || far_in_body line (starts_from (here + sum_by block_words xs) b.body) (here + sum_by block_words xs) b.body)
blocks_push line here [] b =
    or_false (far_in_body line (starts_from here b.body) here b.body)
    ∙ ap (λ h. far_in_body line (starts_from h b.body) h b.body) (past_none here)
blocks_push line here (x ∷ xs) b =
    let first = far_in_body line (starts_from here x.body) here x.body in
    let others = far_in_blocks line (here + block_words x) xs in
    let last : ℕ → Bool = λ h. far_in_body line (starts_from h b.body) h b.body in
    ap (λ c. first || c) (blocks_push line (here + block_words x) xs b)
    ∙ ap (λ h. first || (others || last h)) (past_one block_words here x xs)
    ∙ or_assoc first others (last (here + sum_by block_words (x ∷ xs)))

pub body_more : (at : List ℕ) (here : ℕ) (ss : List NbcStatement) (j : ℕ) (s : NbcStatement) (w : ℕ) (o p r : Option ℕ) → j < length ss
    → s ≡ slice_index_or ss j s → at ≡ starts_from here ss → w ≡ slice_index at j → r ≡ lesser o p
    → IsLeast (λ line. far_in_body line at here (take j ss)) o → IsLeast (λ line. far_one line at w s) p
    → IsLeast (λ line. far_in_body line at here (take (j + 1) ss)) r
body_more at here ss j s w o p r lt is all word e before own =
    let last : ℕ → NbcStatement → ℕ → Bool = λ h t line. far_one line at h t in
    let place : w ≡ here + sum_by word_count (take j ss) = word ∙ ap (λ l. slice_index l j) all ∙ start_at here ss j (omega (arith, lt)) in
    let others : ℕ → Bool = λ line. far_in_body line at here (take j ss) in
    subst (IsLeast (λ line. far_in_body line at here (take (j + 1) ss))) (sym e)
    (least_like (λ line. far_in_body line at here (take (j + 1) ss)) (either others (last w s))
    (λ line. ap (far_in_body line at here) (take_more ss j s lt) ∙ body_push line at here (take j ss) (slice_index_or ss j s)
    ∙ ap₂ (λ h t. others line || last h t line) (sym place) (sym is))
    (lesser o p)
    (least_lesser others (last w s) o p before own))

pub blocks_more : (bs : List NbcBlock) (i : ℕ) (b : NbcBlock) (at : List ℕ) (body : List NbcStatement) (o p r : Option ℕ) → i < length bs
    → b ≡ slice_index_or bs i b → body ≡ b.body → at ≡ slice_index_or (blocks_starts 0 bs) i [] → r ≡ lesser o p
    → IsLeast (λ line. far_in_blocks line 0 (take i bs)) o
    → ((here : ℕ) → at ≡ starts_from here body → IsLeast (λ line. far_in_body line at here body) p)
    → IsLeast (λ line. far_in_blocks line 0 (take (i + 1) bs)) r
blocks_more bs i b at body o p r lt is inner starts e before own =
    let here : ℕ = 0 + sum_by block_words (take i bs) in
    let same : body ≡ (slice_index_or bs i b).body = inner ∙ ap (λ c. c.body) is in
    let all : at ≡ starts_from here (slice_index_or bs i b).body = starts ∙ block_at 0 bs i b lt in
    let others : ℕ → Bool = λ line. far_in_blocks line 0 (take i bs) in
    let last : ℕ → Bool = λ line. far_in_body line at here body in
    subst (IsLeast (λ line. far_in_blocks line 0 (take (i + 1) bs))) (sym e)
    (least_like (λ line. far_in_blocks line 0 (take (i + 1) bs)) (either others last)
    (λ line. ap (far_in_blocks line 0) (take_more bs i b lt) ∙ blocks_push line 0 (take i bs) (slice_index_or bs i b)
    ∙ ap₂ (λ ws ss. others line || far_in_body line ws here ss) (sym all) (sym same))
    (lesser o p)
    (least_lesser others last o p before (own here (all ∙ ap (starts_from here) (sym same)))))
