-- Records that end in bytes: in a front of them, and on from bytes that are whole lines.
use Rattle.std.proofs.Common.{◌≡◌, ℕ, zero, suc, ◌+◌, ◌-◌, ◌<◌, ◌≤◌, ◌⊎◌, Bool, cond, true, false, List, [], ◌∷◌, ◌++◌, length, take, drop, refl, sym, ap, ◌∙◌, subst, arith, append_assoc, inl, inr}
use Rattle.std.proofs.lemmas.Bool.{cases_lt}
use Rattle.std.proofs.lemmas.List.{length-append, take_all, take-append-le}
use Rattle.std.proofs.Math.Seq.{take-append-add}
use Rattle.std.specs.Prelude.{slice_index, is_some}
use Rattle.std.specs.List.{slice_split, position_or_len}
use Rattle.nxt_script.specs.Rows.{ends_line, record_of, without_last}
use Rattle.nxt_script.specs.Ahead.{first_record, record_end, count_records, records_in, most_ahead}
use Rattle.nxt_script.specs.Inside.{IsLine, IsFirstLine}
use Rattle.nxt_script.proofs.RowsLaw.{IsFirstLine-position, IsLine-take, IsFull, some_part, first_line, whole_line, split_at, take_line, without_last-cons}

-- 1 for a line that holds a record, else 0
abbrev held : List ℕ → ℕ
held line = cond (is_some (record_of line)) 1 0

-- bytes without an end of a line, or a line, the byte that ends it, and what follows
data Cut (xs : List ℕ) : Type 0 where
  One : IsLine xs → Cut xs
  More : (line : List ℕ) (end : ℕ) (rest : List ℕ) → IsLine line → ends_line end ≡ true → xs ≡ line ++ (end ∷ rest) → Cut xs

cut_at : (xs : List ℕ) (k : ℕ) → IsFirstLine xs k → (k < length xs) ⊎ (length xs ≤ k) → Cut xs
cut_at xs k first (inl lt) = More (take k xs) (slice_index xs k) (drop (k + 1) xs) first.line (first.end lt) (split_at xs k lt)
cut_at xs k first (inr le) = One (subst IsLine (take_all k xs le) first.line)

cut : (xs : List ℕ) → Cut xs
cut xs = cut_at xs (position_or_len ends_line xs) (IsFirstLine-position xs) (cases_lt (position_or_len ends_line xs) (length xs))

-- ---- one line

records_in-line : (xs : List ℕ) → IsLine xs → records_in xs ≡ 0
records_in-line xs none = ap (λ l. count_records (without_last l)) (whole_line xs none)

record_end-line : (xs : List ℕ) → IsLine xs → length xs + 1 ≤ record_end xs
record_end-line xs none = let is = ap first_record (whole_line xs none) in omega (arith, is)

module _ (line rest : List ℕ) (end : ℕ) (none : IsLine line) (ends : ends_line end ≡ true) where
  lines_of_more : slice_split ends_line (line ++ (end ∷ rest)) ≡ line ∷ slice_split ends_line rest
  lines_of_more = first_line line end rest none ends

  whole_of_more : without_last (slice_split ends_line (line ++ (end ∷ rest))) ≡ line ∷ without_last (slice_split ends_line rest)
  whole_of_more = ap without_last lines_of_more ∙ without_last-cons line (slice_split ends_line rest) (some_part rest)

  records_in-more : records_in (line ++ (end ∷ rest)) ≡ held line + records_in rest
  records_in-more = ap count_records whole_of_more

  record_end-more : record_end (line ++ (end ∷ rest)) ≡ length line + 1 + cond (is_some (record_of line)) 0 (record_end rest)
  record_end-more = ap first_record lines_of_more

-- ---- fronts

-- a front of a line, or a line with the byte that ends it and a front of the rest
data Front (line : List ℕ) (end : ℕ) (rest : List ℕ) (j : ℕ) : Type 0 where
  Within : IsLine (take j (line ++ (end ∷ rest))) → Front line end rest j
  Past : length line + 1 ≤ j → take j (line ++ (end ∷ rest)) ≡ line ++ (end ∷ take (j - (length line + 1)) rest) → Front line end rest j

front_at : (line : List ℕ) (end : ℕ) (rest : List ℕ) (j : ℕ) → IsLine line → (length line < j) ⊎ (j ≤ length line) → Front line end rest j
front_at line end rest j none (inl lt) = Past (omega (arith, lt)) (take_line j line end rest (omega (arith, lt)))
front_at line end rest j none (inr le) = Within (subst IsLine (sym (take-append-le j line (end ∷ rest) le)) (IsLine-take j line none))

front : (line : List ℕ) (end : ℕ) (rest : List ℕ) (j : ℕ) → IsLine line → Front line end rest j
front line end rest j none = front_at line end rest j none (cases_lt (length line) j)

shorter : (xs line : List ℕ) (end : ℕ) (rest : List ℕ) → xs ≡ line ++ (end ∷ rest) → length rest < length xs
shorter xs line end rest is = omega (arith, ap length is, length-append line (end ∷ rest))

-- ---- no record ends before the end of the first one

NoneBefore : List ℕ → Type 0
NoneBefore xs = (j : ℕ) → j < record_end xs → records_in (take j xs) ≡ 0

none_rest : (j : ℕ) (line rest : List ℕ) → NoneBefore rest → length line + 1 ≤ j → (b : Bool) → j < length line + 1 + cond b 0 (record_end rest) → cond b 1 0 + records_in (take (j - (length line + 1)) rest) ≡ 0
unfolding NoneBefore
none_rest j line rest below past true lt = absurd (omega (arith, past, lt))
none_rest j line rest below past false lt = let zero_more = below (j - (length line + 1)) (omega (arith, past, lt)) in omega (arith, zero_more)

none_front : (line : List ℕ) (end : ℕ) (rest : List ℕ) → ends_line end ≡ true → IsLine line → NoneBefore rest → (j : ℕ) → j < record_end (line ++ (end ∷ rest)) → Front line end rest j → records_in (take j (line ++ (end ∷ rest))) ≡ 0
none_front line end rest ends none below j lt (Within within) = records_in-line (take j (line ++ (end ∷ rest))) within
none_front line end rest ends none below j lt (Past past at) =
    ap records_in at ∙ (records_in-more line (take (j - (length line + 1)) rest) end none ends
    ∙ none_rest j line rest below past (is_some (record_of line)) (omega (arith, lt, record_end-more line rest end none ends)))

none_cut : (xs : List ℕ) → ((rest : List ℕ) → length rest < length xs → NoneBefore rest) → Cut xs → NoneBefore xs
unfolding NoneBefore
none_cut xs below (One none) = λ j lt. records_in-line (take j xs) (IsLine-take j xs none)
none_cut xs below (More line end rest none ends is) = λ j lt.
    ap (λ l. records_in (take j l)) is
    ∙ none_front line end rest ends none (below rest (shorter xs line end rest is)) j (subst (λ (l : List ℕ). j < record_end l) is lt) (front line end rest j none)

none_before : (n : ℕ) (xs : List ℕ) → length xs ≤ n → NoneBefore xs
none_before zero xs le = none_cut xs (λ rest short. absurd (omega (arith, short, le))) (cut xs)
none_before (suc n) xs le = none_cut xs (λ rest short. none_before n rest (omega (arith, short, le))) (cut xs)

-- ---- a front has no more records

FewerIn : List ℕ → Type 0
FewerIn xs = (j : ℕ) → records_in (take j xs) ≤ records_in xs

fewer_front : (line : List ℕ) (end : ℕ) (rest : List ℕ) → ends_line end ≡ true → IsLine line → FewerIn rest → (j : ℕ) → Front line end rest j → records_in (take j (line ++ (end ∷ rest))) ≤ records_in (line ++ (end ∷ rest))
unfolding FewerIn
fewer_front line end rest ends none below j (Within within) = omega (arith, records_in-line (take j (line ++ (end ∷ rest))) within)
fewer_front line end rest ends none below j (Past past at) =
    let i = j - (length line + 1) in
    omega (arith, below i, ap records_in at, records_in-more line (take i rest) end none ends, records_in-more line rest end none ends)

fewer_cut : (xs : List ℕ) → ((rest : List ℕ) → length rest < length xs → FewerIn rest) → Cut xs → FewerIn xs
unfolding FewerIn
fewer_cut xs below (One none) = λ j. omega (arith, records_in-line (take j xs) (IsLine-take j xs none))
fewer_cut xs below (More line end rest none ends is) = λ j.
    subst (λ (l : List ℕ). records_in (take j l) ≤ records_in l) (sym is) (fewer_front line end rest ends none (below rest (shorter xs line end rest is)) j (front line end rest j none))

fewer_in : (n : ℕ) (xs : List ℕ) → length xs ≤ n → FewerIn xs
fewer_in zero xs le = fewer_cut xs (λ rest short. absurd (omega (arith, short, le))) (cut xs)
fewer_in (suc n) xs le = fewer_cut xs (λ rest short. fewer_in n rest (omega (arith, short, le))) (cut xs)

-- ---- whole lines

-- a byte ends the last line, so that what follows begins another one
abbrev pub AreWhole : List ℕ → Type 0
AreWhole p = (x : List ℕ) → slice_split ends_line (p ++ x) ≡ without_last (slice_split ends_line p) ++ slice_split ends_line x

pub AreWhole-none : AreWhole []
AreWhole-none x = refl

without_last-append : (ps xs : List (List ℕ)) → IsFull xs → without_last (ps ++ xs) ≡ ps ++ without_last xs
without_last-append [] xs full = refl
without_last-append (p ∷ []) xs full = without_last-cons p xs full
without_last-append (p ∷ (q ∷ ps)) xs full = ap (λ l. p ∷ l) (without_last-append (q ∷ ps) xs full)

count_records-append : (ps xs : List (List ℕ)) → count_records (ps ++ xs) ≡ count_records ps + count_records xs
count_records-append [] xs = omega arith
count_records-append (p ∷ ps) xs = omega (arith, count_records-append ps xs)

module _ (p q : List ℕ) (whole : AreWhole p) where
  whole_lines-both : without_last (slice_split ends_line (p ++ q)) ≡ without_last (slice_split ends_line p) ++ without_last (slice_split ends_line q)
  whole_lines-both = ap without_last (whole q) ∙ without_last-append (without_last (slice_split ends_line p)) (slice_split ends_line q) (some_part q)

  records_in-both : records_in (p ++ q) ≡ records_in p + records_in q
  records_in-both = ap count_records whole_lines-both ∙ count_records-append (without_last (slice_split ends_line p)) (without_last (slice_split ends_line q))

  AreWhole-both : AreWhole q → AreWhole (p ++ q)
  AreWhole-both next = λ x.
      ap (slice_split ends_line) (append_assoc p q x)
      ∙ (whole (q ++ x)
      ∙ (ap (λ l. without_last (slice_split ends_line p) ++ l) (next x)
      ∙ (sym (append_assoc (without_last (slice_split ends_line p)) (without_last (slice_split ends_line q)) (slice_split ends_line x))
      ∙ ap (λ l. l ++ slice_split ends_line x) (sym whole_lines-both))))

AreWhole-line : (line : List ℕ) (end : ℕ) → IsLine line → ends_line end ≡ true → AreWhole (line ++ (end ∷ []))
AreWhole-line line end none ends = λ x.
    ap (slice_split ends_line) (append_assoc line (end ∷ []) x)
    ∙ (lines_of_more line x end none ends ∙ ap (λ l. l ++ slice_split ends_line x) (sym (whole_of_more line [] end none ends)))

-- ---- up to the first record

-- the bytes up to the end of the first record are whole lines, of which the last one holds a record
record OneRecord (xs : List ℕ) : Type 0 where
  whole : AreWhole (take (record_end xs) xs)
  one : records_in (take (record_end xs) xs) ≡ 1

HasOne : List ℕ → Type 0
HasOne xs = record_end xs ≤ length xs → OneRecord xs

module _ (line : List ℕ) (end : ℕ) (rest : List ℕ) (ends : ends_line end ≡ true) (none : IsLine line) where
  upto : (e : ℕ) → take (length line + 1 + e) (line ++ (end ∷ rest)) ≡ line ++ (end ∷ take e rest)
  upto e =
      let n : length line + 1 + e - (length line + 1) ≡ e = omega arith in
      take_line (length line + 1 + e) line end rest (omega arith) ∙ ap (λ k. line ++ (end ∷ take k rest)) n

  ends_at : (e : ℕ) → record_end (line ++ (end ∷ rest)) ≡ length line + 1 + e → AreWhole (line ++ (end ∷ take e rest)) → records_in (line ++ (end ∷ take e rest)) ≡ 1 → OneRecord (line ++ (end ∷ rest))
  ends_at e is whole one =
      let at : take (record_end (line ++ (end ∷ rest))) (line ++ (end ∷ rest)) ≡ line ++ (end ∷ take e rest) = ap (λ k. take k (line ++ (end ∷ rest))) is ∙ upto e in
      record { whole = subst AreWhole (sym at) whole; one = ap records_in at ∙ one }

  one_line : HasOne rest → record_end (line ++ (end ∷ rest)) ≤ length (line ++ (end ∷ rest)) → (b : Bool) → is_some (record_of line) ≡ b → OneRecord (line ++ (end ∷ rest))
  unfolding HasOne
  one_line below le true holds =
      let at : record_end (line ++ (end ∷ rest)) ≡ length line + 1 + 0 = record_end-more line rest end none ends ∙ ap (λ b. length line + 1 + cond b 0 (record_end rest)) holds in
      let count : records_in (line ++ (end ∷ [])) ≡ 1 = records_in-more line [] end none ends ∙ ap (λ b. cond b 1 0 + 0) holds in
      ends_at 0 at (AreWhole-line line end none ends) count
  one_line below le false holds =
      let at : record_end (line ++ (end ∷ rest)) ≡ length line + 1 + record_end rest = record_end-more line rest end none ends ∙ ap (λ b. length line + 1 + cond b 0 (record_end rest)) holds in
      let next = below (omega (arith, le, at, length-append line (end ∷ rest))) in
      let regroup : (line ++ (end ∷ [])) ++ take (record_end rest) rest ≡ line ++ (end ∷ take (record_end rest) rest) = append_assoc line (end ∷ []) (take (record_end rest) rest) in
      let count : records_in (line ++ (end ∷ take (record_end rest) rest)) ≡ 1 = records_in-more line (take (record_end rest) rest) end none ends ∙ (ap (λ b. cond b 1 0 + records_in (take (record_end rest) rest)) holds ∙ (let n : 0 + records_in (take (record_end rest) rest) ≡ 1 = omega (arith, next.one) in n)) in
      ends_at (record_end rest) at (subst AreWhole regroup (AreWhole-both (line ++ (end ∷ [])) (take (record_end rest) rest) (AreWhole-line line end none ends) next.whole)) count

one_cut : (xs : List ℕ) → ((rest : List ℕ) → length rest < length xs → HasOne rest) → Cut xs → HasOne xs
unfolding HasOne
one_cut xs below (One none) = λ le. absurd (omega (arith, le, record_end-line xs none))
one_cut xs below (More line end rest none ends is) = λ le.
    subst OneRecord (sym is) (one_line line end rest ends none (below rest (shorter xs line end rest is)) (subst (λ (l : List ℕ). record_end l ≤ length l) is le) (is_some (record_of line)) refl)

one_record : (n : ℕ) (xs : List ℕ) → length xs ≤ n → HasOne xs
one_record zero xs le = one_cut xs (λ rest short. absurd (omega (arith, short, le))) (cut xs)
one_record (suc n) xs le = one_cut xs (λ rest short. one_record n rest (omega (arith, short, le))) (cut xs)

-- ---- whole lines, and bytes behind them

module _ (passed x : List ℕ) (whole : AreWhole passed) where
  -- a row more
  pub row_passed : record_end x ≤ length x → AreWhole (passed ++ take (record_end x) x) × (records_in (passed ++ take (record_end x) x) ≡ records_in passed + 1)
  unfolding HasOne
  row_passed le =
      let one = one_record (length x) x (omega arith) le in
      (AreWhole-both passed (take (record_end x) x) whole one.whole, records_in-both passed (take (record_end x) x) whole ∙ ap (λ n. records_in passed + n) one.one)

  far_at : (m : ℕ) → m < length passed + record_end x → (length passed < m) ⊎ (m ≤ length passed) → records_in (take m (passed ++ x)) ≤ records_in passed
  unfolding FewerIn NoneBefore
  far_at m lt (inl past) =
      let i = m - length passed in
      let n : m ≡ length passed + i = omega (arith, past) in
      let at : take m (passed ++ x) ≡ passed ++ take i x = ap (λ k. take k (passed ++ x)) n ∙ take-append-add passed x i in
      omega (arith, ap records_in at, records_in-both passed (take i x) whole, none_before (length x) x (omega arith) i (omega (arith, lt, past)))
  far_at m lt (inr le) = omega (arith, ap records_in (take-append-le m passed x le), fewer_in (length passed) passed (omega arith) m)

  -- no more records end well before the last byte
  pub far_records : length x ≤ record_end x + most_ahead → records_in (take (length (passed ++ x) - (most_ahead + 1)) (passed ++ x)) ≤ records_in passed
  far_records near =
      let f = some_part x in
      let m = length (passed ++ x) - (most_ahead + 1) in
      far_at m (omega (arith, near, length-append passed x, ap first_record f.is)) (cases_lt (length passed) m)
