-- The rows of a script line by line: what a line at the front adds to the rows of what follows it.
use Rattle.std.proofs.Common.{◌≡◌, ℕ, zero, suc, ◌+◌, ◌-◌, ◌<◌, ◌≤◌, Bool, true, false, cond, List, [], ◌∷◌, ◌++◌, length, take, drop, get_or, refl, sym, ap, ◌∙◌, subst, arith, Option, Some, None, lt-ltb, le-ltb, inl, inr}
use Rattle.std.proofs.lemmas.Bool.{cases_lt}
use Rattle.std.proofs.lemmas.List.{length-append, length-take, take-take, take_all, drop_all, take-append-drop, drop_more}
use Rattle.std.specs.Prelude.{nat_lt, not}
use Rattle.std.proofs.lemmas.List.Sums.{prefix_len-le-length, prefix_len_stops}
use Rattle.std.specs.List.{slice_split, onto_first, position_or_len}
use Rattle.nxt_model.specs.declared.event.ScriptRow.{ScriptRow}
use Rattle.csv.specs.Machine.{next_record}
use Rattle.csv.specs.Reading.{strip_bom}
use Rattle.nxt_model.specs.Report.{Whole, Bad, TooLarge}
use Rattle.nxt_script.specs.RowForms.{row_of}
use Rattle.nxt_script.specs.Rows.{Counts, Listing, counted, passes_limit, no_rows, with_row, listed, listed_line, list_lines, record_of, ends_line, without_last, is_longer, lines_of, rows_from, most_bytes}
use Rattle.nxt_script.specs.Inside.{IsLine, IsFirstLine, taken_by}

-- other bytes, with the other counts kept
abbrev pub at_bytes : ℕ → Counts → Counts
at_bytes n c = record c { bytes = n }

-- the number of bytes makes no difference to what follows
abbrev pub IsBlind : ℕ → (Counts → Listing) → Type 0
IsBlind n more = (c : Counts) → more (at_bytes n c) ≡ more c

same_listed : (n : ℕ) (more : Counts → Listing) → IsBlind n more → (c : Counts) (o : Option ScriptRow) → listed (at_bytes n c) o more ≡ listed c o more
same_listed n more blind c None = refl
same_listed n more blind c (Some r) = ap (λ l. cond (passes_limit (counted r c)) (no_rows (Bad (c.records + 1)) true) (with_row r l)) (blind (counted r c))

same_line : (n : ℕ) (more : Counts → Listing) → IsBlind n more → (c : Counts) (o : Option (List (List ℕ))) → listed_line (at_bytes n c) o more ≡ listed_line c o more
same_line n more blind c None = blind c
same_line n more blind c (Some fields) = same_listed n more blind c (row_of fields)

pub same_rows : (n : ℕ) (longer : Bool) (lines : List (List ℕ)) → IsBlind n (list_lines longer lines)
same_rows n longer [] c = refl
same_rows n longer (l ∷ ls) c = same_line n (list_lines longer ls) (same_rows n longer ls) c (record_of l)

-- ---- the lines

pub first_line : (line : List ℕ) (end : ℕ) (rest : List ℕ) → IsLine line → ends_line end ≡ true → slice_split ends_line (line ++ (end ∷ rest)) ≡ line ∷ slice_split ends_line rest
first_line [] end rest none e = rw e refl
first_line (b ∷ bs) end rest none e = rw none.0 (ap (λ l. onto_first b l) (first_line bs end rest none.1 e))

-- some part is always there
pub record IsFull (l : List (List ℕ)) : Type 0 where
  pub part : List ℕ
  pub parts : List (List ℕ)
  pub is : l ≡ part ∷ parts

full_onto : (b : ℕ) (l : List (List ℕ)) → IsFull l → IsFull (onto_first b l)
full_onto b l f = record { part = b ∷ f.part; parts = f.parts; is = ap (λ k. onto_first b k) f.is }

full_next : (b : Bool) (x : ℕ) (l : List (List ℕ)) → IsFull l → IsFull (cond b ([] ∷ l) (onto_first x l))
full_next true x l f = record { part = []; parts = l; is = refl }
full_next false x l f = full_onto x l f

pub some_part : (xs : List ℕ) → IsFull (slice_split ends_line xs)
some_part [] = record { part = []; parts = []; is = refl }
some_part (x ∷ xs) = full_next (ends_line x) x (slice_split ends_line xs) (some_part xs)

pub without_last-cons : (line : List ℕ) (l : List (List ℕ)) → IsFull l → without_last (line ∷ l) ≡ line ∷ without_last l
without_last-cons line l f = ap (λ k. without_last (line ∷ k)) f.is ∙ sym (ap (λ k. line ∷ without_last k) f.is)

pub take_line : (n : ℕ) (line : List ℕ) (end : ℕ) (rest : List ℕ) → length line + 1 ≤ n → take n (line ++ (end ∷ rest)) ≡ line ++ (end ∷ take (n - (length line + 1)) rest)
take_line zero line end rest le = absurd (omega (arith, le))
take_line (suc n) [] end rest le =
    let same : suc n - (length {A = ℕ} [] + 1) ≡ n = omega arith in
    ap (λ k. end ∷ take k rest) (sym same)
take_line (suc n) (b ∷ bs) end rest le =
    let same : n - (length bs + 1) ≡ suc n - (length (b ∷ bs) + 1) = omega arith in
    ap (λ l. b ∷ l) (take_line n bs end rest (omega (arith, le)) ∙ ap (λ k. bs ++ (end ∷ take k rest)) same)

-- ---- the law

-- the counts behind a line
abbrev pub behind : List ℕ → Counts → Counts
behind line c = at_bytes (c.bytes + length line + 1) c

same_length : (line : List ℕ) (end : ℕ) (rest : List ℕ) (c : Counts) → is_longer c (line ++ (end ∷ rest)) ≡ is_longer (behind line c) rest
same_length line end rest c =
    let len : c.bytes + length (line ++ (end ∷ rest)) ≡ c.bytes + length line + 1 + length rest = omega (arith, length-append line (end ∷ rest)) in
    ap (λ k. nat_lt most_bytes k) len

lines_front : (line : List ℕ) (end : ℕ) (rest : List ℕ) (c : Counts) → IsLine line → ends_line end ≡ true → c.bytes + length line + 1 ≤ most_bytes
    → lines_of c (line ++ (end ∷ rest)) ≡ line ∷ lines_of (behind line c) rest
lines_front line end rest c none e le = rw (same_length line end rest c) (by_longer (is_longer (behind line c) rest)) where
  by_longer : (b : Bool) → cond b (without_last (slice_split ends_line (take (most_bytes - c.bytes) (line ++ (end ∷ rest))))) (slice_split ends_line (line ++ (end ∷ rest)))
      ≡ line ∷ cond b (without_last (slice_split ends_line (take (most_bytes - (c.bytes + length line + 1)) rest))) (slice_split ends_line rest)
  by_longer true =
      let same : most_bytes - c.bytes - (length line + 1) ≡ most_bytes - (c.bytes + length line + 1) = omega arith in
      let cut = take_line (most_bytes - c.bytes) line end rest (omega (arith, le)) ∙ ap (λ k. line ++ (end ∷ take k rest)) same in
      let after = take (most_bytes - (c.bytes + length line + 1)) rest in
      ap (λ l. without_last (slice_split ends_line l)) cut
      ∙ ap without_last (first_line line end after none e)
      ∙ without_last-cons line (slice_split ends_line after) (some_part after)
  by_longer false = first_line line end rest none e

module _ (line rest : List ℕ) (c : Counts) where
  after_line : Counts → Listing
  after_line d = list_lines (is_longer (behind line c) rest) (lines_of (behind line c) rest) d

  by_row : (o : Option ScriptRow) → listed c o after_line ≡ listed (behind line c) o (λ d. rows_from d rest)
  unfolding after_line same_rows
  by_row None = refl
  by_row (Some r) =
      ap (λ l. cond (passes_limit (counted r c)) (no_rows (Bad (c.records + 1)) true) (with_row r l))
      (sym (same_rows (c.bytes + length line + 1) (is_longer (behind line c) rest) (lines_of (behind line c) rest) (counted r c)))

  by_record : (o : Option (List (List ℕ))) → listed_line c o after_line ≡ listed_line (behind line c) o (λ d. rows_from d rest)
  unfolding after_line
  by_record None = sym (same_rows (c.bytes + length line + 1) (is_longer (behind line c) rest) (lines_of (behind line c) rest) c)
  by_record (Some fields) = by_row (row_of fields)

-- a line at the front adds its row, and what follows it is listed with the counts behind it
pub rows_from-line : (line : List ℕ) (end : ℕ) (rest : List ℕ) (c : Counts) → IsLine line → ends_line end ≡ true → c.bytes + length line + 1 ≤ most_bytes
    → rows_from c (line ++ (end ∷ rest)) ≡ listed_line (behind line c) (record_of line) (λ d. rows_from d rest)
unfolding after_line
rows_from-line line end rest c none e le =
    ap (λ b. list_lines b (lines_of c (line ++ (end ∷ rest))) c) (same_length line end rest c)
    ∙ ap (λ ls. list_lines (is_longer (behind line c) rest) ls c) (lines_front line end rest c none e le)
    ∙ by_record line rest c (record_of line)

-- ---- the end

-- behind the last byte
pub rows_from-nil : (c : Counts) → c.bytes ≤ most_bytes → rows_from c [] ≡ no_rows (Whole c.records) false
unfolding next_record strip_bom
rows_from-nil c le =
    let short : is_longer c [] ≡ false = le-ltb most_bytes (c.bytes + length {A = ℕ} []) (omega (arith, le)) in
    rw short refl

pub whole_line : (line : List ℕ) → IsLine line → slice_split ends_line line ≡ line ∷ []
whole_line [] none = refl
whole_line (b ∷ bs) none = rw none.0 (ap (λ l. onto_first b l) (whole_line bs none.1))

module _ (c : Counts) (n : ℕ) (le : n ≤ most_bytes) where
  row_then_end : (o : Option ScriptRow) → listed c o (list_lines false []) ≡ listed (at_bytes n c) o (λ d. rows_from d [])
  row_then_end None = refl
  row_then_end (Some r) =
      ap (λ l. cond (passes_limit (counted r c)) (no_rows (Bad (c.records + 1)) true) (with_row r l)) (sym (rows_from-nil (at_bytes n (counted r c)) le))

  record_then_end : (o : Option (List (List ℕ))) → listed_line c o (list_lines false []) ≡ listed_line (at_bytes n c) o (λ d. rows_from d [])
  record_then_end None = sym (rows_from-nil (at_bytes n c) le)
  record_then_end (Some fields) = row_then_end (row_of fields)

-- a last line that no byte ends
pub rows_from-last : (line : List ℕ) (c : Counts) → IsLine line → c.bytes + length line ≤ most_bytes
    → rows_from c line ≡ listed_line (at_bytes (c.bytes + length line) c) (record_of line) (λ d. rows_from d [])
rows_from-last line c none le =
    let short : is_longer c line ≡ false = le-ltb most_bytes (c.bytes + length line) le in
    rw (short, whole_line line none) (record_then_end c (c.bytes + length line) le (record_of line))

-- no line ends within the limit
pub rows_from-beyond : (bytes : List ℕ) (c : Counts) → most_bytes < c.bytes + length bytes → IsLine (take (most_bytes - c.bytes) bytes)
    → rows_from c bytes ≡ no_rows TooLarge false
rows_from-beyond bytes c lt none =
    let long : is_longer c bytes ≡ true = lt-ltb most_bytes (c.bytes + length bytes) lt in
    rw (long, whole_line (take (most_bytes - c.bytes) bytes) none) refl

-- ---- the first line of some bytes

pub IsLine-take : (m : ℕ) (xs : List ℕ) → IsLine xs → IsLine (take m xs)
IsLine-take zero xs none = tt
IsLine-take (suc m) [] none = tt
IsLine-take (suc m) (x ∷ xs) none = (none.0, IsLine-take m xs none.1)

pub split_at : (bytes : List ℕ) (k : ℕ) → k < length bytes → bytes ≡ take k bytes ++ (get_or bytes k 0 ∷ drop (k + 1) bytes)
split_at bytes k lt = sym (take-append-drop k bytes) ∙ ap (λ l. take k bytes ++ l) (drop_more bytes k 0 lt)

-- the first line adds its row
pub rows_from-first : (bytes : List ℕ) (k : ℕ) (c : Counts) → IsFirstLine bytes k → c.bytes + taken_by k bytes ≤ most_bytes
    → rows_from c bytes ≡ listed_line (at_bytes (c.bytes + taken_by k bytes) c) (record_of (take k bytes)) (λ d. rows_from d (drop (taken_by k bytes) bytes))
rows_from-first bytes k c first le = elim (cases_lt k (length bytes)) [ inl lt ↦ ended lt | inr ge ↦ last ge ] where
  ended : k < length bytes → rows_from c bytes ≡ listed_line (at_bytes (c.bytes + taken_by k bytes) c) (record_of (take k bytes)) (λ d. rows_from d (drop (taken_by k bytes) bytes))
  ended lt =
      let size : length (take k bytes) ≡ k = omega (arith, length-take k bytes) in
      let n : taken_by k bytes ≡ k + 1 = omega arith in
      let m : c.bytes + length (take k bytes) + 1 ≡ c.bytes + (k + 1) = omega arith in
      ap (rows_from c) (split_at bytes k lt)
      ∙ rows_from-line (take k bytes) (get_or bytes k 0) (drop (k + 1) bytes) c first.line (first.end lt) (omega arith)
      ∙ ap (λ j. listed_line (at_bytes j c) (record_of (take k bytes)) (λ d. rows_from d (drop (k + 1) bytes))) m
      ∙ ap (λ j. listed_line (at_bytes (c.bytes + j) c) (record_of (take k bytes)) (λ d. rows_from d (drop j bytes))) (sym n)

  last : length bytes ≤ k → rows_from c bytes ≡ listed_line (at_bytes (c.bytes + taken_by k bytes) c) (record_of (take k bytes)) (λ d. rows_from d (drop (taken_by k bytes) bytes))
  last ge =
      let n : taken_by k bytes ≡ length bytes = omega arith in
      let whole : take k bytes ≡ bytes = take_all k bytes ge in
      let nothing : drop (length bytes) bytes ≡ [] = drop_all (length bytes) bytes (omega arith) in
      let line : IsLine bytes = subst IsLine whole first.line in
      rows_from-last bytes c line (omega arith)
      ∙ ap (λ l. listed_line (at_bytes (c.bytes + length bytes) c) (record_of bytes) (λ d. rows_from d l)) (sym nothing)
      ∙ ap (λ l. listed_line (at_bytes (c.bytes + length bytes) c) (record_of l) (λ d. rows_from d (drop (length bytes) bytes))) (sym whole)
      ∙ ap (λ j. listed_line (at_bytes (c.bytes + j) c) (record_of (take k bytes)) (λ d. rows_from d (drop j bytes))) (sym n)

-- the first line ends past the limit
pub rows_from-too_long : (bytes : List ℕ) (k : ℕ) (c : Counts) → IsFirstLine bytes k → c.bytes ≤ most_bytes → most_bytes < c.bytes + taken_by k bytes
    → rows_from c bytes ≡ no_rows TooLarge false
rows_from-too_long bytes k c first below lt =
    let m = most_bytes - c.bytes in
    let le : m ≤ k = omega arith in
    rows_from-beyond bytes c (omega arith) (subst IsLine (take-take m k bytes le) (IsLine-take m (take k bytes) first.line))

-- the place of the first byte that ends a line
first_at : (b : Bool) (x n : ℕ) (xs : List ℕ) → ends_line x ≡ b → IsLine (take n xs) → IsLine (take (cond (not b) (1 + n) 0) (x ∷ xs))
first_at true x n xs e none = tt
first_at false x n xs e none = subst (λ (k : ℕ). IsLine (take k (x ∷ xs))) (let s : suc n ≡ 1 + n = omega arith in s) (e, none)

no_end_before : (bytes : List ℕ) → IsLine (take (position_or_len ends_line bytes) bytes)
no_end_before [] = tt
no_end_before (b ∷ bs) = first_at (ends_line b) b (position_or_len ends_line bs) bs refl (no_end_before bs)

not_not : (b : Bool) → not b ≡ false → b ≡ true
not_not true e = refl
not_not false e = sym e

pub IsFirstLine-position : (bytes : List ℕ) → IsFirstLine bytes (position_or_len ends_line bytes)
IsFirstLine-position bytes = record {
  within = prefix_len-le-length (λ b. not (ends_line b)) bytes;
  line = no_end_before bytes;
  end = λ lt. not_not _ (prefix_len_stops (λ b. not (ends_line b)) bytes 0 lt);
}
