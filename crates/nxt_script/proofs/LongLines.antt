-- Of a line that is long, the front makes no difference: its row, and where its record ends.
use Rattle.std.proofs.Common.{◌≡◌, ℕ, ◌+◌, ◌-◌, ◌<◌, ◌≤◌, ◌⊎◌, Bool, true, false, List, [], ◌∷◌, ◌++◌, length, take, drop, refl, sym, ap, ◌∙◌, arith, Some, lt-ltb, inl, inr}
use Rattle.std.proofs.lemmas.List.{length-append, length-drop}
use Rattle.std.proofs.Math.Seq.{take-append-add}
use Rattle.std.specs.Prelude.{nat_lt, if◌then◌else◌}
use Rattle.std.specs.List.{slice_split, onto_first}
use Rattle.nxt_model.specs.Report.{Bad, TooLarge}
use Rattle.nxt_script.specs.Rows.{Counts, Listing, no_rows, list_lines, record_of, ends_line, without_last, rows_from, most_bytes}
use Rattle.nxt_script.specs.Ahead.{record_end, first_record}
use Rattle.nxt_script.specs.Inside.{IsLine}
use Rattle.nxt_script.proofs.RowsLaw.{IsFull, some_part, at_bytes}

-- bytes that end no line stand in front of the first part
pub split_onto : (line rest : List ℕ) (f : IsFull (slice_split ends_line rest)) → IsLine line → slice_split ends_line (line ++ rest) ≡ (line ++ f.part) ∷ f.parts
split_onto [] rest f none = f.is
split_onto (b ∷ bs) rest f none = rw none.0 (ap (λ l. onto_first b l) (split_onto bs rest f none.1))

-- a long line holds a record that has no form
record_of-long : (line : List ℕ) → 512 < length line → record_of line ≡ Some []
record_of-long line long =
    let is : nat_lt 512 (length line) ≡ true = lt-ltb 512 (length line) long in
    rw is refl

-- what a long line at the front lists
long_line : (longer : Bool) (line : List ℕ) (more : List (List ℕ)) (c : Counts) → 512 < length line → list_lines longer (line ∷ more) c ≡ no_rows (Bad (c.records + 1)) false
long_line longer line more c long = rw (record_of-long line long) refl

-- the same where the last line doesn't count
abbrev long_or_last : List (List ℕ) → ℕ → Listing
long_or_last [] records = no_rows TooLarge false
long_or_last (line ∷ more) records = no_rows (Bad (records + 1)) false

long_cut : (line : List ℕ) (more : List (List ℕ)) (c : Counts) → 512 < length line → list_lines true (without_last (line ∷ more)) c ≡ long_or_last more c.records
long_cut line [] c long = refl
long_cut line (next ∷ more) c long = long_line true line (without_last (next ∷ more)) c long

-- the rows of bytes that begin with a long line
abbrev rows_of_long : List ℕ → Counts → ℕ → Listing
rows_of_long rest c room = if nat_lt most_bytes (c.bytes + (room + length rest)) then long_or_last (some_part (take (most_bytes - c.bytes - room) rest)).parts c.records else no_rows (Bad (c.records + 1)) false

rows_from-is : (c : Counts) (line rest : List ℕ) → IsLine line → 512 < length line → c.bytes + length line ≤ most_bytes → rows_from c (line ++ rest) ≡ rows_of_long rest c (length line)
rows_from-is c line rest none long le =
    let len : c.bytes + length (line ++ rest) ≡ c.bytes + (length line + length rest) = ap (λ n. c.bytes + n) (length-append line rest) in
    ap (λ n. list_lines (nat_lt most_bytes n) (if nat_lt most_bytes n then without_last (slice_split ends_line (take (most_bytes - c.bytes) (line ++ rest))) else slice_split ends_line (line ++ rest)) c) len
    ∙ by_longer (nat_lt most_bytes (c.bytes + (length line + length rest)))
  where
    by_longer : (b : Bool) → list_lines b (if b then without_last (slice_split ends_line (take (most_bytes - c.bytes) (line ++ rest))) else slice_split ends_line (line ++ rest)) c
        ≡ (if b then long_or_last (some_part (take (most_bytes - c.bytes - length line) rest)).parts c.records else no_rows (Bad (c.records + 1)) false)
    by_longer true =
        let r = take (most_bytes - c.bytes - length line) rest in
        let size : most_bytes - c.bytes ≡ length line + (most_bytes - c.bytes - length line) = omega (arith, le) in
        let cut : take (most_bytes - c.bytes) (line ++ rest) ≡ line ++ r = ap (λ n. take n (line ++ rest)) size ∙ take-append-add line rest (most_bytes - c.bytes - length line) in
        let f = some_part r in
        ap (λ l. list_lines true (without_last (slice_split ends_line l)) c) cut
        ∙ ap (λ l. list_lines true (without_last l) c) (split_onto line r f none)
        ∙ long_cut (line ++ f.part) f.parts c (omega (arith, long, length-append line f.part))
    by_longer false =
        let f = some_part rest in
        ap (λ l. list_lines false l c) (split_onto line rest f none)
        ∙ long_line false (line ++ f.part) f.parts c (omega (arith, long, length-append line f.part))

-- a front of a line that leaves it long, or none
abbrev pub MayGo : ℕ → List ℕ → Type 0
MayGo d line = (d ≡ 0) ⊎ (512 < length line - d)

module _ (d : ℕ) (line rest : List ℕ) (none : IsLine line) (rest_none : IsLine (drop d line)) where
  pub rows_from-long : (c : Counts) → MayGo d line → c.bytes + length line ≤ most_bytes → rows_from c (line ++ rest) ≡ rows_from (at_bytes (c.bytes + d) c) (drop d line ++ rest)
  rows_from-long c (inl e) le =
      let same : c.bytes ≡ c.bytes + d = omega (arith, e) in
      ap (λ n. rows_from (at_bytes n c) (line ++ rest)) same ∙ ap (λ n. rows_from (at_bytes (c.bytes + d) c) (drop n line ++ rest)) (sym e)
  rows_from-long c (inr long) le =
      let size = length-drop d line in
      let left : c.bytes + (length line + length rest) ≡ c.bytes + d + (length (drop d line) + length rest) = omega (arith, long, size) in
      let room : most_bytes - c.bytes - length line ≡ most_bytes - (c.bytes + d) - length (drop d line) = omega (arith, long, size, le) in
      rows_from-is c line rest none (omega (arith, long)) le
      ∙ ap (λ n. if nat_lt most_bytes n then long_or_last (some_part (take (most_bytes - c.bytes - length line) rest)).parts c.records else no_rows (Bad (c.records + 1)) false) left
      ∙ ap (λ m. if nat_lt most_bytes (c.bytes + d + (length (drop d line) + length rest)) then long_or_last (some_part (take m rest)).parts c.records else no_rows (Bad (c.records + 1)) false) room
      ∙ sym (rows_from-is (at_bytes (c.bytes + d) c) (drop d line) rest rest_none (omega (arith, long, size)) (omega (arith, long, size, le)))

  pub record_end-long : MayGo d line → record_end (line ++ rest) ≡ d + record_end (drop d line ++ rest)
  record_end-long (inl e) =
      let zero_more : record_end (line ++ rest) ≡ 0 + record_end (line ++ rest) = omega arith in
      zero_more ∙ ap (λ n. n + record_end (drop n line ++ rest)) (sym e)
  record_end-long (inr long) =
      let f = some_part rest in
      let size = length-drop d line in
      end_of (line ++ rest) (line ++ f.part) f.parts (omega (arith, long, length-append line f.part)) (split_onto line rest f none)
      ∙ (let n : length (line ++ f.part) + 1 ≡ d + (length (drop d line ++ f.part) + 1) = omega (arith, long, size, length-append line f.part, length-append (drop d line) f.part) in n)
      ∙ ap (λ n. d + n) (sym (end_of (drop d line ++ rest) (drop d line ++ f.part) f.parts (omega (arith, long, size, length-append (drop d line) f.part)) (split_onto (drop d line) rest f rest_none)))
    where
      end_of : (bytes first : List ℕ) (more : List (List ℕ)) → 512 < length first → slice_split ends_line bytes ≡ first ∷ more → record_end bytes ≡ length first + 1
      end_of bytes first more long is =
          let n : length first + 1 + 0 ≡ length first + 1 = omega arith in
          ap first_record is ∙ rw (record_of-long first long) n
