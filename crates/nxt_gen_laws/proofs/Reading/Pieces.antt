-- The lines of marks: each token of a text is put into its line.
use Rattle.std.proofs.Common.{◌≡◌, ℕ, zero, suc, ◌+◌, ◌-◌, ◌==◌, true, false, List, [], ◌∷◌, ◌++◌, length, take, drop, Some, refl, sym, ap, ◌∙◌, arith, append_assoc, length-append}
use Rattle.std.specs.Prelude.{slice_range}
use Rattle.std.proofs.Math.Seq.{drop-append_seam, take-append_seam}
use Rattle.nxt_model.specs.Nbc.Tokens.{Line, Token, line_feeds, lines_of, piece_at, put_token, put_word, tokens_after, tokens_from, word_of}
use Rattle.nxt_gen_laws.specs.Marks.{AreTokens, Blank, Mark, NextLine, Reads, Written, line_behind, marked, marked_lines}

-- a token's bytes stand at its place
bytes_there : (before p more : List ℕ) → slice_range (before ++ (p ++ more)) (length before) (length before + length p) ≡ p
bytes_there before p more =
    let long : (length before + length p) - length before ≡ length p = omega arith in
    ap (take ((length before + length p) - length before)) (drop-append_seam before (p ++ more))
    ∙ ap (λ n. take n (p ++ more)) long
    ∙ take-append_seam p more

with_token : (line b : ℕ) (q more : List ℕ) (ls : List Line) → piece_at (b ∷ (q ++ more)) ≡ Some (true, length (b ∷ q)) → line_feeds (b ∷ q) ≡ 0
    → Reads line more ls → Reads line (b ∷ (q ++ more)) (put_word line (word_of (b ∷ q)) ls)
with_token line b q more ls piece none reads before zero enough = absurd (omega (arith, enough))
with_token line b q more ls piece none reads before (suc most) enough =
    let p : List ℕ = b ∷ q in
    let t : Token = record { line = line; at = length before; len = length p } in
    let rest = reads (before ++ p) most (omega (arith, enough, length-append q more)) in
    let here : line + line_feeds (take (length p) (p ++ more)) ≡ line =
    ap (λ l. line + line_feeds l) (take-append_seam p more) ∙ ap (λ n. line + n) none ∙ omega arith in
    let there : length before + length p ≡ length (before ++ p) = sym (length-append before p) in
    let left : drop (length p) (p ++ more) ≡ more = drop-append_seam p more in (
      t ∷ rest.0,
      ap (λ o. tokens_after o line (length before) (b ∷ (q ++ more)) (tokens_from most)) piece
          ∙ ap (put_token true t)
          (ap (λ l. tokens_from most l (length before + length p) (drop (length p) (p ++ more))) here
          ∙ ap (λ k. tokens_from most line k (drop (length p) (p ++ more))) there
          ∙ ap (tokens_from most line (length (before ++ p))) left
          ∙ rest.1),
      ap (λ w. put_word line (word_of w) (lines_of (before ++ (p ++ more)) rest.0)) (bytes_there before p more)
          ∙ ap (λ w. put_word line (word_of p) (lines_of w rest.0)) (sym (append_assoc before p more))
          ∙ ap (put_word line (word_of p)) rest.2,
    )

with_piece : (line b : ℕ) (more : List ℕ) (ls : List Line) → piece_at (b ∷ more) ≡ Some (false, 1)
    → Reads (line + line_feeds (b ∷ [])) more ls → Reads line (b ∷ more) ls
with_piece line b more ls piece reads before zero enough = absurd (omega (arith, enough))
with_piece line b more ls piece reads before (suc most) enough =
    let rest = reads (before ++ b ∷ []) most (omega (arith, enough)) in
    let there : length before + 1 ≡ length (before ++ b ∷ []) = sym (length-append before (b ∷ [])) in (
      rest.0,
      ap (λ o. tokens_after o line (length before) (b ∷ more) (tokens_from most)) piece
          ∙ ap (λ k. tokens_from most (line + line_feeds (b ∷ [])) k more) there
          ∙ rest.1,
      ap (λ w. lines_of w rest.0) (sym (append_assoc before (b ∷ []) more)) ∙ rest.2,
    )

-- nothing has no lines
pub nothing : (line : ℕ) → Reads line [] []
nothing line before most enough = ([], refl, refl)

at_line : (line other : ℕ) (rest : List ℕ) (ls : List Line) → line ≡ other → Reads line rest ls → Reads other rest ls
at_line line other rest ls same reads before most enough =
    let found = reads before most enough in
    (found.0, ap (λ l. tokens_from most l (length before) rest) (sym same) ∙ found.1, found.2)

with_written : (line : ℕ) (p more : List ℕ) (ls : List Line) → (length p == 0) ≡ false → piece_at (p ++ more) ≡ Some (true, length p) → line_feeds p ≡ 0
    → Reads line more ls → Reads line (p ++ more) (put_word line (word_of p) ls)
with_written line [] more ls some piece none reads = absurd (let f : true ≡ false = some in let g : ⊥ = cc in g)
with_written line (b ∷ q) more ls some piece none reads = with_token line b q more ls piece none reads

-- marks in front of a text
pub with_marks : (line : ℕ) (ms : List Mark) (rest : List ℕ) (ls : List Line) → AreTokens ms rest
    → Reads (line_behind line ms) rest ls → Reads line (marked ms rest) (marked_lines line ms ls)
with_marks line [] rest ls are reads = reads
with_marks line (Written p ∷ ms) rest ls are reads =
    with_written line p (marked ms rest) (marked_lines line ms ls) are.0.0 are.0.1 are.0.2 (with_marks line ms rest ls are.1 reads)
with_marks line (Blank ∷ ms) rest ls are reads =
    let same : line ≡ line + line_feeds (32 ∷ []) = omega arith in
    with_piece line 32 (marked ms rest) (marked_lines line ms ls) refl
    (at_line line (line + line_feeds (32 ∷ [])) (marked ms rest) (marked_lines line ms ls) same (with_marks line ms rest ls are reads))
with_marks line (NextLine ∷ ms) rest ls are reads =
    let same : suc line ≡ line + line_feeds (10 ∷ []) = omega arith in
    with_piece line 10 (marked ms rest) (marked_lines (suc line) ms ls) refl
    (at_line (suc line) (line + line_feeds (10 ∷ [])) (marked ms rest) (marked_lines (suc line) ms ls) same (with_marks (suc line) ms rest ls are reads))
