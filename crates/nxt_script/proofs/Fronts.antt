-- From one front of a script to the next: what was taken and passed, one step after another.
use Rattle.std.proofs.Common.{◌≡◌, ℕ, ◌+◌, ◌<◌, ◌≤◌, ◌⊎◌, Bool, cond, true, false, List, [], ◌∷◌, ◌++◌, length, take, drop, refl, sym, ap, ◌∙◌, subst, arith, append_assoc, Option, Some, None, inl, inr}
use Rattle.std.proofs.lemmas.Bool.{cases_lt, false≢true}
use Rattle.std.proofs.lemmas.List.{length-append, length-drop, length-take-le, take_all, drop_all, drop-drop, drop-append-le, take-append-le, append-nil}
use Rattle.std.proofs.Math.ListN.{get_or-append}
use Rattle.std.specs.Prelude.{slice_index, is_some}
use Rattle.std.specs.List.{slice_split}
use Rattle.std.specs.Io.KnownBytes.{IsAtEnd}
use Rattle.nxt_edge.proofs.Laws.{Consumes-none, Consumes-Consumes}
use Rattle.nxt_model.specs.Report.{TooLarge}
use Rattle.nxt_script.specs.Rows.{ends_line, listed_line, no_rows, record_of, rows_from, most_bytes}
use Rattle.nxt_script.specs.Scripts.{Front}
use Rattle.nxt_script.specs.Ahead.{IsNear, first_record, record_end, most_ahead}
use Rattle.nxt_script.specs.Inside.{IsLine, IsFirstLine, taken_by, HasLine, MayFollow, Reads, Passes, PassesLine, FindsFields}
use Rattle.nxt_script.proofs.RowsLaw.{some_part, whole_line, first_line, split_at, at_bytes, rows_from-first, rows_from-too_long}
use Rattle.nxt_script.proofs.LongLines.{split_onto}

-- ---- one step after another

pub Reads-none : (a : Front) (left : Option (List ℕ)) → Reads a a left left []
Reads-none a left = record { consumes = Consumes-none left; end = λ not_yet ended. absurd (false≢true (sym not_yet ∙ ended)); still = λ ended. (ended, refl, refl) }

end-later : (left left' : Option (List ℕ)) → left' ≡ left → IsAtEnd left → IsAtEnd left'
end-later left left' same end = subst IsAtEnd (sym same) end

pub Reads-on : (a b c : Front) (left left' left'' : Option (List ℕ)) (t u : List ℕ) → Reads a b left left' t → Reads b c left' left'' u → Reads a c left left'' (t ++ u)
Reads-on a b c left left' left'' t u p q = record {
  consumes = Consumes-Consumes left left' left'' t u p.consumes q.consumes;
  end = λ not_yet ended. by_ended b.ended refl not_yet ended;
  still = λ ended.
      let first = p.still ended in
      let next = q.still first.0 in
      (next.0, rw (first.1, next.1) refl, next.2 ∙ first.2);
}
  where
    by_ended : (e : Bool) → b.ended ≡ e → a.ended ≡ false → c.ended ≡ true → IsAtEnd left''
    by_ended true is not_yet ended = end-later left' left'' (q.still is).2 (p.end not_yet is)
    by_ended false is not_yet ended = q.end is ended

pub Passes-none : (a : Front) → Passes a a []
Passes-none a = record {
  count = 0;
  within = omega arith;
  pending = sym (append-nil a.pending);
  bytes = omega arith;
  records = refl;
  rows = λ more follows. refl;
  end = λ more follows. (let same : record_end (a.pending ++ more) ≡ 0 + record_end (a.pending ++ more) = omega arith in same);
}

module _ (a b c : Front) (t u : List ℕ) (p : Passes a b t) (q : Passes b c u) (still : b.ended ≡ true → (c.ended ≡ true) × (u ≡ [])) where
  follows_on : (more : List ℕ) → MayFollow c more → MayFollow b (u ++ more)
  follows_on more follows ended = let s = still ended in rw (s.1, follows s.0) refl

  regroup : (more : List ℕ) → a.pending ++ ((t ++ u) ++ more) ≡ a.pending ++ (t ++ (u ++ more))
  regroup more = ap (λ l. a.pending ++ l) (append_assoc t u more)

  pub Passes-on : Passes a c (t ++ u)
  Passes-on = record {
    count = p.count + q.count;
    within = within;
    pending = q.pending ∙ (ap (λ l. drop q.count (l ++ u)) p.pending
        ∙ (ap (λ l. drop q.count l) (sym (drop-append-le p.count (a.pending ++ t) u p.within) ∙ ap (λ l. drop p.count l) (append_assoc a.pending t u))
        ∙ drop-drop q.count p.count (a.pending ++ (t ++ u))));
    bytes = omega (arith, p.bytes, q.bytes);
    records = q.records ∙ p.records;
    rows = λ more follows. ap (rows_from a.counts) (regroup more) ∙ (p.rows (u ++ more) (follows_on more follows) ∙ q.rows more follows);
    end = λ more follows.
        let first = p.end (u ++ more) (follows_on more follows) in
        let next = q.end more follows in
        ap record_end (regroup more) ∙ (let n : record_end (a.pending ++ (t ++ (u ++ more))) ≡ p.count + q.count + record_end (c.pending ++ more) = omega (arith, first, next) in n);
  }
    where
      within : p.count + q.count ≤ length (a.pending ++ (t ++ u))
      within = omega (arith, p.within, q.within, ap length p.pending, length-drop p.count (a.pending ++ t), length-append a.pending t, length-append a.pending (t ++ u), length-append t u, length-append b.pending u)

-- ---- how near

module _ (a b : Front) (t : List ℕ) (p : Passes a b t) where
  pub near-on : (u : List ℕ) → MayFollow b u → IsNear (b.pending ++ u) → IsNear (a.pending ++ (t ++ u))
  near-on u follows near = omega (arith, near, p.end u follows, p.within, ap length p.pending, length-drop p.count (a.pending ++ t), length-append a.pending t, length-append a.pending (t ++ u), length-append t u, length-append b.pending u)

  pub near-now : length b.pending ≤ most_ahead → IsNear (a.pending ++ t)
  near-now few =
      let near : IsNear (a.pending ++ (t ++ [])) = near-on [] (λ ended. refl) (omega (arith, few, ap length (append-nil b.pending))) in
      subst (λ (l : List ℕ). IsNear (a.pending ++ l)) (append-nil t) near

-- bytes that follow a line which isn't whole
pub near-line : (line more : List ℕ) → IsLine line → length more ≤ most_ahead → IsNear (line ++ more)
near-line line more none few =
    let f = some_part more in
    let at = ap first_record (split_onto line more f none) in
    omega (arith, few, at, length-append line more, length-append line f.part)

-- ---- the first line

module _ (a : Front) (k : ℕ) (has : HasLine a k) where
  size : length (take k a.pending) ≡ k
  size = length-take-le k a.pending has.first.within

  -- either a byte ends the line, or it is the last one
  pub ended_or_last : (k < length a.pending) ⊎ ((a.ended ≡ true) × (k ≡ length a.pending))
  ended_or_last = by (cases_lt k (length a.pending)) has.whole
    where
      by : (k < length a.pending) ⊎ (length a.pending ≤ k) → (k < length a.pending) ⊎ (a.ended ≡ true) → (k < length a.pending) ⊎ ((a.ended ≡ true) × (k ≡ length a.pending))
      by (inl lt) whole = inl lt
      by (inr ge) (inl lt) = inl lt
      by (inr ge) (inr ended) = inr (ended, (let same : k ≡ length a.pending = omega (arith, ge, has.first.within) in same))

  -- the parts, where a byte ends the line
  parts : (more : List ℕ) → k < length a.pending → slice_split ends_line (a.pending ++ more) ≡ take k a.pending ∷ slice_split ends_line (drop (k + 1) a.pending ++ more)
  parts more lt =
      ap (λ l. slice_split ends_line (l ++ more)) (split_at a.pending k lt)
      ∙ (ap (slice_split ends_line) (append_assoc (take k a.pending) (slice_index a.pending k ∷ drop (k + 1) a.pending) more)
      ∙ first_line (take k a.pending) (slice_index a.pending k) (drop (k + 1) a.pending ++ more) has.first.line (has.first.end lt))

  -- and where it is the last one
  last_part : k ≡ length a.pending → slice_split ends_line a.pending ≡ take k a.pending ∷ []
  last_part is =
      let all : take k a.pending ≡ a.pending = take_all k a.pending (omega (arith, is)) in
      ap (slice_split ends_line) (sym all) ∙ whole_line (take k a.pending) has.first.line

  -- a line without a record
  pub record_end-passed : (more : List ℕ) → MayFollow a more → record_of (take k a.pending) ≡ None → record_end (a.pending ++ more) ≡ taken_by k a.pending + record_end (drop (taken_by k a.pending) a.pending ++ more)
  record_end-passed more follows is = by ended_or_last
    where
      by : (k < length a.pending) ⊎ ((a.ended ≡ true) × (k ≡ length a.pending)) → record_end (a.pending ++ more) ≡ taken_by k a.pending + record_end (drop (taken_by k a.pending) a.pending ++ more)
      by (inl lt) =
          let n : taken_by k a.pending ≡ k + 1 = omega (arith, lt) in
          ap first_record (parts more lt)
          ∙ (rw is (let m : length (take k a.pending) + 1 + record_end (drop (k + 1) a.pending ++ more) ≡ k + 1 + record_end (drop (k + 1) a.pending ++ more) = omega (arith, size) in m)
          ∙ ap (λ j. j + record_end (drop j a.pending ++ more)) (sym n))
      by (inr last) =
          let n : taken_by k a.pending ≡ length a.pending = omega (arith, last.1) in
          let none : drop (length a.pending) a.pending ≡ [] = drop_all (length a.pending) a.pending (omega arith) in
          ap (λ l. record_end (a.pending ++ l)) (follows last.0)
          ∙ (ap record_end (append-nil a.pending)
          ∙ (ap first_record (last_part last.1)
          ∙ (rw is (let m : length (take k a.pending) + 1 + 0 ≡ length a.pending + record_end [] = omega (arith, size, last.1, record_end-nil) in m)
          ∙ (ap (λ l. length a.pending + record_end (l ++ [])) (sym none)
          ∙ (ap (λ l. length a.pending + record_end (drop (length a.pending) a.pending ++ l)) (sym (follows last.0))
          ∙ ap (λ j. j + record_end (drop j a.pending ++ more)) (sym n))))))
        where
          record_end-nil : record_end [] ≡ 1
          record_end-nil = by_record (is_some (record_of []))
            where
              by_record : (b : Bool) → 0 + 1 + (cond b 0 0) ≡ 1
              by_record true = refl
              by_record false = refl

  -- a line with a record
  pub record_end-found : (fields : List (List ℕ)) → record_of (take k a.pending) ≡ Some fields → record_end a.pending ≡ k + 1
  record_end-found fields is = by ended_or_last
    where
      by : (k < length a.pending) ⊎ ((a.ended ≡ true) × (k ≡ length a.pending)) → record_end a.pending ≡ k + 1
      by (inl lt) =
          ap record_end (sym (append-nil a.pending))
          ∙ (ap first_record (parts [] lt) ∙ rw is (let m : length (take k a.pending) + 1 + 0 ≡ k + 1 = omega (arith, size) in m))
      by (inr last) = ap first_record (last_part last.1) ∙ rw is (let m : length (take k a.pending) + 1 + 0 ≡ k + 1 = omega (arith, size) in m)

  -- the same line with what follows
  module _ (more : List ℕ) (follows : MayFollow a more) where
    line_is : take k (a.pending ++ more) ≡ take k a.pending
    line_is = take-append-le k a.pending more has.first.within

    still_first : IsFirstLine (a.pending ++ more) k
    still_first = record {
      within = omega (arith, has.first.within, length-append a.pending more);
      line = subst IsLine (sym line_is) has.first.line;
      end = λ lt. by lt ended_or_last;
    }
      where
        by : k < length (a.pending ++ more) → (k < length a.pending) ⊎ ((a.ended ≡ true) × (k ≡ length a.pending)) → ends_line (slice_index (a.pending ++ more) k) ≡ true
        by lt (inl within) = ap ends_line (get_or-append a.pending more 0 k within) ∙ has.first.end within
        by lt (inr last) = absurd (omega (arith, lt, last.1, ap length (ap (λ l. a.pending ++ l) (follows last.0) ∙ append-nil a.pending)))

    taken_is : taken_by k (a.pending ++ more) ≡ taken_by k a.pending
    taken_is = by ended_or_last
      where
        by : (k < length a.pending) ⊎ ((a.ended ≡ true) × (k ≡ length a.pending)) → taken_by k (a.pending ++ more) ≡ taken_by k a.pending
        by (inl lt) = omega (arith, lt, length-append a.pending more)
        by (inr last) = ap (taken_by k) (ap (λ l. a.pending ++ l) (follows last.0) ∙ append-nil a.pending)

    rest_with : drop (taken_by k a.pending) (a.pending ++ more) ≡ drop (taken_by k a.pending) a.pending ++ more
    rest_with = drop-append-le (taken_by k a.pending) a.pending more (omega arith)

    pub rows_from-has : a.counts.bytes + taken_by k a.pending ≤ most_bytes
        → rows_from a.counts (a.pending ++ more) ≡ listed_line (at_bytes (a.counts.bytes + taken_by k a.pending) a.counts) (record_of (take k a.pending)) (λ d. rows_from d (drop (taken_by k a.pending) a.pending ++ more))
    rows_from-has le =
        rows_from-first (a.pending ++ more) k a.counts still_first (subst (λ (n : ℕ). a.counts.bytes + n ≤ most_bytes) (sym taken_is) le)
        ∙ (ap (λ n. listed_line (at_bytes (a.counts.bytes + n) a.counts) (record_of (take k (a.pending ++ more))) (λ d. rows_from d (drop n (a.pending ++ more)))) taken_is
        ∙ (ap (λ l. listed_line (at_bytes (a.counts.bytes + taken_by k a.pending) a.counts) (record_of l) (λ d. rows_from d (drop (taken_by k a.pending) (a.pending ++ more)))) line_is
        ∙ ap (λ l. listed_line (at_bytes (a.counts.bytes + taken_by k a.pending) a.counts) (record_of (take k a.pending)) (λ d. rows_from d l)) rest_with))

    pub rows_from-over : a.counts.bytes ≤ most_bytes → most_bytes < a.counts.bytes + taken_by k a.pending → rows_from a.counts (a.pending ++ more) ≡ no_rows TooLarge false
    rows_from-over le lt = rows_from-too_long (a.pending ++ more) k a.counts still_first le (subst (λ (n : ℕ). most_bytes < a.counts.bytes + n) (sym taken_is) lt)

  module _ (b : Front) where
    pub Passes-line : PassesLine a b k None → Passes a b []
    Passes-line q = record {
      count = taken_by k a.pending;
      within = omega (arith, ap length (append-nil a.pending));
      pending = q.pending ∙ ap (λ l. drop (taken_by k a.pending) l) (sym (append-nil a.pending));
      bytes = q.bytes;
      records = q.records;
      rows = λ more follows. q.rows more (λ ended. follows (q.ended ∙ ended));
      end = λ more follows. record_end-passed more (λ ended. follows (q.ended ∙ ended)) (sym q.spelled) ∙ ap (λ l. taken_by k a.pending + record_end (l ++ more)) (sym q.pending);
    }

    -- what the line's record leaves behind, on from the front at which a call began
    module _ (start : Front) (t : List ℕ) (p : Passes start a t) (fields : List (List ℕ)) (q : PassesLine a b k (Some fields)) where
      rest_is : drop (taken_by k a.pending) a.pending ≡ drop (k + 1) a.pending
      rest_is = by ended_or_last
        where
          by : (k < length a.pending) ⊎ ((a.ended ≡ true) × (k ≡ length a.pending)) → drop (taken_by k a.pending) a.pending ≡ drop (k + 1) a.pending
          by (inl lt) = (let n : taken_by k a.pending ≡ k + 1 = omega (arith, lt) in ap (λ j. drop j a.pending) n)
          by (inr last) =
              drop_all (taken_by k a.pending) a.pending (omega (arith, last.1))
              ∙ sym (drop_all (k + 1) a.pending (omega (arith, last.1)))

      end_is : record_end (start.pending ++ t) ≡ p.count + (k + 1)
      end_is =
          let first = p.end [] (λ ended. refl) in
          let found = record_end-found fields (sym q.spelled) in
          omega (arith, first, found, ap (λ l. record_end (start.pending ++ l)) (append-nil t), ap record_end (append-nil a.pending))

      pub FindsFields-line : FindsFields start b t fields
      FindsFields-line = record {
        rows = λ more follows. p.rows more (λ ended. follows (q.ended ∙ ended)) ∙ q.rows more (λ ended. follows (q.ended ∙ ended));
        records = q.records ∙ p.records;
        rest = q.pending ∙ (rest_is
            ∙ (ap (drop (k + 1)) p.pending
            ∙ (drop-drop (k + 1) p.count (start.pending ++ t)
            ∙ ap (λ n. drop n (start.pending ++ t)) (sym end_is))));
        over = λ lt. over lt ended_or_last;
      }
        where
          over : length (start.pending ++ t) < record_end (start.pending ++ t) → (k < length a.pending) ⊎ ((a.ended ≡ true) × (k ≡ length a.pending)) → b.ended ≡ true
          over lt (inl within) = absurd (omega (arith, lt, within, end_is, p.within, ap length p.pending, length-drop p.count (start.pending ++ t)))
          over lt (inr last) = q.ended ∙ last.0
