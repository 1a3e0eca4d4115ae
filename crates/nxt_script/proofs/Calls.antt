-- The end of a script, a read, and calls in a row, by the front at which they begin and the one that they leave.
use Rattle.std.proofs.Common.{◌≡◌, ℕ, zero, suc, ◌+◌, ◌-◌, ◌<◌, ◌≤◌, true, false, List, [], ◌∷◌, ◌++◌, length, take, drop, sym, ap, ◌∙◌, subst, arith, refl, append_assoc, Option, Some, None}
use Rattle.std.proofs.lemmas.List.{length-append, drop-append-le, take-append-le, append-nil}
use Rattle.nxt_model.specs.Report.{Whole, TooLarge}
use Rattle.nxt_script.specs.Rows.{Counts, Listing, no_rows, rows_from, most_bytes}
use Rattle.nxt_script.specs.declared.fault.ScriptFault.{ScriptFault}
use Rattle.nxt_script.specs.Scripts.{Front, IsFault}
use Rattle.nxt_script.specs.Ahead.{record_end}
use Rattle.nxt_script.specs.Inside.{IsLine, HasLine, MayFollow, Reads, Passes, PassesLine, FindsEnd, FindsFault}
use Rattle.nxt_script.proofs.RowsLaw.{at_bytes, rows_from-nil, rows_from-beyond, IsLine-take}
use Rattle.nxt_script.proofs.LongLines.{MayGo, rows_from-long, record_end-long}
use Rattle.nxt_script.proofs.Fronts.{Passes-on, Passes-line}

-- ---- the end

-- where nothing is left of a source that has ended
pub FindsEnd-none : (a b : Front) (t : List ℕ) → Passes a b t → b.pending ≡ [] → b.ended ≡ true → b.counts.bytes ≤ most_bytes → FindsEnd a b t
FindsEnd-none a b t p none ended le =
    let nothing : rows_from b.counts b.pending ≡ no_rows (Whole b.counts.records) false = ap (rows_from b.counts) none ∙ rows_from-nil b.counts le in
    let whole : rows_from b.counts b.pending ≡ no_rows (Whole a.counts.records) false = nothing ∙ ap (λ n. no_rows (Whole n) false) p.records in
    record {
      rows = ap (λ l. rows_from a.counts (a.pending ++ l)) (sym (append-nil t)) ∙ (p.rows [] (λ is. refl) ∙ (ap (rows_from b.counts) (append-nil b.pending) ∙ whole));
      still = whole;
      records = p.records;
      ended = ended;
    }

-- the first line, whole or not, ends past the limit
pub rows_from-passed : (c : Counts) (pending more : List ℕ) → IsLine pending → most_bytes < c.bytes + length pending → rows_from c (pending ++ more) ≡ no_rows TooLarge false
rows_from-passed c pending more none lt =
    let m = most_bytes - c.bytes in
    let cut : take m (pending ++ more) ≡ take m pending = take-append-le m pending more (omega (arith, lt)) in
    rows_from-beyond (pending ++ more) c (omega (arith, lt, length-append pending more)) (subst IsLine (sym cut) (IsLine-take m pending none))

-- ---- a read

IsLine-drop : (n : ℕ) (xs : List ℕ) → IsLine xs → IsLine (drop n xs)
IsLine-drop zero xs none = none
IsLine-drop (suc n) [] none = tt
IsLine-drop (suc n) (x ∷ xs) none = IsLine-drop n xs none.1

-- of a line that isn't whole n bytes were passed, if it is long, and bytes were taken
pub Passes-read : (a b : Front) (n : ℕ) (t : List ℕ) → IsLine a.pending → MayGo n a.pending → n ≤ length a.pending → a.counts.bytes + length a.pending ≤ most_bytes
    → b.pending ≡ drop n a.pending ++ t → b.counts ≡ at_bytes (a.counts.bytes + n) a.counts → Passes a b t
Passes-read a b n t none may within le pending counts = record {
  count = n;
  within = omega (arith, within, length-append a.pending t);
  pending = pending ∙ sym (drop-append-le n a.pending t within);
  bytes = ap (λ c. c.bytes) counts;
  records = ap (λ c. c.records) counts;
  rows = λ more follows. rows_from-long n a.pending (t ++ more) none (IsLine-drop n a.pending none) a.counts may le
      ∙ (ap (λ c. rows_from c (drop n a.pending ++ (t ++ more))) (sym counts) ∙ ap (rows_from b.counts) (regroup more));
  end = λ more follows. record_end-long n a.pending (t ++ more) none (IsLine-drop n a.pending none) may
      ∙ ap (λ l. n + record_end l) (regroup more);
}
  where
    regroup : (more : List ℕ) → drop n a.pending ++ (t ++ more) ≡ b.pending ++ more
    regroup more = sym (append_assoc (drop n a.pending) t more) ∙ ap (λ l. l ++ more) (sym pending)

-- ---- calls in a row

-- the source may be over as before
pub Reads-passed : (s a b : Front) (left left' : Option (List ℕ)) (t : List ℕ) → Reads s a left left' t → b.ended ≡ a.ended → Reads s b left left' t
Reads-passed s a b left left' t r same = record {
  consumes = r.consumes;
  end = λ not_yet ended. r.end not_yet (sym same ∙ ended);
  still = λ ended. let k = r.still ended in (same ∙ k.0, k.1, k.2);
}

-- a line without a record
pub Passes-through : (s a b : Front) (t : List ℕ) (k : ℕ) → Passes s a t → HasLine a k → PassesLine a b k None → Passes s b t
Passes-through s a b t k p has q =
    subst (Passes s b) (append-nil t) (Passes-on s a b t [] p (Passes-line a k has b q) (λ ended. (q.ended ∙ ended, refl)))

-- a fault of a call is one of the calls in a row
pub FindsFault-on : (s a b : Front) (left left' : Option (List ℕ)) (t u : List ℕ) (f : ScriptFault) → Passes s a t → Reads a b left left' u → FindsFault a b u f → FindsFault s b (t ++ u) f
FindsFault-on s a b left left' t u f p r fault = λ more follows.
    let is : rows_from s.counts (s.pending ++ ((t ++ u) ++ more)) ≡ rows_from a.counts (a.pending ++ (u ++ more)) =
    ap (λ l. rows_from s.counts (s.pending ++ l)) (append_assoc t u more) ∙ p.rows (u ++ more) (λ ended. let k = r.still ended in rw (k.1, follows k.0) refl) in
    subst (λ (l : Listing). IsFault (Some l) f) (sym is) (fault more follows)

-- so is a fault of a line
pub FindsFault-line : (s a b : Front) (t : List ℕ) (f : ScriptFault) → Passes s a t → b ≡ a → ((more : List ℕ) → MayFollow a more → IsFault (Some (rows_from a.counts (a.pending ++ more))) f) → FindsFault s b t f
FindsFault-line s a b t f p same fault = λ more follows.
    let still : MayFollow a more = λ ended. follows (ap (λ h. h.ended) same ∙ ended) in
    subst (λ (l : Listing). IsFault (Some l) f) (sym (p.rows more still)) (fault more still)
