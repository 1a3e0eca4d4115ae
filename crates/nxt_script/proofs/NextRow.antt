-- What a call on the front of a script tells of the script.
use Rattle.std.proofs.Common.{◌≡◌, ℕ, ◌+◌, ◌≤◌, ◌⊎◌, Bool, true, false, List, [], ◌++◌, refl, sym, ap, ◌∙◌, subst, Option, Some, None, inl, inr}
use Rattle.std.proofs.lemmas.List.{append-nil}
use Rattle.std.specs.Prelude.{Ok, Err, IfSome}
use Rattle.nxt_model.specs.declared.event.ScriptRow.{ScriptRow}
use Rattle.nxt_script.specs.declared.fault.ScriptFault.{ScriptFault}
use Rattle.nxt_script.specs.declared.fault.ScriptFault.TheVariants as faults
use Rattle.nxt_model.specs.Report.{Whole}
use Rattle.nxt_script.specs.RowForms.{row_of}
use Rattle.nxt_script.specs.Rows.{Counts, Listing, counted, listed, no_rows, passes_limit, rows_from, with_row, most_rows}
use Rattle.nxt_script.specs.Scripts.{Front, Reading, Ended, IsFault, EndsWith, GivesRow, GivesEnd, NextOf, front_to_come}
use Rattle.nxt_script.specs.Ahead.{LeavesRest}
use Rattle.nxt_script.specs.Inside.{MayFollow, Reads, Finds, FindsFields, FindsRow, FindsEnd, FindsFault}

-- ---- a record's row

module _ (a b new : Front) (t : List ℕ) (fields : List (List ℕ)) (found : FindsFields a b t fields) where
  pub counted_row : (r : ScriptRow) → row_of fields ≡ Some r → passes_limit (counted r b.counts) ≡ false → new ≡ record b { counts = counted r b.counts } → new.counts.records ≤ most_rows → FindsRow a new t r
  counted_row r spelled within is few = record {
    rows = λ more follows.
        let rest = λ (d : Counts). rows_from d (b.pending ++ more) in
        let fits : listed b.counts (Some r) rest ≡ with_row r (rest (counted r b.counts)) = rw within refl in
        found.rows more (λ ended. follows (ap (λ f. f.ended) is ∙ ended))
        ∙ (ap (λ o. listed b.counts o rest) spelled
        ∙ (fits
        ∙ ap (λ (f : Front). with_row r (rows_from f.counts (f.pending ++ more))) (sym is)));
    records = ap (λ f. f.counts.records) is ∙ ap (λ n. n + 1) found.records;
    few = few;
    rest = ap (λ f. f.pending) is ∙ found.rest;
    over = λ lt. ap (λ f. f.ended) is ∙ found.over lt;
  }

  pub counted_fault : (f : ScriptFault) → new ≡ b → ((more : Counts → Listing) → IsFault (Some (listed b.counts (row_of fields) more)) f) → FindsFault a new t f
  counted_fault f is fault = λ more follows.
      subst (λ (l : Listing). IsFault (Some l) f) (sym (found.rows more (λ ended. follows (ap (λ h. h.ended) is ∙ ended)))) (fault (λ d. rows_from d (b.pending ++ more)))

-- ---- what is to come

-- what was still to come, and is
record Knows (a b : Front) (left left' : Option (List ℕ)) (t : List ℕ) : Type 0 where
  more : List ℕ
  follows : MayFollow b more
  before : front_to_come a left ≡ Some (rows_from a.counts (a.pending ++ (t ++ more)))
  after : front_to_come b left' ≡ Some (rows_from b.counts (b.pending ++ more))

module _ (a b : Front) (t : List ℕ) where
  -- the source tells what it has left
  told : (xs ys : List ℕ) → a.ended ≡ false → Reads a b (Some xs) (Some ys) t → Knows a b (Some xs) (Some ys) t
  told xs ys open_yet reads = record {
    more = ys;
    follows = λ ended. reads.end open_yet ended;
    before = rw open_yet (ap (λ l. Some (rows_from a.counts (a.pending ++ l))) reads.consumes);
    after = by b.ended refl;
  }
    where
      by : (e : Bool) → b.ended ≡ e → front_to_come b (Some ys) ≡ Some (rows_from b.counts (b.pending ++ ys))
      by true ended = rw ended (ap (λ l. Some (rows_from b.counts l)) (sym (ap (λ l. b.pending ++ l) (reads.end open_yet ended) ∙ append-nil b.pending)))
      by false ended = rw ended refl

  -- the source has ended
  over : (left left' : Option (List ℕ)) → a.ended ≡ true → Reads a b left left' t → Knows a b left left' t
  over left left' ended reads =
      let still = reads.still ended in
      record {
        more = [];
        follows = λ e. refl;
        before = rw ended (ap (λ l. Some (rows_from a.counts l)) (sym (ap (λ l. a.pending ++ (l ++ [])) still.1 ∙ append-nil a.pending)));
        after = rw (still.0) (ap (λ l. Some (rows_from b.counts l)) (sym (append-nil b.pending)));
      }

  known : (left left' : Option (List ℕ)) → Reads a b left left' t → (front_to_come a left ≡ None) ⊎ Knows a b left left' t
  known left left' reads = by a.ended refl left left' reads
    where
      by : (e : Bool) → a.ended ≡ e → (l l' : Option (List ℕ)) → Reads a b l l' t → (front_to_come a l ≡ None) ⊎ Knows a b l l' t
      by true ended l l' r = inr (over l l' ended r)
      by false open_yet None l' r = inl (rw open_yet refl)
      by false open_yet (Some xs) None r = absurd r.consumes
      by false open_yet (Some xs) (Some ys) r = inr (told xs ys open_yet r)

  -- a fault tells nothing of what isn't known
  unknown_fault : (f : ScriptFault) → IsFault None f
  unknown_fault (faults.Row n) = tt
  unknown_fault (faults.TooMany n) = tt
  unknown_fault faults.Failed = tt
  unknown_fault faults.TooLarge = tt
  unknown_fault faults.NoMemory = tt

  module _ (left left' : Option (List ℕ)) (reads : Reads a b left left' t) where
    row_next : (r : ScriptRow) → FindsRow a b t r → GivesRow (front_to_come a left) (Reading a) (Reading b) (front_to_come b left') r
    row_next r found = record {
      row = by (known left left' reads);
      given = found.records;
      few = found.few;
    }
      where
        by : (front_to_come a left ≡ None) ⊎ Knows a b left left' t → IfSome (front_to_come a left) (λ l. (more : Listing) × (front_to_come b left' ≡ Some more) × (l ≡ with_row r more))
        by (inl none) = subst (λ o. IfSome o (λ l. (more : Listing) × (front_to_come b left' ≡ Some more) × (l ≡ with_row r more))) (sym none) tt
        by (inr k) = subst (λ o. IfSome o (λ l. (more : Listing) × (front_to_come b left' ≡ Some more) × (l ≡ with_row r more))) (sym k.before)
            (rows_from b.counts (b.pending ++ k.more), k.after, found.rows k.more k.follows)

    end_next : FindsEnd a b t → GivesEnd (front_to_come a left) (Reading a) (Reading b) (front_to_come b left')
    end_next found = record {
      end = by (known left left' reads);
      still = rw found.ended (ap Some found.still);
      given = found.records;
    }
      where
        by : (front_to_come a left ≡ None) ⊎ Knows a b left left' t → EndsWith (front_to_come a left) (no_rows (Whole a.counts.records) false)
        by (inl none) = subst (λ o. EndsWith o (no_rows (Whole a.counts.records) false)) (sym none) tt
        by (inr k) = subst (λ o. EndsWith o (no_rows (Whole a.counts.records) false)) (sym k.before)
            (ap (λ l. rows_from a.counts (a.pending ++ (t ++ l))) (k.follows found.ended) ∙ (ap (λ l. rows_from a.counts (a.pending ++ l)) (append-nil t) ∙ found.rows))

    fault_next : (f : ScriptFault) → FindsFault a b t f → IsFault (front_to_come a left) f
    fault_next f found = by (known left left' reads)
      where
        by : (front_to_come a left ≡ None) ⊎ Knows a b left left' t → IsFault (front_to_come a left) f
        by (inl none) = subst (λ o. IsFault o f) (sym none) (unknown_fault f)
        by (inr k) = subst (λ o. IsFault o f) (sym k.before) (found k.more k.follows)

    -- a call that gives a row or the end
    pub ok_next : (o : Option ScriptRow) → Finds a b t (Ok o) → NextOf (Reading a) left (Reading b) left' (Ok o)
    ok_next None found = end_next found
    ok_next (Some r) found = row_next r found

    -- a call that gives a fault
    pub err_next : (f : ScriptFault) → Finds a b t (Err f) → NextOf (Reading a) left (Ended f) left' (Err f)
    err_next f found = (fault_next f found, refl)

-- ---- what is taken

-- what a row leaves
pub leaves_rest : (a b : Front) (t : List ℕ) (o : Option ScriptRow) → Finds a b t (Ok o) → LeavesRest (a.pending ++ t) (Reading b) (Ok o)
leaves_rest a b t None found = tt
leaves_rest a b t (Some r) found = record { pending = found.rest; ended = found.over }
