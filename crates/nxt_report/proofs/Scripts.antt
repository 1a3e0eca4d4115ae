-- What the next row of a script, its end or a fault says of the rows that are still to come.
use Rattle.std.proofs.Common.{◌≡◌, false, true, ℕ, List, Option, Some, None, Result, Ok, Err, subst}
use Rattle.std.specs.Prelude.{IfSome}
use Rattle.nxt_model.specs.declared.event.ScriptRow.{ScriptRow}
use Rattle.nxt_model.specs.Report.{Whole, Bad, TooLarge}
use Rattle.nxt_script.specs.declared.fault.ScriptFault.{ScriptFault}
use Rattle.nxt_script.specs.declared.fault.ScriptFault.TheVariants as faults
use Rattle.nxt_script.specs.Rows.{Listing, no_rows, with_row}
use Rattle.nxt_script.specs.Scripts.{Seen, Reading, Ended, to_come, rows_given, EndsWith, GivesRow, GivesEnd, IsFault, IsNext, NextOf, IsOpen}

-- a call on a script that no fault ended
module _ (old new : Seen) (left left' : Option (List ℕ)) (result : Result (Option ScriptRow) ScriptFault) (runs : IsOpen old) (next : NextOf old left new left' result) where
  next_of : IsNext (to_come old left) old new (to_come new left') result
  next_of = by old runs next
    where
      by : (o : Seen) → IsOpen o → NextOf o left new left' result → IsNext (to_come o left) o new (to_come new left') result
      by (Reading f) runs next = next
      by (Ended f) runs next = absurd runs

  pub gives_row : (row : ScriptRow) → result ≡ Ok (Some row) → GivesRow (to_come old left) old new (to_come new left') row
  gives_row row e = subst (IsNext (to_come old left) old new (to_come new left')) e next_of

  pub gives_end : result ≡ Ok None → GivesEnd (to_come old left) old new (to_come new left')
  gives_end e = subst (IsNext (to_come old left) old new (to_come new left')) e next_of

  is_fault : (f : ScriptFault) → result ≡ Err f → IsFault (to_come old left) f
  is_fault f e = (subst (IsNext (to_come old left) old new (to_come new left')) e next_of).0

  -- where it is known what is still to come
  module _ (rest : Listing) (known : to_come old left ≡ Some rest) where
    pub row_known : (row : ScriptRow) → result ≡ Ok (Some row) → (more : Listing) × (to_come new left' ≡ Some more) × (rest ≡ with_row row more)
    row_known row e = subst (λ o. IfSome o (λ l. (more : Listing) × (to_come new left' ≡ Some more) × (l ≡ with_row row more))) known (gives_row row e).row

    pub end_known : result ≡ Ok None → rest ≡ no_rows (Whole (rows_given old)) false
    end_known e = subst (λ o. EndsWith o (no_rows (Whole (rows_given old)) false)) known (gives_end e).end

    fault_known : (f : ScriptFault) → result ≡ Err f → IsFault (Some rest) f
    fault_known f e = subst (λ o. IsFault o f) known (is_fault f e)

    pub bad_known : (n : ℕ) → result ≡ Err (faults.Row n) → rest ≡ no_rows (Bad n) false
    bad_known n e = fault_known (faults.Row n) e

    pub many_known : (n : ℕ) → result ≡ Err (faults.TooMany n) → rest ≡ no_rows (Bad n) true
    many_known n e = fault_known (faults.TooMany n) e

    pub large_known : result ≡ Err faults.TooLarge → rest ≡ no_rows TooLarge false
    large_known e = fault_known faults.TooLarge e
