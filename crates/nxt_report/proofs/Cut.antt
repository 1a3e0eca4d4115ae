-- What ran of a script whose source fails.
use Rattle.std.proofs.Common.{◌≡◌, ℕ, ◌+◌, ◌-◌, ◌<◌, ◌≤◌, ◌⊎◌, List, [], ◌++◌, length, take, drop, Option, Some, Result, Ok, Err, refl, sym, ap, ◌∙◌, subst, arith, append_assoc, inl, inr}
use Rattle.std.proofs.lemmas.Bool.{cases_lt}
use Rattle.std.proofs.lemmas.List.{length-append, take-append-drop}
use Rattle.std.specs.Io.KnownBytes.{Consumes, Appends}
use Rattle.nxt_edge.proofs.Laws.{Consumes-none, Consumes-Consumes, Appends-Appends}
use Rattle.nxt_machine.specs.Machines.{MachineViews}
use Rattle.nxt_model.specs.declared.event.ScriptRow.{ScriptRow}
use Rattle.nxt_model.specs.Report.{Bad}
use Rattle.nxt_script.specs.declared.fault.ScriptFault.{ScriptFault}
use Rattle.nxt_script.specs.declared.fault.ScriptFault.TheVariants as faults
use Rattle.nxt_script.specs.Ahead.{IsNear, HasEnded, LeavesRest, TakesFew, most_ahead, pending_of, record_end, records_in}
use Rattle.nxt_script.specs.Rows.{Listing, rows}
use Rattle.nxt_script.specs.Scripts.{Seen, Reading, Ended, IsOpen, unread}
use Rattle.nxt_script.proofs.Laws.BadRow.{IsBadOne, bad_row_behind}
use Rattle.nxt_script.proofs.Laws.Records.{AreWhole, AreWhole-none, row_passed, far_records}
use Rattle.nxt_report.specs.Cut.{CutText, RanRows}
use Rattle.nxt_report.specs.Writing.{Wrote}
use Rattle.nxt_report.proofs.Rows.{RowsRan, their_text}

-- ---- what was taken

-- the bytes that were taken: lines with a record for each row, and those that gave no row yet
pub record Lines (script : Seen) (taken : List ℕ) (count : ℕ) : Type 0 where
  pub passed : List ℕ
  pub is : taken ≡ passed ++ pending_of script
  pub whole : AreWhole passed
  pub many : records_in passed ≡ count

pub record Took (script : Seen) (left left' : Option (List ℕ)) (count : ℕ) : Type 0 where
  pub taken : List ℕ
  pub consumes : Consumes left left' taken
  pub lines : HasEnded script ⊎ Lines script taken count

pub Took-none : (left : Option (List ℕ)) → Took unread left left 0
Took-none left = record { taken = []; consumes = Consumes-none left; lines = inr (record { passed = []; is = refl; whole = AreWhole-none; many = refl }) }

-- what a call takes of a script that no fault ended
record Few (s new : Seen) (left left' : Option (List ℕ)) (result : Result (Option ScriptRow) ScriptFault) : Type 0 where
  taken : List ℕ
  consumes : Consumes left left' taken
  near : IsNear (pending_of s ++ taken)
  leaves : LeavesRest (pending_of s ++ taken) new result

few_of : (s new : Seen) (left left' : Option (List ℕ)) (result : Result (Option ScriptRow) ScriptFault) → IsOpen s → TakesFew s left new left' result → Few s new left left' result
few_of (Reading f) new left left' result is few = record { taken = few.0; consumes = few.1; near = few.2; leaves = few.3 }
few_of (Ended f) new left left' result is few = absurd is

module _ (s new : Seen) (left left' left'' : Option (List ℕ)) (count : ℕ) (took : Took s left left' count) (is_open : IsOpen s) where
  module _ (row : ScriptRow) (few : TakesFew s left' new left'' (Ok (Some row))) (over : HasEnded s → HasEnded new) where
    next : Few s new left' left'' (Ok (Some row))
    next = few_of s new left' left'' (Ok (Some row)) is_open few

    behind : Lines s took.taken count → HasEnded new ⊎ Lines new (took.taken ++ next.taken) (count + 1)
    behind lines = by (cases_lt (length x) (record_end x))
      where
        x : List ℕ
        x = pending_of s ++ next.taken

        by : (length x < record_end x) ⊎ (record_end x ≤ length x) → HasEnded new ⊎ Lines new (took.taken ++ next.taken) (count + 1)
        by (inl lt) = inl (next.leaves.ended lt)
        by (inr le) =
            let passed = row_passed lines.passed x lines.whole le in
            inr (record {
              passed = lines.passed ++ take (record_end x) x;
              is =
                  ap (λ l. l ++ next.taken) lines.is
                  ∙ (append_assoc lines.passed (pending_of s) next.taken
                  ∙ (ap (λ l. lines.passed ++ l) (sym (take-append-drop (record_end x) x))
                  ∙ (sym (append_assoc lines.passed (take (record_end x) x) (drop (record_end x) x))
                  ∙ ap (λ l. (lines.passed ++ take (record_end x) x) ++ l) (sym next.leaves.pending))));
              whole = passed.0;
              many = passed.1 ∙ ap (λ n. n + 1) lines.many;
            })

    pub Took-row : Took new left left'' (count + 1)
    Took-row = record {
      taken = took.taken ++ next.taken;
      consumes = Consumes-Consumes left left' left'' took.taken next.taken took.consumes next.consumes;
      lines = by took.lines;
    }
      where
        by : HasEnded s ⊎ Lines s took.taken count → HasEnded new ⊎ Lines new (took.taken ++ next.taken) (count + 1)
        by (inl ended) = inl (over ended)
        by (inr lines) = behind lines

  -- the source fails
  module _ (few : TakesFew s left' new left'' (Err faults.Failed)) (going : HasEnded s → ⊥) where
    last : Few s new left' left'' (Err faults.Failed)
    last = few_of s new left' left'' (Err faults.Failed) is_open few

    module _ (m m' : MachineViews) (script : List ℕ) (rest : Listing) (text : List ℕ) (ran : RowsRan m m' (rows script).rows rest.rows count text) where
      within : count ≤ length (rows script).rows
      within = omega (arith, ran.many, ap length ran.is, length-append ran.given rest.rows)

      far : HasEnded s ⊎ Lines s took.taken count → records_in (take (length (took.taken ++ last.taken) - (most_ahead + 1)) (took.taken ++ last.taken)) ≤ count
      far (inl ended) = absurd (going ended)
      far (inr lines) =
          let all : took.taken ++ last.taken ≡ lines.passed ++ (pending_of s ++ last.taken) = ap (λ l. l ++ last.taken) lines.is ∙ append_assoc lines.passed (pending_of s) last.taken in
          subst (λ (n : ℕ). records_in (take (length (took.taken ++ last.taken) - (most_ahead + 1)) (took.taken ++ last.taken)) ≤ n) lines.many
          (subst (λ (l : List ℕ). records_in (take (length l - (most_ahead + 1)) l) ≤ records_in lines.passed) (sym all) (far_records lines.passed (pending_of s ++ last.taken) lines.whole last.near))

      -- what was gathered is written behind what was written before
      pub cut_text : (old mid now : Option (List ℕ)) (gathered piece : List ℕ) → piece ≡ gathered → Wrote old mid text gathered → Appends mid now piece → CutText m script left left'' old now
      cut_text old mid now gathered piece same wrote put = record {
        m = count;
        taken = took.taken ++ last.taken;
        text = text;
        consumes = Consumes-Consumes left left' left'' took.taken last.taken took.consumes last.consumes;
        ran = record { within = within; far = far took.lines };
        told = their_text m m' (rows script).rows count text rest.rows ran;
        wrote = subst (Appends old now) (ap (λ l. wrote.front ++ l) same ∙ wrote.split) (Appends-Appends old mid now wrote.front piece wrote.wrote put);
      }

-- so a bad row whose record ends well before the last byte that was taken is told, and not the fault
pub bad_row_told : (script taken : List ℕ) (m n : ℕ) → RanRows script taken m → (rows script).end ≡ Bad n → n ≤ records_in (take (length taken - (most_ahead + 1)) taken) → ⊥
bad_row_told script taken m n ran bad before =
    let last : n ≡ length (rows script).rows + 1 = subst (λ e. IsBadOne (length (rows script).rows + 1) e) bad (bad_row_behind script) in
    absurd (omega (arith, last, ran.within, ran.far, before))
