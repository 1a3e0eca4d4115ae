-- What ran of a script's rows, and what is reported of them.
use Rattle.std.proofs.Common.{◌≡◌, ℕ, ◌+◌, List, [], ◌∷◌, ◌++◌, length, take, None, refl, sym, ap, ◌∙◌, subst, arith, append_assoc}
use Rattle.std.proofs.lemmas.Grind.{flat_map-append}
use Rattle.std.proofs.lemmas.List.{append-nil, length-append}
use Rattle.std.proofs.Math.Seq.{take-append_seam}
use Rattle.std.specs.Prelude.{Bool, flat_map}
use Rattle.nxt_model.specs.declared.event.Event.{Event}
use Rattle.nxt_model.specs.declared.event.ScriptRow.{ScriptRow}
use Rattle.nxt_model.specs.Report.{End, closing}
use Rattle.nxt_model.specs.Step.{events_of}
use Rattle.nxt_machine.specs.Machines.{MachineViews}
use Rattle.nxt_script.specs.Rows.{Listing, no_rows, with_row}
use Rattle.nxt_report.specs.Running.{HasTold, HasToldFirst, Reports, RowsTell, RowsToldFirst, setting_of}
use Rattle.nxt_report.proofs.Runs.{first_behind, has_told_both, has_told_none, told_tells}

-- of all rows so many ran from one machine to another and told this text, and these are left
pub record RowsRan (m m' : MachineViews) (all rest : List ScriptRow) (count : ℕ) (text : List ℕ) : Type 0 where
  pub given : List ScriptRow
  pub is : all ≡ given ++ rest
  pub many : length given ≡ count
  pub told : HasTold m m' (flat_map events_of given) text

pub none_ran : (m : MachineViews) (all : List ScriptRow) → RowsRan m m all all 0 []
none_ran m all = record { given = []; is = refl; many = refl; told = has_told_none m }

abbrev pub events_in : List ScriptRow → List Event
events_in rows = flat_map events_of rows

events_both : (xs ys : List ScriptRow) → events_in (xs ++ ys) ≡ events_in xs ++ events_in ys
events_both xs ys = flat_map-append events_of xs ys

one_row : (row : ScriptRow) → events_in (row ∷ []) ≡ events_of row
one_row row = append-nil (events_of row)

module _ (m m' : MachineViews) (all : List ScriptRow) (count : ℕ) (text : List ℕ) where
  -- one row more
  module _ (l more : Listing) (row : ScriptRow) (ran : RowsRan m m' all l.rows count text) (next : l ≡ with_row row more) where
    pub one_more_ran : (m'' : MachineViews) (told : List ℕ) → HasTold m' m'' (events_of row) told → RowsRan m m'' all more.rows (count + 1) (text ++ told)
    one_more_ran m'' told has = record {
      given = ran.given ++ (row ∷ []);
      is = ran.is ∙ (ap (λ (k : Listing). ran.given ++ k.rows) next ∙ sym (append_assoc ran.given (row ∷ []) more.rows));
      many = omega (arith, ran.many, length-append ran.given (row ∷ []));
      told = subst (λ es. HasTold m m'' es (text ++ told)) (ap (λ es. events_in ran.given ++ es) (sym (one_row row)) ∙ sym (events_both ran.given (row ∷ [])))
          (has_told_both m m' m'' (events_in ran.given) (events_of row) text told ran.told has);
    }

    -- a row that broke off
    pub broke_off : (told : List ℕ) → HasToldFirst m' (events_of row) told → RowsToldFirst m all (text ++ told)
    broke_off told first =
        let both = first_behind m m' (events_in ran.given) (events_of row) text told ran.told first in
        let end = both.told None tt in
        record {
          done = both.done;
          more = both.more ++ events_in more.rows;
          split =
              ap events_in (ran.is ∙ ap (λ (k : Listing). ran.given ++ k.rows) next)
              ∙ (events_both ran.given (row ∷ more.rows)
              ∙ (sym (append_assoc (events_in ran.given) (events_of row) (events_in more.rows))
              ∙ (ap (λ es. es ++ events_in more.rows) both.split
              ∙ append_assoc both.done both.more (events_in more.rows))));
          state = end.0;
          mark = end.1;
          told = end.2;
        }

  module _ (rest : List ScriptRow) (ran : RowsRan m m' all rest count text) where
    -- what was told is what the first rows tell
    pub their_text : RowsTell m (take count all) text
    their_text =
        let end = ran.told.told None tt in
        let first : take count all ≡ ran.given = ap (λ n. take n all) (sym ran.many) ∙ (ap (take (length ran.given)) ran.is ∙ take-append_seam ran.given rest) in
        subst (λ rows. RowsTell m rows text) (sym first) (told_tells (setting_of m) (events_in ran.given) m.state m'.state None end.0 text end.1)

    -- and a report as far as it goes
    pub so_far : RowsToldFirst m all text
    so_far =
        let end = ran.told.told None tt in
        record { done = events_in ran.given; more = events_in rest; split = ap events_in ran.is ∙ events_both ran.given rest; state = m'.state; mark = end.0; told = end.1 }

-- where no row is left, what was told and the last line are a whole report
pub all_ran : (m m' : MachineViews) (l rest : Listing) (e : End) (by_limit : Bool) (count : ℕ) (text : List ℕ) → RowsRan m m' l.rows rest.rows count text → rest ≡ no_rows e by_limit → rest.end ≡ l.end
    → Reports m l (text ++ closing e)
all_ran m m' l rest e by_limit count text ran none same =
    let end = ran.told.told None tt in
    let given : ran.given ≡ l.rows = sym (ran.is ∙ (ap (λ (k : Listing). ran.given ++ k.rows) none ∙ append-nil ran.given)) in (
      text,
      subst (λ rows. RowsTell m rows text) given (told_tells (setting_of m) (events_in ran.given) m.state m'.state None end.0 text end.1),
      ap (λ x. text ++ closing x) (sym (ap (λ (k : Listing). k.end) none) ∙ same),
    )
