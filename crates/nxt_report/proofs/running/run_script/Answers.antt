-- Row by row, and the end.
use Rattle.std.proofs.Common.{◌≡◌, ◌+◌, ◌++◌, ◌∙◌, ◌⊎◌, ℕ, List, [], Bool, false, true, Option, Result, Ok, Err, refl, sym, ap, subst, arith, inl, inr}
use Rattle.std.proofs.lemmas.List.{append-nil}
use Rattle.std.specs.Prelude.{IfOk, OnOk, OnErr}
use Rattle.std.specs.Io.KnownBytes.{Appends, IsAtEnd}
use Rattle.nxt_edge.specs.Edge.{AppendsFront}
use Rattle.nxt_edge.proofs.Laws.{Front-whole}
use Rattle.nxt_machine.specs.Machines.{MachineViews}
use Rattle.nxt_model.specs.Report.{End, Whole, Bad, TooLarge, closing}
use Rattle.nxt_script.specs.Rows.{Listing, rows, no_rows}
use Rattle.nxt_script.specs.Scripts.{Seen, unread, to_come, rows_given, IsOpen}
use Rattle.nxt_report.specs.Running.{Reports, ReportsUpTo}
use Rattle.nxt_report.specs.Statuses.{status_of}
use Rattle.nxt_report.specs.declared.status.Status.{Status}
use Rattle.nxt_report.specs.declared.status.Status.TheVariants as status
use Rattle.nxt_report.specs.declared.writing.Fault.{Fault}
use Rattle.nxt_report.specs.Writing.{Wrote}
use Rattle.nxt_report.proofs.Pieces.{Wrote-start, Wrote-then, Wrote-last, Wrote-failed, Wrote-all, Wrote-part, Wrote-front, at_err, on_ok, on_err}
use Rattle.nxt_script.specs.Ahead.{HasEnded, TakesFew}
use Rattle.nxt_report.proofs.Cut.{Took, Took-none, Took-row, cut_text}
use Rattle.nxt_report.proofs.Rows.{RowsRan, all_ran, broke_off, none_ran, one_more_ran, so_far}
use Rattle.nxt_report.proofs.Scripts.{gives_row, row_known, end_known, bad_known, many_known, large_known}
use Rattle.nxt_report.proofs.running.run_script.Goals as goal

-- a source that has ended isn't asked again
at_end : {S A B : Type 0} {now before : S} (left : S → Option (List ℕ)) → (A → B ⊎ IsAtEnd (left now)) → (B → now ≡ before) → (B → IsAtEnd (left before)) → A → IsAtEnd (left now)
at_end left either same was over = elim (either over) [
  | inl earlier ↦ subst (λ s. IsAtEnd (left s)) (sym (same earlier)) (was earlier)
  | inr now ↦ now
]

pub loop-row-init : goal.loop-row-init
loop-row-init g c = record {
  told = λ s e. (
    rows s,
    ap (λ x. to_come x (g.Q.Source.left c.args.source.now)) c.new-script.ensures ∙ ap (λ o. to_come unread o) e,
    refl,
    [],
    none_ran c.args.machine.now (rows s).rows,
    subst (λ t. Wrote (g.R.Sink.written c.args.report.now) (g.R.Sink.written c.args.report.now) [] t) (sym c.new-gathered.ensures) (Wrote-start (g.R.Sink.written c.args.report.now) []),
  );
  took = subst (λ (x : Seen). Took x (g.Q.Source.left c.args.source.now) (g.Q.Source.left c.args.source.now) 0) (sym c.new-script.ensures) (Took-none (g.Q.Source.left c.args.source.now));
  ended = λ over. let none : false ≡ true = subst HasEnded c.new-script.ensures over in let f : ⊥ = cc in absurd f;
  open_yet = subst IsOpen (sym c.new-script.ensures) tt;
  given = ap rows_given c.new-script.ensures;
  few = omega arith;
  source = omega arith;
  report = omega arith;
}

pub returns-in_err-run_row-in-Ok-Some-clause-front : goal.returns-in_err-run_row-in-Ok-Some-clause-front
returns-in_err-run_row-in-Ok-Some-clause-front g c = λ s e.
    let is = c.loop-row.invariant in
    let told = is.told s e in
    let row = c.in-Ok-Some.row in
    let next = row_known c.loop-row.script c.next_row.new.self _ _ _ is.open_yet c.next_row.ensures.next told.0 told.1 row (c.in-Ok-Some.is ∙ ap Ok c.in-Ok-Some.field-0-is) in
    let off = c.in_err-run_row-in-Ok-Some.ensures.err in
    at_err c.from_residual.result (
      told.3 ++ off.0,
      inl (broke_off c.args.machine.now c.loop-row.machine (rows s).rows c.loop-row.rows told.3 told.0 next.0 row told.4 next.2 off.0 off.1),
      Wrote-failed _ _ _ _ _ off.0 told.5 off.2,
    )

pub loop-row-preserved : goal.loop-row-preserved
loop-row-preserved g c =
    let is = c.loop-row.invariant in
    let row = c.in-Ok-Some.row in
    let same = c.in-Ok-Some.is ∙ ap Ok c.in-Ok-Some.field-0-is in
    let given = gives_row c.loop-row.script c.next_row.new.self _ _ _ is.open_yet c.next_row.ensures.next row same in
    record {
      told = λ s e.
          let told = is.told s e in
          let next = row_known c.loop-row.script c.next_row.new.self _ _ _ is.open_yet c.next_row.ensures.next told.0 told.1 row same in
          let ran = c.in_ok-run_row-in-Ok-Some.ensures.ok in (
            next.0,
            next.1,
            sym (ap (λ (l : Listing). l.end) next.2) ∙ told.2,
            told.3 ++ ran.0,
            one_more_ran c.args.machine.now c.loop-row.machine (rows s).rows c.loop-row.rows told.3 told.0 next.0 row told.4 next.2 c.run_row.new.machine ran.0 ran.1,
            Wrote-then _ _ _ _ _ ran.0 _ told.5 ran.2,
          );
      took = Took-row c.loop-row.script c.next_row.new.self _ _ _ c.loop-row.rows is.took is.open_yet row
          (subst (TakesFew c.loop-row.script (g.Q.Source.left c.loop-row.source) c.next_row.new.self (g.Q.Source.left c.next_row.new.source)) same c.next_row.ensures.few)
          (λ ended. subst (λ r. OnOk r (HasEnded c.next_row.new.self)) same (c.next_row.ensures.over ended).2);
      ended = at_end g.Q.Source.left c.next_row.ensures.end (λ over. (c.next_row.ensures.over over).0) is.ended;
      open_yet = c.in-Ok-Some.ensures.open;
      given = given.given ∙ ap (λ n. n + 1) is.given;
      few = let few = given.few in let same = given.given in let before = is.given in omega (arith, few, same, before);
      source = let before = is.source in let later = c.next_row.ensures.later in omega (arith, before, later);
      report = let before = is.report in let later = c.run_row.ensures.later in omega (arith, before, later);
    }

-- ---- ends

pub returns-in-Ok-None-clause-done : goal.returns-in-Ok-None-clause-done
returns-in-Ok-None-clause-done g c done =
    at_end g.Q.Source.left c.next_row.ensures.end (λ over. (c.next_row.ensures.over over).0) c.loop-row.invariant.ended (c.next_row.ensures.done (c.in-Ok-None.is ∙ ap Ok c.in-Ok-None.field-0-is))

-- the end that is met tells the status
ended : (r : Result Status Fault) (st : Status) (e whole : End) → IfOk r (λ x. x ≡ st) → st ≡ status_of e → e ≡ whole → IfOk r (λ x. x ≡ status_of whole)
ended (Ok x) st e whole h of_end same = h ∙ of_end ∙ ap status_of same
ended (Err f) st e whole h of_end same = tt

-- what the last line leaves of a report
module _ (m m' : MachineViews) (l rest : Listing) (e : End) (by_limit : Bool) (count : ℕ) (text : List ℕ) (ran : RowsRan m m' l.rows rest.rows count text) (none : rest ≡ no_rows e by_limit) (same : rest.end ≡ l.end)
    (old mid now : Option (List ℕ)) (gathered : List ℕ) (wrote : Wrote old mid text gathered) (r : Result Status Fault)
  where
    pub last_told : OnOk r (Appends mid now (gathered ++ closing e)) → OnOk r ((text : List ℕ) × Reports m l text × Appends old now text)
    last_told put = on_ok r (λ p. (text ++ closing e, all_ran m m' l rest e by_limit count text ran none same, Wrote-last old mid now text gathered (closing e) wrote p)) put

    pub last_front : OnErr r (AppendsFront mid now (gathered ++ closing e)) → OnErr r ((text : List ℕ) × ReportsUpTo m l text × AppendsFront old now text)
    last_front put = on_err r (λ p. (text ++ closing e, inr (all_ran m m' l rest e by_limit count text ran none same), Wrote-failed old mid now text gathered (closing e) wrote p)) put

pub returns-in-Ok-None-clause-told : goal.returns-in-Ok-None-clause-told
returns-in-Ok-None-clause-told g c = λ s e.
    let is = c.loop-row.invariant in
    let told = is.told s e in
    let end = end_known c.loop-row.script c.next_row.new.self _ _ _ is.open_yet c.next_row.ensures.next told.0 told.1 (c.in-Ok-None.is ∙ ap Ok c.in-Ok-None.field-0-is) in
    last_told c.args.machine.now c.loop-row.machine (rows s) told.0 (Whole c.loop-row.rows) false c.loop-row.rows told.3 told.4 (end ∙ ap (λ n. no_rows (Whole n) false) is.given) told.2 _ _ _ c.loop-row.gathered told.5 c.put_last_line.result c.put_last_line.ensures.writes.ok

pub returns-in-Ok-None-clause-front : goal.returns-in-Ok-None-clause-front
returns-in-Ok-None-clause-front g c = λ s e.
    let is = c.loop-row.invariant in
    let told = is.told s e in
    let end = end_known c.loop-row.script c.next_row.new.self _ _ _ is.open_yet c.next_row.ensures.next told.0 told.1 (c.in-Ok-None.is ∙ ap Ok c.in-Ok-None.field-0-is) in
    last_front c.args.machine.now c.loop-row.machine (rows s) told.0 (Whole c.loop-row.rows) false c.loop-row.rows told.3 told.4 (end ∙ ap (λ n. no_rows (Whole n) false) is.given) told.2 _ _ _ c.loop-row.gathered told.5 c.put_last_line.result c.put_last_line.ensures.writes.err

pub returns-in-Ok-None-clause-status : goal.returns-in-Ok-None-clause-status
returns-in-Ok-None-clause-status g c = λ s e.
    let is = c.loop-row.invariant in
    let told = is.told s e in
    let end = end_known c.loop-row.script c.next_row.new.self _ _ _ is.open_yet c.next_row.ensures.next told.0 told.1 (c.in-Ok-None.is ∙ ap Ok c.in-Ok-None.field-0-is) in
    ended c.put_last_line.result status.Done (Whole (rows_given c.loop-row.script)) _ c.put_last_line.ensures.status refl (sym (ap (λ (l : Listing). l.end) end) ∙ told.2)

pub returns-in-Err-Row-clause-told : goal.returns-in-Err-Row-clause-told
returns-in-Err-Row-clause-told g c = λ s e.
    let is = c.loop-row.invariant in
    let told = is.told s e in
    let n = c.in-Err-Row.n in
    let end = bad_known c.loop-row.script c.next_row.new.self _ _ _ is.open_yet c.next_row.ensures.next told.0 told.1 n (c.in-Err-Row.is ∙ ap Err c.in-Err-Row.field-0-is) in
    last_told c.args.machine.now c.loop-row.machine (rows s) told.0 (Bad n) false c.loop-row.rows told.3 told.4 end told.2 _ _ _ c.loop-row.gathered told.5 c.put_last_line-in-Err-Row.result c.put_last_line-in-Err-Row.ensures.writes.ok

pub returns-in-Err-Row-clause-front : goal.returns-in-Err-Row-clause-front
returns-in-Err-Row-clause-front g c = λ s e.
    let is = c.loop-row.invariant in
    let told = is.told s e in
    let n = c.in-Err-Row.n in
    let end = bad_known c.loop-row.script c.next_row.new.self _ _ _ is.open_yet c.next_row.ensures.next told.0 told.1 n (c.in-Err-Row.is ∙ ap Err c.in-Err-Row.field-0-is) in
    last_front c.args.machine.now c.loop-row.machine (rows s) told.0 (Bad n) false c.loop-row.rows told.3 told.4 end told.2 _ _ _ c.loop-row.gathered told.5 c.put_last_line-in-Err-Row.result c.put_last_line-in-Err-Row.ensures.writes.err

pub returns-in-Err-Row-clause-status : goal.returns-in-Err-Row-clause-status
returns-in-Err-Row-clause-status g c = λ s e.
    let is = c.loop-row.invariant in
    let told = is.told s e in
    let n = c.in-Err-Row.n in
    let end = bad_known c.loop-row.script c.next_row.new.self _ _ _ is.open_yet c.next_row.ensures.next told.0 told.1 n (c.in-Err-Row.is ∙ ap Err c.in-Err-Row.field-0-is) in
    ended c.put_last_line-in-Err-Row.result status.ScriptRefused (Bad n) _ c.put_last_line-in-Err-Row.ensures.status refl (sym (ap (λ (l : Listing). l.end) end) ∙ told.2)

pub returns-in-Err-TooMany-clause-told : goal.returns-in-Err-TooMany-clause-told
returns-in-Err-TooMany-clause-told g c = λ s e.
    let is = c.loop-row.invariant in
    let told = is.told s e in
    let n = c.in-Err-TooMany.n in
    let end = many_known c.loop-row.script c.next_row.new.self _ _ _ is.open_yet c.next_row.ensures.next told.0 told.1 n (c.in-Err-TooMany.is ∙ ap Err c.in-Err-TooMany.field-0-is) in
    last_told c.args.machine.now c.loop-row.machine (rows s) told.0 (Bad n) true c.loop-row.rows told.3 told.4 end told.2 _ _ _ c.loop-row.gathered told.5 c.put_last_line-in-Err-TooMany.result c.put_last_line-in-Err-TooMany.ensures.writes.ok

pub returns-in-Err-TooMany-clause-front : goal.returns-in-Err-TooMany-clause-front
returns-in-Err-TooMany-clause-front g c = λ s e.
    let is = c.loop-row.invariant in
    let told = is.told s e in
    let n = c.in-Err-TooMany.n in
    let end = many_known c.loop-row.script c.next_row.new.self _ _ _ is.open_yet c.next_row.ensures.next told.0 told.1 n (c.in-Err-TooMany.is ∙ ap Err c.in-Err-TooMany.field-0-is) in
    last_front c.args.machine.now c.loop-row.machine (rows s) told.0 (Bad n) true c.loop-row.rows told.3 told.4 end told.2 _ _ _ c.loop-row.gathered told.5 c.put_last_line-in-Err-TooMany.result c.put_last_line-in-Err-TooMany.ensures.writes.err

pub returns-in-Err-TooMany-clause-status : goal.returns-in-Err-TooMany-clause-status
returns-in-Err-TooMany-clause-status g c = λ s e.
    let is = c.loop-row.invariant in
    let told = is.told s e in
    let n = c.in-Err-TooMany.n in
    let end = many_known c.loop-row.script c.next_row.new.self _ _ _ is.open_yet c.next_row.ensures.next told.0 told.1 n (c.in-Err-TooMany.is ∙ ap Err c.in-Err-TooMany.field-0-is) in
    ended c.put_last_line-in-Err-TooMany.result status.ScriptRefused (Bad n) _ c.put_last_line-in-Err-TooMany.ensures.status refl (sym (ap (λ (l : Listing). l.end) end) ∙ told.2)

-- ---- what was gathered is written, and no last line

piece_of : (a b : Option (List ℕ)) (piece gathered : List ℕ) → piece ≡ gathered → Appends a b piece → Appends a b gathered
piece_of a b piece gathered same p = subst (Appends a b) same p

front_of : (a b : Option (List ℕ)) (piece gathered : List ℕ) → piece ≡ gathered → AppendsFront a b piece → AppendsFront a b gathered
front_of a b piece gathered same p = subst (AppendsFront a b) same p

pub returns-in_err-put-in-Err-TooLarge-clause-front : goal.returns-in_err-put-in-Err-TooLarge-clause-front
returns-in_err-put-in-Err-TooLarge-clause-front g c = λ s e.
    let told = c.loop-row.invariant.told s e in
    at_err c.from_residual-in_err-put-in-Err-TooLarge.result (
      told.3,
      inl (so_far c.args.machine.now c.loop-row.machine (rows s).rows c.loop-row.rows told.3 told.0.rows told.4),
      Wrote-part _ _ _ _ _ told.5 (front_of _ _ c.as_slice.result.now c.loop-row.gathered c.as_slice.ensures c.in_err-put-in-Err-TooLarge.ensures.err),
    )

pub returns-in-Err-TooLarge-clause-told : goal.returns-in-Err-TooLarge-clause-told
returns-in-Err-TooLarge-clause-told g c = λ s e.
    let is = c.loop-row.invariant in
    let told = is.told s e in
    let end = large_known c.loop-row.script c.next_row.new.self _ _ _ is.open_yet c.next_row.ensures.next told.0 told.1 (c.in-Err-TooLarge.is ∙ ap Err c.in-Err-TooLarge.field-0-is) in (
      told.3 ++ closing TooLarge,
      all_ran c.args.machine.now c.loop-row.machine (rows s) told.0 TooLarge false c.loop-row.rows told.3 told.4 end told.2,
      subst (Appends (g.R.Sink.written c.args.report.now) _) (sym (append-nil told.3))
          (Wrote-all _ _ _ _ _ told.5 (piece_of _ _ c.as_slice.result.now c.loop-row.gathered c.as_slice.ensures c.in_ok-put-in-Err-TooLarge.ensures.ok)),
    )

pub returns-in-Err-TooLarge-clause-status : goal.returns-in-Err-TooLarge-clause-status
returns-in-Err-TooLarge-clause-status g c = λ s e.
    let is = c.loop-row.invariant in
    let told = is.told s e in
    let end = large_known c.loop-row.script c.next_row.new.self _ _ _ is.open_yet c.next_row.ensures.next told.0 told.1 (c.in-Err-TooLarge.is ∙ ap Err c.in-Err-TooLarge.field-0-is) in
    ap status_of (sym (ap (λ (l : Listing). l.end) end) ∙ told.2)

pub returns-in_err-put-in-Err-Failed-clause-front : goal.returns-in_err-put-in-Err-Failed-clause-front
returns-in_err-put-in-Err-Failed-clause-front g c = λ s e.
    let told = c.loop-row.invariant.told s e in
    at_err c.from_residual-in_err-put-in-Err-Failed.result (
      told.3,
      inl (so_far c.args.machine.now c.loop-row.machine (rows s).rows c.loop-row.rows told.3 told.0.rows told.4),
      Wrote-part _ _ _ _ _ told.5 (front_of _ _ c.as_slice-in-Err-Failed.result.now c.loop-row.gathered c.as_slice-in-Err-Failed.ensures c.in_err-put-in-Err-Failed.ensures.err),
    )

pub returns-in-Err-Failed-clause-front : goal.returns-in-Err-Failed-clause-front
returns-in-Err-Failed-clause-front g c = λ s e.
    let told = c.loop-row.invariant.told s e in (
      told.3,
      inl (so_far c.args.machine.now c.loop-row.machine (rows s).rows c.loop-row.rows told.3 told.0.rows told.4),
      Front-whole _ _ _ (Wrote-all _ _ _ _ _ told.5 (piece_of _ _ c.as_slice-in-Err-Failed.result.now c.loop-row.gathered c.as_slice-in-Err-Failed.ensures c.in_ok-put-in-Err-Failed.ensures.ok)),
    )

pub returns-in-Err-Failed-clause-cut : goal.returns-in-Err-Failed-clause-cut
returns-in-Err-Failed-clause-cut g c = λ s e failed.
    let is = c.loop-row.invariant in
    let told = is.told s e in
    cut_text c.loop-row.script c.next_row.new.self _ _ _ c.loop-row.rows is.took is.open_yet
    (subst (TakesFew c.loop-row.script (g.Q.Source.left c.loop-row.source) c.next_row.new.self (g.Q.Source.left c.next_row.new.source)) (c.in-Err-Failed.is ∙ ap Err c.in-Err-Failed.field-0-is) c.next_row.ensures.few)
    (λ ended. (c.next_row.ensures.over ended).1 (c.in-Err-Failed.is ∙ ap Err c.in-Err-Failed.field-0-is))
    c.args.machine.now c.loop-row.machine s told.0 told.3 told.4
    _ _ _ c.loop-row.gathered c.as_slice-in-Err-Failed.result.now c.as_slice-in-Err-Failed.ensures told.5 c.in_ok-put-in-Err-Failed.ensures.ok

pub returns-in-Err-NoMemory-clause-front : goal.returns-in-Err-NoMemory-clause-front
returns-in-Err-NoMemory-clause-front g c = λ s e.
    let told = c.loop-row.invariant.told s e in
    (told.3, inl (so_far c.args.machine.now c.loop-row.machine (rows s).rows c.loop-row.rows told.3 told.0.rows told.4), Wrote-front _ _ _ _ told.5)
