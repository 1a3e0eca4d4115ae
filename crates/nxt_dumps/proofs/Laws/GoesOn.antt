-- A report that broke off goes on: what was told up to some event is the front of something that all events may tell.
use Rattle.std.proofs.Common.{◌≡◌, ℕ, List, [], ◌∷◌, ◌++◌, refl, sym, ap, ◌∙◌, append_assoc, subst}
use Rattle.std.specs.Prelude.{true, flat_map, Option, Some, None}
use Rattle.nxt_model.specs.declared.event.Event.{Event}
use Rattle.nxt_model.specs.declared.event.Event.TheVariants as events
use Rattle.nxt_model.specs.declared.event.ScriptRow.{ScriptRow}
use Rattle.nxt_model.specs.Program.{State, start}
use Rattle.nxt_model.specs.Step.{step, events_of}
use Rattle.nxt_model.specs.LineText.{lines_text}
use Rattle.nxt_model.specs.Dump.{Mark, mark_of, mark_after, dump_lines}
use Rattle.nxt_model.specs.Report.{Setting, End, closing, IsReport, EventTells, Tells, Told}
use Rattle.nxt_model.proofs.Laws.Reports.{is_plain, plain_tells}
use Rattle.nxt_dumps.specs.Runnable.{IsRunnable}
use Rattle.nxt_dumps.proofs.Going.Kept.{IsKept}
use Rattle.nxt_dumps.proofs.Going.Events.{kept_start, kept_plain, kept_dump, dump_there}

module _ (s : Setting) (r : IsRunnable s) where
  -- what one event tells, with what is kept after it
  abbrev Next : State → Option Mark → Event → Type 0
  Next st mark e = (now : List ℕ) × (next : Option Mark) × EventTells s st mark e now next × IsKept s r (step s.program st e).state next

  next_plain : (st : State) (mark : Option Mark) (e : Event) → is_plain e ≡ true → IsKept s r st mark → Next st mark e
  next_plain st mark e plain k =
      (lines_text (step s.program st e).lines, mark_after s.program s.effort st e mark, plain_tells s st mark e plain, kept_plain s r st mark e plain k)

  next_dump : (st : State) (mark : Option Mark) → IsKept s r st mark → Next st mark events.Dump
  next_dump st mark k =
      let found = dump_there s r st mark k in (
        lines_text (dump_lines found.0),
        Some (mark_of (s.content st) found.0 found.1),
        (found.0, found.1, found.2, refl, refl),
        kept_dump s r st mark found.0 found.1 k found.2,
      )

  next : (st : State) (mark : Option Mark) (e : Event) → IsKept s r st mark → Next st mark e
  next st mark events.Dump k = next_dump st mark k
  next st mark events.Bytecode k = next_plain st mark events.Bytecode refl k
  next st mark (events.Tick n) k = next_plain st mark (events.Tick n) refl k
  next st mark (events.Reading a b c d) k = next_plain st mark (events.Reading a b c d) refl k
  next st mark (events.Tacho a b c d e) k = next_plain st mark (events.Tacho a b c d e) refl k
  next st mark (events.Button a b c) k = next_plain st mark (events.Button a b c) refl k
  next st mark (events.Battery n) k = next_plain st mark (events.Battery n) refl k
  next st mark (events.Random n) k = next_plain st mark (events.Random n) refl k
  next st mark (events.Telegram bytes) k = next_plain st mark (events.Telegram bytes) refl k
  next st mark (events.Compact n) k = next_plain st mark (events.Compact n) refl k

  -- the events tell some text, whatever they are
  pub tells : (es : List Event) (st : State) (mark : Option Mark) → IsKept s r st mark → (text : List ℕ) × Tells s st mark es text
  tells [] st mark k = ([], refl)
  tells (e ∷ es) st mark k =
      let now = next st mark e k in
      let rest = tells es (step s.program st e).state now.1 now.3 in
      (now.0 ++ rest.0, (now.0, rest.0, now.1, refl, now.2, rest.1))

  -- what an event tells keeps it
  tells_kept : (st : State) (mark : Option Mark) (e : Event) (text : List ℕ) (after : Option Mark) → EventTells s st mark e text after → IsKept s r st mark → IsKept s r (step s.program st e).state after
  tells_kept st mark events.Dump text after t k =
      subst (IsKept s r st) (sym t.4) (kept_dump s r st mark t.0 t.1 k t.2)
  tells_kept st mark events.Bytecode text after t k = subst (IsKept s r (step s.program st events.Bytecode).state) (sym t.1) (kept_plain s r st mark events.Bytecode refl k)
  tells_kept st mark (events.Tick n) text after t k = subst (IsKept s r (step s.program st (events.Tick n)).state) (sym t.1) (kept_plain s r st mark (events.Tick n) refl k)
  tells_kept st mark (events.Reading a b c d) text after t k = subst (IsKept s r (step s.program st (events.Reading a b c d)).state) (sym t.1) (kept_plain s r st mark (events.Reading a b c d) refl k)
  tells_kept st mark (events.Tacho a b c d e) text after t k = subst (IsKept s r (step s.program st (events.Tacho a b c d e)).state) (sym t.1) (kept_plain s r st mark (events.Tacho a b c d e) refl k)
  tells_kept st mark (events.Button a b c) text after t k = subst (IsKept s r (step s.program st (events.Button a b c)).state) (sym t.1) (kept_plain s r st mark (events.Button a b c) refl k)
  tells_kept st mark (events.Battery n) text after t k = subst (IsKept s r (step s.program st (events.Battery n)).state) (sym t.1) (kept_plain s r st mark (events.Battery n) refl k)
  tells_kept st mark (events.Random n) text after t k = subst (IsKept s r (step s.program st (events.Random n)).state) (sym t.1) (kept_plain s r st mark (events.Random n) refl k)
  tells_kept st mark (events.Telegram bytes) text after t k = subst (IsKept s r (step s.program st (events.Telegram bytes)).state) (sym t.1) (kept_plain s r st mark (events.Telegram bytes) refl k)
  tells_kept st mark (events.Compact n) text after t k = subst (IsKept s r (step s.program st (events.Compact n)).state) (sym t.1) (kept_plain s r st mark (events.Compact n) refl k)

  told_kept : (es : List Event) (st : State) (mark : Option Mark) (text : List ℕ) (last : State) (over : Option Mark) → Told s st mark es text last over → IsKept s r st mark → IsKept s r last over
  told_kept [] st mark text last over t k = rw (t.1, t.2) k
  told_kept (e ∷ es) st mark text last over t k =
      told_kept es (step s.program st e).state t.2 t.1 last over t.5 (tells_kept st mark e t.0 t.2 t.4 k)

  -- and what later events tell from there
  told_then : (es more : List Event) (st : State) (mark : Option Mark) (text rest : List ℕ) (last : State) (over : Option Mark) → Told s st mark es text last over → Tells s last over more rest → Tells s st mark (es ++ more) (text ++ rest)
  told_then [] more st mark text rest last over t u = rw (t.0, sym t.1, sym t.2) u
  told_then (e ∷ es) more st mark text rest last over t u = (
    t.0,
    t.1 ++ rest,
    t.2,
    ap (λ x. x ++ rest) t.3 ∙ append_assoc t.0 t.1 rest,
    t.4,
    told_then es more (step s.program st e).state t.2 t.1 rest last over t.5 u,
  )

-- so the text so far is the front of a whole one
pub told_goes_on : (s : Setting) → IsRunnable s → (es more : List Event) (text : List ℕ) (st : State) (mark : Option Mark) → Told s (start s.program) None es text st mark
    → (rest : List ℕ) × Tells s (start s.program) None (es ++ more) (text ++ rest)
told_goes_on s r es more text st mark t =
    let k = told_kept s r es (start s.program) None text st mark t (kept_start s r) in
    let found = tells s r more st mark k in
    (found.0, told_then s r es more (start s.program) None text found.0 st mark t found.1)

-- ---- reports

-- what was told up to some event of the rows begins a report on them
pub report_goes_on : (s : Setting) → IsRunnable s → (rows : List ScriptRow) (end : End) (es more : List Event) (text : List ℕ) (st : State) (mark : Option Mark) → flat_map events_of rows ≡ es ++ more
    → Told s (start s.program) None es text st mark → (rest : List ℕ) × IsReport s rows end (text ++ rest)
report_goes_on s r rows end es more text st mark all t =
    let found = told_goes_on s r es more text st mark t in (
      found.0 ++ closing end,
      (
        text ++ found.0,
        subst (λ events. Tells s (start s.program) None events (text ++ found.0)) (sym all) found.1,
        sym (append_assoc text found.0 (closing end)),
      ),
    )

-- and there is always a report
pub some_report : (s : Setting) → IsRunnable s → (rows : List ScriptRow) (end : End) → (text : List ℕ) × IsReport s rows end text
some_report s r rows end = report_goes_on s r rows end [] (flat_map events_of rows) [] (start s.program) None refl (refl, refl, refl)
