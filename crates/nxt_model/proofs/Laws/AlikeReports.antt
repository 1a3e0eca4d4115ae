-- Two programs whose statements do the same tell the same, dumps and all.
use Rattle.std.proofs.Common.{◌≡◌, ℕ, ◌+◌, List, [], ◌∷◌, length, Option, Some, None, refl, ap, subst, ◌∙◌}
use Rattle.std.specs.Prelude.{Bool, true, false, ◌&&◌, ◌||◌, ◌==◌, if◌then◌else◌, nat_le, not, option_map}
use Rattle.std.specs.List.{list_all}
use Rattle.nxt_types.specs.Shapes.{has_list, is_number, is_numbers}
use Rattle.nxt_model.specs.declared.event.Event.{Event}
use Rattle.nxt_model.specs.declared.event.Event.TheVariants as events
use Rattle.nxt_model.specs.Values.{Value, elements}
use Rattle.nxt_model.specs.Reading.{HeldList}
use Rattle.nxt_model.specs.Clumps.{clump}
use Rattle.nxt_model.specs.Program.{Instruction, Program, State, start, is_active, clock_of}
use Rattle.nxt_model.specs.Step.{Stepped, running, step}
use Rattle.nxt_model.specs.Dump.{Dump, Content, Mark, Written, dump_lines, ends_turn, is_quiet, is_standing, mark_after, mark_of, runs, written, written_by_head, written_by_running}
use Rattle.nxt_model.specs.LineText.{lines_text}
use Rattle.nxt_model.specs.Report.{EventTells, IsDump, Setting, Tells}
use Rattle.nxt_model.specs.SameRuns.{MayTell}
use Rattle.nxt_model.proofs.Laws.Alike.{Extends, SameIf, big, start_big, step_big, step_fine}

module _ (Fine : Value → Type 0) (more : Value → Value) (p q : Program) (x : Extends Fine more p q) where
  -- a state with more values
  abbrev large : State → State
  large st = big Fine more st

  -- ---- what is written

  running_written : (st : State) (w : Value) (h place : ℕ) (o o' : Option Instruction) → Fine st.values → Fine w → SameIf Fine more o o'
      → written_by_running (large st) (more w) (option_map (running (large st) h place) o') ≡ written_by_running st w (option_map (running st h place) o)
  running_written st w h place None None a b s = refl
  running_written st w h place (Some i) (Some j) a b s = s.written st.values w a b st.devices (clock_of st) h
  running_written st w h place None (Some j) a b s = absurd s
  running_written st w h place (Some i) None a b s = absurd s

  head_written : (hs : List ℕ) (st : State) (w : Value) → Fine st.values → Fine w → written_by_head q (large st) (more w) hs ≡ written_by_head p st w hs
  head_written [] st w a b = refl
  head_written (h ∷ hs) st w a b = running_written st w h _ _ _ a b (x.code (clump st.clumps h).place)

  -- both write the same
  written_same : (st : State) → Fine st.values → written q (large st) ≡ written p st
  written_same st a = by_test (is_active st)
    where
      both : written_by_head q (large st) (step q (large st) events.Bytecode).state.values st.clumps.queue ≡ written_by_head p st (step p st events.Bytecode).state.values st.clumps.queue
      both =
          ap (λ (s : Stepped). written_by_head q (large st) s.state.values st.clumps.queue) (step_big Fine more p q x st events.Bytecode a)
          ∙ head_written st.clumps.queue st (step p st events.Bytecode).state.values a (step_fine Fine more p q x st events.Bytecode a)

      by_test : (b : Bool) → (if b then written_by_head q (large st) (step q (large st) events.Bytecode).state.values st.clumps.queue else [])
          ≡ (if b then written_by_head p st (step p st events.Bytecode).state.values st.clumps.queue else [])
      by_test true = both
      by_test false = refl

  -- ---- marks

  turn_same : (st : State) → Fine st.values → ends_turn q (large st) ≡ ends_turn p st
  turn_same st a = ap (λ (s : Stepped). runs st && s.state.clumps.turn == 0) (step_big Fine more p q x st events.Bytecode a)

  quiet_same : (st : State) → Fine st.values → is_quiet q (large st) ≡ is_quiet p st
  quiet_same st a =
      ap (λ (s : Stepped). (not (is_active st) || is_active s.state) && list_all (λ (w : Written). not (has_list w.shape)) (written q (large st))) (step_big Fine more p q x st events.Bytecode a)
      ∙ ap (λ ws. (not (is_active st) || is_active (step p st events.Bytecode).state) && list_all (λ (w : Written). not (has_list w.shape)) ws) (written_same st a)

  standing_same : (st : State) → Fine st.values → is_standing q (large st) ≡ is_standing p st
  standing_same st a =
      ap (λ ws. list_all (λ (w : Written). is_number w.shape || is_numbers w.shape && nat_le (length (elements w.after)) (length (elements w.before))) ws) (written_same st a)

  -- the mark after a bytecode, by what is known of it
  abbrev mark_by : ℕ → Mark → Bool → Bool → Bool → Option Mark
  mark_by effort k turn quiet standing =
      Some (record {
        unsettled = k.unsettled;
        places = k.places;
        settled = if turn then k.settled + effort else k.settled;
        quiet = k.quiet && quiet;
        standing = k.standing && standing;
      })

  mark_same : (effort : ℕ) (st : State) (e : Event) (mark : Option Mark) → Fine st.values → mark_after q effort (large st) e mark ≡ mark_after p effort st e mark
  mark_same effort st e None a = refl
  mark_same effort st events.Bytecode (Some k) a =
      ap (λ b. mark_by effort k b (is_quiet q (large st)) (is_standing q (large st))) (turn_same st a)
      ∙ ap (λ b. mark_by effort k (ends_turn p st) b (is_standing q (large st))) (quiet_same st a)
      ∙ ap (λ b. mark_by effort k (ends_turn p st) (is_quiet p st) b) (standing_same st a)
  mark_same effort st (events.Compact n) (Some k) a = refl
  mark_same effort st (events.Telegram bytes) (Some k) a = refl
  mark_same effort st _ (Some k) a = refl

  -- ---- reports

  module _ (effort : ℕ) (content content' : State → Content) (same : (st : State) → Fine st.values → content' (large st) ≡ content st) where
    abbrev first : Setting
    first = record { program = p; effort = effort; content = content }

    abbrev second : Setting
    second = record { program = q; effort = effort; content = content' }

    event_told : (e : Event) (st : State) (mark next : Option Mark) (text : List ℕ) → Fine st.values → EventTells second (large st) mark e text next → EventTells first st mark e text next
    event_told events.Dump st mark next text a t =
        subst (λ c. (d : Dump) × (lists : List HeldList) × IsDump c mark d lists × (text ≡ lines_text (dump_lines d)) × (next ≡ Some (mark_of c d lists))) (same st a) t
    event_told events.Bytecode st mark next text a t = (
      t.0 ∙ ap (λ (s : Stepped). lines_text s.lines) (step_big Fine more p q x st events.Bytecode a),
      t.1 ∙ mark_same effort st events.Bytecode mark a,
    )
    event_told e st mark next text a t = (
      t.0 ∙ ap (λ (s : Stepped). lines_text s.lines) (step_big Fine more p q x st e a),
      t.1 ∙ mark_same effort st e mark a,
    )

    told_on : (es : List Event) (st : State) (mark : Option Mark) (text : List ℕ) → Fine st.values → Tells second (large st) mark es text → Tells first st mark es text
    told_on [] st mark text a t = t
    told_on (e ∷ es) st mark text a t = (
      t.0,
      t.1,
      t.2,
      t.3,
      event_told e st mark t.2 t.0 a t.4,
      told_on es (step p st e).state t.2 t.1 (step_fine Fine more p q x st e a)
          (subst (λ (s : Stepped). Tells second s.state t.2 es t.1) (step_big Fine more p q x st e a) t.5),
    )

    -- what the second program may tell, dumps and all, the first may tell
    pub may_tell : MayTell first second
    may_tell es text t = told_on es (start p) None text x.fine (subst (λ st. Tells second st None es text) (start_big Fine more p q x) t)
