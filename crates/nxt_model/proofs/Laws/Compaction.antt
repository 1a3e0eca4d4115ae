-- Compaction between any two bytecodes changes nothing but dumps.
use Rattle.std.proofs.Common.{◌≡◌, ℕ, List, [], ◌∷◌, ◌++◌, Option, None, refl, sym, ap, subst, ◌∙◌}
use Rattle.nxt_model.specs.declared.event.Event.{Event}
use Rattle.nxt_model.specs.declared.event.Event.TheVariants as events
use Rattle.nxt_model.specs.Compaction.{ChangesDumpsAlone, CompactionChangesDumpsAlone, SameButDumps, without_compactions}
use Rattle.nxt_model.specs.Dump.{Content, Dump, Mark, dump_lines}
use Rattle.nxt_model.specs.Image.{program_of}
use Rattle.nxt_model.specs.LineText.{lines_text}
use Rattle.nxt_model.specs.Program.{Program, State, start}
use Rattle.nxt_model.specs.Report.{Tells, content_of, text_content}
use Rattle.nxt_model.specs.Step.{run, step}
use Rattle.nxt_model.specs.TextProgram as text

module _ (p : Program) where
  -- a text that events without a compaction may give, whatever the dumps show
  abbrev Speaks : List Event → State → List ℕ → Type 0
  Speaks [] st text = text ≡ []
  Speaks (events.Dump ∷ es) st text = (d : Dump) × (rest : List ℕ) × (text ≡ lines_text (dump_lines d) ++ rest) × Speaks es st rest
  Speaks (e ∷ es) st text = (rest : List ℕ) × (text ≡ lines_text (step p st e).lines ++ rest) × Speaks es (step p st e).state rest

  both_speak : (es : List Event) (st : State) (a b : List ℕ) → Speaks es st a → Speaks es st b → SameButDumps es a b
  both_speak [] st a b s t = (s, t)
  both_speak (events.Dump ∷ es) st a b s t = (s.0, t.0, s.1, t.1, s.2, t.2, both_speak es st s.1 t.1 s.3 t.3)
  both_speak (e ∷ es) st a b s t = (lines_text (step p st e).lines, s.0, t.0, s.1, t.1, both_speak es (step p st e).state s.0 t.0 s.2 t.2)

  speaks : (effort : ℕ) (content : State → Content) (es : List Event) (st : State) (mark : Option Mark) (text : List ℕ)
      → Tells (record { program = p; effort = effort; content = content }) st mark es text → Speaks (without_compactions es) st text
  speaks effort content [] st mark text t = t
  speaks effort content (events.Compact k ∷ es) st mark text t =
      subst (Speaks (without_compactions es) st) (sym (t.3 ∙ ap (λ now. now ++ t.1) t.4.0)) (speaks effort content es st t.2 t.1 t.5)
  speaks effort content (events.Dump ∷ es) st mark text t = (t.4.0, t.1, t.3 ∙ ap (λ now. now ++ t.1) t.4.3, speaks effort content es st t.2 t.1 t.5)
  speaks effort content (e ∷ es) st mark text t = (t.1, t.3 ∙ ap (λ now. now ++ t.1) t.4.0, speaks effort content es (step p st e).state t.2 t.1 t.5)

  -- a compaction leaves the state as it is
  same_ends : (es : List Event) (st : State) → (run p es st).state ≡ (run p (without_compactions es) st).state
  same_ends [] st = refl
  same_ends (events.Compact k ∷ es) st = same_ends es st
  same_ends (e ∷ es) st = same_ends es (step p st e).state

  changes_dumps_alone : (content : State → Content) → ChangesDumpsAlone p content
  changes_dumps_alone content es fs effort other a b same s t =
      let first = start p in (
        both_speak (without_compactions es) first a b
            (speaks effort content es first None a s)
            (subst (λ xs. Speaks xs first b) (sym same) (speaks other content fs first None b t)),
        ap (λ (st : State). st.stopped) (same_ends es first ∙ ap (λ xs. (run p xs first).state) same ∙ sym (same_ends fs first)),
      )

pub compaction_changes_dumps_alone : CompactionChangesDumpsAlone
compaction_changes_dumps_alone = record {
  images = λ i. changes_dumps_alone (program_of i) (content_of i);
  texts = λ t. changes_dumps_alone (text.program_of t) (text_content t);
}
