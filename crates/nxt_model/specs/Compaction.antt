-- Compaction between any two bytecodes changes nothing but dumps.
use Rattle.std.specs.Prelude.{◌≡◌, ℕ, List, [], ◌∷◌, ◌++◌, None}
use Rattle.nxt_model.specs.declared.event.Event.{Event}
use Rattle.nxt_model.specs.declared.event.Event.TheVariants as events
use Rattle.nxt_model.specs.Dump.{Content, Dump, dump_lines}
use Rattle.nxt_model.specs.Image.{Image, program_of}
use Rattle.nxt_model.specs.LineText.{lines_text}
use Rattle.nxt_model.specs.Program.{Program, State, start}
use Rattle.nxt_model.specs.Report.{Tells, content_of, text_content}
use Rattle.nxt_model.specs.Step.{run}
use Rattle.nxt_model.specs.TextProgram as text

-- the other events
abbrev pub without_compactions : List Event → List Event
without_compactions [] = []
without_compactions (events.Compact k ∷ es) = without_compactions es
without_compactions (e ∷ es) = e ∷ without_compactions es

-- both texts tell the same of each event that is no dump, and a dump of each that is one
abbrev pub SameButDumps : List Event → List ℕ → List ℕ → Type 0
SameButDumps [] one other = (one ≡ []) × (other ≡ [])
SameButDumps (events.Dump ∷ es) one other =
    (d e : Dump)
    × (rest rest' : List ℕ)
    × (one ≡ lines_text (dump_lines d) ++ rest)
    × (other ≡ lines_text (dump_lines e) ++ rest')
    × SameButDumps es rest rest'
SameButDumps (e ∷ es) one other =
    (now rest rest' : List ℕ) × (one ≡ now ++ rest) × (other ≡ now ++ rest') × SameButDumps es rest rest'

-- with events that differ in compactions alone, and any two efforts, a program tells the same but for dumps, and stops alike
abbrev pub ChangesDumpsAlone : Program → (State → Content) → Type 0
ChangesDumpsAlone p content =
    (es fs : List Event) (effort other : ℕ) (a b : List ℕ)
    → without_compactions es ≡ without_compactions fs
    → Tells (record { program = p; effort = effort; content = content }) (start p) None es a
    → Tells (record { program = p; effort = other; content = content }) (start p) None fs b
    → SameButDumps (without_compactions es) a b × ((run p es (start p)).state.stopped ≡ (run p fs (start p)).state.stopped)

-- so it is of every image and of every text
pub record CompactionChangesDumpsAlone : Type 0 where
  pub images : (i : Image) → ChangesDumpsAlone (program_of i) (content_of i)
  pub texts : (t : text.Text) → ChangesDumpsAlone (text.program_of t) (text_content t)
