-- Rows without dumps.
use Rattle.std.proofs.Common.{◌≡◌, ◌++◌, ◌∙◌, ℕ, zero, suc, List, [], ◌∷◌, sym, ap}
use Rattle.std.specs.Prelude.{All}
use Rattle.std.proofs.lemmas.List.{append-nil}
use Rattle.std.proofs.lemmas.List.Elements.{All-append, All-cons, All-nil}
use Rattle.nxt_gen.specs.Generator.{generated_rows, repeated_rows, rows_of}
use Rattle.nxt_machine.specs.Dumping.{EventLines}
use Rattle.nxt_machine.specs.Machines.{MachineViews}
use Rattle.nxt_model.specs.declared.event.Event.{Event}
use Rattle.nxt_model.specs.declared.event.Event.TheVariants as events
use Rattle.nxt_model.specs.declared.event.ScriptRow.TheVariants.{Run, One}
use Rattle.nxt_model.specs.declared.line.Line.{Line}
use Rattle.nxt_model.specs.Image.{program_of}
use Rattle.nxt_model.specs.Step.{step}
use Rattle.nxt_tool.specs.Runs.{HasRun, IsPlain}

-- an event other than a dump gives the lines of its step
plain_lines : (m : MachineViews) (e : Event) (ls : List Line) → IsPlain (One e) → EventLines m e ls → ls ≡ (step (program_of m.image) m.state e).lines
plain_lines m events.Dump ls plain lines = absurd plain
plain_lines m events.Bytecode ls plain lines = lines
plain_lines m e ls plain lines = lines

pub one_event : (m m' : MachineViews) (e : Event) (before after ls : List Line) → IsPlain (One e) → m'.image ≡ m.image → m'.state ≡ (step (program_of m.image) m.state e).state → EventLines m e ls → after ≡ before ++ ls
    → HasRun m m' (e ∷ []) before after
one_event m m' e before after ls plain image state lines is = record {
  image = image;
  state = state;
  lines = is ∙ ap (λ l. before ++ l) (plain_lines m e ls plain lines ∙ sym (append-nil (step (program_of m.image) m.state e).lines));
}

-- ---- the rows of a generated script

plain_repeated : (n : ℕ) → All IsPlain (repeated_rows n)
plain_repeated zero = All-nil IsPlain
plain_repeated (suc n) = All-cons IsPlain (Run 6) (One (events.Compact 1) ∷ repeated_rows n) tt (All-cons IsPlain (One (events.Compact 1)) (repeated_rows n) tt (plain_repeated n))

plain_of : (n : ℕ) → All IsPlain (rows_of n)
plain_of n = All-append IsPlain (repeated_rows n) (Run 2 ∷ []) (plain_repeated n) (All-cons IsPlain (Run 2) [] tt (All-nil IsPlain))

pub rows_plain : All IsPlain generated_rows
unfolding generated_rows
rows_plain = plain_of 200
