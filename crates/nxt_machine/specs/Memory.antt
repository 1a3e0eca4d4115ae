-- When an event takes no host memory.
use Rattle.std.specs.Prelude.{◌≡◌, ℕ, Bool, true, false, ◌&&◌, ◌||◌, List, [], ◌∷◌, Option, None, Some}
use Rattle.std.specs.List.{list_all}
use Rattle.nxt_types.specs.declared.instr.Op.{Op}
use Rattle.nxt_types.specs.declared.instr.Op.TheVariants as ops
use Rattle.nxt_model.specs.Image.{program_of}
use Rattle.nxt_model.specs.Means.Effects.{Operand}
use Rattle.nxt_model.specs.Program.{Program, State}
use Rattle.nxt_model.specs.Step.{Running, next_running, bytecode}
use Rattle.nxt_model.specs.declared.event.Event.{Event}
use Rattle.nxt_model.specs.declared.event.Event.TheVariants as events
use Rattle.nxt_ops.specs.Ops.{runs as computes}
use Rattle.nxt_ops.specs.Preparing.{is_a_number}
use Rattle.nxt_machine.specs.Machines.{MachineViews}

-- statements on motors, sensors and the clock, a rest and the program's end
abbrev pub is_of_devices : Op → Bool
is_of_devices ops.Setout = true
is_of_devices ops.Setin = true
is_of_devices ops.Getin = true
is_of_devices ops.Getout = true
is_of_devices ops.Gettick = true
is_of_devices ops.Wait = true
is_of_devices ops.Stop = true
is_of_devices _ = false

-- a statement works on numbers alone: it computes, or is one of those, and its operands are numbers
abbrev pub works_on_numbers : Op → List Operand → Bool
works_on_numbers op os = (computes op || is_of_devices op) && list_all is_a_number os

abbrev pub on_numbers_if : Option Running → Bool
on_numbers_if None = true
on_numbers_if (Some r) = works_on_numbers r.instruction.op r.operands

abbrev pub head_on_numbers : Program → State → List ℕ → Bool
head_on_numbers p st [] = true
head_on_numbers p st (h ∷ hs) = on_numbers_if (next_running p st h)

-- what the next bytecode runs works on numbers alone, and the bytecode tells nothing
pub record RunsOnNumbers (p : Program) (st : State) : Type 0 where
  pub numbers : head_on_numbers p st st.clumps.queue ≡ true
  pub silent : (bytecode p st).lines ≡ []

-- the event takes no host memory: such a bytecode, time, what comes from a device, and compactions
abbrev pub TakesNone : MachineViews → Event → Type 0
TakesNone m events.Bytecode = RunsOnNumbers (program_of m.image) m.state
TakesNone m (events.Telegram bytes) = ⊥
TakesNone m events.Dump = ⊥
TakesNone m _ = Unit {0}
