-- Programs that are run, by how they are written.
use Rattle.std.specs.Prelude.{ℕ, List}
use Rattle.nxt_model.specs.Image.{Image}
use Rattle.nxt_tool.specs.Accepted.{HasCause, IsAcceptedAs}
use Rattle.nxt_tool.specs.Assembling.{HasTextCause, IsTextImage}
use Rattle.nxt_tool.specs.declared.fault.AcceptFault.{AcceptFault}
use Rattle.nxt_tool.specs.declared.words.Language.{Language}
use Rattle.nxt_tool.specs.declared.words.Language.TheVariants.{Rxe, Nbc}

-- the program is accepted, with this image
abbrev pub IsProgramOf : Language → List ℕ → Image → Type 0
IsProgramOf Rxe program image = IsAcceptedAs program image
IsProgramOf Nbc program image = IsTextImage program image

-- a refusal has its cause; want of memory is free
abbrev pub HasProgramCause : Language → List ℕ → AcceptFault → Type 0
HasProgramCause Rxe program fault = HasCause program fault
HasProgramCause Nbc program fault = HasTextCause program fault
