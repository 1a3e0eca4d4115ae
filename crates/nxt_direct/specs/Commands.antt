-- The program's commands, as the definitions name them.
use Rattle.nxt_direct.specs.declared.command.Command.{Command as ProgramCommand}
use Rattle.nxt_direct.specs.declared.command.Command.TheVariants as commands
use Rattle.nxt_model.specs.DirectCommands.{Command, StartProgram, StopProgram, PlayTone, SetOutput, SetInput, GetOutput, GetInput, ResetScaled, WriteMessage, ResetMotor, GetBattery, StopSound, KeepAlive, ProgramName, ReadMessage}

abbrev pub command_meant : ProgramCommand → Command
command_meant commands.StartProgram = StartProgram
command_meant commands.StopProgram = StopProgram
command_meant commands.PlayTone = PlayTone
command_meant commands.SetOutput = SetOutput
command_meant commands.SetInput = SetInput
command_meant commands.GetOutput = GetOutput
command_meant commands.GetInput = GetInput
command_meant commands.ResetScaled = ResetScaled
command_meant commands.WriteMessage = WriteMessage
command_meant commands.ResetMotor = ResetMotor
command_meant commands.GetBattery = GetBattery
command_meant commands.StopSound = StopSound
command_meant commands.KeepAlive = KeepAlive
command_meant commands.ProgramName = ProgramName
command_meant commands.ReadMessage = ReadMessage
