-- The bytes of the statuses that refuse a command.
use Rattle.std.specs.Prelude.{ℕ}
use Rattle.nxt_direct.specs.declared.status.Status.{Status}
use Rattle.nxt_direct.specs.declared.status.Status.TheVariants.{MailboxEmpty, RequestFailed, UnknownCommand, InsanePacket, OutOfRange, NoActiveProgram, IllegalSize, IllegalMailbox, BadPort, BadArguments}

abbrev pub status_number : Status → ℕ
status_number MailboxEmpty = 0x40
status_number RequestFailed = 0xBD
status_number UnknownCommand = 0xBE
status_number InsanePacket = 0xBF
status_number OutOfRange = 0xC0
status_number NoActiveProgram = 0xEC
status_number IllegalSize = 0xED
status_number IllegalMailbox = 0xEE
status_number BadPort = 0xF0
status_number BadArguments = 0xFF
