-- The NMT commands, by the bytes that document 01 gives them. Assumes nothing.
use Rattle.std.specs.Prelude.{◌≡◌, ◌≢◌, ℕ, Result, MatchResult}
use Rattle.model.specs.Nmt.{start_command, stop_command, pre_operational_command, reset_node_command, reset_communication_command}
use Rattle.nmt.specs.declared.commands.Command.{Command}
use Rattle.nmt.specs.declared.commands.Command.TheVariants.{Start, Stop, PreOperational, ResetNode, ResetCommunication}
use Rattle.nmt.specs.declared.commands.UnknownCommand.{UnknownCommand}

-- the byte of a command
abbrev pub byte_of : Command → ℕ
byte_of Start = start_command
byte_of Stop = stop_command
byte_of PreOperational = pre_operational_command
byte_of ResetNode = reset_node_command
byte_of ResetCommunication = reset_communication_command

-- the result is the command with this byte, or an error where no command has it
abbrev pub Decodes : ℕ → Result Command UnknownCommand → Type 0
Decodes byte r = MatchResult r (λ c. byte_of c ≡ byte) (λ e. byte_of Start ≢ byte × byte_of Stop ≢ byte × byte_of PreOperational ≢ byte × byte_of ResetNode ≢ byte × byte_of ResetCommunication ≢ byte)
