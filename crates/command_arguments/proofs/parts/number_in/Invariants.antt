use Rattle.std.proofs.Common.{◌≡◌, ◌<◌, ◌^◌, take}
use Rattle.command_arguments.specs.CommandLine.{number_of}
use Rattle.command_arguments.proofs.parts.number_in.Given as goal

abbrev pub invariant-loop-digit : goal.invariant-loop-digit
invariant-loop-digit l = (l.number ≡ number_of (take l.digit-index l.digits)) × (l.number < 10 ^ l.digit-index)
