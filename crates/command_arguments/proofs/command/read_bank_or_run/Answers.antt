-- Where the first argument is `bank`, the wrong one is that of a bank, else that of a run.
use Rattle.command_arguments.proofs.Words.{wrong_bank, wrong_run}
use Rattle.command_arguments.proofs.command.read_bank_or_run.Goals as goal

pub returns-in-Err-clause-wrong : goal.returns-in-Err-clause-wrong
returns-in-Err-clause-wrong c = wrong_bank c.args.arguments.now _ c.in-Err.ensures.wrong _ c.in-Some.ensures.some

pub returns-in-Err-read_run-clause-wrong : goal.returns-in-Err-read_run-clause-wrong
returns-in-Err-read_run-clause-wrong c = wrong_run c.args.arguments.now c.in-Err-read_run.argument c.in-Err-read_run.ensures.wrong c.requires.check c.requires.create c.requires.dump c.in-None.ensures.none
