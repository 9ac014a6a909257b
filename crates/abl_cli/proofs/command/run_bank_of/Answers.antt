-- The bank that was read is the one that the arguments name.
use Rattle.std.proofs.Common.{subst}
use Rattle.bank_run.specs.declared.inputs.bank.Bank.{Bank}
use Rattle.bank_run.specs.Result.{BankResult}
use Rattle.run_works.specs.Disks.{state_of}
use Rattle.abl_cli.specs.Command.{Banked}
use Rattle.abl_cli.proofs.Banks.{in_bounds, same_bank}
use Rattle.abl_cli.proofs.command.run_bank_of.Goals as goal

pub run_bank-requires : goal.run_bank-requires
run_bank-requires g c = (c.type_bounds.send-D, (c.type_bounds.sync-R, (c.type_bounds.sync-G, in_bounds c.args.arguments.now c.args.read c.requires)))

pub returns-clause-did : goal.returns-clause-did
returns-clause-did g c = λ files faults.
    Banked c.requires.bank c.requires.is_bank c.requires.arguments_are
    (subst (λ (bank : Bank). BankResult bank (state_of g.D.Disk) c.args.disk (g.O.Out.state c.args.out.now) (g.O.Out.state c.run_bank.new.out) c.run_bank.result) (same_bank c.args.arguments.now c.args.read c.requires) c.run_bank.ensures.did)
