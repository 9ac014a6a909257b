use Rattle.std.proofs.Common.{[], refl, arith}
use Rattle.bank_run.specs.declared.inputs.sources.TheConstants.{SETUP_SOURCE, TOTAL_SOURCE, TRANSFER_SOURCE}
use Rattle.bank_run.proofs.inputs.laws.each_source_expands_to_itself.Goals as goal

pub returns-clause-setup : goal.returns-clause-setup
returns-clause-setup c = c.a_plain_source_is_itself.ensures [] SETUP_SOURCE.now refl (omega arith)

pub returns-clause-transfer : goal.returns-clause-transfer
returns-clause-transfer c = c.a_plain_source_is_itself.ensures [] TRANSFER_SOURCE.now refl (omega arith)

pub returns-clause-total : goal.returns-clause-total
returns-clause-total c = c.a_plain_source_is_itself.ensures [] TOTAL_SOURCE.now refl (omega arith)
