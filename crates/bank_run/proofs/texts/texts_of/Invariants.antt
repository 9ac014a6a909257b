use Rattle.std.proofs.Common.{◌≡◌, ◌∷◌}
use Rattle.bank_run.specs.declared.inputs.sources.TheConstants.{SETUP_SOURCE}
use Rattle.bank_run.specs.inputs.Bank.{setup_input}
use Rattle.bank_run.specs.Texts.{transfer_texts, with_input}
use Rattle.bank_run.proofs.texts.texts_of.Given as goal

-- the clients so far
abbrev pub invariant-loop-client : goal.invariant-loop-client
invariant-loop-client l = l.texts.items ≡ with_input SETUP_SOURCE.now (setup_input l.fn.bank.accounts) ∷ transfer_texts l.fn.bank l.client
