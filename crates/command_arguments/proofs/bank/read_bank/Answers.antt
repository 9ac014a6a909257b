-- The first argument that does not fit its place is the wrong one, or the sixth.
use Rattle.std.proofs.Common.{◌≡◌, ◌∙◌, List, ℕ, ap, get_or}
use Rattle.command_arguments.specs.CommandLine.{number_of}
use Rattle.command_arguments.proofs.BankForms.{Numbered, bank_with, is_bank_with, numbered, wrong_in_bank, wrong_sixth}
use Rattle.command_arguments.proofs.bank.read_bank.Goals as goal

pub returns-then-misfit-lt5-clause-wrong : goal.returns-then-misfit-lt5-clause-wrong
returns-then-misfit-lt5-clause-wrong c =
    wrong_in_bank c.args.arguments.now c.first_misfit-misfit.result c.first_misfit-misfit.ensures.within c.if-misfit-lt5.true c.first_misfit-misfit.ensures.fits c.first_misfit-misfit.ensures.first

pub returns-then-arguments-gt5-clause-wrong : goal.returns-then-arguments-gt5-clause-wrong
returns-then-arguments-gt5-clause-wrong c =
    wrong_sixth c.args.arguments.now c.first_misfit-misfit.result c.if-misfit-lt5.false c.first_misfit-misfit.ensures.within c.if-arguments-gt5.true c.first_misfit-misfit.ensures.fits

pub returns-clause-form : goal.returns-clause-form
returns-clause-form c =
    let f : Numbered c.args.arguments.now = numbered c.args.arguments.now c.first_misfit-misfit.result c.if-misfit-lt5.false c.first_misfit-misfit.ensures.within c.if-arguments-gt5.false c.first_misfit-misfit.ensures.fits in
    let start : c.as_slice.result.now ≡ f.start = c.as_slice.ensures ∙ c.index-arguments-1.is ∙ ap (λ (ws : List (List ℕ)). get_or ws 1 c.index-arguments-1.result) f.arguments_are in
    let clients : c.as_slice-2.result.now ≡ f.clients = c.as_slice-2.ensures ∙ c.index-arguments-2.is ∙ ap (λ (ws : List (List ℕ)). get_or ws 2 c.index-arguments-2.result) f.arguments_are in
    let accounts : c.as_slice-3.result.now ≡ f.accounts = c.as_slice-3.ensures ∙ c.index-arguments-3.is ∙ ap (λ (ws : List (List ℕ)). get_or ws 3 c.index-arguments-3.result) f.arguments_are in
    let transfers : c.as_slice-4.result.now ≡ f.transfers = c.as_slice-4.ensures ∙ c.index-arguments-4.is ∙ ap (λ (ws : List (List ℕ)). get_or ws 4 c.index-arguments-4.result) f.arguments_are in
    record {
      bank = bank_with f.start f.clients f.accounts f.transfers;
      is_bank = is_bank_with f.start f.clients f.accounts f.transfers f.is_start f.is_clients f.is_accounts f.is_transfers;
      arguments_are = f.arguments_are;
      start = c.number_in.ensures ∙ ap number_of start;
      clients = c.number_in-2.ensures ∙ ap number_of clients;
      accounts = c.number_in-3.ensures ∙ ap number_of accounts;
      transfers = c.number_in-4.ensures ∙ ap number_of transfers;
    }
