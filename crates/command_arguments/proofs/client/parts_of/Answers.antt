-- A client's argument splits at its first `=`, since no name has one.
use Rattle.std.proofs.Common.{subst, sym}
use Rattle.command_arguments.specs.Places.{AreFiles}
use Rattle.command_arguments.proofs.Splits.{parts_of_client, no_client}
use Rattle.command_arguments.proofs.client.parts_of.Goals as goal

pub returns-in_err-at-clause-none : goal.returns-in_err-at-clause-none
returns-in_err-at-clause-none c = rw c.from_residual.ensures (no_client _ c.in_err-at.ensures.none)

pub returns-in_err-files-clause-none : goal.returns-in_err-files-clause-none
returns-in_err-files-clause-none c =
    rw c.from_residual-in_err-files.ensures
    (λ client.
    let parts = parts_of_client _ _ c.in_ok-at.ensures.some.1 c.in_ok-at.ensures.some.2 client in
    c.in_err-files.ensures.none (subst AreFiles (sym c.split_at.ensures.back) parts.1))

pub returns-else-is_name-clause-none : goal.returns-else-is_name-clause-none
returns-else-is_name-clause-none c client =
    let parts = parts_of_client _ _ c.in_ok-at.ensures.some.1 c.in_ok-at.ensures.some.2 client in
    cc (c.if-is_name.false, c.is_name.ensures.1 parts.0)
