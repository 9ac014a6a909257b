use Rattle.std.proofs.Common.{sym, ap, ◌∙◌}
use Rattle.abl_base.specs.text_forms.TextForms.{AtInputEnd, BadElement, Elements}
use Rattle.client_machine.specs.Config.{instr_at}
use Rattle.client_machine.proofs.RunKept.{on_ok}
use Rattle.client_streams.specs.Imports.{targets_in}
use Rattle.client_streams.specs.Statements.{under}
use Rattle.client_streams.proofs.Imported.{line_known}
use Rattle.client_streams.proofs.imports.import_cleared.Goals as goal

pub returns-in-Ok-clause-ok : goal.returns-in-Ok-clause-ok
returns-in-Ok-clause-ok c =
    let old = c.args.machine.now in
    let r = c.args.reader in
    let line = c.in-Ok.line in
    on_ok c.assign_line.result (λ keeps.
    line_known (Elements c.into_vec.result.items line.next) r.stream (targets_in (instr_at old.code.instrs.items c.args.place)) c.args.retry (under old r.no_error r.next c.args.left c.args.retry) old c.assign_line.new.machine
    (λ p rest f. c.in-Ok.ensures p rest f ∙ ap (λ vs. Elements vs line.next) (sym c.into_vec.ensures)) keeps) c.assign_line.ensures.ok

pub returns-in-Err-AtEnd-clause-ok : goal.returns-in-Err-AtEnd-clause-ok
returns-in-Err-AtEnd-clause-ok c =
    let old = c.args.machine.now in
    let r = c.args.reader in
    let is_line = rw c.in-Err-AtEnd.field-0-is at c.in-Err-AtEnd.ensures in
    on_ok c.end_input.result (λ keeps.
    line_known AtInputEnd r.stream (targets_in (instr_at old.code.instrs.items c.args.place)) c.args.retry (under old r.no_error r.next c.args.left c.args.retry) old c.end_input.new.machine is_line keeps) c.end_input.ensures.ok

pub returns-in-Err-BadField-clause-ok : goal.returns-in-Err-BadField-clause-ok
returns-in-Err-BadField-clause-ok c =
    let old = c.args.machine.now in
    let r = c.args.reader in
    let is_line = rw c.in-Err-BadField.field-0-is at c.in-Err-BadField.ensures in
    on_ok c.refuse_line.result (λ keeps.
    line_known (BadElement c.in-Err-BadField.number c.in-Err-BadField.next) r.stream (targets_in (instr_at old.code.instrs.items c.args.place)) c.args.retry (under old r.no_error r.next c.args.left c.args.retry) old c.refuse_line.new.machine is_line keeps) c.refuse_line.ensures.ok
