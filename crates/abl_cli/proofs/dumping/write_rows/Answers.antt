-- The rows are written, all of them or the first ones, and then the line of the status.
use Rattle.std.proofs.Common.{ap, ◌∙◌, Option}
use Rattle.std.specs.Result.{result_err}
use Rattle.disk_database.specs.declared.refusals.DumpRefusal.{DumpRefusal}
use Rattle.run_works.specs.Disks.{state_of}
use Rattle.abl_cli.specs.Stored.{dump_refusal}
use Rattle.abl_cli.proofs.Dumps.{dump_cause, dumped_by}
use Rattle.abl_cli.proofs.dumping.write_rows.Goals as goal

pub returns-clause-did : goal.returns-clause-did
returns-clause-did g c =
    let was = state_of g.D.Disk c.args.disk in
    let now = state_of g.D.Disk c.dump_rows-written.result.1 in
    let written = c.dump_rows-written.result.0 in
    let told = c.dump_rows-written.ensures in
    record {
      why = result_err written;
      refusal = c.dump_refusal-refusal.ensures ∙ ap (λ (why : Option DumpRefusal). dump_refusal why) c.err.ensures.value;
      cause = dump_cause c.args.table.schema was now written told.text told.born told.refused told.cause told.untouched;
      between = g.O.Out.state c.dump_rows-written.new.out;
      written = dumped_by c.args.table.schema was now c.args.table.number (g.O.Out.state c.args.out.now) (g.O.Out.state c.dump_rows-written.new.out) written told.whole told.part;
      kept = told.kept;
      status = c.status_of.ensures;
      trace = c.empty.ensures;
      ends = c.empty-2.ensures;
      lines = c.write_refusal.ensures;
    }
