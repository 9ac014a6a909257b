-- The disk was not touched.
use Rattle.std.proofs.Common.{refl}
use Rattle.disk_database.specs.declared.refusals.OpenRefusal.TheVariants as opening
use Rattle.run_report.specs.declared.refusal.Refusal.TheVariants.{NoMemory}
use Rattle.run_works.specs.Disks.{state_of}
use Rattle.run_works.proofs.Disks.{short_untouched, untouched}
use Rattle.run_works.proofs.works.out_of_memory.Goals as goal

pub returns-clause-not_run : goal.returns-clause-not_run
returns-clause-not_run g c =
    let disk = state_of g.D.Disk c.args.disk in
    record {
      refusal = NoMemory;
      cause = record { why = opening.NoMemory; is = refl; cause = tt; rose = λ e. absurd (cc e); untouched = λ e. absurd (cc e) };
      kept = untouched disk (g.met.D.Disk.image_known c.args.disk) c.args.form.now.schema.now;
      others = λ memory other. untouched disk (g.met.D.Disk.image_known c.args.disk) other;
      reported = c.refused-report.ensures;
    }

pub returns-clause-log : goal.returns-clause-log
returns-clause-log g c = short_untouched (state_of g.D.Disk c.args.disk) (g.met.D.Disk.image_known c.args.disk)
