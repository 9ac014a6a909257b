-- Each image of a moment from now on is one of now.
use Rattle.run_works.specs.Disks.{state_of}
use Rattle.run_works.proofs.Disks.{short_untouched}
use Rattle.bank_run.proofs.bank.untouched.Goals as goal

pub returns : goal.returns
returns g c = short_untouched (state_of g.D.Disk c.args.disk.now) (g.met.D.Disk.image_known c.args.disk.now)
