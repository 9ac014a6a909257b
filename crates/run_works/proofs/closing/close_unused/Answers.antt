-- Nothing was committed.
use Rattle.std.proofs.Common.{◌∙◌}
use Rattle.run_works.proofs.Disks.{not_committed}
use Rattle.run_works.proofs.closing.close_unused.Goals as goal

pub returns-clause-kept : goal.returns-clause-kept
returns-clause-kept g c = λ f contents opened began of all m image from there.
    not_committed f contents _ (c.close_timed-disk.ensures.trace ∙ c.requires.empty) m image ((c.close_timed-disk.ensures.survives f contents opened began of all).each m image from there)
