-- A check is refused by what prevents it; else its listings are written.
use Rattle.std.proofs.Common.{List, ℕ, subst}
use Rattle.abl_cli.specs.Command.{HasChecked}
use Rattle.abl_cli.specs.Inside.{HasListed, HasNotListed}
use Rattle.abl_cli.proofs.check.check_sources.Goals as goal

pub returns-in-Err : goal.returns-in-Err
returns-in-Err g c = HasNotListed _ c.in-Err.ensures.prevented c.refused.ensures

pub returns-in-Ok : goal.returns-in-Ok
returns-in-Ok g c =
    HasListed c.in-Ok.listings.items c.in-Ok.ensures.listed
    (subst (λ (listings : List (List ℕ)). HasChecked c.args.check.now.programs.now listings (g.O.Out.state c.args.out.now) (g.O.Out.state c.report.new.out) c.report.result) c.deref.ensures.value c.report.ensures)
