use Rattle.std.proofs.Common.{ap}
use Rattle.abl_base.specs.declared.rule.Rule.TheVariants.{E2}
use Rattle.preprocessor.specs.Machine.{reference_read}
use Rattle.preprocessor.proofs.Machines.{breaks_at}
use Rattle.preprocessor.proofs.references.referred.Goals as goal

pub returns-in-Faulty-clause-is : goal.returns-in-Faulty-clause-is
returns-in-Faulty-clause-is c =
    let a = c.args in
    breaks_at a.texts.now a.here a.stack.items E2 a.here.text a.layer.start (reference_read a.texts.now a.here a.layer a.state a.reference) (ap (λ r. reference_read a.texts.now a.here a.layer a.state r) c.in-Faulty.is)
