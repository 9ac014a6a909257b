use Rattle.client_core.proofs.Resumes.{first_call}
use Rattle.client_core.proofs.client.Client.begin.Goals as goal

pub returns-in-Running-clause-refines : goal.returns-in-Running-clause-refines
returns-in-Running-clause-refines c =
    λ names m answers begun none d. first_call names m answers c.args.self.now c.run_on.new.self c.run_on.result begun none c.run_on.ensures.follows d
