use Rattle.client_threads.proofs.served.begin.client_to_run.Goals as goal

pub returns-in-Ok : goal.returns-in-Ok
returns-in-Ok c =
    λ bound p compiled source tables input inputs forms lines.
    record { begins = c.in-Ok.ensures.begins; refines = c.in-Ok.ensures.refines bound p compiled source tables input inputs forms lines }
