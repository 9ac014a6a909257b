use Rattle.std.proofs.Common.{ℕ, [], ◌∷◌, slice_index_or}
use Rattle.std.proofs.lemmas.Result.{err_from_is_err_and}
use Rattle.host_io.specs.declared.out.Stream.TheVariants.{Output}
use Rattle.run_report.proofs.Writing.{writes_within}
use Rattle.run_report.proofs.trace.write_clients.Goals as goal

pub returns-in_err-write_client : goal.returns-in_err-write_client
returns-in_err-write_client g c =
    let p = err_from_is_err_and c.from_residual.result c.from_residual.ensures.1 in
    rw p.1 (writes_within (λ (client : ℕ). 32 ∷ slice_index_or c.args.names.now client []) c.args.clients.now c.loop-client.client-index _ Output _ _ _ c.loop-client-test.true c.loop-client.invariant c.in_err-write_client.ensures)
