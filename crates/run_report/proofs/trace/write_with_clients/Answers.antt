use Rattle.std.proofs.Common.{[], ◌∷◌, ◌++◌}
use Rattle.std.proofs.lemmas.Result.{err_from_is_err_and}
use Rattle.host_io.specs.declared.out.Stream.TheVariants.{Output}
use Rattle.run_report.specs.Trace.{client_names}
use Rattle.run_report.proofs.Writing.{writes_part, writes_then}
use Rattle.run_report.proofs.trace.write_with_clients.Goals as goal

pub returns-in_err-write_word : goal.returns-in_err-write_word
returns-in_err-write_word g c =
    let p = err_from_is_err_and c.from_residual.result c.from_residual.ensures.1 in
    let names = client_names c.args.names.now c.args.clients.now in
    rw p.1 (writes_part Output (32 ∷ c.args.name.now ++ names) (10 ∷ []) _ _ (writes_part Output (32 ∷ c.args.name.now) names _ _ c.in_err-write_word.ensures))

pub returns-in_err-write_clients : goal.returns-in_err-write_clients
returns-in_err-write_clients g c =
    let p = err_from_is_err_and c.from_residual-in_err-write_clients.result c.from_residual-in_err-write_clients.ensures.1 in
    let names = client_names c.args.names.now c.args.clients.now in
    rw p.1 (writes_part Output (32 ∷ c.args.name.now ++ names) (10 ∷ []) _ _ (writes_then _ Output (32 ∷ c.args.name.now) names _ _ _ c.in_ok-write_word.ensures c.in_err-write_clients.ensures))

pub returns : goal.returns
returns g c =
    let names = client_names c.args.names.now c.args.clients.now in
    writes_then _ Output (32 ∷ c.args.name.now ++ names) (10 ∷ []) _ _ _ (writes_then _ Output (32 ∷ c.args.name.now) names _ _ _ c.in_ok-write_word.ensures c.in_ok-write_clients.ensures) c.write_line_end.ensures
