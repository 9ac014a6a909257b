-- A run is refused by what prevents it; else its clients run.
use Rattle.std.proofs.Common.{◌≡◌, List, refl, sym, ℕ, ap, ◌∙◌, length, arith}
use Rattle.std.specs.Prelude.{map}
use Rattle.command_arguments.specs.CommandLine.{ClientFiles, client_in}
use Rattle.command_arguments.specs.declared.client.ClientArgument.{ClientArgument}
use Rattle.run_works.specs.Disks.{state_of}
use Rattle.source_files.specs.Compiled.{schema_in}
use Rattle.abl_cli.specs.Command.{client_names}
use Rattle.abl_cli.proofs.Commands.{run_lacks_memory, run_refused, run_executed}
use Rattle.abl_cli.proofs.Loads.{begun_of}
use Rattle.abl_cli.proofs.command.run_sources.Goals as goal

pub returns-in_default-clause-did : goal.returns-in_default-clause-did
returns-in_default-clause-did g c = run_lacks_memory (state_of g.D.Disk) c.args.disk c.args.arguments.now _ _ _ _ _ c.args.run.now c.requires refl c.refused-report.ensures

pub returns-in_default-names_of-clause-did : goal.returns-in_default-names_of-clause-did
returns-in_default-names_of-clause-did g c = run_lacks_memory (state_of g.D.Disk) c.args.disk c.args.arguments.now _ _ _ _ _ c.args.run.now c.requires refl c.refused-report-in_default-names_of.ensures

pub returns-in-Err-clause-did : goal.returns-in-Err-clause-did
returns-in-Err-clause-did g c =
    let read = c.in-Ok.ensures c.requires.run.clients c.requires.clients c.requires.is_run.clients in
    let clients_are : map client_in c.deref-2.result.now ≡ c.requires.run.clients = ap (λ (cs : List ClientArgument). map client_in cs) c.deref-2.ensures.value ∙ read in
    let named : map client_in c.deref.result.now ≡ c.requires.run.clients = ap (λ (cs : List ClientArgument). map client_in cs) c.deref.ensures.value ∙ read in
    let names_are : c.deref-in-Err.result.now ≡ client_names c.requires.run = c.deref-in-Err.ensures.value ∙ (c.in-Ok-names_of.ensures ∙ ap (λ (cs : List ClientFiles). map (λ (client : ClientFiles). client.name) cs) named) in
    run_refused (state_of g.D.Disk) c.args.disk c.args.arguments.now _ _ _ _ _ c.args.run.now c.requires c.args.run.now.schema.now (map client_in c.deref-2.result.now) c.deref-in-Err.result.now c.requires.schema clients_are names_are
    c.in-Err.refusal c.in-Err.ensures.prevented refl c.refused-report-in-Err.ensures

pub execute-requires-clause-some : goal.execute-requires-clause-some
execute-requires-clause-some g c κs within =
    let read = c.in-Ok.ensures c.requires.run.clients c.requires.clients c.requires.is_run.clients in
    let clients_are : map client_in c.deref-2.result.now ≡ c.requires.run.clients = ap (λ (cs : List ClientArgument). map client_in cs) c.deref-2.ensures.value ∙ read in
    let many = begun_of _ _ (map client_in c.deref-2.result.now) _ c.in-Ok-load.loaded.schema c.in-Ok-load.loaded.clients.items c.in-Ok-load.ensures.ready in
    let same = ap (λ (cs : List ClientFiles). length cs) clients_are in
    omega (arith, many, same, c.requires.is_run.some)

pub execute-requires-clause-few : goal.execute-requires-clause-few
execute-requires-clause-few g c κs within =
    let read = c.in-Ok.ensures c.requires.run.clients c.requires.clients c.requires.is_run.clients in
    let clients_are : map client_in c.deref-2.result.now ≡ c.requires.run.clients = ap (λ (cs : List ClientArgument). map client_in cs) c.deref-2.ensures.value ∙ read in
    let many = begun_of _ _ (map client_in c.deref-2.result.now) _ c.in-Ok-load.loaded.schema c.in-Ok-load.loaded.clients.items c.in-Ok-load.ensures.ready in
    let same = ap (λ (cs : List ClientFiles). length cs) clients_are in
    omega (arith, many, same, c.requires.is_run.few)

pub returns-clause-did : goal.returns-clause-did
returns-clause-did g c =
    let read = c.in-Ok.ensures c.requires.run.clients c.requires.clients c.requires.is_run.clients in
    let clients_are : map client_in c.deref-2.result.now ≡ c.requires.run.clients = ap (λ (cs : List ClientArgument). map client_in cs) c.deref-2.ensures.value ∙ read in
    let named : map client_in c.deref.result.now ≡ c.requires.run.clients = ap (λ (cs : List ClientArgument). map client_in cs) c.deref.ensures.value ∙ read in
    let names_are : c.deref-in-Ok-load.result.now ≡ client_names c.requires.run = c.deref-in-Ok-load.ensures.value ∙ (c.in-Ok-names_of.ensures ∙ ap (λ (cs : List ClientFiles). map (λ (client : ClientFiles). client.name) cs) named) in
    run_executed (state_of g.D.Disk) c.args.disk c.args.arguments.now _ _ _ _ _ c.args.run.now c.requires c.args.run.now.schema.now (map client_in c.deref-2.result.now) c.deref-in-Ok-load.result.now c.requires.schema clients_are names_are
    c.args.run.now.steps c.args.run.now.mode c.in-Ok-load.loaded.schema c.in-Ok-load.loaded.clients.items c.requires.steps c.requires.mode c.in-Ok-load.ensures.ready c.execute.ensures.ran

pub execute-requires-clause-schema : goal.execute-requires-clause-schema
execute-requires-clause-schema g c κs within = c.in-Ok-load.ensures.schema ∙ ap (λ (text : List ℕ). schema_in text) (sym c.as_slice.ensures)
