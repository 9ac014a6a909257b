use Rattle.std.proofs.Common.{◌≡◌, ◌++◌, sym, ◌∙◌}
use Rattle.std.specs.Prelude.{map}
use Rattle.command_arguments.specs.CommandLine.{client_in}
use Rattle.abl_cli.proofs.Named.{parted, one_more}
use Rattle.source_files.proofs.Causes.{on_ok}
use Rattle.abl_cli.proofs.clients.+add_clients.Goals as goal

pub returns-in_default-client_of : goal.returns-in_default-client_of
returns-in_default-client_of t c = λ cs are all.
    let p = parted c.in-Some.argument.now c.in-Some.rest.now cs (sym c.in-Some.ensures.cases.0 ∙ are) all in
    absurd (c.in_default-client_of.ensures.none p.first p.good (c.as_slice.ensures ∙ p.named))

pub returns : goal.returns
returns t c = λ cs are all.
    let p = parted c.in-Some.argument.now c.in-Some.rest.now cs (sym c.in-Some.ensures.cases.0 ∙ are) all in
    let same : client_in c.in-Some-client_of.client ≡ p.first = c.in-Some-client_of.ensures.one p.first p.good (c.as_slice.ensures ∙ p.named) in
    on_ok c.add_clients.result
    (map client_in c.add_clients.new.clients.items ≡ map client_in c.push.new.self.items ++ p.others)
    (map client_in c.add_clients.new.clients.items ≡ map client_in c.args.clients.now.items ++ cs)
    (one_more c.args.clients.now.items c.push.new.self.items c.add_clients.new.clients.items c.in-Some-client_of.client p.first p.others cs c.in_ok-push.ensures.items same p.both)
    (c.add_clients.ensures p.others p.name p.goods)
