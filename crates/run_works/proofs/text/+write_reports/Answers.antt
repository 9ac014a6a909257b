-- The part of a client, and then those of the others.
use Rattle.std.proofs.Common.{◌∷◌, [], List, ℕ, sym, subst, true}
use Rattle.std.proofs.lemmas.Result.{err_from_is_err_and}
use Rattle.host_io.specs.declared.out.Stream.TheVariants.{Output}
use Rattle.host_io.specs.Out.{Writes}
use Rattle.client_threads.specs.declared.served.clients.EndedClient.{EndedClient}
use Rattle.client_threads.specs.served.Served.{HaveSections}
use Rattle.run_report.specs.Report.{reports}
use Rattle.run_works.proofs.Runs.{have_sections, no_reports, none_of}
use Rattle.run_report.proofs.Writing.{writes_nothing, writes_part, writes_then}
use Rattle.run_works.proofs.text.+write_reports.Goals as goal

pub returns-in_default : goal.returns-in_default
returns-in_default g t c =
    let parts = have_sections c.args.clients.now in (
      parts.0,
      parts.1,
      subst (λ (names : List (List ℕ)). Writes true Output (reports names parts.0) (g.O.Out.state c.args.out.now) (g.O.Out.state c.args.out.now)) (sym (none_of c.args.names.now c.in_default.ensures.cases)) (writes_nothing Output (g.O.Out.state c.args.out.now)),
    )

pub returns-in_default-split_first : goal.returns-in_default-split_first
returns-in_default-split_first g t c = (
  [],
  subst (λ (clients : List EndedClient). HaveSections clients []) (sym (none_of c.args.clients.now c.in_default-split_first.ensures.cases)) tt,
  subst (λ text. Writes true Output text (g.O.Out.state c.args.out.now) (g.O.Out.state c.args.out.now)) (sym (no_reports c.args.names.now)) (writes_nothing Output (g.O.Out.state c.args.out.now)),
)

pub returns-in_err-write_report : goal.returns-in_err-write_report
returns-in_err-write_report g t c =
    let p = err_from_is_err_and c.from_residual.result c.from_residual.ensures.1 in
    let rest = have_sections c.in-Some-split_first.clients.now in (
      c.reported.result.now ∷ rest.0,
      subst (λ (clients : List EndedClient). HaveSections clients (c.reported.result.now ∷ rest.0)) (sym c.in-Some-split_first.ensures.cases.0) (c.reported.ensures, rest.1),
      rw (p.1, c.in-Some.ensures.cases.0, ← c.as_slice.ensures) (writes_part Output _ _ _ _ c.in_err-write_report.ensures),
    )

pub returns : goal.returns
returns g t c =
    let rest = c.write_reports.ensures in (
      c.reported.result.now ∷ rest.0,
      subst (λ (clients : List EndedClient). HaveSections clients (c.reported.result.now ∷ rest.0)) (sym c.in-Some-split_first.ensures.cases.0) (c.reported.ensures, rest.1),
      rw (c.in-Some.ensures.cases.0, ← c.as_slice.ensures) (writes_then _ Output _ _ _ _ _ c.in_ok-write_report.ensures rest.2),
    )
