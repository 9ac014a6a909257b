-- What the clients of the phases have done.
use Rattle.std.proofs.Common.{◌≡◌, ◌+◌, inl, inr, ℕ, List, [], ◌∷◌, None, sym, ap, subst}
use Rattle.std.specs.Prelude.{map}
use Rattle.block_meaning.specs.Meaning.{run}
use Rattle.block_meaning.specs.Program.{Program}
use Rattle.client_core.specs.ClientView.{ClientView}
use Rattle.database_protocol.specs.declared.ends.ClientEnd.{ClientEnd}
use Rattle.database_protocol.specs.declared.event.Event.{Event}
use Rattle.host_io.specs.Out.{OutState}
use Rattle.run_report.specs.declared.ending.Report.{Report}
use Rattle.run_report.specs.declared.refusal.Refusal.TheVariants.{NoMemory}
use Rattle.run_report.specs.Ending.{IsRefused}
use Rattle.client_output.specs.declared.section.Section.{Section}
use Rattle.database_meaning.specs.Setting.{Setting}
use Rattle.client_threads.specs.declared.served.clients.EndedClient.{EndedClient}
use Rattle.client_threads.specs.served.ClientRun.{own_events}
use Rattle.client_threads.specs.served.Works.{IsProgram, Work}
use Rattle.client_threads.specs.served.Served.{AreReported, AreToDo, HasEndedOrNot, HaveEndedOrNot, HaveSections, IsToDo, end_or_none}
use Rattle.run_works.proofs.Runs.{client_outcome}
use Rattle.bank_run.specs.Phases.{Did, DidInPhases, NotBegun, PhaseOutcome}

module _ (setting : Setting) (trace : List Event) (units : ℕ) where
  outcome : (number : ℕ) (w : Work) (old : ClientView) (new : EndedClient) (sections : List Section) → IsToDo units w old → HasEndedOrNot setting trace number old new → AreReported new.end new.client sections →
      (p : Program) → IsProgram w p → PhaseOutcome setting w.tree.outputs (run p units) (own_events number trace) (end_or_none new.end) sections
  outcome number w old new sections to_do (inl ended) reported p is =
      Did (client_outcome setting trace units number w old new sections to_do ended reported p is)
  outcome number w old new sections to_do (inr out) reported p is =
      let none : sections ≡ [] = subst (λ how. AreReported how new.client sections) out.0 reported in
      subst (λ (how : ClientEnd). PhaseOutcome setting w.tree.outputs (run p units) (own_events number trace) how sections) (sym (ap end_or_none out.0))
      (subst (λ (written : List Section). PhaseOutcome setting w.tree.outputs (run p units) (own_events number trace) (end_or_none None) written) (sym none) (NotBegun out.1))

  pub did_in_phases : (number : ℕ) (works : List Work) (olds : List ClientView) (news : List EndedClient) (parts : List (List Section)) → AreToDo units works olds → HaveEndedOrNot setting trace number olds news → HaveSections news parts →
      DidInPhases setting units trace number works (map (λ (c : EndedClient). end_or_none c.end) news) parts
  did_in_phases number [] [] [] [] to_do ran have = tt
  did_in_phases number [] [] [] (sections ∷ parts) to_do ran have = absurd have
  did_in_phases number [] [] (n ∷ ns) parts to_do ran have = absurd ran
  did_in_phases number [] (o ∷ os) news parts to_do ran have = absurd to_do
  did_in_phases number (w ∷ ws) [] news parts to_do ran have = absurd to_do
  did_in_phases number (w ∷ ws) (o ∷ os) [] parts to_do ran have = absurd ran
  did_in_phases number (w ∷ ws) (o ∷ os) (n ∷ ns) [] to_do ran have = absurd have
  did_in_phases number (w ∷ ws) (o ∷ os) (n ∷ ns) (sections ∷ parts) to_do ran have =
      ((λ p is. outcome number w o n sections to_do.0 ran.0 have.0 p is), did_in_phases (number + 1) ws os ns parts to_do.1 ran.1 have.1)

-- a refusal for out of memory is the same for any client names
pub nameless : (names : List (List ℕ)) (old new : OutState) (report : Report) → IsRefused [] NoMemory old new report → IsRefused names NoMemory old new report
nameless names old new report is = record { refusal = is.refusal; status = is.status; trace = is.trace; ends = is.ends; lines = is.lines }
