-- What the clients of a run have done, one after the other.
use Rattle.std.proofs.Common.{◌≡◌, ◌+◌, ℕ, suc, List, [], ◌∷◌, Option, Some, None, refl, sym, ap, subst, arith, length}
use Rattle.std.specs.Prelude.{map}
use Rattle.block_meaning.specs.Meaning.{run}
use Rattle.block_meaning.specs.Program.{Program}
use Rattle.client_core.specs.ClientView.{ClientView}
use Rattle.database_protocol.specs.declared.event.Event.{Event}
use Rattle.database_protocol.specs.declared.ends.ClientEnd.{ClientEnd}
use Rattle.client_output.specs.declared.section.Section.{Section}
use Rattle.database_meaning.specs.Setting.{Setting}
use Rattle.client_threads.specs.served.ClientRun.{ClientOutcome, own_events}
use Rattle.client_threads.specs.served.Works.{DidAsMeant, IsProgram, Work}
use Rattle.client_threads.specs.declared.served.clients.EndedClient.{EndedClient}
use Rattle.run_report.specs.Report.{reports}
use Rattle.client_threads.specs.served.Served.{AreReported, AreToDo, IsToDo, HasEnded, HaveEnded, HaveEndedOrNot, HasSections, HaveSections, end_or_none}

-- a client that was to do a work has done it
pub client_outcome : (setting : Setting) (trace : List Event) (units number : ℕ) (w : Work) (old : ClientView) (new : EndedClient) (sections : List Section) → IsToDo units w old → HasEnded setting trace number old new → AreReported new.end new.client sections →
    (p : Program) → IsProgram w p → ClientOutcome setting w.tree.outputs (run p units) (own_events number trace) (end_or_none new.end) sections
client_outcome setting trace units number w old new sections to_do ended reported p is =
    let done = ended.done w.tree.outputs p units (to_do p is) in
    subst (λ how. ClientOutcome setting w.tree.outputs (run p units) (own_events number trace) how sections) (sym (ap end_or_none ended.ended)) (record {
      pieces = done.pieces;
      did = done.did;
      wrote = subst (λ e. AreReported e new.client sections) ended.ended reported w.tree.outputs done.pieces done.has;
      fits = ended.fits;
      refused = ended.refused;
      unrefused = ended.unrefused w.tree.outputs p units (to_do p is);
    })

pub did_as_meant : (setting : Setting) (trace : List Event) (units number : ℕ) (works : List Work) (olds : List ClientView) (news : List EndedClient) (parts : List (List Section)) → AreToDo units works olds → HaveEnded setting trace number olds news → HaveSections news parts →
    DidAsMeant setting units trace number works (map (λ (c : EndedClient). end_or_none c.end) news) parts
did_as_meant setting trace units number [] [] [] [] to_do ended have = tt
did_as_meant setting trace units number [] [] [] (sections ∷ parts) to_do ended have = absurd have
did_as_meant setting trace units number [] [] (n ∷ ns) parts to_do ended have = absurd ended
did_as_meant setting trace units number [] (o ∷ os) news parts to_do ended have = absurd to_do
did_as_meant setting trace units number (w ∷ ws) [] news parts to_do ended have = absurd to_do
did_as_meant setting trace units number (w ∷ ws) (o ∷ os) [] parts to_do ended have = absurd ended
did_as_meant setting trace units number (w ∷ ws) (o ∷ os) (n ∷ ns) [] to_do ended have = absurd have
did_as_meant setting trace units number (w ∷ ws) (o ∷ os) (n ∷ ns) (sections ∷ parts) to_do ended have = (
  (λ p is. client_outcome setting trace units number w o n sections to_do.0 ended.0 have.0 p is),
  did_as_meant setting trace units (number + 1) ws os ns parts to_do.1 ended.1 have.1,
)

-- each client has written some sections
has_sections : (client : ClientView) → (sections : List Section) × HasSections client sections
has_sections client = (client.machine.output.sections.items, λ names pieces has. has.sections)

reported_of : (how : Option ClientEnd) (client : ClientView) → (sections : List Section) × AreReported how client sections
reported_of None client = ([], refl)
reported_of (Some how) client = has_sections client

pub have_sections : (clients : List EndedClient) → (parts : List (List Section)) × HaveSections clients parts
have_sections [] = ([], tt)
have_sections (c ∷ clients) =
    let one = reported_of c.end c.client in
    let rest = have_sections clients in
    (one.0 ∷ rest.0, (one.1, rest.1))

-- no client has written anything
pub no_reports : (names : List (List ℕ)) → reports names [] ≡ []
no_reports [] = refl
no_reports (name ∷ names) = refl

-- a list without elements
pub none_of : {A : Type 0} (xs : List A) → length xs ≡ 0 → xs ≡ []
none_of [] e = refl
none_of (x ∷ xs) e = absurd (omega (arith, e))

-- there is a client for each work
pub as_many_clients : (units : ℕ) (works : List Work) (clients : List ClientView) → AreToDo units works clients → length clients ≡ length works
as_many_clients units [] [] are = refl
as_many_clients units [] (c ∷ cs) are = absurd are
as_many_clients units (w ∷ ws) [] are = absurd are
as_many_clients units (w ∷ ws) (c ∷ cs) are = ap (λ k. suc k) (as_many_clients units ws cs are.1)

-- as many clients have ended as have begun
pub as_many_ended : (setting : Setting) (trace : List Event) (number : ℕ) (olds : List ClientView) (news : List EndedClient) → HaveEnded setting trace number olds news → length news ≡ length olds
as_many_ended setting trace number [] [] ended = refl
as_many_ended setting trace number [] (n ∷ ns) ended = absurd ended
as_many_ended setting trace number (o ∷ os) [] ended = absurd ended
as_many_ended setting trace number (o ∷ os) (n ∷ ns) ended = ap (λ k. suc k) (as_many_ended setting trace (number + 1) os ns ended.1)

-- likewise where the phase of some could not begin
pub as_many_ended_or_not : (setting : Setting) (trace : List Event) (number : ℕ) (olds : List ClientView) (news : List EndedClient) → HaveEndedOrNot setting trace number olds news → length news ≡ length olds
as_many_ended_or_not setting trace number [] [] ended = refl
as_many_ended_or_not setting trace number [] (n ∷ ns) ended = absurd ended
as_many_ended_or_not setting trace number (o ∷ os) [] ended = absurd ended
as_many_ended_or_not setting trace number (o ∷ os) (n ∷ ns) ended = ap (λ k. suc k) (as_many_ended_or_not setting trace (number + 1) os ns ended.1)
