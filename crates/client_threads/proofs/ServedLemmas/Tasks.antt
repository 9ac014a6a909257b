-- What the runner of clients says of the tasks of a run, said of their clients.
use Rattle.std.proofs.Common.{◌≡◌, ◌<◌, ◌+◌, ◌++◌, ◌∙◌, inl, inr, ℕ, suc, List, [], ◌∷◌, ap, sym, arith, subst, length}
use Rattle.std.specs.Prelude.{All, map, slice_index_or}
use Rattle.client_runner.specs.Served.{GoesOnBy}
use Rattle.database_protocol.specs.declared.event.Event.{Event}
use Rattle.database_meaning.specs.Setting.{Setting}
use Rattle.client_threads.specs.clients.Outcome.{own_events}
use Rattle.client_threads.specs.clients.Phases.{HasRunOrNot, HaveRunOrNot}
use Rattle.client_threads.specs.clients.Ran.{ClientTask, HasRunIn}
use Rattle.client_threads.specs.served.Served.{HasEnded, HasEndedOrNot, HaveEnded, HaveEndedOrNot, client_in, ended_in}

module _ {D : Type 0} (HasSetting : Setting → Type 0) (setting : Setting) (has : HasSetting setting) (trace : List Event) where
  has_ended : (number : ℕ) (old new : ClientTask D) → HasRunIn HasSetting trace number old new → HasEnded setting trace number (client_in old) (ended_in new)
  has_ended number old new ran = record {
    how = ran.how;
    ended = ran.ended;
    done = λ names p units to_run. ran.done names p units (record { begins = to_run.begins; refines = to_run.refines });
    fits = ran.fits setting has;
    refused = ran.refused setting has;
    unrefused = λ names p units to_run. ran.unrefused names p units setting (record { begins = to_run.begins; refines = to_run.refines }) has;
  }

  -- each client has run
  pub have_ended : (first : ℕ) (olds news : List (ClientTask D)) → length news ≡ length olds → ((k : ℕ) (t : ClientTask D) → k < length olds → HasRunIn HasSetting trace (first + k) (slice_index_or olds k t) (slice_index_or news k t)) →
      HaveEnded setting trace first (map client_in olds) (map ended_in news)
  have_ended first [] [] long ran = tt
  have_ended first [] (n ∷ ns) long ran = absurd (omega (arith, long))
  have_ended first (o ∷ os) [] long ran = absurd (omega (arith, long))
  have_ended first (o ∷ os) (n ∷ ns) long ran = (
    has_ended first o n (subst (λ m. HasRunIn HasSetting trace m o n) (omega arith) (ran 0 o (omega arith))),
    have_ended (first + 1) os ns (omega (arith, long)) (λ k t less. subst (λ m. HasRunIn HasSetting trace m (slice_index_or os k t) (slice_index_or ns k t)) (omega arith) (ran (suc k) t (omega (arith, less)))),
  )

  has_ended_or_not : (number : ℕ) (old new : ClientTask D) → HasRunOrNot HasSetting trace number old new → HasEndedOrNot setting trace number (client_in old) (ended_in new)
  has_ended_or_not number old new (inl ran) = inl (has_ended number old new ran)
  has_ended_or_not number old new (inr out) = inr out

  -- each client has run, or its phase could not begin
  pub have_ended_or_not : (first : ℕ) (olds news : List (ClientTask D)) → HaveRunOrNot HasSetting trace first olds news → HaveEndedOrNot setting trace first (map client_in olds) (map ended_in news)
  have_ended_or_not first [] [] ran = tt
  have_ended_or_not first [] (n ∷ ns) ran = absurd ran
  have_ended_or_not first (o ∷ os) [] ran = absurd ran
  have_ended_or_not first (o ∷ os) (n ∷ ns) ran = (has_ended_or_not first o n ran.0, have_ended_or_not (first + 1) os ns ran.1)

-- events after none are of these clients
pub of_these : (clients : ℕ) (old new : List Event) → old ≡ [] → GoesOnBy 0 clients old new → All (λ (e : Event). e.client < clients) new
of_these clients old new empty goes =
    let are : new ≡ goes.0 = goes.1 ∙ ap (λ (events : List Event). events ++ goes.0) empty in
    subst (All (λ (e : Event). e.client < clients)) (sym are) (λ k t less. let among = goes.2 k t less in omega (arith, among.1))

-- no client has an event in an empty trace
pub none_own : (client : ℕ) (trace : List Event) → trace ≡ [] → own_events client trace ≡ []
none_own client trace empty = ap (own_events client) empty
