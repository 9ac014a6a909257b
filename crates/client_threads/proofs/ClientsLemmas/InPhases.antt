-- Phases over one database, one after the other.
use Rattle.std.proofs.Common.{◌≡◌, ◌≤◌, ◌<◌, ◌+◌, inl, inr, ◌++◌, ◌∙◌, ℕ, suc, List, [], ◌∷◌, None, sym, ap, subst, arith, length, append_assoc, append-nil, slice_index_or}
use Rattle.std.proofs.lemmas.List.Elements.{All-head, All-tail, All-nil}
use Rattle.database_protocol.specs.declared.event.Event.{Event}
use Rattle.database_protocol.specs.declared.operation.Op.{Op}
use Rattle.database_meaning.specs.declared.contents.Contents.{Contents}
use Rattle.database_meaning.specs.Setting.{Setting}
use Rattle.block_meaning.specs.Meaning.{run}
use Rattle.client_runner.specs.Meant.{AllFit, NoneIsRefused, RefusesOnlyUnsure}
use Rattle.client_runner.specs.Served.{GoesOnBy, IsAmong, IsKept}
use Rattle.client_runner.proofs.Steps.{own_other}
use Rattle.client_threads.specs.session.Along.{IsOnLevels}
use Rattle.client_threads.specs.clients.Outcome.{HasDone, own_events}
use Rattle.client_threads.specs.clients.Ran.{ClientTask, HasRunIn}
use Rattle.client_threads.specs.clients.Phases.{AreLeftOut, AreOf, AreThreePhases, HasRunOrNot, HaveRunOrNot}

-- ---- the events of one client

-- the later events of other clients are not its own
own_later : (n first clients : ℕ) (old later : List Event) → AreOf first clients later → ¬ IsAmong first clients n → own_events n (old ++ later) ≡ own_events n old
own_later n first clients old [] all other = ap (own_events n) (append-nil old)
own_later n first clients old (e ∷ es) all other =
    let it : IsAmong first clients e.client = All-head (λ (x : Event). IsAmong first clients x.client) e es all in
    ap (own_events n) (sym (append_assoc old (e ∷ []) es))
    ∙ own_later n first clients (old ++ e ∷ []) es (All-tail (λ (x : Event). IsAmong first clients x.client) e es all) other
    ∙ own_other n old e (λ same. other (subst (IsAmong first clients) same it))

pub same_own : (n first clients : ℕ) (old new : List Event) → GoesOnBy first clients old new → ¬ IsAmong first clients n → own_events n new ≡ own_events n old
same_own n first clients old new goes other = ap (own_events n) goes.1 ∙ own_later n first clients old goes.0 goes.2 other

-- no later client has an event
pub fresh_after : (first clients : ℕ) (old new : List Event) → ((n : ℕ) → first ≤ n → own_events n old ≡ []) → GoesOnBy first clients old new → (n : ℕ) → first + clients ≤ n → own_events n new ≡ []
fresh_after first clients old new fresh goes n later = same_own n first clients old new goes (λ among. absurd (omega (arith, later, among.1))) ∙ fresh n (omega (arith, later))

-- ---- one phase

module _ {D : Type 0} (setting_of : D → Setting → Type 0) (opened_of : D → Setting → Contents → Type 0) (trace_of : D → List Event) (serves_of : D → ℕ → Op → Type 0) (active_of : D → ℕ → Type 0) where
  -- a database to which nothing happened
  pub kept_as_is : (database : D) (first clients : ℕ) → IsKept setting_of opened_of trace_of serves_of active_of database database first clients
  kept_as_is database first clients = record {
    setting = λ setting has. has;
    opened = λ setting contents opened. opened;
    serves = λ client op serves. serves;
    grows = ([], sym (append-nil (trace_of database)), All-nil (λ (e : Event). IsAmong first clients e.client));
    others = λ client other active. active;
  }

module _ {D : Type 0} (HasSetting : Setting → Type 0) (trace : List Event) where
  -- each client has run
  pub have_run : (first : ℕ) (olds news : List (ClientTask D)) → length news ≡ length olds → ((k : ℕ) (t : ClientTask D) → k < length olds → HasRunIn HasSetting trace (first + k) (slice_index_or olds k t) (slice_index_or news k t)) →
      HaveRunOrNot HasSetting trace first olds news
  have_run first [] [] long ran = tt
  have_run first [] (n ∷ ns) long ran = absurd (omega (arith, long))
  have_run first (o ∷ os) [] long ran = absurd (omega (arith, long))
  have_run first (o ∷ os) (n ∷ ns) long ran = (
    inl (subst (λ m. HasRunIn HasSetting trace m o n) (omega arith) (ran 0 o (omega arith))),
    have_run (first + 1) os ns (omega (arith, long)) (λ k t less. subst (λ m. HasRunIn HasSetting trace m (slice_index_or os k t) (slice_index_or ns k t)) (omega arith) (ran (suc k) t (omega (arith, less)))),
  )

  -- none has begun
  pub have_not_begun : (first : ℕ) (olds news : List (ClientTask D)) → length news ≡ length olds → AreLeftOut news → ((n : ℕ) → first ≤ n → own_events n trace ≡ []) → HaveRunOrNot HasSetting trace first olds news
  have_not_begun first [] [] long out fresh = tt
  have_not_begun first [] (n ∷ ns) long out fresh = absurd (omega (arith, long))
  have_not_begun first (o ∷ os) [] long out fresh = absurd (omega (arith, long))
  have_not_begun first (o ∷ os) (n ∷ ns) long out fresh = (
    inr (All-head (λ (t : ClientTask D). t.end ≡ None) n ns out, fresh first (omega arith)),
    have_not_begun (first + 1) os ns (omega (arith, long)) (All-tail (λ (t : ClientTask D). t.end ≡ None) n ns out) (λ m from. fresh m (omega (arith, from))),
  )

  -- some clients, and then others
  pub have_joined : (first : ℕ) (xs news ys others : List (ClientTask D)) → HaveRunOrNot HasSetting trace first xs news → HaveRunOrNot HasSetting trace (first + length xs) ys others → HaveRunOrNot HasSetting trace first (xs ++ ys) (news ++ others)
  have_joined first [] [] ys others have more = subst (λ n. HaveRunOrNot HasSetting trace n ys others) (omega arith) more
  have_joined first [] (n ∷ ns) ys others have more = absurd have
  have_joined first (x ∷ xs) [] ys others have more = absurd have
  have_joined first (x ∷ xs) (n ∷ ns) ys others have more = (have.0, have_joined (first + 1) xs ns ys others have.1 (subst (λ m. HaveRunOrNot HasSetting trace m ys others) (omega arith) more))

-- ---- a phase, seen after later ones

module _ {D : Type 0} (HasSetting LaterSetting : Setting → Type 0) (trace later : List Event) (keeps : (setting : Setting) → HasSetting setting → LaterSetting setting) where
  run_later : (n : ℕ) (old new : ClientTask D) → own_events n later ≡ own_events n trace → HasRunIn LaterSetting trace n old new → HasRunIn HasSetting later n old new
  run_later n old new same ran = record {
    how = ran.how;
    ended = ran.ended;
    done = λ names p units to_run. subst (λ (own : List Event). HasDone new.client.client names (run p units) own ran.how) (sym same) (ran.done names p units to_run);
    fits = λ setting has. subst (λ (own : List Event). AllFit setting own) (sym same) (ran.fits setting (keeps setting has));
    refused = λ setting has. subst (RefusesOnlyUnsure setting) (sym same) (ran.refused setting (keeps setting has));
    unrefused = λ names p units setting to_run has. subst (λ (own : List Event). NoneIsRefused IsOnLevels own) (sym same) (ran.unrefused names p units setting to_run (keeps setting has));
  }

  run_or_not_later : (n : ℕ) (old new : ClientTask D) → own_events n later ≡ own_events n trace → HasRunOrNot LaterSetting trace n old new → HasRunOrNot HasSetting later n old new
  run_or_not_later n old new same (inl ran) = inl (run_later n old new same ran)
  run_or_not_later n old new same (inr out) = inr (out.0, same ∙ out.1)

  pub have_later : (first : ℕ) (olds news : List (ClientTask D)) → ((n : ℕ) → IsAmong first (length olds) n → own_events n later ≡ own_events n trace) → HaveRunOrNot LaterSetting trace first olds news → HaveRunOrNot HasSetting later first olds news
  have_later first [] [] same have = tt
  have_later first [] (n ∷ ns) same have = absurd have
  have_later first (o ∷ os) [] same have = absurd have
  have_later first (o ∷ os) (n ∷ ns) same have = (
    run_or_not_later first o n (same first (omega arith, omega arith)) have.0,
    have_later (first + 1) os ns (λ m among. same m (omega (arith, among.0), omega (arith, among.1))) have.1,
  )

-- ---- three phases

pub three_phases : (clients : ℕ) (empty setup middle all : List Event) → empty ≡ [] → GoesOnBy 0 1 empty setup → GoesOnBy 1 clients setup middle → GoesOnBy (1 + clients) 1 middle all → AreThreePhases clients all
three_phases clients empty setup middle all none a b c =
    let first : setup ≡ a.0 = a.1 ∙ ap (λ (events : List Event). events ++ a.0) none in
    record {
      first = a.0;
      middle = b.0;
      last = c.0;
      joined = c.1 ∙ ap (λ (events : List Event). events ++ c.0) (b.1 ∙ ap (λ (events : List Event). events ++ b.0) first);
      of_first = a.2;
      of_middle = b.2;
      of_last = c.2;
    }
