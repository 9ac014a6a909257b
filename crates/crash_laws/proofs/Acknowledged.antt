-- An acknowledged commit is among the first ones of its trace.
use Rattle.std.proofs.Common.{◌≡◌, inl, inr, ⊎_elim, ℕ, ◌+◌, ◌≤◌, ◌||◌, Bool, true, false, cond, if◌then◌else◌, List, [], ◌∷◌, ◌++◌, length, refl, ap, subst, arith}
use Rattle.std.specs.Prelude.{◌≢◌, filter, IsTrue}
use Rattle.std.proofs.lemmas.Bool.{leb-true}
use Rattle.database_protocol.specs.declared.answer.Answer.{Answer}
use Rattle.database_protocol.specs.declared.answer.Answer.TheVariants.{Closed, Committed, Done, NoMemory, Refused}
use Rattle.database_protocol.specs.declared.event.Event.{Event}
use Rattle.database_protocol.specs.declared.operation.Op.{Op}
use Rattle.database_protocol.specs.declared.operation.Op.TheVariants.{End}
use Rattle.database_meaning.proofs.TableRows.{skip, success_of}
use Rattle.database_meaning.specs.Answers.{Answers, IsRefused, Succeeds}
use Rattle.database_meaning.specs.declared.contents.Contents.{Contents}
use Rattle.database_meaning.specs.Setting.{Setting}
use Rattle.database_meaning.specs.State.{State}
use Rattle.database_meaning.specs.Steps.{committed_after, is_closed}
use Rattle.database_meaning.specs.Traces.{Follows, IsLegal, acknowledged, after_event, commits, contents_of, is_acknowledged, is_committed, is_unanswered_commit, left_by, opened, state_after}
use Rattle.db_core.proofs.CommitCounts.{acknowledged_all, acknowledged_longer, all_answered, one_more}
use Rattle.db_core.specs.Crashes.{AreMoments, answered, moment_of}
use Rattle.crash_laws.specs.History.{IsNeverClosed}

-- ---- a database that answers Committed is not closed

open_by : (b : Bool) → (IsTrue b → ⊥) → b ≡ false
open_by true never = absurd (never refl)
open_by false never = refl

not_end : (f : Setting) (s : State) (c : ℕ) (op : Op) (at : ℕ) → Answers f s c op (Committed at) → op ≢ End
not_end f s c op at ok is =
    let done : Committed at ≡ Done = subst (λ (o : Op). Succeeds f s c o (Committed at)) is (success_of f s c op (Committed at) refl ok).succeeds in
    cc

not_closed : (f : Setting) (s : State) (c : ℕ) (op : Op) (at : ℕ) → Answers f s c op (Committed at) → s.closed ≡ false
not_closed f s c op at (inl free) = absurd (⊎_elim (λ e. let x : Committed at ≡ NoMemory = e in cc) (λ p. let x : Committed at ≡ Closed = p.0 in cc) free.1)
not_closed f s c op at (inr table) =
    let t1 = skip {applies = IsRefused f s c op} {answer = Committed at ≡ Refused} (λ e. cc) table in
    let t2 = skip (λ e. let x : Committed at ≡ Closed = e in cc) t1.1 in
    open_by s.closed (λ closed. t2.0 (closed, not_end f s c op at (inr table)))

-- no answer was Closed, so the database is not closed
neither : (a b : Bool) → a ≡ false → b ≡ false → (a || b) ≡ false
neither true b ha hb = ha
neither false b ha hb = hb

pub still_open : (f : Setting) (s : State) (trace : List Event) → s.closed ≡ false → IsNeverClosed trace → (state_after f s trace).closed ≡ false
still_open f s [] unshut unclosed = unshut
still_open f s (e ∷ trace) unshut unclosed = still_open f (after_event f s e) trace (neither s.closed (is_closed e.answer) unshut unclosed.0) unclosed.1

-- ---- an event in a trace

answered_there : (f : Setting) (s : State) (before later : List Event) (e : Event) → Follows f s (before ++ e ∷ later) → Answers f (state_after f s before) e.client e.op e.answer
answered_there f s [] later e follows = follows.0
answered_there f s (d ∷ before) later e follows = answered_there f (after_event f s d) before later e follows.1

pub first_within : (first : ℕ) (trace : List Event) (now : ℕ) → AreMoments first trace now → first ≤ now
first_within first [] now moments = moments
first_within first (e ∷ trace) now moments = let low = moments.0 in let high = first_within (moment_of first e.answer) trace now moments.1 in omega (arith, low, high)

moments_before : (first now at : ℕ) (before later : List Event) (e : Event) → e.answer ≡ Committed at → AreMoments first (before ++ e ∷ later) now → AreMoments first before at
moments_before first now at [] later e is moments = subst (λ (a : Answer). first ≤ moment_of first a) is moments.0
moments_before first now at (d ∷ before) later e is moments = (moments.0, moments_before (moment_of first d.answer) now at before later e is moments.1)

grown : (b : Bool) (e : Event) (some all : List Event) → length some ≤ length all → length (cond b (e ∷ some) some) ≤ length (cond b (e ∷ all) all)
grown true e some all fewer = omega (arith, fewer)
grown false e some all fewer = fewer

none_yet : (all : List Event) → length {A = Event} [] ≤ length all
none_yet all = omega arith

acknowledged_later : (m : ℕ) (before later : List Event) (e : Event) → acknowledged m (before ++ e ∷ []) ≤ acknowledged m (before ++ e ∷ later)
acknowledged_later m [] later e = grown (is_acknowledged m e.answer) e [] (filter (λ (x : Event). is_acknowledged m x.answer) later) (none_yet (filter (λ (x : Event). is_acknowledged m x.answer) later))
acknowledged_later m (d ∷ before) later e =
    grown (is_acknowledged m d.answer) d (filter (λ (x : Event). is_acknowledged m x.answer) (before ++ e ∷ [])) (filter (λ (x : Event). is_acknowledged m x.answer) (before ++ e ∷ later)) (acknowledged_later m before later e)

-- the moment of an acknowledged commit
record IsCommittedBy (m : ℕ) (answer : Answer) : Type 0 where
  pub at : ℕ
  pub is : answer ≡ Committed at
  pub by_then : at ≤ m

committed_by : (m : ℕ) (answer : Answer) → is_acknowledged m answer ≡ true → IsCommittedBy m answer
committed_by m (Committed at) counts = record { at = at; is = refl; by_then = leb-true at m counts }
committed_by m _ counts = let clash : false ≡ true = counts in cc

-- ---- the law

module _ (f : Setting) (contents : Contents) (before later : List Event) (e : Event) (from now m : ℕ) (legal : IsLegal f contents (before ++ e ∷ later)) (moments : AreMoments from (before ++ e ∷ later) now)
    (acknowledges : is_acknowledged m e.answer ≡ true) where
  abbrev s : State
  s = left_by f contents before

  pub among_first : commits f contents (before ++ e ∷ []) ≤ acknowledged m (before ++ e ∷ later)
  among_first =
      let it = committed_by m e.answer acknowledges in
      let still : s.closed ≡ false = not_closed f s e.client e.op it.at (subst (λ (a : Answer). Answers f s e.client e.op a) it.is (answered_there f (opened contents) before later e legal.1)) in
      let so_far : commits f contents before ≡ answered before = all_answered f (opened contents) before still in
      let this : commits f contents (before ++ e ∷ []) ≡ commits f contents before + 1 =
      one_more f contents before e (contents_of (after_event f s e))
      (ap (λ (b : Bool). if b then contents_of (after_event f s e) ∷ [] else if is_unanswered_commit s e then contents_of (record s { committed = committed_after s e.client e.op }) ∷ [] else []) (ap is_committed it.is)) in
      let all : acknowledged m before ≡ answered before = acknowledged_all m from before it.at (moments_before from now it.at before later e it.is moments) it.by_then in
      let one : acknowledged m (before ++ e ∷ []) ≡ acknowledged m before + 1 = acknowledged_longer m before e acknowledges in
      let rest = acknowledged_later m before later e in
      omega (arith, so_far, this, all, one, rest)
