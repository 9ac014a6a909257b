-- What each kind of call does to what stops leave.
use Rattle.std.proofs.Common.{◌≡◌, ◌⊎◌, inl, inr, ⊎_elim, ℕ, ◌+◌, ◌<◌, ◌≤◌, Bool, true, false, List, [], ◌∷◌, length, not, ◌&&◌, cond, refl, sym, ap, ◌∙◌, subst, arith, le-leb, eq-eqb}
use Rattle.std.specs.Prelude.{IsTrue, Result, Ok, Err, OnErr, OnOk}
use Rattle.std.proofs.Math.Logic.{∥∥₁_map}
use Rattle.std.proofs.lemmas.Bool.{cases_lt, lt-leb}
use Rattle.std.specs.FinMap.{get}
use Rattle.abl_base.specs.declared.row.RowId.{RowId}
use Rattle.database_protocol.specs.declared.operation.Op.{Op}
use Rattle.database_protocol.specs.declared.operation.Op.TheVariants.{Leave}
use Rattle.database_protocol.specs.declared.answer.Answer.{Answer}
use Rattle.database_protocol.specs.declared.answer.Answer.TheVariants.{Closed, Committed}
use Rattle.database_protocol.specs.declared.event.Event.{Event}
use Rattle.database_meaning.specs.declared.contents.Contents.{Contents}
use Rattle.database_meaning.specs.Setting.{Setting}
use Rattle.database_meaning.specs.State.{State, depth_of}
use Rattle.database_meaning.specs.Steps.{after, committed_after, is_outermost}
use Rattle.database_meaning.specs.Traces.{acknowledged, after_commits, commits, contents_after_commits, contents_of, is_acknowledged, is_committed, left_by, opened, rows_of}
use Rattle.row_store.specs.declared.store.RowFault.{RowFault}
use Rattle.row_store.specs.declared.store.RowFault.TheVariants.{Disk, NoMemory}
use Rattle.row_store.specs.Rows.{AfterError, Durable, IsConsistent, IsObservable, RowState, SameBase, commit_of, durable_of}
use Rattle.row_store.specs.Times.{Goes, IsInDoubt, IsStop, Rests, Times}
use Rattle.db_core.specs.declared.control.Control.{Control}
use Rattle.db_core.specs.Represents.{Represents, marks_at}
use Rattle.db_core.proofs.Commits.{laid_rows_are}
use Rattle.db_core.specs.Crashes.{AreMoments, HoldsFrom, Holds, IsDurable, Stands, StartsFrom, StaysDurable, answered, longer, moment_of}
use Rattle.db_core.proofs.CommitCounts.{acknowledged_all, acknowledged_longer, acknowledged_still, acknowledged_within, all_answered, answered_longer, answered_still, answered_within, from_longer, last_after, moments_later, moments_longer, one_more, rows_again, same_after, same_moment, unacknowledged}

-- a store whose stop at the first moment is known now had it before the call, and is observable
module _ (old new : RowState) (before after : ℕ → Durable → Type 0) (was now : Times) (goes : Goes old before after was now) (same : new.observable ≡ old.observable)
    (known : (m : ℕ) (durable : Durable) → after m durable → IsStop new now m) (past : was.since ≤ was.moment) where
  was_first : (first : Durable) → after now.since first → before was.since first
  was_first first at = goes.nothing_else was.since first past (subst (λ (m : ℕ). after m first) goes.since at)

  was_seen : (m : ℕ) (durable : Durable) → after m durable → IsTrue old.observable
  was_seen m durable at = sym same ∙ (known m durable at).observable

  module _ (f : Setting) (contents : Contents) (trace : List Event) (h : Stands old before was f contents trace) where
    -- at a later moment all answered commits are acknowledged
    all_by : (m : ℕ) → was.moment ≤ m → acknowledged m trace ≡ answered trace
    all_by m on = acknowledged_all m was.since trace was.moment h.survives.moments on

    few : (m : ℕ) → acknowledged m trace ≤ commits f contents trace
    few m = let some = acknowledged_within m trace in let all = answered_within f (opened contents) trace in omega (arith, some, all)

-- ---- a call that commits nothing

module _ (old new : RowState) (before after : ℕ → Durable → Type 0) (was now : Times) (rests : Rests old before after was now) (same : new.observable ≡ old.observable)
    (known : (m : ℕ) (durable : Durable) → after m durable → IsStop new now m) (past : was.since ≤ was.moment) (kept : IsTrue old.observable → durable_of new ≡ durable_of old) where
  still_stands : (f : Setting) (contents : Contents) (trace : List Event) → IsTrue old.observable → Stands old before was f contents trace → Stands new after now f contents trace
  still_stands f contents trace seen h = record {
    survives = record {
      each = λ m durable at. ⊎_elim
          (λ (later : was.moment < m). ∥∥₁_map (rests.goes.here m durable later at) (λ (which : (durable ≡ durable_of old) ⊎ (durable ≡ now.doubt)).
          subst (λ (n : ℕ). HoldsFrom f contents trace n durable) (sym (acknowledged_all m was.since trace was.moment h.survives.moments (omega (arith, later)))) (⊎_elim
          (λ (e : durable ≡ durable_of old). inl (subst (λ (d : Durable). Holds d (after_commits f contents trace (answered trace))) (sym e) h.committed))
          (λ (e : durable ≡ now.doubt). subst (λ (d : Durable). HoldsFrom f contents trace (answered trace) d) (sym (e ∙ rests.doubt seen)) h.doubt) which)))
          (λ (early : m ≤ was.moment). h.survives.each m durable (rests.goes.nothing_else m durable early at))
          (cases_lt was.moment m);
      moments = subst (λ (first : ℕ). AreMoments first trace now.moment) (sym rests.goes.since) (moments_later was.since trace was.moment now.moment rests.goes.later h.survives.moments);
    };
    committed = subst (λ (d : Durable). Holds d (after_commits f contents trace (answered trace))) (sym (kept seen)) h.committed;
    doubt = subst (λ (d : Durable). HoldsFrom f contents trace (answered trace) d) (sym (rests.doubt seen)) h.doubt;
  }

  pub rest_stays : StaysDurable old new before after was now
  rest_stays f contents trace h = record {
    stands = λ first at. still_stands f contents trace (was_seen old new before after was now rests.goes same known past now.since first at) (h.stands first (was_first old new before after was now rests.goes same known past first at));
  }

-- a call that only asks, with any answer
kept_by : {T : Type 0} (old new : RowState) (result : Result T RowFault) → OnOk result (new ≡ old) → AfterError old new result → (new.observable ≡ old.observable) × (IsTrue old.observable → durable_of new ≡ durable_of old)
kept_by old new (Ok x) same err = (ap (λ (s : RowState). s.observable) same, λ seen. ap durable_of same)
kept_by old new (Err NoMemory) same err = let is = err.memory refl in (ap (λ (s : RowState). s.observable) is, λ seen. ap durable_of is)
kept_by old new (Err Disk) same err = let fails = err.disk refl in (fails.observable, λ seen. let c = fails.committed seen in let v = fails.sequences seen in cc)

pub asked : {T : Type 0} (old new : RowState) (before after : ℕ → Durable → Type 0) (was now : Times) (known : (m : ℕ) (durable : Durable) → after m durable → IsStop new now m) (past : was.since ≤ was.moment)
    (result : Result T RowFault) → Rests old before after was now → OnOk result (new ≡ old) → AfterError old new result → StaysDurable old new before after was now
asked old new before after was now known past result rests same err =
    let kept = kept_by old new result same err in rest_stays old new before after was now rests kept.0 known past kept.1

-- a call that changes rows or transactions
based_by : {T : Type 0} (old new : RowState) (result : Result T RowFault) → OnOk result (SameBase old new) → AfterError old new result → (new.observable ≡ old.observable) × (IsTrue old.observable → durable_of new ≡ durable_of old)
based_by old new (Ok x) base err = (base.observable, λ seen. let c = base.committed in let v = base.sequences in cc)
based_by old new (Err NoMemory) base err = let is = err.memory refl in (ap (λ (s : RowState). s.observable) is, λ seen. ap durable_of is)
based_by old new (Err Disk) base err = let fails = err.disk refl in (fails.observable, λ seen. let c = fails.committed seen in let v = fails.sequences seen in cc)

pub based : (old new : RowState) (before after : ℕ → Durable → Type 0) (was now : Times) (known : (m : ℕ) (durable : Durable) → after m durable → IsStop new now m) (past : was.since ≤ was.moment)
    → Rests old before after was now → SameBase old new → StaysDurable old new before after was now
based old new before after was now known past rests base = rest_stays old new before after was now rests base.observable known past (λ seen. let c = base.committed in let v = base.sequences in cc)

-- after an error what is durable stays
pub failed_by : {T : Type 0} (old new : RowState) (error : RowFault) → AfterError {T = T} old new (Err error) → (new.observable ≡ old.observable) × (IsTrue old.observable → durable_of new ≡ durable_of old)
failed_by {T} old new error err = based_by {T = T} old new (Err error) tt err

-- an error of any call
pub failed : {T : Type 0} (old new : RowState) (before after : ℕ → Durable → Type 0) (was now : Times) (known : (m : ℕ) (durable : Durable) → after m durable → IsStop new now m) (past : was.since ≤ was.moment)
    (error : RowFault) → Rests old before after was now → AfterError {T = T} old new (Err error) → StaysDurable old new before after was now
failed {T} old new before after was now known past error rests err =
    let kept = failed_by {T = T} old new error err in rest_stays old new before after was now rests kept.0 known past kept.1

pub on_err : {T E : Type 0} (result : Result T E) (P : Type 0) → P → OnErr result P
on_err (Ok x) P h = tt
on_err (Err e) P h = h

-- ---- an event without a commit

pub grows_quietly : (rows : RowState) (left : ℕ → Durable → Type 0) (times : Times) (f : Setting) (contents : Contents) (trace : List Event) (c : ℕ) (op : Op) (a : Answer) → is_committed a ≡ false
    → IsDurable rows left times f contents trace → IsDurable rows left times f contents (longer trace c op a)
grows_quietly rows left times f contents trace c op a none h = record { stands = λ first at. grown (h.stands first at) }
  where
    grown : Stands rows left times f contents trace → Stands rows left times f contents (longer trace c op a)
    grown s =
        let e : Event = record { client = c; op = op; answer = a } in
        let some = answered_within f (opened contents) trace in
        let still : answered (longer trace c op a) ≡ answered trace = answered_still trace e none in
        record {
          survives = record {
            each = λ m durable known. ∥∥₁_map (s.survives.each m durable known) (λ (holds : HoldsFrom f contents trace (acknowledged m trace) durable).
                let fewer = acknowledged_within m trace in
                subst (λ (n : ℕ). HoldsFrom f contents (longer trace c op a) n durable) (sym (acknowledged_still m trace e (unacknowledged m a none)))
                (from_longer f contents trace e (acknowledged m trace) durable (omega (arith, some, fewer)) holds));
            moments = moments_longer times.since trace times.moment times.moment e
                (λ last low. let is = same_moment last a none in (omega (arith, is), omega (arith, is, low))) s.survives.moments;
          };
          committed = subst (λ (n : ℕ). Holds (durable_of rows) (after_commits f contents (longer trace c op a) n)) (sym still)
              (subst (λ (x : Contents). Holds (durable_of rows) x) (sym (same_after f contents trace e (answered trace) some)) s.committed);
          doubt = subst (λ (n : ℕ). HoldsFrom f contents (longer trace c op a) n times.doubt) (sym still) (from_longer f contents trace e (answered trace) times.doubt some s.doubt);
        }

-- ---- a commit

unreached : (m moment : ℕ) → m < moment → is_acknowledged m (Committed moment) ≡ false
unreached m moment before = lt-leb moment m before

-- the first Closed event answers a Leave of the outermost level: this commit was not answered
unanswered_one : (f : Setting) (s : State) (c : ℕ) (keep : List RowId) → s.closed ≡ false → is_outermost s c ≡ true
    → contents_after_commits f s (record { client = c; op = Leave keep; answer = Closed } ∷ []) ≡ contents_of (record s { committed = committed_after s c (Leave keep) }) ∷ []
unanswered_one f s c keep unshut outermost =
    ap (λ (b : Bool). cond (not b && is_outermost s c) (one ∷ []) []) unshut ∙ ap (λ (b : Bool). cond b (one ∷ []) []) outermost
  where
    one : Contents
    one = contents_of (record s { committed = committed_after s c (Leave keep) })

-- the state's client is at its outermost level
pub outermost_by : (f : Setting) (rows : RowState) (control : Control) (s : State) (c : ℕ) → Represents f rows control s → length (marks_at control c) ≡ 1 → is_outermost s c ≡ true
outermost_by f rows control s c h one = eq-eqb (depth_of s c) 1 ((h.client c).depth ∙ one)

-- what the store's commit leaves is the contents with the client's commit done
holds_commit : (f : Setting) (rows : RowState) (control : Control) (s : State) (c : ℕ) (keep : List RowId) → IsConsistent rows → Represents f rows control s → is_outermost s c ≡ true → IsObservable rows
    → (durable : Durable) → durable ≡ commit_of rows c control.sequences.items → (contents : Contents) → contents ≡ contents_of (record s { committed = committed_after s c (Leave keep) }) → Holds durable contents
holds_commit f rows control s c keep settled represents outermost seen durable is contents are = record {
  rows = λ k.
      ap (λ (x : Contents). get (rows_of x.rows) k) are
      ∙ (rows_again (committed_after s c (Leave keep)) k
      ∙ (laid_rows_are f rows control s c keep settled represents outermost seen k
      ∙ ap (λ (d : Durable). d.rows k) (sym is)));
  sequences = ap (λ (x : Contents). x.sequences) are ∙ (sym represents.sequences ∙ ap (λ (d : Durable). d.sequences) (sym is));
}

-- a Leave of the outermost level, of a database that is not closed
module _ (old new : RowState) (before after_it : ℕ → Durable → Type 0) (was now : Times) (goes : Goes old before after_it was now) (same : new.observable ≡ old.observable)
    (known : (m : ℕ) (durable : Durable) → after_it m durable → IsStop new now m) (past : was.since ≤ was.moment) (fine : old.failed ≡ false) (settled : IsConsistent old)
    (control : Control) (c : ℕ) (keep : List RowId) (one : length (marks_at control c) ≡ 1) (f : Setting) (contents : Contents) (trace : List Event)
    (represents : Represents f old control (left_by f contents trace)) (unshut : (left_by f contents trace).closed ≡ false) where
  abbrev s : State
  s = left_by f contents trace

  abbrev done : Contents
  done = contents_of (record s { committed = committed_after s c (Leave keep) })

  whole : commits f contents trace ≡ answered trace
  whole = all_answered f (opened contents) trace unshut

  holds_done : IsTrue old.observable → (durable : Durable) → durable ≡ commit_of old c control.sequences.items → Holds durable done
  holds_done seen durable is = holds_commit f old control s c keep settled represents (outermost_by f old control s c represents one) (seen, fine) durable is done refl

  -- the durable state before is the contents after all commits, and so is the doubt
  certain : (durable : Durable) → HoldsFrom f contents trace (answered trace) durable → Holds durable (after_commits f contents trace (answered trace))
  certain durable (inl now_so) = now_so
  certain durable (inr next) = let less = next.0 in let all = whole in absurd (omega (arith, less, all))

  module _ (a : Answer) (are : contents_after_commits f s (record { client = c; op = Leave keep; answer = a } ∷ []) ≡ done ∷ []) where
    abbrev e : Event
    e = record { client = c; op = Leave keep; answer = a }

    abbrev grown : List Event
    grown = longer trace c (Leave keep) a

    first_n : answered trace ≤ commits f contents trace
    first_n = answered_within f (opened contents) trace

    holds_old : (durable : Durable) → Holds durable (after_commits f contents trace (answered trace)) → Holds durable (after_commits f contents grown (answered trace))
    holds_old durable h = subst (λ (x : Contents). Holds durable x) (sym (same_after f contents trace e (answered trace) first_n)) h

    holds_new : (durable : Durable) → Holds durable done → Holds durable (after_commits f contents grown (answered trace + 1))
    holds_new durable h = subst (λ (x : Contents). Holds durable x) (sym (last_after f contents trace e done are (answered trace) (sym whole))) h

    within : answered trace < commits f contents grown
    within = let more = one_more f contents trace e done are in let all = whole in omega (arith, more, all)

    -- a stop of an earlier moment, at which the event is not acknowledged
    earlier : (h : Stands old before was f contents trace) (m : ℕ) (durable : Durable) → m ≤ was.moment → before m durable → ∥ HoldsFrom f contents grown (acknowledged m trace) durable ∥₁
    earlier h m durable on at = ∥∥₁_map (h.survives.each m durable at) (λ (holds : HoldsFrom f contents trace (acknowledged m trace) durable).
        from_longer f contents trace e (acknowledged m trace) durable (let some = acknowledged_within m trace in let all = first_n in omega (arith, some, all)) holds)

    -- a stop of a later moment leaves what was durable, or the doubt after the call
    later : (h : Stands old before was f contents trace) → HoldsFrom f contents grown (answered trace) now.doubt → (m : ℕ) (durable : Durable) → was.moment < m → after_it m durable → ∥ HoldsFrom f contents grown (acknowledged m trace) durable ∥₁
    later h doubt m durable on at = ∥∥₁_map (goes.here m durable on at) (λ (which : (durable ≡ durable_of old) ⊎ (durable ≡ now.doubt)).
        subst (λ (n : ℕ). HoldsFrom f contents grown n durable) (sym (acknowledged_all m was.since trace was.moment h.survives.moments (omega (arith, on)))) (⊎_elim
        (λ (is : durable ≡ durable_of old). inl (holds_old durable (subst (λ (d : Durable). Holds d (after_commits f contents trace (answered trace))) (sym is) h.committed)))
        (λ (is : durable ≡ now.doubt). subst (λ (d : Durable). HoldsFrom f contents grown (answered trace) d) (sym is) doubt) which))

    any : (h : Stands old before was f contents trace) → HoldsFrom f contents grown (answered trace) now.doubt → (m : ℕ) (durable : Durable) → after_it m durable → ∥ HoldsFrom f contents grown (acknowledged m trace) durable ∥₁
    any h doubt m durable at = ⊎_elim
        (λ (on : was.moment < m). later h doubt m durable on at)
        (λ (on : m ≤ was.moment). earlier h m durable on (goes.nothing_else m durable on at))
        (cases_lt was.moment m)

    moments_by : (h : Stands old before was f contents trace) → ((last : ℕ) → last ≤ was.moment → (last ≤ moment_of last a) × (moment_of last a ≤ now.moment)) → AreMoments now.since grown now.moment
    moments_by h between = subst (λ (first : ℕ). AreMoments first grown now.moment) (sym goes.since) (moments_longer was.since trace was.moment now.moment e between h.survives.moments)

    doubt_new : (durable : Durable) → Holds durable done → HoldsFrom f contents grown (answered trace) durable
    doubt_new durable h = inr (within, holds_new durable h)

  -- the commit was done
  pub commit_stands : (moment : ℕ) → moment ≡ now.moment → ((durable : Durable) → after_it now.moment durable → durable ≡ durable_of new) → (IsTrue old.observable → now.doubt ≡ durable_of new)
      → (IsTrue old.observable → durable_of new ≡ commit_of old c control.sequences.items) → IsDurable old before was f contents trace → IsDurable new after_it now f contents (longer trace c (Leave keep) (Committed moment))
  commit_stands moment at_end acknowledges sure leaves h = record {
    stands = λ first at.
        let seen = was_seen old new before after_it was now goes same known past now.since first at in
        stands_so seen (h.stands first (was_first old new before after_it was now goes same known past first at));
  }
    where
      stands_so : IsTrue old.observable → Stands old before was f contents trace → Stands new after_it now f contents (longer trace c (Leave keep) (Committed moment))
      stands_so seen so =
          let e : Event = record { client = c; op = Leave keep; answer = Committed moment } in
          let grown = longer trace c (Leave keep) (Committed moment) in
          let now_done : Holds (durable_of new) done = holds_done seen (durable_of new) (leaves seen) in
          let more : answered grown ≡ answered trace + 1 = answered_longer trace e refl in
          let at_last : Holds (durable_of new) (after_commits f contents grown (answered trace + 1)) = holds_new (Committed moment) refl (durable_of new) now_done in
          let doubt_is : Holds now.doubt done = subst (λ (d : Durable). Holds d done) (sym (sure seen)) now_done in
          record {
            survives = record {
              each = λ m durable at. ⊎_elim
                  (λ (early : m < now.moment).
                  subst (λ (n : ℕ). ∥ HoldsFrom f contents grown n durable ∥₁) (sym (acknowledged_still m trace e (unreached m moment (omega (arith, early, at_end))))) (any (Committed moment) refl so (doubt_new (Committed moment) refl now.doubt doubt_is) m durable at))
                  (λ (on : now.moment ≤ m).
                  let last : m ≡ now.moment = let no_more = (known m durable at).past in omega (arith, on, no_more) in
                  let all : acknowledged m trace ≡ answered trace = acknowledged_all m was.since trace was.moment so.survives.moments (let passed = goes.later in omega (arith, on, passed)) in
                  let count : acknowledged m grown ≡ answered trace + 1 = acknowledged_longer m trace e (le-leb moment m (omega (arith, at_end, on))) ∙ ap (λ (n : ℕ). n + 1) all in
                  let is : durable ≡ durable_of new = acknowledges durable (subst (λ (n : ℕ). after_it n durable) last at) in
                  subst (λ (n : ℕ). ∥ HoldsFrom f contents grown n durable ∥₁) (sym count) ∣ inl (subst (λ (d : Durable). Holds d (after_commits f contents grown (answered trace + 1))) (sym is) at_last) ∣₁)
                  (cases_lt m now.moment);
              moments = moments_by (Committed moment) refl so (λ last low. let passed = goes.later in (omega (arith, low, passed, at_end), omega (arith, at_end)));
            };
            committed = subst (λ (n : ℕ). Holds (durable_of new) (after_commits f contents grown n)) (sym more) at_last;
            doubt = inl (subst (λ (n : ℕ). Holds now.doubt (after_commits f contents grown n)) (sym more) (holds_new (Committed moment) refl now.doubt doubt_is));
          }

  -- the commit failed: it is unknown whether it was done
  pub doubt_stands : (IsTrue old.observable → durable_of new ≡ durable_of old) → IsInDoubt old c control.sequences.items was now → IsDurable old before was f contents trace → IsDurable new after_it now f contents (longer trace c (Leave keep) Closed)
  doubt_stands leaves unsure h = record {
    stands = λ first at.
        let seen = was_seen old new before after_it was now goes same known past now.since first at in
        stands_so seen (h.stands first (was_first old new before after_it was now goes same known past first at));
  }
    where
      is_unanswered : contents_after_commits f s (record { client = c; op = Leave keep; answer = Closed } ∷ []) ≡ done ∷ []
      is_unanswered = unanswered_one f s c keep unshut (outermost_by f old control s c represents one)

      stands_so : IsTrue old.observable → Stands old before was f contents trace → Stands new after_it now f contents (longer trace c (Leave keep) Closed)
      stands_so seen so =
          let e : Event = record { client = c; op = Leave keep; answer = Closed } in
          let grown = longer trace c (Leave keep) Closed in
          let same_count : answered grown ≡ answered trace = answered_still trace e refl in
          let doubt_is : HoldsFrom f contents grown (answered trace) now.doubt = ⊎_elim
          (λ (is : now.doubt ≡ was.doubt). inl (holds_old Closed is_unanswered now.doubt (subst (λ (d : Durable). Holds d (after_commits f contents trace (answered trace))) (sym is) (certain was.doubt so.doubt))))
          (λ (is : (old.failed ≡ false) × (now.doubt ≡ commit_of old c control.sequences.items)). doubt_new Closed is_unanswered now.doubt (holds_done seen now.doubt is.1))
          (unsure seen) in
          record {
            survives = record {
              each = λ m durable at. subst (λ (n : ℕ). ∥ HoldsFrom f contents grown n durable ∥₁) (sym (acknowledged_still m trace e refl)) (any Closed is_unanswered so doubt_is m durable at);
              moments = moments_by Closed is_unanswered so (λ last low. let passed = goes.later in (omega arith, omega (arith, low, passed)));
            };
            committed = subst (λ (n : ℕ). Holds (durable_of new) (after_commits f contents grown n)) (sym same_count)
                (subst (λ (d : Durable). Holds d (after_commits f contents grown (answered trace))) (sym (leaves seen)) (holds_old Closed is_unanswered (durable_of old) so.committed));
            doubt = subst (λ (n : ℕ). HoldsFrom f contents grown n now.doubt) (sym same_count) doubt_is;
          }

-- ---- opening

-- no commit is made, and each known stop leaves the contents
pub starts : (rows : RowState) (left : ℕ → Durable → Type 0) (times : Times) (f : Setting) (contents : Contents) → times.since ≤ times.moment → ((m : ℕ) (durable : Durable) → left m durable → IsStop rows times m)
    → ((first : Durable) → left times.since first → StartsFrom rows left times contents) → IsDurable rows left times f contents []
starts rows left times f contents past stop from = record {
  stands = λ first at.
      let so = from first at in
      record {
        survives = record { each = λ m durable known. ∣ inl (so.each m durable (stop m durable known).from known) ∣₁; moments = past };
        committed = so.committed;
        doubt = inl so.doubt;
      };
}
