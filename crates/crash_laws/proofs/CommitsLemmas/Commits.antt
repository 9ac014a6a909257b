-- The contents after each commit of a legal trace are sound.
use Rattle.std.proofs.Common.{◌≡◌, ℕ, zero, suc, Bool, true, false, if◌then◌else◌, List, [], ◌∷◌, ◌++◌, length, slice_index_or, Option, Some, None, IsTrue, ℤ, refl, sym, ap, ◌∙◌, subst}
use Rattle.std.proofs.lemmas.List.{length-set}
use Rattle.std.specs.FinMap.{entries, get, get-entries}
use Rattle.database_protocol.specs.declared.event.Event.{Event}
use Rattle.database_protocol.specs.declared.operation.Op.{Op}
use Rattle.database_protocol.specs.declared.operation.Op.TheVariants.{Enter, Leave, Back, Next, Get, Lock, Insert, Put, Delete, Drop as DropLock, NextValue, CurrentValue, End}
use Rattle.database_meaning.specs.declared.contents.Contents.{Contents}
use Rattle.database_meaning.specs.declared.state.Key.{Key}
use Rattle.database_meaning.specs.declared.state.StoredRow.{StoredRow}
use Rattle.database_meaning.specs.Setting.{Setting, has_key, unique_keys}
use Rattle.database_meaning.specs.State.{Rows, State, over}
use Rattle.database_meaning.specs.Answers.{Answers, next_value}
use Rattle.database_meaning.specs.Steps.{committed_after, is_outermost, is_success, laid_on, sequences_after}
use Rattle.database_meaning.specs.Traces.{Follows, HasUniqueKeys, IsLegal, IsSoundContents, after_commits, after_event, contents_after_commits, contents_of, is_committed, is_unanswered_commit, left_by, opened, state_after}
use Rattle.database_meaning.proofs.LockedReads.{state_split}
use Rattle.database_meaning.proofs.Maps.{get_laid_on}
use Rattle.database_meaning.proofs.Own.{by_test}
use Rattle.database_meaning.proofs.ReservedKeys.{GoodKeys, keys_legal}
use Rattle.database_meaning.proofs.RowsFit.{RowFits, StateFits, fits_legal}
use Rattle.crash_laws.proofs.CommitsLemmas.Listed.{RowSound, contents_sound}
use Rattle.crash_laws.proofs.CommitsLemmas.Rows.{RowOk, StateOk, state_ok}

-- ---- sequence values

as_many : (f : Setting) (s : State) (n : ℕ) (op : Op) → length s.sequences ≡ n → length (sequences_after f s op) ≡ n
as_many f s n (NextValue sequence) long = length-set s.sequences sequence (next_value f s sequence) ∙ long
as_many f s n Enter long = long
as_many f s n (Leave keep) long = long
as_many f s n (Back depth) long = long
as_many f s n (Next table index prefix cursor forward) long = long
as_many f s n (Get table row) long = long
as_many f s n (Lock table row exclusive wait) long = long
as_many f s n (Insert table values) long = long
as_many f s n (Put table row values) long = long
as_many f s n (Delete table row) long = long
as_many f s n (DropLock row) long = long
as_many f s n (CurrentValue sequence) long = long
as_many f s n End long = long

long_after : (f : Setting) (n : ℕ) (s : State) (trace : List Event) → length s.sequences ≡ n → length (state_after f s trace).sequences ≡ n
long_after f n s [] long = long
long_after f n s (e ∷ es) long =
    long_after f n (after_event f s e) es (by_test (λ (values : List ℤ). length values ≡ n) (is_success e.answer) (sequences_after f s e.op) s.sequences (λ yes. as_many f s n e.op long) (λ no. long))

-- ---- the rows that a commit leaves

full : (f : Setting) (o : Option StoredRow) → RowOk f o → RowFits f o → RowSound f o
full f None ok fits = tt
full f (Some row) ok fits = (ok.0, fits, ok.1)

over_sound : (f : Setting) (o : Option (Option StoredRow)) (below : Option StoredRow) → ((change : Option StoredRow) → o ≡ Some change → RowSound f change) → RowSound f below → RowSound f (over o below)
over_sound f None below change sound = sound
over_sound f (Some x) below change sound = change x refl

-- what holds of the committed rows, and of these with the changes of the client, holds after its operation
by_op : (P : Rows → Type 0) (s : State) (c : ℕ) (op : Op) → P s.committed → P (laid_on (entries (s.client c).overlay) s.committed) → P (committed_after s c op)
by_op P s c (Leave keep) stays laid = by_test P (is_outermost s c) (laid_on (entries (s.client c).overlay) s.committed) s.committed (λ e. laid) (λ e. stays)
by_op P s c Enter stays laid = stays
by_op P s c (Back depth) stays laid = stays
by_op P s c (Next table index prefix cursor forward) stays laid = stays
by_op P s c (Get table row) stays laid = stays
by_op P s c (Lock table row exclusive wait) stays laid = stays
by_op P s c (Insert table values) stays laid = stays
by_op P s c (Put table row values) stays laid = stays
by_op P s c (Delete table row) stays laid = stays
by_op P s c (DropLock row) stays laid = stays
by_op P s c (NextValue sequence) stays laid = stays
by_op P s c (CurrentValue sequence) stays laid = stays
by_op P s c End stays laid = stays

module _ (f : Setting) (contents : Contents) (trace : List Event) (legal : IsLegal f contents trace) where
  abbrev s : State
  s = left_by f contents trace

  ok : StateOk f s
  ok = state_ok f contents trace legal

  fits : StateFits f s
  fits = fits_legal f contents trace legal

  keys : GoodKeys f s
  keys = keys_legal f contents trace legal

  long : length s.sequences ≡ length f.schema.sequences
  long = long_after f (length f.schema.sequences) (opened contents) trace legal.0.sequences

  rows : (k : ℕ) → RowSound f (get s.committed k)
  rows k = full f (get s.committed k) (ok.committed k) (fits.committed k)

  left_sound : IsSoundContents f (contents_of s)
  left_sound = contents_sound f s.committed s.sequences rows keys.one_each long

  module _ (c : ℕ) (op : Op) where
    abbrev laid : Rows
    laid = laid_on (entries (s.client c).overlay) s.committed

    laid_is : (k : ℕ) → get laid k ≡ over (get (s.client c).overlay k) (get s.committed k)
    laid_is k = get_laid_on (entries (s.client c).overlay) s.committed k ∙ ap (λ o. over o (get s.committed k)) (sym (get-entries (s.client c).overlay k))

    laid_rows : (k : ℕ) → RowSound f (get laid k)
    laid_rows k =
        subst (RowSound f) (sym (laid_is k)) (over_sound f (get (s.client c).overlay k) (get s.committed k) (λ change is. full f change ((ok.own c).now k change is) ((fits.own c).now k change is)) (rows k))

    has_laid : (r : ℕ) (k : Key) → IsTrue (has_key (unique_keys f.schema (get laid r)) k) → IsTrue (has_key (unique_keys f.schema (over (get (s.client c).overlay r) (get s.committed r))) k)
    has_laid r k has = subst (λ (o : Option StoredRow). IsTrue (has_key (unique_keys f.schema o) k)) (laid_is r) has

    laid_unique : HasUniqueKeys f laid
    laid_unique r q k here there = (keys.own c).now.one r q k (has_laid r k here) (has_laid q k there)

    -- also of a commit that was not answered
    closed_sound : IsSoundContents f (contents_of (record s { committed = committed_after s c op }))
    closed_sound =
        contents_sound f (committed_after s c op) s.sequences (by_op (λ (m : Rows). (k : ℕ) → RowSound f (get m k)) s c op rows laid_rows) (by_op (HasUniqueKeys f) s c op keys.one_each laid_unique) long

-- ---- a whole trace

follows_push : (f : Setting) (s : State) (events : List Event) (e : Event) → Follows f s events → Answers f (state_after f s events) e.client e.op e.answer → Follows f s (events ++ e ∷ [])
follows_push f s [] e follows ok = (ok, tt)
follows_push f s (x ∷ xs) e follows ok = (follows.0, follows_push f (after_event f s x) xs e follows.1 ok)

abbrev AllSound : Setting → List Contents → Type 0
AllSound f [] = Unit {0}
AllSound f (c ∷ cs) = IsSoundContents f c × AllSound f cs

by_event : (f : Setting) (a b : Bool) (after closed : Contents) (later : List Contents) → IsSoundContents f after → IsSoundContents f closed → AllSound f later
    → AllSound f (if a then after ∷ later else if b then closed ∷ later else later)
by_event f true b after closed later one other all = (one, all)
by_event f false true after closed later one other all = (other, all)
by_event f false false after closed later one other all = all

all_sound : (f : Setting) (contents : Contents) (before events : List Event) → IsLegal f contents before → Follows f (left_by f contents before) events → AllSound f (contents_after_commits f (left_by f contents before) events)
all_sound f contents before [] legal follows = tt
all_sound f contents before (e ∷ es) legal follows =
    let next : IsLegal f contents (before ++ e ∷ []) = (legal.0, follows_push f (opened contents) before e legal.1 follows.0) in
    let same : left_by f contents (before ++ e ∷ []) ≡ after_event f (left_by f contents before) e = state_split f (opened contents) before (e ∷ []) in
    by_event f (is_committed e.answer) (is_unanswered_commit (left_by f contents before) e) (contents_of (after_event f (left_by f contents before) e)) _ (contents_after_commits f (after_event f (left_by f contents before) e) es)
    (subst (λ (x : State). IsSoundContents f (contents_of x)) same (left_sound f contents (before ++ e ∷ []) next))
    (closed_sound f contents before legal e.client e.op)
    (subst (λ (x : State). AllSound f (contents_after_commits f x es)) same (all_sound f contents (before ++ e ∷ []) es next (subst (λ (x : State). Follows f x es) (sym same) follows.1)))

at : (f : Setting) (list : List Contents) (n : ℕ) (other : Contents) → AllSound f list → IsSoundContents f other → IsSoundContents f (slice_index_or list n other)
at f [] n other all sound = sound
at f (c ∷ cs) zero other all sound = all.0
at f (c ∷ cs) (suc n) other all sound = at f cs n other all.1 sound

pub commits_sound : (f : Setting) (contents : Contents) (trace : List Event) (n : ℕ) → IsLegal f contents trace → IsSoundContents f (after_commits f contents trace n)
commits_sound f contents trace n legal =
    at f (contents ∷ contents_after_commits f (opened contents) trace) n contents (legal.0, all_sound f contents [] trace (legal.0, tt) legal.1) legal.0
