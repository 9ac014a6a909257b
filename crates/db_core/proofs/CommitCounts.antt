-- How the commits of a trace, the acknowledged ones and their moments grow with one event more.
use Rattle.std.proofs.Common.{◌≡◌, inl, inr, ℕ, suc, ◌+◌, ◌≤◌, ◌||◌, Bool, true, false, cond, List, [], ◌∷◌, ◌++◌, length, get_or, refl, sym, ap, ◌∙◌, subst, arith, le-leb, length-append, add-one}
use Rattle.std.specs.Prelude.{filter, map}
use Rattle.std.specs.FinMap.{get, entries, from_entries, get-entries, get-from_entries}
use Rattle.std.specs.Cmp.{nat_cmp_total}
use Rattle.std.specs.Ordering.{nat_cmp}
use Rattle.std.proofs.lemmas.List.{get_or_append_left, length_push}
use Rattle.std.proofs.Math.Seq.{get_or-append_seam}
use Rattle.database_protocol.specs.declared.answer.Answer.{Answer}
use Rattle.database_protocol.specs.declared.answer.Answer.TheVariants.{Committed}
use Rattle.database_protocol.specs.declared.event.Event.{Event}
use Rattle.database_meaning.specs.declared.contents.Contents.{Contents}
use Rattle.database_meaning.specs.declared.state.StoredRow.{StoredRow}
use Rattle.database_meaning.specs.Setting.{Setting}
use Rattle.database_meaning.specs.State.{State, Rows}
use Rattle.database_meaning.specs.Steps.{is_closed}
use Rattle.database_meaning.specs.Traces.{acknowledged, after_commits, after_event, commits, content_row, contents_after_commits, contents_of, identity_of, is_acknowledged, is_committed, is_unanswered_commit, left_by, opened, rows_of, state_after, stored_of}
use Rattle.row_store.specs.Rows.{Durable}
use Rattle.db_core.specs.Crashes.{AreMoments, Holds, HoldsFrom, answered, moment_of}

-- ---- answers

abbrev one_if : Bool → ℕ
one_if true = 1
one_if false = 0

pub unacknowledged : (m : ℕ) (a : Answer) → is_committed a ≡ false → is_acknowledged m a ≡ false
unacknowledged m (Committed at) e = let clash : true ≡ false = e in cc
unacknowledged m _ e = refl

pub same_moment : (last : ℕ) (a : Answer) → is_committed a ≡ false → moment_of last a ≡ last
same_moment last (Committed at) e = let clash : true ≡ false = e in cc
same_moment last _ e = refl

-- where an answer is Committed, it is acknowledged from its moment on
acknowledged_from : (m last : ℕ) (a : Answer) → moment_of last a ≤ m → is_acknowledged m a ≡ is_committed a
acknowledged_from m last (Committed at) within = le-leb at m within
acknowledged_from m last _ within = refl

-- ---- counts

counted_by : (b : Bool) (d : Event) (longer trace : List Event) (n : ℕ) → length longer ≡ length trace + n → length (cond b (d ∷ longer) longer) ≡ length (cond b (d ∷ trace) trace) + n
counted_by true d longer trace n h = omega (arith, h)
counted_by false d longer trace n h = h

one_event : (b : Bool) (e : Event) → length (cond b (e ∷ []) []) ≡ one_if b
one_event true e = refl
one_event false e = refl

counted_longer : (p : Event → Bool) (trace : List Event) (e : Event) → length (filter p (trace ++ e ∷ [])) ≡ length (filter p trace) + one_if (p e)
counted_longer p [] e = let is = one_event (p e) e in omega (arith, is)
counted_longer p (d ∷ trace) e = counted_by (p d) d (filter p (trace ++ e ∷ [])) (filter p trace) (one_if (p e)) (counted_longer p trace e)

pub answered_longer : (trace : List Event) (e : Event) → is_committed e.answer ≡ true → answered (trace ++ e ∷ []) ≡ answered trace + 1
answered_longer trace e is = counted_longer (λ d. is_committed d.answer) trace e ∙ ap (λ (b : Bool). answered trace + one_if b) is

pub answered_still : (trace : List Event) (e : Event) → is_committed e.answer ≡ false → answered (trace ++ e ∷ []) ≡ answered trace
answered_still trace e is =
    let more : answered (trace ++ e ∷ []) ≡ answered trace + 0 = counted_longer (λ d. is_committed d.answer) trace e ∙ ap (λ (b : Bool). answered trace + one_if b) is in
    omega (arith, more)

pub acknowledged_still : (m : ℕ) (trace : List Event) (e : Event) → is_acknowledged m e.answer ≡ false → acknowledged m (trace ++ e ∷ []) ≡ acknowledged m trace
acknowledged_still m trace e is =
    let more : acknowledged m (trace ++ e ∷ []) ≡ acknowledged m trace + 0 = counted_longer (λ d. is_acknowledged m d.answer) trace e ∙ ap (λ (b : Bool). acknowledged m trace + one_if b) is in
    omega (arith, more)

pub acknowledged_longer : (m : ℕ) (trace : List Event) (e : Event) → is_acknowledged m e.answer ≡ true → acknowledged m (trace ++ e ∷ []) ≡ acknowledged m trace + 1
acknowledged_longer m trace e is = counted_longer (λ d. is_acknowledged m d.answer) trace e ∙ ap (λ (b : Bool). acknowledged m trace + one_if b) is

-- ---- commits

or_left : (a b : Bool) → (a || b) ≡ false → a ≡ false
or_left true b e = e
or_left false b e = refl

or_right : (a b : Bool) → (a || b) ≡ false → b ≡ false
or_right true b e = let clash : true ≡ false = e in cc
or_right false b e = e

-- a database that is not closed never was
never_closed : (f : Setting) (s : State) (trace : List Event) → (state_after f s trace).closed ≡ false → s.closed ≡ false
never_closed f s [] e = e
never_closed f s (d ∷ trace) e = or_left s.closed (is_closed d.answer) (never_closed f (after_event f s d) trace e)

commits_by : (b u : Bool) (x y : Contents) (longer list more : List Contents) → longer ≡ list ++ more
    → cond b (x ∷ longer) (cond u (y ∷ longer) longer) ≡ cond b (x ∷ list) (cond u (y ∷ list) list) ++ more
commits_by true u x y longer list more h = ap (λ (l : List Contents). x ∷ l) h
commits_by false true x y longer list more h = ap (λ (l : List Contents). y ∷ l) h
commits_by false false x y longer list more h = h

-- the commits of one event more come last
commits_longer : (f : Setting) (s : State) (trace : List Event) (e : Event)
    → contents_after_commits f s (trace ++ e ∷ []) ≡ contents_after_commits f s trace ++ contents_after_commits f (state_after f s trace) (e ∷ [])
commits_longer f s [] e = refl
commits_longer f s (d ∷ trace) e =
    commits_by (is_committed d.answer) (is_unanswered_commit s d) (contents_of (after_event f s d)) _ (contents_after_commits f (after_event f s d) (trace ++ e ∷ [])) (contents_after_commits f (after_event f s d) trace)
    (contents_after_commits f (state_after f s (d ∷ trace)) (e ∷ [])) (commits_longer f (after_event f s d) trace e)

count_all : (b u : Bool) (x y : Contents) (list : List Contents) (d : Event) (events : List Event) → u ≡ false → length list ≡ length events
    → length (cond b (x ∷ list) (cond u (y ∷ list) list)) ≡ length (cond b (d ∷ events) events)
count_all true u x y list d events none h = ap suc h
count_all false true x y list d events none h = let clash : true ≡ false = none in cc
count_all false false x y list d events none h = h

unanswered_none : (s : State) (e : Event) → is_closed e.answer ≡ false → is_unanswered_commit s e ≡ false
unanswered_none s e none = rw none refl

-- where the database is not closed, each commit was answered
pub all_answered : (f : Setting) (s : State) (trace : List Event) → (state_after f s trace).closed ≡ false → length (contents_after_commits f s trace) ≡ answered trace
all_answered f s [] e = refl
all_answered f s (d ∷ trace) e =
    count_all (is_committed d.answer) (is_unanswered_commit s d) (contents_of (after_event f s d)) _ (contents_after_commits f (after_event f s d) trace) d (filter (λ (x : Event). is_committed x.answer) trace)
    (unanswered_none s d (or_right s.closed (is_closed d.answer) (never_closed f (after_event f s d) trace e))) (all_answered f (after_event f s d) trace e)

count_some : (b u : Bool) (x y : Contents) (list : List Contents) (d : Event) (events : List Event) → length events ≤ length list
    → length (cond b (d ∷ events) events) ≤ length (cond b (x ∷ list) (cond u (y ∷ list) list))
count_some true u x y list d events h = omega (arith, h)
count_some false true x y list d events h = omega (arith, h)
count_some false false x y list d events h = h

pub answered_within : (f : Setting) (s : State) (trace : List Event) → answered trace ≤ length (contents_after_commits f s trace)
answered_within f s [] = omega arith
answered_within f s (d ∷ trace) =
    count_some (is_committed d.answer) (is_unanswered_commit s d) (contents_of (after_event f s d)) _ (contents_after_commits f (after_event f s d) trace) d (filter (λ (x : Event). is_committed x.answer) trace)
    (answered_within f (after_event f s d) trace)

count_fewer : (a b : Bool) (d : Event) (some all : List Event) → (a ≡ true → b ≡ true) → length some ≤ length all → length (cond a (d ∷ some) some) ≤ length (cond b (d ∷ all) all)
count_fewer true true d some all is h = omega (arith, h)
count_fewer true false d some all is h = let clash : false ≡ true = is refl in cc
count_fewer false true d some all is h = omega (arith, h)
count_fewer false false d some all is h = h

acknowledged_is : (m : ℕ) (a : Answer) → is_acknowledged m a ≡ true → is_committed a ≡ true
acknowledged_is m (Committed at) e = refl
acknowledged_is m _ e = e

pub acknowledged_within : (m : ℕ) (trace : List Event) → acknowledged m trace ≤ answered trace
acknowledged_within m [] = omega arith
acknowledged_within m (d ∷ trace) =
    count_fewer (is_acknowledged m d.answer) (is_committed d.answer) d (filter (λ (x : Event). is_acknowledged m x.answer) trace) (filter (λ (x : Event). is_committed x.answer) trace) (acknowledged_is m d.answer)
    (acknowledged_within m trace)

-- ---- moments

moments_within : (first : ℕ) (trace : List Event) (present : ℕ) → AreMoments first trace present → first ≤ present
moments_within first [] present h = h
moments_within first (e ∷ trace) present h = let low = h.0 in let high = moments_within (moment_of first e.answer) trace present h.1 in omega (arith, low, high)

pub moments_later : (first : ℕ) (trace : List Event) (present later : ℕ) → present ≤ later → AreMoments first trace present → AreMoments first trace later
moments_later first [] present later on h = omega (arith, on, h)
moments_later first (e ∷ trace) present later on h = (h.0, moments_later (moment_of first e.answer) trace present later on h.1)

-- the event's moment, if it has one, lies between the two
pub moments_longer : (first : ℕ) (trace : List Event) (present later : ℕ) (e : Event) → ((last : ℕ) → last ≤ present → (last ≤ moment_of last e.answer) × (moment_of last e.answer ≤ later))
    → AreMoments first trace present → AreMoments first (trace ++ e ∷ []) later
moments_longer first [] present later e between h = between first h
moments_longer first (d ∷ trace) present later e between h = (h.0, moments_longer (moment_of first d.answer) trace present later e between h.1)

-- from the present moment on all answered commits are acknowledged
same_count : (a b : Bool) (d : Event) (some all : List Event) → a ≡ b → length some ≡ length all → length (cond a (d ∷ some) some) ≡ length (cond b (d ∷ all) all)
same_count true true d some all is h = ap suc h
same_count true false d some all is h = let clash : true ≡ false = is in cc
same_count false true d some all is h = let clash : false ≡ true = is in cc
same_count false false d some all is h = h

pub acknowledged_all : (m first : ℕ) (trace : List Event) (present : ℕ) → AreMoments first trace present → present ≤ m → acknowledged m trace ≡ answered trace
acknowledged_all m first [] present h on = refl
acknowledged_all m first (d ∷ trace) present h on =
    let low = moments_within (moment_of first d.answer) trace present h.1 in
    same_count (is_acknowledged m d.answer) (is_committed d.answer) d (filter (λ (x : Event). is_acknowledged m x.answer) trace) (filter (λ (x : Event). is_committed x.answer) trace)
    (acknowledged_from m first d.answer (omega (arith, low, on))) (acknowledged_all m (moment_of first d.answer) trace present h.1 on)

-- ---- the contents after n commits

module _ (f : Setting) (contents : Contents) (trace : List Event) (e : Event) where
  abbrev list : List Contents
  list = contents_after_commits f (opened contents) trace

  abbrev more : List Contents
  more = contents_after_commits f (left_by f contents trace) (e ∷ [])

  pub same_after : (n : ℕ) → n ≤ length list → after_commits f contents (trace ++ e ∷ []) n ≡ after_commits f contents trace n
  same_after n within =
      ap (λ (l : List Contents). get_or (contents ∷ l) n contents) (commits_longer f (opened contents) trace e)
      ∙ get_or_append_left (contents ∷ list) more contents n (omega (arith, within))

  more_commits : commits f contents trace ≤ commits f contents (trace ++ e ∷ [])
  more_commits = let is = ap length (commits_longer f (opened contents) trace e) in let long = length-append list more in omega (arith, is, long)

  pub from_longer : (n : ℕ) (durable : Durable) → n ≤ commits f contents trace → HoldsFrom f contents trace n durable → HoldsFrom f contents (trace ++ e ∷ []) n durable
  from_longer n durable within (inl now) = inl (subst (λ (c : Contents). Holds durable c) (sym (same_after n within)) now)
  from_longer n durable within (inr next) = inr ((let more = more_commits in let less = next.0 in omega (arith, more, less)), subst (λ (c : Contents). Holds durable c) (sym (same_after (n + 1) (let less = next.0 in omega (arith, less)))) next.1)

  -- the event has this one commit, the last of all
  module _ (last : Contents) (is : contents_after_commits f (left_by f contents trace) (e ∷ []) ≡ last ∷ []) where
    list_is : contents_after_commits f (opened contents) (trace ++ e ∷ []) ≡ list ++ last ∷ []
    list_is = commits_longer f (opened contents) trace e ∙ ap (λ (l : List Contents). list ++ l) is

    pub one_more : commits f contents (trace ++ e ∷ []) ≡ commits f contents trace + 1
    one_more = ap length list_is ∙ length_push list last

    pub last_after : (n : ℕ) → n ≡ length list → after_commits f contents (trace ++ e ∷ []) (n + 1) ≡ last
    last_after n at =
        ap (λ (k : ℕ). get_or (contents ∷ contents_after_commits f (opened contents) (trace ++ e ∷ [])) (k + 1) contents) at
        ∙ (ap (λ (l : List Contents). get_or (contents ∷ l) (length list + 1) contents) list_is
        ∙ (ap (λ (k : ℕ). get_or (contents ∷ (list ++ last ∷ [])) k contents) (add-one (length list)) ∙ get_or-append_seam (contents ∷ list) last [] contents))

-- ---- contents of a state

listed : (es : List (ℕ × StoredRow)) → map {B = ℕ × StoredRow} (λ r. (identity_of r, stored_of r)) (map content_row es) ≡ es
listed [] = refl
listed (e ∷ es) = ap (λ (l : List (ℕ × StoredRow)). e ∷ l) (listed es)

-- the rows of the contents of a state are its committed ones
pub rows_again : (rows : Rows) (k : ℕ) → get (rows_of (map content_row (entries rows))) k ≡ get rows k
rows_again rows k = ap (λ (es : List (ℕ × StoredRow)). get {R = nat_cmp} (from_entries {R = nat_cmp} es) k) (listed (entries rows)) ∙ (get-from_entries nat_cmp_total (entries rows) k ∙ sym (get-entries rows k))
