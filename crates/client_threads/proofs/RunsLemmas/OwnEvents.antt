-- The own events of a client: what was requested before one of them, where it is in a trace, and when it is not Refused.
use Rattle.std.proofs.Common.{◌≡◌, ◌≢◌, refl, sym, ap, ◌∙◌, subst, ℕ, List, [], ◌∷◌, ◌++◌, Bool, true, false, append_assoc, arith}
use Rattle.std.specs.Prelude.{◌==◌, cond}
use Rattle.std.specs.List.{All}
use Rattle.std.proofs.lemmas.Bool.Decides.{nat_tests}
use Rattle.std.proofs.lemmas.List.Elements.{All-cons, All-head, All-nil, All-tail}
use Rattle.database_protocol.specs.declared.answer.Answer.{Answer}
use Rattle.database_protocol.specs.declared.answer.Answer.TheVariants.{Refused}
use Rattle.database_protocol.specs.declared.ends.ClientEnd.{ClientEnd}
use Rattle.database_protocol.specs.declared.event.Event.{Event}
use Rattle.database_protocol.specs.declared.next_step.NextStep.{NextStep}
use Rattle.database_protocol.specs.declared.next_step.NextStep.TheVariants.{Ask, Ended}
use Rattle.database_protocol.specs.declared.operation.Op.{Op}
use Rattle.database_meaning.specs.declared.contents.Contents.{Contents}
use Rattle.database_meaning.specs.Setting.{Setting}
use Rattle.database_meaning.specs.Answers.{IsWellFormed}
use Rattle.database_meaning.specs.Traces.{left_by}
use Rattle.database_interface.specs.Step.{event_of}
use Rattle.turn_lock.specs.Journal.{own_entries}
use Rattle.block_meaning.specs.Meaning.{asked, op_of}
use Rattle.block_meaning.specs.State.{Progress}
use Rattle.client_runner.specs.Meant.{IsSureOf, RefusesUnsureAfter, client_in}
use Rattle.client_threads.specs.session.Along.{answers_in, operations_in}
use Rattle.client_threads.specs.runs.Unrefused.{RefusesRightly}
use Rattle.client_threads.proofs.RunsLemmas.Careful.{IsRun, head_same, run_after}

-- ---- lists

pub first_of : {A : Type 0} (P : A → Type 0) (xs ys : List A) → All P (xs ++ ys) → All P xs
first_of P [] ys h = All-nil P
first_of P (x ∷ xs) ys h = All-cons P x xs (All-head P x (xs ++ ys) h) (first_of P xs ys (All-tail P x (xs ++ ys) h))

-- ---- what was requested before an event of a client

ended_asks : (m : List Answer → Progress) → IsRun m → (end : ClientEnd) → (m []).wants ≡ Ended end → (heard : List Answer) → asked m heard ≡ []
ended_asks m r end is [] = refl
ended_asks m r end is (a ∷ heard) =
    ap (λ w. op_of w ++ asked (λ more. m (a ∷ more)) heard) is
    ∙ ended_asks (λ more. m (a ∷ more)) (run_after m a r) end (ap (λ (d : Progress). d.wants) (r.stays [] (a ∷ []) end is) ∙ is) heard

-- the events before this one are as the run requests, and so is its operation
pub record IsRequested (m : List Answer → Progress) (done : List Event) (e : Event) : Type 0 where
  pub before : operations_in done ≡ asked m (answers_in done)
  pub wants : (m (answers_in done)).wants ≡ Ask e.op

requested_first : (m : List Answer → Progress) → IsRun m → (e : Event) (rest : List Event) (w : NextStep) → (m []).wants ≡ w → operations_in (e ∷ rest) ≡ asked m (answers_in (e ∷ rest)) → IsRequested m [] e
requested_first m r e rest (Ended end) is same = absurd (let x : operations_in (e ∷ rest) ≡ [] = same ∙ ended_asks m r end is (answers_in (e ∷ rest)) in cc)
requested_first m r e rest (Ask q) is same =
    let both = head_same e.op q (operations_in rest) (asked (λ more. m (e.answer ∷ more)) (answers_in rest)) (same ∙ ap (λ w. op_of w ++ asked (λ more. m (e.answer ∷ more)) (answers_in rest)) is) in
    record { before = refl; wants = is ∙ ap (λ o. Ask o) (sym both.0) }

requested_next : (m : List Answer → Progress) → IsRun m → (x : Event) (done : List Event) (e : Event) (rest : List Event) (w : NextStep) → (m []).wants ≡ w →
    operations_in (x ∷ (done ++ e ∷ rest)) ≡ asked m (answers_in (x ∷ (done ++ e ∷ rest))) →
    (operations_in (done ++ e ∷ rest) ≡ asked (λ more. m (x.answer ∷ more)) (answers_in (done ++ e ∷ rest)) → IsRequested (λ more. m (x.answer ∷ more)) done e) → IsRequested m (x ∷ done) e
requested_next m r x done e rest (Ended end) is same more = absurd (let y : operations_in (x ∷ (done ++ e ∷ rest)) ≡ [] = same ∙ ended_asks m r end is (answers_in (x ∷ (done ++ e ∷ rest))) in cc)
requested_next m r x done e rest (Ask q) is same more =
    let tail : List Op = asked (λ more. m (x.answer ∷ more)) (answers_in (done ++ e ∷ rest)) in
    let both = head_same x.op q (operations_in (done ++ e ∷ rest)) tail (same ∙ ap (λ w. op_of w ++ tail) is) in
    let it = more both.1 in
    record {
      before = ap (λ os. x.op ∷ os) it.before ∙ ap (λ o. o ∷ asked (λ more. m (x.answer ∷ more)) (answers_in done)) both.0 ∙ sym (ap (λ w. op_of w ++ asked (λ more. m (x.answer ∷ more)) (answers_in done)) is);
      wants = it.wants;
    }

pub requested : (m : List Answer → Progress) → IsRun m → (done : List Event) (e : Event) (rest : List Event) → operations_in (done ++ e ∷ rest) ≡ asked m (answers_in (done ++ e ∷ rest)) → IsRequested m done e
requested m r [] e rest same = requested_first m r e rest (m []).wants refl same
requested m r (x ∷ done) e rest same =
    requested_next m r x done e rest (m []).wants refl same (λ more. requested (λ later. m (x.answer ∷ later)) (run_after m x.answer r) done e rest more)

-- ---- an event of a client in a trace

-- the trace up to the event, in which the client's own events are those before it
pub record IsIn (n : ℕ) (trace done : List Event) (e : Event) : Type 0 where
  pub before : List Event
  pub after : List Event
  pub is : trace ≡ before ++ e ∷ after
  pub own : own_entries client_in n before ≡ done
  pub client : e.client ≡ n

same_client : (k n : ℕ) → (k == n) ≡ true → k ≡ n
same_client k n e = grind (arith, nat_tests)

one_more : (n : ℕ) (x : Event) (trace done : List Event) (e : Event) (c : Bool) → (x.client == n) ≡ c → (first : List Event) → cond c (x ∷ done) done ≡ first → IsIn n trace done e → IsIn n (x ∷ trace) first e
one_more n x trace done e c is first same h = record {
  before = x ∷ h.before;
  after = h.after;
  is = ap (λ l. x ∷ l) h.is;
  own = ap (λ c. cond c (x ∷ own_entries client_in n h.before) (own_entries client_in n h.before)) is ∙ (ap (λ l. cond c (x ∷ l) l) h.own ∙ same);
  client = h.client;
}

in_by : (n : ℕ) (x : Event) (trace done : List Event) (e : Event) (rest : List Event) (c : Bool) → (x.client == n) ≡ c → cond c (x ∷ own_entries client_in n trace) (own_entries client_in n trace) ≡ done ++ e ∷ rest →
    ((done : List Event) → own_entries client_in n trace ≡ done ++ e ∷ rest → IsIn n trace done e) → IsIn n (x ∷ trace) done e
in_by n x trace done e rest false is same more = one_more n x trace done e false is done refl (more done same)
in_by n x trace [] e rest true is same more =
    let it : x ≡ e = cc in
    record { before = []; after = trace; is = ap (λ y. y ∷ trace) it; own = refl; client = subst (λ (y : Event). y.client ≡ n) it (same_client x.client n is) }
in_by n x trace (d ∷ done) e rest true is same more =
    let it : x ≡ d = cc in
    let tail : own_entries client_in n trace ≡ done ++ e ∷ rest = cc in
    one_more n x trace done e true is (d ∷ done) (ap (λ y. y ∷ done) it) (more done tail)

pub is_in : (n : ℕ) (trace done : List Event) (e : Event) (rest : List Event) → own_entries client_in n trace ≡ done ++ e ∷ rest → IsIn n trace done e
is_in n [] [] e rest same = absurd cc
is_in n [] (d ∷ done) e rest same = absurd cc
is_in n (x ∷ trace) done e rest same = in_by n x trace done e rest (x.client == n) refl same (λ done. is_in n trace done e rest)

-- ---- what is refused

-- an event of the client is not refused, where its operation was well formed
pub goes : (setting : Setting) (contents : Contents) (n : ℕ) (trace done : List Event) (e : Event) (rest : List Event) → RefusesRightly setting n trace → own_entries client_in n trace ≡ done ++ e ∷ rest →
    ((before : List Event) → own_entries client_in n before ≡ done → IsWellFormed setting (left_by setting contents before) n e.op) → e.answer ≢ Refused
goes setting contents n trace done e rest rightly same formed refused =
    let it = is_in n trace done e rest same in
    let event : e ≡ event_of n e.op Refused = ap (λ k. event_of k e.op e.answer) it.client ∙ ap (λ a. event_of n e.op a) refused in
    rightly it.before it.after e.op (it.is ∙ ap (λ y. it.before ++ y ∷ it.after) event) contents (formed it.before it.own)

-- contents without rows
no_contents : Contents
no_contents = record { rows = []; sequences = [] }

-- where the database refuses rightly, each own event from here on that was answered Refused was of an operation that was not sure
pub rightly_unsure : (setting : Setting) (n : ℕ) (trace done rest : List Event) → RefusesRightly setting n trace → own_entries client_in n trace ≡ done ++ rest → RefusesUnsureAfter setting done rest
rightly_unsure setting n trace done [] rightly same = tt
rightly_unsure setting n trace done (e ∷ rest) rightly same =
    let its : e.client ≡ n = (is_in n trace done e rest same).client in (
      λ refused sure. goes setting no_contents n trace done e rest rightly same (λ before mine. subst (λ (k : ℕ). IsSureOf setting k done e.op) its sure no_contents before mine) refused,
      rightly_unsure setting n trace (done ++ e ∷ []) rest rightly (same ∙ sym (append_assoc done (e ∷ []) rest)),
    )
