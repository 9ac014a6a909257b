-- What holds of a database, over one event more.
use Rattle.std.proofs.Common.{◌≡◌, ◌≢◌, ◌⊎◌, inl, inr, ℕ, zero, suc, ◌+◌, ◌<◌, ◌≤◌, ◌||◌, Bool, true, false, replicate, List, [], ◌∷◌, ◌++◌, length, refl, sym, ap, ◌∙◌, subst, arith}
use Rattle.std.specs.Prelude.{IsTrue}
use Rattle.std.specs.FinMap.{get}
use Rattle.std.proofs.lemmas.List.{get_or-replicate, length-replicate, length_push}
use Rattle.std.proofs.lemmas.List.Sums.{sum_by-cons}
use Rattle.record_locks.specs.declared.locks.Client.{Client as LockClient}
use Rattle.abl_base.specs.declared.limits.TheConstants.{MAX_TRACE_BYTES}
use Rattle.abl_values.specs.Schema.{SchemaData}
use Rattle.database_protocol.specs.declared.operation.Op.{Op}
use Rattle.database_protocol.specs.declared.operation.Op.TheVariants.{End}
use Rattle.database_protocol.specs.declared.answer.Answer.{Answer}
use Rattle.database_protocol.specs.declared.event.Event.{Event}
use Rattle.database_meaning.specs.declared.contents.Contents.{Contents}
use Rattle.database_meaning.specs.Setting.{Setting}
use Rattle.database_meaning.specs.State.{State}
use Rattle.database_meaning.specs.Answers.{Answers}
use Rattle.database_meaning.specs.Steps.{after, is_closed}
use Rattle.database_meaning.specs.Traces.{Follows, after_event, left_by, opened, state_after}
use Rattle.row_store.specs.Rows.{RowState}
use Rattle.db_core.specs.declared.control.Control.{Control}
use Rattle.db_core.specs.Known.{known}
use Rattle.db_core.specs.Levels.{SameLevels, is_exclusive}
use Rattle.db_core.specs.Opening.{IsNew}
use Rattle.db_core.proofs.RefusalLaws.{known_depth}
use Rattle.db_core.specs.Represents.{Represents}
use Rattle.db_machine.specs.Machine.{IsReserved, IsSafe, WasOpened}
use Rattle.db_machine.specs.Replies.{IsSize, IsStep, size_after}
use Rattle.db_machine.specs.Running.{EndsAtEnd, IsRunning, one_if_running, running_in}
use Rattle.db_machine.proofs.OwnAnswers.{end_or}

state_longer : (f : Setting) (s : State) (events : List Event) (e : Event) → state_after f s (events ++ e ∷ []) ≡ after_event f (state_after f s events) e
state_longer f s [] e = refl
state_longer f s (d ∷ events) e = state_longer f (after_event f s d) events e

follows_longer : (f : Setting) (s : State) (events : List Event) (e : Event) → Follows f s events → Answers f (state_after f s events) e.client e.op e.answer → Follows f s (events ++ e ∷ [])
follows_longer f s [] e h answers = (answers, tt)
follows_longer f s (d ∷ events) e h answers = (h.0, follows_longer f (after_event f s d) events e h.1 answers)

-- no client has a level open or holds a lock at opening
pub levels_first : (control : Control) (at_new contents : Contents) → IsNew control at_new → SameLevels (known control) (opened contents)
levels_first control at_new contents new = record {
  depth = λ c. known_depth control c ∙ ap length (new.marks c);
  exclusive = λ c row. ap (λ (l : LockClient). is_exclusive (get l.held row)) (new.locks c);
}

-- none of the clients has ended
pub running_first : (n : ℕ) → running_in (replicate n true) ≡ n
running_first zero = refl
running_first (suc n) = let more = sum_by-cons one_if_running true (replicate n true) in let rest = running_first n in omega (arith, more, rest)

pub runs_first : (n client : ℕ) → client < n → IsRunning (replicate n true) client
runs_first n client within = (subst (λ (k : ℕ). client < k) (sym (length-replicate n true)) within, get_or-replicate n client true false within)

module _ (rows new : RowState) (control now : Control) (schema : SchemaData) (size size_now : ℕ) (closed closed_now : Bool) (c : ℕ) (op : Op) (a : Answer) (trace longer : List Event)
    (step : IsStep rows new control now size closed c op a) (is : longer ≡ trace ++ record { client = c; op = op; answer = a } ∷ []) (bound : size_now ≤ MAX_TRACE_BYTES + 1)
    (counted : (n : ℕ) → IsSize size n → IsSize size_now (size_after n op a)) (shut : closed_now ≡ (closed || is_closed a)) (fine : (closed || is_closed a) ≡ false → new.failed ≡ false) where
  abbrev e : Event
  e = record { client = c; op = op; answer = a }

  pub safe_more : IsSafe rows control schema size closed trace → IsSafe new now schema size_now closed_now longer
  safe_more safe =
      let more : length longer ≡ length trace + 1 = ap length is ∙ length_push trace e in
      let counts = step.counts.frees in
      let before = safe.frees in
      record {
        sound = step.sound;
        few = subst (λ (n : ℕ). n ≤ 16) (sym step.counts.clients) safe.few;
        same_schema = step.schema ∙ safe.same_schema;
        sequences = step.counts.sequences ∙ safe.sequences;
        frees = omega arith;
        bound = bound;
        fine = λ unshut. fine (sym shut ∙ unshut);
        some = λ observable.
            let seen : IsTrue rows.observable = sym step.observable ∙ observable in
            let was = safe.some seen in
            (was.0, after was.0 was.1 c op a, step.represents seen was.0 was.1 was.2);
      }

  pub opened_more : (f : Setting) (contents : Contents) → WasOpened rows control size closed trace f contents → WasOpened new now size_now closed_now longer f contents
  opened_more f contents was =
      let s = left_by f contents trace in
      let left : left_by f contents longer ≡ after f s c op a = ap (left_by f contents) is ∙ state_longer f (opened contents) trace e in
      record {
        observable = step.observable ∙ was.observable;
        sound_contents = was.sound_contents;
        follows = subst (λ (es : List Event). Follows f (opened contents) es) (sym is) (follows_longer f (opened contents) trace e was.follows (step.answers was.observable f s was.represents was.size_is was.closed_is));
        represents = subst (λ (t : State). Represents f new now t) (sym left) (step.represents was.observable f s was.represents);
        size_is = subst (λ (t : State). IsSize size_now t.size) (sym left) (counted s.size was.size_is);
        closed_is = shut ∙ (ap (λ (b : Bool). b || is_closed a) was.closed_is ∙ sym (ap (λ (t : State). t.closed) left));
      }

  pub levels_more : (f : Setting) → ((contents : Contents) → SameLevels (known control) (left_by f contents trace)) → (contents : Contents) → SameLevels (known now) (left_by f contents longer)
  levels_more f levels contents =
      let left : left_by f contents longer ≡ after f (left_by f contents trace) c op a = ap (left_by f contents) is ∙ state_longer f (opened contents) trace e in
      subst (λ (t : State). SameLevels (known now) t) (sym left) (step.levels f (left_by f contents trace) (levels contents))

  -- the memory for the Ends that are still to come
  pub reserved_more : (running after : List Bool) (most most_now : ℕ) → EndsAtEnd running c op after → most ≤ most_now → (op ≢ End → length trace + running_in running < most_now) → IsReserved control running trace most → IsReserved now after longer most_now
  reserved_more running after most most_now ends grows more reserved = record {
    clients = ends.clients ∙ (reserved.clients ∙ sym step.counts.clients);
    room = at (end_or op);
  }
    where
      length_is : length longer ≡ length trace + 1
      length_is = ap length is ∙ length_push trace e

      at : (op ≡ End) ⊎ (op ≢ End) → length longer + running_in after ≤ most_now
      at (inl end) = let fewer = ends.ends end in let room = reserved.room in let long = length_is in omega arith
      at (inr other) = let same = ap running_in (ends.goes_on other) in let room = more other in let long = length_is in omega arith
