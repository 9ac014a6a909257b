-- Replies and steps from their parts.
use Rattle.std.proofs.Common.{◌≡◌, ◌≢◌, ℕ, ◌<◌, ◌||◌, Bool, true, false, [], length, map, Option, None, Some, eq-eqb, refl, sym, ap, ◌∙◌, subst, inl, arith}
use Rattle.std.specs.Prelude.{IsTrue, ◌↔◌}
use Rattle.std.specs.FinMap.{get, empty}
use Rattle.std.proofs.lemmas.List.{length-map}
use Rattle.abl_values.specs.Schema.{SchemaData}
use Rattle.database_protocol.specs.declared.operation.Op.{Op}
use Rattle.database_protocol.specs.declared.operation.Op.TheVariants.{CurrentValue, End, Get, Lock, Next}
use Rattle.database_protocol.specs.declared.answer.Answer.{Answer}
use Rattle.database_protocol.specs.declared.answer.Answer.TheVariants.{Closed, NoMemory, Refused}
use Rattle.database_meaning.specs.declared.state.BlockedRequest.{BlockedRequest}
use Rattle.database_meaning.specs.Setting.{Setting}
use Rattle.database_meaning.specs.State.{Held, HoldsExclusively, State, depth_of}
use Rattle.database_meaning.specs.Answers.{FromGone, IsRefused}
use Rattle.database_meaning.specs.Steps.{after, is_outermost, is_success}
use Rattle.record_locks.specs.declared.locks.BlockedLock.{BlockedLock}
use Rattle.record_locks.specs.Table.{client_of}
use Rattle.row_store.specs.Questions.{table_at, table_in}
use Rattle.row_store.specs.Rows.{IsObservable, RowState}
use Rattle.db_core.specs.declared.control.Control.{Control}
use Rattle.db_core.specs.Keeps.{IsFailure, Keeps, NextCounts, RepresentsBut, SameCounts, Stays}
use Rattle.db_core.specs.Known.{IsAllowed, known, no_overlay, setting_at}
use Rattle.db_core.specs.Levels.{SameLevels}
use Rattle.db_core.specs.Moves.{IsQuestion}
use Rattle.db_core.specs.Represents.{IsSound, Represents, blocked_lock, marks_at}
use Rattle.db_core.proofs.LevelLaws.{levels_after, levels_back, levels_known, levels_stay, levels_then}
use Rattle.db_core.proofs.RefusalLaws.{known_depth}
use Rattle.db_machine.specs.Machine.{IsSome}
use Rattle.db_machine.specs.Replies.{AsksWhatIs, IsFitted, IsReply, IsStep}
use Rattle.db_machine.proofs.Rooms.{by_room, closed_answers, failed_answers, memory_answers, refused_answers, room_answers}

pub next_of : {control now : Control} → SameCounts control now → NextCounts control now
next_of counts = record { clients = counts.clients; sequences = counts.sequences; frees = let same = counts.frees in omega arith }

pub keeps_still : (rows new : RowState) (control now : Control) → new ≡ rows → SameCounts control now → Keeps rows new control now
keeps_still rows new control now same counts = subst (λ (r : RowState). Keeps rows r control now) (sym same) (record { observable = refl; failed = refl; schema = refl; counts = next_of counts })

-- ---- some state is represented

-- a request that waits for this lock
abbrev lock_request : Option BlockedLock → Option BlockedRequest
lock_request None = None
lock_request (Some lock) = Some (record { op = Lock 0 lock.row lock.exclusive true; frees = 0 })

asks_lock : (o : Option BlockedLock) → o ≡ blocked_lock (lock_request o)
asks_lock None = refl
asks_lock (Some lock) = refl

-- what the control data know, as a state
abbrev state_known : Control → State
state_known control = record {
  committed = empty;
  sequences = control.sequences.items;
  client = λ c. record {
    overlay = empty;
    levels = map no_overlay (marks_at control c);
    reserved_keys = [];
    drawn = 0;
    written = 0;
    held = (client_of control.locks c).held;
    blocked = lock_request (client_of control.locks c).blocked;
  };
  frees = control.frees;
  size = 0;
  closed = false;
}

-- a store that is not observable represents it
unseen : (rows : RowState) (control : Control) → rows.observable ≡ false → Represents (record { schema = rows.schema; clients = length control.sessions.items }) rows control (state_known control)
unseen rows control none = record {
  schema = refl;
  clients = refl;
  client = λ c. record {
    held = refl;
    waits = asks_lock (client_of control.locks c).blocked;
    blocked = λ seen. absurd (clash seen);
    depth = length-map (marks_at control c) no_overlay;
    reserved = λ seen. absurd (clash seen);
    drawn = λ seen. absurd (clash seen.0);
    written = λ seen. absurd (clash seen.0);
    overlay = λ seen. absurd (clash seen.0);
    copies = λ seen. absurd (clash seen.0);
    locked = λ seen. absurd (clash seen.0);
    there = λ seen. absurd (clash seen.0);
  };
  apart = λ seen. absurd (clash seen.0);
  committed = λ seen. absurd (clash seen);
  sequences = refl;
  frees = λ seen. absurd (clash seen);
}
  where
    clash : IsTrue rows.observable → ⊥
    clash seen = let e : true ≡ false = sym seen ∙ none in cc

some_state : (rows : RowState) (control : Control) → IsSome rows control → (f : Setting) × (s : State) × Represents f rows control s
some_state rows control some = at rows.observable refl
  where
    at : (b : Bool) → rows.observable ≡ b → (f : Setting) × (s : State) × Represents f rows control s
    at true e = some e
    at false e = (record { schema = rows.schema; clients = length control.sessions.items }, state_known control, unseen rows control e)

-- Levels and exclusive locks after an answer, in any state: they are as in the state that is represented
pub levels_by : (rows new : RowState) (control now : Control) (c : ℕ) (op : Op) (a : Answer) → IsSome rows control → ((f : Setting) (s : State) → Represents f rows control s → Represents f new now (after f s c op a))
    → (g : Setting) (t : State) → SameLevels (known control) t → SameLevels (known now) (after g t c op a)
levels_by rows new control now c op a some represents g t same =
    let found = some_state rows control some in
    let f : Setting = found.0 in
    let s : State = found.1 in
    levels_then (known now) (after f s c op a) (after g t c op a) (levels_known f new now (after f s c op a) (represents f s found.2))
    (levels_after f g s t c (levels_then s (known control) t (levels_back (known control) s (levels_known f rows control s found.2)) same) op a)

-- the client's request ends after an error, and levels and exclusive locks stay
levels_failed : (rows : RowState) (middle now : Control) (c : ℕ) (op : Op) (a : Answer) → is_success a ≡ false
    → ((r : RowState) (f : Setting) (s : State) → RepresentsBut f r middle c s → Represents f r now (after f s c op a)) → SameLevels (known now) (known middle)
levels_failed rows middle now c op a fails represents =
    let hidden : RowState = record rows { observable = false } in
    let f : Setting = record { schema = rows.schema; clients = length middle.sessions.items } in
    let s : State = state_known middle in
    let h : Represents f hidden middle s = unseen hidden middle refl in
    levels_then (known now) (after f s c op a) (known middle) (levels_known f hidden now (after f s c op a) (represents hidden f s (inl h)))
    (levels_then (after f s c op a) s (known middle) (levels_stay f s c op a fails) (levels_back (known middle) s (levels_known f hidden middle s h)))

-- ---- replies

pub reply_by : (rows new : RowState) (control now : Control) (size c : ℕ) (op : Op) (b a : Answer) → Keeps rows new control now → IsSound new now
    → (IsObservable rows → (f : Setting) (s : State) → Represents f rows control s → FromGone f s c op b) → IsFitted size op b a
    → (IsObservable rows → (f : Setting) (s : State) → Represents f rows control s → Represents f new now (after f s c op a))
    → ((f : Setting) (s : State) → SameLevels (known control) s → SameLevels (known now) (after f s c op a))
    → IsReply rows new control now size c op a
reply_by rows new control now size c op b a keeps sound decided fitted represents levels = record {
  keeps = keeps;
  sound = sound;
  answers = λ seen f s h is. by_room f s c op size is b a (decided seen f s h) fitted;
  represents = represents;
  levels = levels;
}

pub reply_of : (rows new : RowState) (control now : Control) (size c : ℕ) (op : Op) (b a : Answer) → IsSome rows control → Keeps rows new control now → IsSound new now
    → (IsObservable rows → (f : Setting) (s : State) → Represents f rows control s → FromGone f s c op b) → IsFitted size op b a
    → ((f : Setting) (s : State) → Represents f rows control s → Represents f new now (after f s c op a))
    → IsReply rows new control now size c op a
reply_of rows new control now size c op b a some keeps sound decided fitted represents =
    reply_by rows new control now size c op b a keeps sound decided fitted (λ seen. represents) (levels_by rows new control now c op a some represents)

-- nothing but the client's blocked request changed
pub still_reply : (rows new : RowState) (control now : Control) (size c : ℕ) (op : Op) (b a : Answer) → IsSome rows control → new ≡ rows → SameCounts control now → IsSound rows now
    → (IsObservable rows → (f : Setting) (s : State) → Represents f rows control s → FromGone f s c op b) → IsFitted size op b a
    → ((f : Setting) (s : State) → Represents f rows control s → Represents f rows now (after f s c op a))
    → IsReply rows new control now size c op a
still_reply rows new control now size c op b a some same counts sound decided fitted represents =
    reply_of rows new control now size c op b a some (keeps_still rows new control now same counts) (subst (λ (r : RowState). IsSound r now) (sym same) sound) decided fitted
    (λ f s h. subst (λ (r : RowState). Represents f r now (after f s c op a)) (sym same) (represents f s h))

-- ---- steps

module _ (rows : RowState) (control : Control) (schema : SchemaData) (size : ℕ) (closed : Bool) (c : ℕ) (op : Op) (is_schema : rows.schema ≡ schema)
    (law : (f : Setting) (s : State) → Represents f rows control s → IsTrue rows.observable → f.schema ≡ schema → IsAllowed (setting_at schema control) (known control) c op ↔ IsAllowed f s c op) where
  allowed_in : IsAllowed (setting_at schema control) (known control) c op → (f : Setting) (s : State) → Represents f rows control s → IsTrue rows.observable → ¬ IsRefused f s c op
  allowed_in allowed f s h observable refused = refused ((law f s h observable (h.schema ∙ is_schema)).0 allowed)

  pub step_refused : ¬ IsAllowed (setting_at schema control) (known control) c op → IsSound rows control
      → ((f : Setting) (s : State) → Represents f rows control s → Represents f rows control (after f s c op Refused)) → IsStep rows rows control control size closed c op Refused
  step_refused none sound represents = record {
    observable = refl;
    schema = refl;
    counts = record { clients = refl; sequences = refl; frees = omega arith };
    sound = sound;
    answers = λ observable f s h is closed_is. refused_answers f s c op Refused (λ allowed. none ((law f s h observable (h.schema ∙ is_schema)).1 allowed)) refl;
    represents = λ observable f s h. represents f s h;
    levels = λ f s same. levels_then (known control) s (after f s c op Refused) same (levels_back (after f s c op Refused) s (levels_stay f s c op Refused refl));
  }

  module _ (allowed : IsAllowed (setting_at schema control) (known control) c op) where
    pub step_closed : (now : Control) → IsSome rows control → op ≢ End → closed ≡ true → SameCounts control now → IsSound rows now
        → ((f : Setting) (s : State) → Represents f rows control s → Represents f rows now (after f s c op Closed)) → IsStep rows rows control now size closed c op Closed
    step_closed now some ne shut counts sound represents = record {
      observable = refl;
      schema = refl;
      counts = next_of counts;
      sound = sound;
      answers = λ observable f s h is closed_is. closed_answers f s c op Closed (allowed_in allowed f s h observable) ne (sym closed_is ∙ shut) refl;
      represents = λ observable f s h. represents f s h;
      levels = levels_by rows rows control now c op Closed some represents;
    }

    pub step_reply : (new : RowState) (now : Control) (a : Answer) → closed ≡ false → rows.failed ≡ false → IsReply rows new control now size c op a → IsStep rows new control now size closed c op a
    step_reply new now a unshut fine reply = record {
      observable = reply.keeps.observable;
      schema = reply.keeps.schema;
      counts = reply.keeps.counts;
      sound = reply.sound;
      answers = λ observable f s h is closed_is. room_answers f s c op a (allowed_in allowed f s h observable) (sym closed_is ∙ unshut) (reply.answers (observable, fine) f s h is);
      represents = λ observable f s h. reply.represents (observable, fine) f s h;
      levels = reply.levels;
    }

    -- after an error: `middle` is what the failed call left, and `now` is that without the client's blocked request
    pub step_failed : (new : RowState) (middle now : Control) (a : Answer) → op ≢ End → rows.failed ≡ false → IsFailure a → Stays rows new control middle c → IsSound rows control
        → ((r : RowState) → IsSound r middle → IsSound r now) → SameCounts control now
        → ((r : RowState) (f : Setting) (s : State) → RepresentsBut f r middle c s → Represents f r now (after f s c op a)) → IsStep rows new control now size closed c op a
    step_failed new middle now NoMemory ne fine failure stays sound sounds counts represents = record {
      observable = stays.observable;
      schema = stays.schema;
      counts = next_of counts;
      sound = sounds new (stays.sound sound);
      answers = λ observable f s h is closed_is. memory_answers f s c op NoMemory ne refl;
      represents = λ observable f s h. represents new f s (stays.represents (observable, fine) f s h);
      levels = λ f s same.
          levels_then (known now) (known middle) (after f s c op NoMemory) (levels_failed new middle now c op NoMemory refl represents)
          (levels_then (known middle) (known control) (after f s c op NoMemory) stays.levels (levels_then (known control) s (after f s c op NoMemory) same (levels_back (after f s c op NoMemory) s (levels_stay f s c op NoMemory refl))));
    }
    step_failed new middle now Closed ne fine failure stays sound sounds counts represents = record {
      observable = stays.observable;
      schema = stays.schema;
      counts = next_of counts;
      sound = sounds new (stays.sound sound);
      answers = λ observable f s h is closed_is. failed_answers f s c op Closed (allowed_in allowed f s h observable) ne refl;
      represents = λ observable f s h. represents new f s (stays.represents (observable, fine) f s h);
      levels = λ f s same.
          levels_then (known now) (known middle) (after f s c op Closed) (levels_failed new middle now c op Closed refl represents)
          (levels_then (known middle) (known control) (after f s c op Closed) stays.levels (levels_then (known control) s (after f s c op Closed) same (levels_back (after f s c op Closed) s (levels_stay f s c op Closed refl))));
    }
    step_failed new middle now _ ne fine failure stays sound sounds counts represents = absurd failure

-- counts over two calls that free nothing
pub counts_then : (before middle last : Control) → SameCounts before middle → SameCounts middle last → SameCounts before last
counts_then before middle last first second = record {
  clients = second.clients ∙ first.clients;
  sequences = second.sequences ∙ first.sequences;
  frees = second.frees ∙ first.frees;
}

pub question_is : (schema : SchemaData) (control : Control) (op : Op) → AsksWhatIs schema control op → IsQuestion op
question_is schema control (Next table index prefix cursor forward) asks = tt
question_is schema control (Get table row) asks = tt
question_is schema control (CurrentValue sequence) asks = tt
question_is schema control _ asks = absurd asks

-- an operation as it is written out
pub from_op : (f : Setting) (s : State) (c : ℕ) (op written : Op) (a : Answer) → op ≡ written → FromGone f s c written a → FromGone f s c op a
from_op f s c op written a is from = subst (λ (o : Op). FromGone f s c o a) (sym is) from

-- a row of some table is there
pub there_then : (rows : RowState) (k table : ℕ) → table_at rows.rows k ≡ Some table → rows.rows k ≢ None
there_then rows k table is none = let clash : Some table ≡ None = sym is ∙ ap table_in none in cc

-- the state after an answer, as both are written out
pub after_as : (f : Setting) (rows : RowState) (now : Control) (s : State) (c : ℕ) (op written : Op) (a b : Answer) → op ≡ written → a ≡ b → Represents f rows now (after f s c written b) → Represents f rows now (after f s c op a)
after_as f rows now s c op written a b op_is is h =
    subst (λ (x : Answer). Represents f rows now (after f s c op x)) (sym is) (subst (λ (o : Op). Represents f rows now (after f s c o b)) (sym op_is) h)

pub keeps_next : (rows : RowState) (control now : Control) → NextCounts control now → Keeps rows rows control now
keeps_next rows control now counts = record { observable = refl; failed = refl; schema = refl; counts = counts }

-- a level that is left inside the transaction, and the outermost one
pub inner_depth : (f : Setting) (rows : RowState) (control : Control) (s : State) (c : ℕ) → Represents f rows control s → 1 < length (marks_at control c) → depth_of s c ≢ 1
inner_depth f rows control s c h inner is = let same = (h.client c).depth in absurd (omega arith)

pub outermost_depth : (f : Setting) (rows : RowState) (control : Control) (s : State) (c : ℕ) → Represents f rows control s → length (marks_at control c) ≡ 1 → depth_of s c ≡ 1
outermost_depth f rows control s c h is = (h.client c).depth ∙ is

pub is_outer : (s : State) (c : ℕ) → depth_of s c ≡ 1 → is_outermost s c ≡ true
is_outer s c is = eq-eqb (depth_of s c) 1 is

-- an exclusive lock, by the control data and by the state
pub holds_in : (f : Setting) (rows : RowState) (control : Control) (s : State) (c row : ℕ) → Represents f rows control s → HoldsExclusively (known control) c row → HoldsExclusively s c row
holds_in f rows control s c row h held = ap (λ (m : Held). get m row) (sym (h.client c).held) ∙ held

pub left_false : (a b : Bool) → (a || b) ≡ false → a ≡ false
left_false true b e = e
left_false false b e = refl

-- a state with the same levels has the client at its outermost level too
pub outer_levels : (control : Control) (s : State) (c : ℕ) → SameLevels (known control) s → length (marks_at control c) ≡ 1 → is_outermost s c ≡ true
outer_levels control s c same one = is_outer s c (sym (same.depth c) ∙ (known_depth control c ∙ one))
