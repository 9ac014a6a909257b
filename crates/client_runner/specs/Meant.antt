-- What a client is to do, and which operations are well formed whatever the database holds.
use Rattle.std.specs.Prelude.{◌≡◌, ◌≢◌, ℕ, List, [], ◌∷◌, ◌++◌}
use Rattle.std.specs.List.{All}
use Rattle.database_meaning.specs.declared.contents.Contents.{Contents}
use Rattle.database_protocol.specs.declared.operation.Op.{Op}
use Rattle.database_protocol.specs.declared.operation.Op.TheVariants.{End}
use Rattle.database_protocol.specs.declared.answer.Answer.{Answer}
use Rattle.database_protocol.specs.declared.answer.Answer.TheVariants.{Refused}
use Rattle.database_protocol.specs.declared.event.Event.{Event}
use Rattle.database_protocol.specs.declared.next_step.NextStep.{NextStep}
use Rattle.database_protocol.specs.declared.next_step.NextStep.TheVariants.{Ask, Ended}
use Rattle.database_meaning.specs.Setting.{Setting}
use Rattle.database_meaning.specs.Fits.{Fits}
use Rattle.database_meaning.specs.Answers.{IsWellFormed}
use Rattle.database_meaning.specs.Traces.{left_by}
use Rattle.block_meaning.specs.State.{Progress}
use Rattle.turn_lock.specs.Journal.{own_entries}

-- what a client is to do: what its run means under each list of answers. The named outputs have these names
pub record Meant : Type 0 where
  pub names : List (List ℕ)
  pub run : List Answer → Progress

-- the client that an event is of
abbrev pub client_in : Event → ℕ
client_in e = e.client

-- in the state that any trace leaves in which these are the client's own events, the operation names what there is, and its level, lock
-- and values are right
abbrev pub IsSureOf : Setting → ℕ → List Event → Op → Type 0
IsSureOf setting n own op = (contents : Contents) (trace : List Event) → own_entries client_in n trace ≡ own → IsWellFormed setting (left_by setting contents trace) n op

-- no event is an End
abbrev pub HasNotEnded : List Event → Type 0
HasNotEnded own = All (λ e. e.op ≢ End) own

-- the client has ended
abbrev pub IsOver : NextStep → Type 0
IsOver (Ask op) = ⊥
IsOver (Ended end) = Unit {0}

-- the operation that the client requests, if it does, is one of these
abbrev pub Requests : (Op → Type 0) → NextStep → Type 0
Requests MayRequest (Ask op) = MayRequest op
Requests MayRequest (Ended end) = Unit {0}

-- no answer of these events to one of these operations is Refused
abbrev pub NoneIsRefused : (Op → Type 0) → List Event → Type 0
NoneIsRefused IsCertain own = All (λ e. IsCertain e.op → e.answer ≢ Refused) own

-- each answer of these events fits its operation
abbrev pub AllFit : Setting → List Event → Type 0
AllFit setting own = All (λ e. Fits setting.schema e.op e.answer) own

-- each operation of these events that was answered Refused was not sure to be well formed after the events before it
abbrev pub RefusesUnsureAfter : Setting → List Event → List Event → Type 0
RefusesUnsureAfter setting before [] = Unit {0}
RefusesUnsureAfter setting before (e ∷ es) = (e.answer ≡ Refused → ¬ IsSureOf setting e.client before e.op) × RefusesUnsureAfter setting (before ++ e ∷ []) es

-- NO OPERATION OF A CLIENT WITH THESE OWN EVENTS WAS REFUSED that was sure to be well formed after the client's own events before it
abbrev pub RefusesOnlyUnsure : Setting → List Event → Type 0
RefusesOnlyUnsure setting own = RefusesUnsureAfter setting [] own
