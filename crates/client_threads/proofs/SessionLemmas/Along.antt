-- One event more.
use Rattle.std.proofs.Common.{◌≡◌, inl, inr, ℕ, ◌<◌, ◌≤◌, Option, Some, None, IfSome, List, [], ◌∷◌, ◌++◌, refl, sym, ap, ◌∙◌, subst, append_assoc, append-nil}
use Rattle.database_protocol.specs.declared.operation.Op.{Op}
use Rattle.database_protocol.specs.declared.operation.Op.TheVariants.{Enter, Leave, Back, End}
use Rattle.database_protocol.specs.declared.answer.Answer.{Answer}
use Rattle.database_protocol.specs.declared.event.Event.{Event}
use Rattle.database_protocol.specs.declared.ends.ClientEnd.TheVariants.{NoMemory}
use Rattle.database_protocol.specs.declared.next_step.NextStep.{NextStep}
use Rattle.database_protocol.specs.declared.next_step.NextStep.TheVariants.{Ask, Ended}
use Rattle.database_meaning.specs.declared.contents.Contents.{Contents}
use Rattle.database_meaning.specs.Setting.{Setting}
use Rattle.database_meaning.specs.State.{State, depth_of}
use Rattle.database_meaning.specs.Answers.{IsWellFormed}
use Rattle.database_meaning.specs.Traces.{left_by}
use Rattle.database_interface.specs.Step.{event_of}
use Rattle.turn_lock.specs.Journal.{own_entries}
use Rattle.block_meaning.specs.declared.wants.Piece.{Piece}
use Rattle.block_meaning.specs.State.{Progress}
use Rattle.block_meaning.specs.Meaning.{asked, op_of}
use Rattle.client_core.specs.ClientView.{ClientView, HasWritten}
use Rattle.client_core.specs.Refines.{Refines, HasGivenUp, AfterResume, IsExpected, HasNotBegun, answers_with}
use Rattle.client_core.specs.NextStep.{IsAsking, IsEnded}
use Rattle.client_core.specs.Work.{IsWaiting}
use Rattle.client_runner.specs.Meant.{Meant, NoneIsRefused, AllFit, IsSureOf, IsOver as HasEnded, Requests, client_in}
use Rattle.client_runner.specs.Levels.{levels_left}
use Rattle.client_threads.specs.session.Along.{Along, Goes, AsMeant, AsksEnd, IsOver, IsOpen, IsCareful, IsOnLevels, WaitsIfAsking, answers_in, operations_in}

answers_more : (own : List Event) (e : Event) → answers_in (own ++ e ∷ []) ≡ answers_in own ++ e.answer ∷ []
answers_more [] e = refl
answers_more (x ∷ own) e = ap (λ l. x.answer ∷ l) (answers_more own e)

operations_more : (own : List Event) (e : Event) → operations_in (own ++ e ∷ []) ≡ operations_in own ++ e.op ∷ []
operations_more [] e = refl
operations_more (x ∷ own) e = ap (λ l. x.op ∷ l) (operations_more own e)

asked_more : (m : List Answer → Progress) (heard : List Answer) (a : Answer) → asked m (heard ++ a ∷ []) ≡ asked m heard ++ op_of (m heard).wants
asked_more m [] a = append-nil (op_of (m []).wants)
asked_more m (b ∷ heard) a =
    ap (λ os. op_of (m []).wants ++ os) (asked_more (λ more. m (b ∷ more)) heard a)
    ∙ sym (append_assoc (op_of (m []).wants) (asked (λ more. m (b ∷ more)) heard) (op_of (m (b ∷ heard)).wants))

pub along_after : (client : ClientView) (m : Meant) (own : List Event) (next : NextStep) → WaitsIfAsking client next
    → AfterResume client m.names m.run (answers_in own) next → operations_in own ≡ asked m.run (answers_in own) → Along client m own next
along_after client m own next waits (inl agrees) same = AsMeant waits agrees same
along_after client m own next waits (inr gives) same = AsksEnd waits gives.pieces gives.given_up gives.asks same

-- what a call ensures, from one answer to the client's next step
pub record Answered (old new : ClientView) (a : Answer) (next : NextStep) : Type 0 where
  pub refines : (names : List (List ℕ)) (m : List Answer → Progress) (heard : List Answer) → Refines old names m heard → AfterResume new names m (heard ++ a ∷ []) next
  pub given_up : (names : List (List ℕ)) (m : List Answer → Progress) (heard : List Answer) (pieces : List Piece) → HasGivenUp old names m heard pieces → (next ≡ Ended NoMemory) × HasWritten new names pieces
  pub waits : WaitsIfAsking new next

pub waits_of : (client : ClientView) (m : Meant) (own : List Event) (op : Op) → Along client m own (Ask op) → WaitsIfAsking client (Ask op)
waits_of client m own op (AsMeant waits agrees same) = waits
waits_of client m own op (AsksEnd waits pieces given is_end same) = waits
waits_of client m own op (IsOver pieces before last has is_ended split end same gave) = absurd (cc is_ended)

pub along_more : (old new : ClientView) (m : Meant) (own : List Event) (n : ℕ) (op : Op) (a : Answer) (next : NextStep) → Answered old new a next → Along old m own (Ask op) → Along new m (own ++ event_of n op a ∷ []) next
along_more old new m own n op a next answered (AsMeant waits agrees same) =
    along_after new m (own ++ event_of n op a ∷ []) next answered.waits
    (subst (λ heard. AfterResume new m.names m.run heard next) (sym (answers_more own (event_of n op a))) (answered.refines m.names m.run (answers_in own) agrees.refines))
    (operations_more own (event_of n op a) ∙ ap (λ os. os ++ op ∷ []) same
    ∙ ap (λ (d : Progress). asked m.run (answers_in own) ++ op_of d.wants) (sym agrees.meant) ∙ sym (asked_more m.run (answers_in own) a)
    ∙ ap (asked m.run) (sym (answers_more own (event_of n op a))))
along_more old new m own n op a next answered (AsksEnd waits pieces given is_end same) =
    let over = answered.given_up m.names m.run (answers_in own) pieces given in
    let is : op ≡ End = cc is_end in
    IsOver pieces own (event_of n op a) over.1 over.0 refl is same given.gave
along_more old new m own n op a next answered (IsOver pieces before last has is_ended split end same gave) = absurd (cc is_ended)

-- ---- the calls

pub waits_as : (client : ClientView) (next : NextStep) → (IsAsking next → IsWaiting client) → WaitsIfAsking client next
waits_as client (Ask op) h = h tt
waits_as client (Ended end) h = tt

pub first_call : (old new : ClientView) (m : Meant) (answer : Option Answer) (next : NextStep) → answer ≡ None
    → ((names : List (List ℕ)) (m : List Answer → Progress) (heard : List Answer) → IsExpected answer old heard → Refines old names m heard → AfterResume new names m (answers_with heard answer) next)
    → WaitsIfAsking new next → HasNotBegun old × Refines old m.names m.run [] → Along new m [] next
first_call old new m None next e refines waits begun = along_after new m [] next waits (refines m.names m.run [] (begun.0, refl) begun.1) refl
first_call old new m (Some a) next e refines waits begun = absurd (cc e)

-- ---- what is requested is well formed

well_formed : (setting : Setting) (s : State) (n open_levels : ℕ) (op : Op) → IsOnLevels op → depth_of s n ≡ open_levels → IsOpen open_levels op → IsWellFormed setting s n op
well_formed setting s n open_levels Enter level depth is = tt
well_formed setting s n open_levels (Leave keep) level depth is = subst (λ k. 0 < k) (sym depth) is
well_formed setting s n open_levels (Back d) level depth is = (is.0, subst (λ k. d ≤ k) (sym depth) is.1)
well_formed setting s n open_levels End level depth is = tt
well_formed setting s n open_levels op level depth is = absurd level

-- the law of open levels, as `client_runner` has it
abbrev pub LevelsAreOwn : Type 0
LevelsAreOwn = (setting : Setting) (contents : Contents) (n : ℕ) (trace : List Event) → depth_of (left_by setting contents trace) n ≡ levels_left 0 (own_entries client_in n trace)

end_is_well_formed : (setting : Setting) (s : State) (n : ℕ) (op : Op) → op ≡ End → IsWellFormed setting s n op
end_is_well_formed setting s n op is = subst (λ o. IsWellFormed setting s n o) (sym is) tt

pub sure_after : LevelsAreOwn → (client : ClientView) (m : Meant) (own : List Event) (next : NextStep) → Along client m own next
    → (setting : Setting) (n : ℕ) (op : Op) → next ≡ Ask op → IsOnLevels op → IsCareful m → AllFit setting own → NoneIsRefused IsOnLevels own → IsSureOf setting n own op
sure_after law client m own next (AsMeant waits agrees same) setting n op is on_levels careful fits unrefused contents trace mine =
    well_formed setting (left_by setting contents trace) n (levels_left 0 own) op on_levels
    (law setting contents n trace ∙ ap (levels_left 0) mine)
    (careful setting own op same fits unrefused (ap (λ (d : Progress). d.wants) agrees.meant ∙ is))
sure_after law client m own next (AsksEnd waits pieces given is_end same) setting n op is on_levels careful fits unrefused contents trace mine =
    end_is_well_formed setting (left_by setting contents trace) n op (let e : Ask op ≡ Ask End = sym is ∙ is_end in cc)
sure_after law client m own next (IsOver pieces before last has is_ended split end same gave) setting n op is on_levels careful fits unrefused contents trace mine =
    absurd (let e : Ask op ≡ Ended NoMemory = sym is ∙ is_ended in cc)

pub next_goes : LevelsAreOwn → (old new : ClientView) (m : Meant) (own : List Event) (n : ℕ) (op : Op) (answer : Option Answer) (next : NextStep)
    → ((names : List (List ℕ)) (m : List Answer → Progress) (heard : List Answer) → IsExpected answer old heard → Refines old names m heard → AfterResume new names m (answers_with heard answer) next)
    → ((names : List (List ℕ)) (m : List Answer → Progress) (heard : List Answer) (pieces : List Piece) → HasGivenUp old names m heard pieces → IfSome answer (λ _. (next ≡ Ended NoMemory) × HasWritten new names pieces))
    → WaitsIfAsking new next → Goes old m own (Ask op) → IfSome answer (λ a. Goes new m (own ++ event_of n op a ∷ []) next)
next_goes law old new m own n op None next refines gives waits h = tt
next_goes law old new m own n op (Some a) next refines gives waits h =
    let more : Along new m (own ++ event_of n op a ∷ []) next =
    along_more old new m own n op a next (record { refines = λ names m' heard d. refines names m' heard (waits_of old m own op h.along) d; given_up = gives; waits = waits }) h.along in
    record {
      along = more;
      sure = sure_after law new m (own ++ event_of n op a ∷ []) next more;
    }

-- ---- it may request every operation

pub requests_any : (next : NextStep) → Requests (λ op. Unit {0}) next
requests_any (Ask op) = tt
requests_any (Ended end) = tt

pub has_ended : (answer : Option Answer) (next : NextStep) → IfSome answer (λ _. IsEnded next) → IfSome answer (λ _. HasEnded next)
has_ended None next h = tt
has_ended (Some a) (Ask op) h = h
has_ended (Some a) (Ended end) h = h
