-- What a client has done, by the cases in which the runner leaves it.
use Rattle.std.proofs.Common.{◌≡◌, ◌≢◌, ℕ, List, [], ◌∷◌, ◌++◌, refl, sym, ap, ◌∙◌, subst, append-nil}
use Rattle.database_protocol.specs.declared.operation.Op.{Op}
use Rattle.database_protocol.specs.declared.operation.Op.TheVariants.{End}
use Rattle.database_protocol.specs.declared.answer.Answer.{Answer}
use Rattle.database_protocol.specs.declared.event.Event.{Event}
use Rattle.database_protocol.specs.declared.ends.ClientEnd.{ClientEnd}
use Rattle.database_protocol.specs.declared.ends.ClientEnd.TheVariants.{NoMemory}
use Rattle.database_protocol.specs.declared.next_step.NextStep.TheVariants.{Ask, Ended}
use Rattle.database_interface.specs.Step.{event_of}
use Rattle.block_meaning.specs.State.{Progress}
use Rattle.block_meaning.specs.GivesUp.{Begins, IsAsked, before_last, written_at}
use Rattle.client_core.specs.ClientView.{ClientView}
use Rattle.client_runner.specs.Meant.{Meant}
use Rattle.client_threads.specs.session.Along.{Along, AsMeant, AsksEnd, IsOver, answers_in}
use Rattle.client_threads.specs.clients.Outcome.{RanAsMeant, ToItsEnd, GivingUp, HasDone}

-- m never takes back what it has written
abbrev pub OnlyGrows : (List Answer → Progress) → Type 0
OnlyGrows m = (ans more : List Answer) → Begins (m ans).written (m (ans ++ more)).written

-- it has ended
pub done_at_its_end : (client : ClientView) (m : Meant) (own : List Event) (how : ClientEnd) → Along client m own (Ended how) → HasDone client m.names m.run own how
done_at_its_end client m own how (AsMeant waits agrees same) = record { pieces = agrees.pieces; has = agrees.has; did = ToItsEnd own how agrees.pieces same agrees.meant }
done_at_its_end client m own how (AsksEnd waits pieces given is_end same) = absurd (cc is_end)
done_at_its_end client m own how (IsOver pieces before last has is_ended own_is ends same gave) =
    let is : NoMemory ≡ how = cc is_ended in
    record {
      pieces = pieces;
      has = has;
      did = subst (λ e. RanAsMeant m.run own e pieces) is (subst (λ (o : List Event). RanAsMeant m.run o NoMemory pieces) (sym own_is) (GivingUp before last pieces ends same gave));
    }

before_and_last : (a : Answer) (ans : List Answer) → (last : Answer) × (before_last a ans ++ last ∷ [] ≡ a ∷ ans)
before_and_last a [] = (a, refl)
before_and_last a (b ∷ ans) = let rest = before_and_last b ans in (rest.0, ap (λ l. a ∷ l) rest.1)

begins_at : (m : List Answer → Progress) (heard : List Answer) → OnlyGrows m → Begins (written_at m heard) (m heard).written
begins_at m [] grows = ((m []).written, refl)
begins_at m (a ∷ ans) grows =
    let split = before_and_last a ans in
    subst (λ heard. Begins (m (before_last a ans)).written (m heard).written) split.1 (grows (before_last a ans) (split.0 ∷ []))

-- there was no memory for the event of an operation, and End was requested in its place
pub done_without_room : (client : ClientView) (m : Meant) (before : List Event) (op : Op) (n : ℕ) (a : Answer) → OnlyGrows m.run → op ≢ End → Along client m before (Ask op) →
    HasDone client m.names m.run (before ++ event_of n End a ∷ []) NoMemory
done_without_room client m before op n a grows other (AsMeant waits agrees same) =
    let written : (m.run (answers_in before)).written ≡ agrees.pieces = ap (λ (d : Progress). d.written) agrees.meant in
    record {
      pieces = agrees.pieces;
      has = agrees.has;
      did = GivingUp before (event_of n End a) agrees.pieces refl same
          (record {
            asked = subst (λ (d : Progress). IsAsked d.wants) (sym agrees.meant) tt;
            from = subst (Begins (written_at m.run (answers_in before))) written (begins_at m.run (answers_in before) grows);
            to = ([], append-nil agrees.pieces ∙ sym written);
          });
    }
done_without_room client m before op n a grows other (AsksEnd waits pieces given is_end same) = absurd (other (cc is_end))
done_without_room client m before op n a grows other (IsOver pieces earlier last has is_ended own_is ends same gave) = absurd (cc is_ended)
