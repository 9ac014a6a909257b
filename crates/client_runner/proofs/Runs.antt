-- A client during its run, and its own events.
use Rattle.std.proofs.Common.{◌≡◌, ◌≢◌, ℕ, List, [], ◌∷◌, ◌++◌, Option, Some, None, IfSome, IsSomeAnd, append_assoc, append-nil, refl, sym, ap, subst}
use Rattle.std.proofs.lemmas.List.Elements.{All-nil, All-push}
use Rattle.database_protocol.specs.declared.event.Event.{Event}
use Rattle.database_protocol.specs.declared.operation.Op.{Op}
use Rattle.database_protocol.specs.declared.operation.Op.TheVariants.{End}
use Rattle.database_protocol.specs.declared.answer.Answer.{Answer}
use Rattle.database_protocol.specs.declared.answer.Answer.TheVariants.{Refused}
use Rattle.database_protocol.specs.declared.ends.ClientEnd.{ClientEnd}
use Rattle.database_protocol.specs.declared.ends.ClientEnd.TheVariants.{NoMemory}
use Rattle.database_protocol.specs.declared.next_step.NextStep.{NextStep}
use Rattle.database_protocol.specs.declared.next_step.NextStep.TheVariants.{Ask, Ended}
use Rattle.database_meaning.specs.Setting.{Setting}
use Rattle.database_meaning.specs.Fits.{Fits}
use Rattle.database_interface.specs.Step.{event_of}
use Rattle.client_runner.specs.Meant.{Meant, IsSureOf, HasNotEnded, IsOver, NoneIsRefused, AllFit, RefusesOnlyUnsure, RefusesUnsureAfter}
use Rattle.turn_lock.specs.declared.view.Key.{Key}
use Rattle.client_runner.specs.declared.start.Start.{Start}
use Rattle.client_runner.specs.Served.{Serving, IsOneOf}
use Rattle.turn_lock.specs.Shared.{Lock}
use Rattle.turn_lock.specs.Passes.{ClientPass}
use Rattle.client_runner.specs.Tasks.{RanToEnd, ByItself, OutOfMemory, client_pass}

-- one event more, of an operation that was not sure if it was answered Refused
pub refuses_more : (f : Setting) (before own : List Event) (x : Event) → RefusesUnsureAfter f before own → (x.answer ≡ Refused → ¬ IsSureOf f x.client (before ++ own) x.op) → RefusesUnsureAfter f before (own ++ x ∷ [])
refuses_more f before [] x h is = (λ refused. subst (λ (l : List Event). ¬ IsSureOf f x.client l x.op) (append-nil before) (is refused), tt)
refuses_more f before (e ∷ es) x h is = (h.0, refuses_more f (before ++ e ∷ []) es x h.1 (λ refused. subst (λ (l : List Event). ¬ IsSureOf f x.client l x.op) (sym (append_assoc before (e ∷ []) es)) (is refused)))

-- the client agrees with its meaning under the answers of its own events; these answers fit, only operations that were not sure are
-- Refused, and no certain one. `IsSetting` selects the settings of the run
pub record Along {C : Type 0} (begins : C → Meant → Type 0) (along : C → Meant → List Event → NextStep → Type 0) (suits : C → Setting → Type 0) (careful : Meant → Type 0) (certain : Op → Type 0) (IsSetting : Setting → Type 0) (start now : C) (own : List Event) (wants : NextStep) : Type 0 where
  pub does : (m : Meant) → begins start m → along now m own wants
  pub suits_too : (f : Setting) → suits start f → suits now f
  pub fits : (f : Setting) → IsSetting f → AllFit f own
  pub refused : (f : Setting) → IsSetting f → RefusesOnlyUnsure f own
  pub unrefused : (m : Meant) (f : Setting) → begins start m → careful m → IsSetting f → suits start f → NoneIsRefused certain own

-- where it requests an operation, it has not ended
abbrev pub MayGoOn : NextStep → List Event → Type 0
MayGoOn (Ask op) own = HasNotEnded own
MayGoOn (Ended end) own = Unit {0}

pub may_begin : (wants : NextStep) → MayGoOn wants []
may_begin (Ask op) = All-nil (λ (e : Event). e.op ≢ End)
may_begin (Ended end) = tt

pub may_go_on : (own after : List Event) (n : ℕ) (op : Op) (a : Answer) (wants : NextStep) → HasNotEnded own → after ≡ own ++ event_of n op a ∷ [] → (op ≡ End → IsOver wants) → MayGoOn wants after
may_go_on own after n op a (Ask next) unended longer over = subst HasNotEnded (sym longer) (All-push (λ (e : Event). e.op ≢ End) own (event_of n op a) unended (λ is. over is))
may_go_on own after n op a (Ended end) unended longer over = tt

module _ {C : Type 0} (begins : C → Meant → Type 0) (along : C → Meant → List Event → NextStep → Type 0) (suits : C → Setting → Type 0) (careful : Meant → Type 0) (certain : Op → Type 0) (IsSetting : Setting → Type 0) where
  -- at the first call
  pub along_first : (start now : C) (wants : NextStep) (heard : Option Answer) → heard ≡ None → ((m : Meant) → heard ≡ None → begins start m → along now m [] wants) → ((f : Setting) → suits start f → suits now f)
      → Along begins along suits careful certain IsSetting start now [] wants
  along_first start now wants heard is_none first suits_too =
      record {
        does = λ m begun. first m is_none begun;
        suits_too = suits_too;
        fits = λ f is. All-nil (λ (e : Event). Fits f.schema e.op e.answer);
        refused = λ f is. tt;
        unrefused = λ m f begun mild is suit. All-nil (λ (e : Event). certain e.op → e.answer ≢ Refused);
      }

  -- one operation is answered
  pub along_next : ((c : C) (f : Setting) (m : Meant) (n : ℕ) (own : List Event) (op : Op) → suits c f → careful m → along c m own (Ask op) → certain op → AllFit f own → NoneIsRefused certain own → IsSureOf f n own op)
      → (start old new : C) (n : ℕ) (own after : List Event) (op : Op) (a : Answer) (wants : NextStep)
      → Along begins along suits careful certain IsSetting start old own (Ask op)
      → after ≡ own ++ event_of n op a ∷ []
      → ((f : Setting) → IsSetting f → Fits f.schema op a)
      → ((f : Setting) → IsSetting f → IsSureOf f n own op → a ≢ Refused)
      → ((m : Meant) (own : List Event) (op : Op) (n : ℕ) → along old m own (Ask op) → along new m (own ++ event_of n op a ∷ []) wants)
      → ((f : Setting) → suits old f → suits new f)
      → Along begins along suits careful certain IsSetting start new after wants
  along_next sound start old new n own after op a wants h longer fit sure next suits_too =
      record {
        does = λ m begun. subst (λ l. along new m l wants) (sym longer) (next m own op n (h.does m begun));
        suits_too = λ f suit. suits_too f (h.suits_too f suit);
        fits = λ f is. subst (AllFit f) (sym longer) (All-push (λ (e : Event). Fits f.schema e.op e.answer) own (event_of n op a) (h.fits f is) (fit f is));
        refused = λ f is. subst (RefusesOnlyUnsure f) (sym longer) (refuses_more f [] own (event_of n op a) (h.refused f is) (λ refused so. sure f is so refused));
        unrefused = λ m f begun mild is suit.
            subst (NoneIsRefused certain) (sym longer)
            (All-push (λ (e : Event). certain e.op → e.answer ≢ Refused) own (event_of n op a) (h.unrefused m f begun mild is suit)
            (λ sure_of. sure f is (sound old f m n own op (h.suits_too f suit) mild (h.does m begun) sure_of (h.fits f is) (h.unrefused m f begun mild is suit))));
      }

-- what holds for a client that has ended
pub record Over {C : Type 0} (begins : C → Meant → Type 0) (along : C → Meant → List Event → NextStep → Type 0) (suits : C → Setting → Type 0) (careful : Meant → Type 0) (certain : Op → Type 0) (IsSetting : Setting → Type 0) (start now : C) (own : List Event) (end : ClientEnd) : Type 0 where
  pub came : (m : Meant) → begins start m → RanToEnd along now m own end
  pub fits : (f : Setting) → IsSetting f → AllFit f own
  pub refused : (f : Setting) → IsSetting f → RefusesOnlyUnsure f own
  pub unrefused : (m : Meant) (f : Setting) → begins start m → careful m → IsSetting f → suits start f → NoneIsRefused certain own

module _ {C : Type 0} (begins : C → Meant → Type 0) (along : C → Meant → List Event → NextStep → Type 0) (suits : C → Setting → Type 0) (careful : Meant → Type 0) (certain : Op → Type 0) (IsSetting : Setting → Type 0) where
  pub over_by_itself : (start now : C) (own : List Event) (end : ClientEnd) → Along begins along suits careful certain IsSetting start now own (Ended end) → Over begins along suits careful certain IsSetting start now own end
  over_by_itself start now own end h =
      record {
        came = λ m begun. ByItself own end (h.does m begun);
        fits = h.fits;
        refused = h.refused;
        unrefused = h.unrefused;
      }

  pub over_out_of_memory : (start now : C) (before own : List Event) (op : Op) (n : ℕ) (a : Answer) → Along begins along suits careful certain IsSetting start now before (Ask op) → op ≢ End → own ≡ before ++ event_of n End a ∷ []
      → ((f : Setting) → IsSetting f → Fits f.schema End a) → ((f : Setting) → IsSetting f → a ≢ Refused) → Over begins along suits careful certain IsSetting start now own NoMemory
  over_out_of_memory start now before own op n a h other longer fit sure =
      record {
        came = λ m begun. subst (λ l. RanToEnd along now m l NoMemory) (sym longer) (OutOfMemory before op n a (h.does m begun) other);
        fits = λ f is. subst (AllFit f) (sym longer) (All-push (λ (e : Event). Fits f.schema e.op e.answer) before (event_of n End a) (h.fits f is) (fit f is));
        refused = λ f is. subst (RefusesOnlyUnsure f) (sym longer) (refuses_more f [] before (event_of n End a) (h.refused f is) (λ refused so. sure f is refused));
        unrefused = λ m f begun mild is suit. subst (NoneIsRefused certain) (sym longer) (All-push (λ (e : Event). certain e.op → e.answer ≢ Refused) before (event_of n End a) (h.unrefused m f begun mild is suit) (λ _. sure f is));
      }

-- End is always answered
pub end_is_answered : {P : Answer → Type 0} (result : Option Answer) → IfSome result P → (result ≡ None → End ≢ End) → (a : Answer) × (result ≡ Some a) × P a
end_is_answered (Some a) some none = (a, refl, some)
end_is_answered None some none = absurd (none refl refl)

module _ {D : Type 0} (P : D → Type 0) where
  -- what holds for the initial database of the lock holds for the initial database of each of its values
  pub began_told : (Q : Key (Serving D) → Type 0) (key : Option (Key (Serving D))) (start : Start D)
      → IsSomeAnd key (λ k. (start ≡ k.start.value.start) × Q k) → IsSomeAnd key (λ k. P k.start.value.start.database.value) → P start.database.value
  began_told Q None start h is = absurd h
  began_told Q (Some k) start h is = subst (λ (s : Start D). P s.database.value) (sym h.0) is

module _ {D : Type 0} where
  -- a client of the lock's run is a client of the run of each of its values
  pub one_told : (Q : Key (Serving D) → Type 0) (key : Option (Key (Serving D))) (start : Start D) (n : ℕ)
      → IsSomeAnd key (λ k. (start ≡ k.start.value.start) × Q k) → IsSomeAnd key (λ k. IsOneOf k.start.value.start n) → IsOneOf start n
  one_told Q None start n h is = absurd h
  one_told Q (Some k) start n h is = subst (λ (s : Start D). IsOneOf s n) (sym h.0) is

  -- the fields of a task's pass
  pub pass_told : (p : ClientPass (Serving D) Event) (lock : Lock (Serving D)) (n : ℕ) (own : List Event) → Some p ≡ Some (client_pass lock n own) → (p.lock ≡ lock) × (p.client ≡ n) × (p.list ≡ own)
  pass_told p lock n own e = let q : p ≡ client_pass lock n own = cc in (ap (λ (z : ClientPass (Serving D) Event). z.lock) q, ap (λ (z : ClientPass (Serving D) Event). z.client) q, ap (λ (z : ClientPass (Serving D) Event). z.list) q)
