-- One step of a database that is served.
use Rattle.std.proofs.Common.{◌≡◌, ◌≢◌, inl, inr, ℕ, ◌==◌, Bool, true, false, List, [], ◌∷◌, ◌++◌, cond, Option, Some, None, IfSome, refl, sym, ap, ◌∙◌, subst, append_assoc, eq-eqb}
use Rattle.std.specs.List.{All}
use Rattle.std.proofs.lemmas.Bool.Decides.{eqb_tells}
use Rattle.std.proofs.lemmas.List.Elements.{All-push, All-head, All-tail}
use Rattle.database_meaning.specs.declared.contents.Contents.{Contents}
use Rattle.database_protocol.specs.declared.event.Event.{Event}
use Rattle.database_protocol.specs.declared.operation.Op.{Op}
use Rattle.database_protocol.specs.declared.operation.Op.TheVariants.{End}
use Rattle.database_protocol.specs.declared.answer.Answer.{Answer}
use Rattle.database_protocol.specs.declared.answer.Answer.TheVariants.{Refused}
use Rattle.database_meaning.specs.Setting.{Setting}
use Rattle.database_interface.specs.Step.{event_of, IsRefusedRightly}
use Rattle.turn_lock.specs.Journal.{own_entries}
use Rattle.client_runner.specs.declared.start.Start.{Start}
use Rattle.client_runner.specs.Meant.{IsSureOf, HasNotEnded, client_in}
use Rattle.client_runner.specs.Served.{IsServed, AreActive, IsAmong, IsOneOf, GoesOnBy}

-- ---- a client's own events

pub own_more : (n : ℕ) (trace : List Event) (e : Event) → e.client ≡ n → own_entries client_in n (trace ++ e ∷ []) ≡ own_entries client_in n trace ++ e ∷ []
own_more n [] e is = ap (λ b. cond b (e ∷ []) []) (eq-eqb e.client n is)
own_more n (x ∷ trace) e is = by (x.client == n) (own_entries client_in n trace) (own_entries client_in n (trace ++ e ∷ [])) (own_more n trace e is)
  where
    by : (b : Bool) (own longer : List Event) → longer ≡ own ++ e ∷ [] → cond b (x ∷ longer) longer ≡ cond b (x ∷ own) own ++ e ∷ []
    by true own longer h = ap (λ l. x ∷ l) h
    by false own longer h = h

pub own_other : (n : ℕ) (trace : List Event) (e : Event) → e.client ≢ n → own_entries client_in n (trace ++ e ∷ []) ≡ own_entries client_in n trace
own_other n [] e other = elim (eqb_tells e.client n) [ inl is ↦ absurd (other is.1) | inr differs ↦ ap (λ b. cond b (e ∷ []) []) differs.0 ]
own_other n (x ∷ trace) e other = ap (λ l. cond (x.client == n) (x ∷ l) l) (own_other n trace e other)

last_of : (P : Event → Type 0) (xs : List Event) (e : Event) → All P (xs ++ e ∷ []) → P e
last_of P [] e all = All-head P e [] all
last_of P (x ∷ xs) e all = last_of P xs e (All-tail P x (xs ++ e ∷ []) all)

-- ---- no answer is Refused

pub rightly : (setting : Setting) (trace : List Event) (Blocked : Type 0) (n : ℕ) (op : Op) (result : Option Answer) (contents : Contents)
    → IfSome result (λ a. IsRefusedRightly setting trace Blocked n op a) → IsSureOf setting n (own_entries client_in n trace) op → ¬ Blocked → IfSome result (λ a. a ≢ Refused)
rightly setting trace Blocked n op None contents refused sure idle = tt
rightly setting trace Blocked n op (Some a) contents refused sure idle =
    λ is. elim (refused is) [ inl blocked ↦ idle blocked | inr ill ↦ ill contents (sure contents trace refl) ]

pub no_contents : Contents
no_contents = record { rows = []; sequences = [] }

-- ---- what is kept

module _ {D : Type 0} (setting_of : D → Setting → Type 0) (opened_of : D → Setting → Contents → Type 0) (trace_of : D → List Event) (serves_of : D → ℕ → Op → Type 0) (active_of : D → ℕ → Type 0) where
  -- the trace is unchanged, or has one more event of the client
  abbrev pub HasStepped : D → D → ℕ → Op → Option Answer → Type 0
  HasStepped old new n op None = trace_of new ≡ trace_of old
  HasStepped old new n op (Some a) = trace_of new ≡ trace_of old ++ event_of n op a ∷ []

  pub stepped : (old new : D) (n : ℕ) (op : Op) (result : Option Answer) → IfSome result (λ a. trace_of new ≡ trace_of old ++ event_of n op a ∷ []) → (result ≡ None → trace_of new ≡ trace_of old) → HasStepped old new n op result
  stepped old new n op None some none = none refl
  stepped old new n op (Some a) some none = some

  -- what a step preserves, apart from the trace, which may grow. The client is active after it unless it requested End
  pub record Keeps (old new : D) (n : ℕ) (op : Op) : Type 0 where
    pub active : op ≢ End → active_of new n
    pub others : (other : ℕ) → other ≢ n → active_of old other → active_of new other
    pub setting : (setting : Setting) → setting_of old setting → setting_of new setting
    pub opened : (setting : Setting) (contents : Contents) → opened_of old setting contents → opened_of new setting contents
    pub serves : (other : ℕ) (next : Op) → serves_of old other next → serves_of new other next

  grows_more : (start : Start D) (old new : D) (n : ℕ) (op : Op) (result : Option Answer) → IsOneOf start n → GoesOnBy start.first start.clients (trace_of start.database.value) (trace_of old) → HasStepped old new n op result
      → GoesOnBy start.first start.clients (trace_of start.database.value) (trace_of new)
  grows_more start old new n op None one grows same = (grows.0, same ∙ grows.1, grows.2)
  grows_more start old new n op (Some a) one grows longer = (
    grows.0 ++ event_of n op a ∷ [],
    longer ∙ (ap (λ l. l ++ event_of n op a ∷ []) grows.1 ∙ append_assoc (trace_of start.database.value) grows.0 (event_of n op a ∷ [])),
    All-push (λ (e : Event). IsAmong start.first start.clients e.client) grows.0 (event_of n op a) grows.2 one,
  )

  still_active : (start : Start D) (old new : D) (n : ℕ) (op : Op) (result : Option Answer) → (result ≡ None → op ≢ End) → AreActive trace_of active_of old start.first start.clients → HasStepped old new n op result → Keeps old new n op
      → AreActive trace_of active_of new start.first start.clients
  still_active start old new n op result end active step keeps d one unended =
      elim (eqb_tells n d) [
        | inl same ↦ subst (λ k. active_of new k) same.1 (keeps.active (asked result step end same.1))
        | inr other ↦ keeps.others d (λ e. other.1 (sym e)) (active d one (others result step other.1))
      ]
    where
      asked : (r : Option Answer) → HasStepped old new n op r → (r ≡ None → op ≢ End) → n ≡ d → op ≢ End
      asked None same ends is = ends refl
      asked (Some a) longer ends is =
          last_of (λ (e : Event). e.op ≢ End) (own_entries client_in d (trace_of old)) (event_of n op a)
          (subst HasNotEnded (ap (own_entries client_in d) longer ∙ own_more d (trace_of old) (event_of n op a) is) unended)

      others : (r : Option Answer) → HasStepped old new n op r → n ≢ d → HasNotEnded (own_entries client_in d (trace_of old))
      others None same differs = subst (λ l. HasNotEnded (own_entries client_in d l)) same unended
      others (Some a) longer differs = subst HasNotEnded (ap (own_entries client_in d) longer ∙ own_other d (trace_of old) (event_of n op a) differs) unended

  pub served_longer : (start : Start D) (old new : D) (n : ℕ) (op : Op) (result : Option Answer) → IsServed setting_of opened_of trace_of serves_of active_of old start → IsOneOf start n → (result ≡ None → op ≢ End)
      → HasStepped old new n op result → Keeps old new n op → IsServed setting_of opened_of trace_of serves_of active_of new start
  served_longer start old new n op result (kept, active) one end step keeps = (
    record {
      setting = λ f h. keeps.setting f (kept.setting f h);
      opened = λ f contents h. keeps.opened f contents (kept.opened f contents h);
      serves = λ c o h. keeps.serves c o (kept.serves c o h);
      grows = grows_more start old new n op result one kept.grows step;
      others = λ c outside h. keeps.others c (λ e. outside (subst (λ k. IsOneOf start k) (sym e) one)) (kept.others c outside h);
    },
    still_active start old new n op result end active step keeps,
  )
