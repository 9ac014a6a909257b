-- The invariant between calls holds after each call.
use Rattle.std.proofs.Common.{◌≡◌, ◌≢◌, ◌⊎◌, inl, inr, ⊎_elim, ℕ, ◌<◌, Bool, true, false, List, length, slice_set, Result, Ok, Err, IsErrOf, OnOk, refl, sym, ◌∙◌, ap, arith}
use Rattle.std.proofs.lemmas.Bool.{cases_eq}
use Rattle.std.proofs.lemmas.List.{length-set}
use Rattle.storage.specs.Slots.{SlotState, Transaction, HasCause, Rests}
use Rattle.storage.specs.declared.slots.SlotFault.{SlotFault}
use Rattle.storage.specs.declared.slots.SlotFault.TheVariants.{Disk, TxFull, NoMemory}
use Rattle.byte_rows.specs.declared.client.Client.{Client}
use Rattle.byte_rows.specs.declared.places.Place.{Place}
use Rattle.byte_rows.specs.Clients.{ClientView, client_in, view_of}
use Rattle.byte_rows.specs.Noted.{IsNoted, IsSound}
use Rattle.byte_rows.proofs.ClientLists.{client_set_other, client_set_same}
use Rattle.byte_rows.proofs.NotedSteps.{noted_rests}

-- the flag after a refusal: it equals `failed` of the new state, which is either unchanged or true
pub record FlagAfter (s t : SlotState) (now : Bool) : Type 0 where
  pub same : now ≡ t.failed
  pub either : (t.failed ≡ s.failed) ⊎ (t.failed ≡ true)

pub flag_after : {T : Type 0} (fault : SlotFault) (s t : SlotState) (was now : Bool) → HasCause {T = T} s t (Err fault) → (fault ≡ Disk → now ≡ true) → ((fault ≡ Disk → ⊥) → now ≡ was) → was ≡ s.failed → FlagAfter s t now
flag_after Disk s t was now c disk rest is = record { same = disk refl ∙ sym (c.failed refl); either = inr (c.failed refl) }
flag_after TxFull s t was now c disk rest is = record { same = rest (λ e. cc e) ∙ (is ∙ sym (c.stays (λ e. cc e))); either = inl (c.stays (λ e. cc e)) }
flag_after NoMemory s t was now c disk rest is = record { same = rest (λ e. cc e) ∙ (is ∙ sym (c.stays (λ e. cc e))); either = inl (c.stays (λ e. cc e)) }

-- after a call that changed nothing but the moment
pub sound_rests : (s t : SlotState) (places : List Place) (free : ℕ → ℕ) (cs : List Client) (was now : Bool) → Rests s t → FlagAfter s t now → IsSound s places free cs was → IsSound t places free cs now
sound_rests s t places free cs was now r flag sound = record {
  sixteen = sound.sixteen;
  begun = λ c lt. ap (λ (f : ℕ → Transaction). (f c).begun) r.transaction ∙ sound.begun c lt;
  past = λ c le. ap (λ (f : ℕ → Transaction). (f c).begun) r.transaction ∙ sound.past c le;
  same_failed = flag.same;
  noted = λ fine. ⊎_elim
      (λ (same : t.failed ≡ s.failed). noted_rests s t places free cs r same (sound.noted (sym same ∙ fine)))
      (λ (on : t.failed ≡ true). absurd (cc (on, fine)))
      flag.either;
}

-- after a call that was answered Ok
pub flag_ok : (s t : SlotState) (was : Bool) → was ≡ s.failed → t.failed ≡ s.failed → FlagAfter s t was
flag_ok s t was is same = record { same = is ∙ sym same; either = inl same }

-- one client's transaction begins or ends
pub sound_turned : (s t : SlotState) (places : List Place) (free : ℕ → ℕ) (cs : List Client) (client : ℕ) (x : Client) (flag : Bool) → client < 16 → ((c : ℕ) → c ≢ client → t.transaction c ≡ s.transaction c) → (t.transaction client).begun ≡ x.begun
    → t.failed ≡ s.failed → (t.failed ≡ false → IsNoted t places free (slice_set cs client x)) → IsSound s places free cs flag → IsSound t places free (slice_set cs client x) flag
sound_turned s t places free cs client x flag lt others begun same noted sound = record {
  sixteen = length-set cs client x ∙ sound.sixteen;
  begun = λ c low. elim (cases_eq c client) [
    | inl e ↦ ap (λ (n : ℕ). (t.transaction n).begun) e ∙ (begun ∙ sym (ap (λ (v : ClientView). v.begun) (at c e)))
    | inr ne ↦ ap (λ (y : Transaction). y.begun) (others c ne) ∙ (sound.begun c low ∙ sym (ap (λ (v : ClientView). v.begun) (client_set_other cs client c x ne)))
  ];
  past = λ c le. ap (λ (y : Transaction). y.begun) (others c (λ e. omega (arith, e, lt, le))) ∙ sound.past c le;
  same_failed = sound.same_failed ∙ sym same;
  noted = noted;
}
  where
    within : client < length cs
    within = let many = sound.sixteen in omega (arith, many, lt)

    at : (c : ℕ) → c ≡ client → client_in (slice_set cs client x) c ≡ view_of x
    at c e = ap (λ (n : ℕ). client_in (slice_set cs client x) n) e ∙ client_set_same cs client x within

-- one client's transaction changes, and stays begun
pub sound_goes_on : (s t : SlotState) (places : List Place) (free : ℕ → ℕ) (cs : List Client) (client : ℕ) (flag : Bool) → client < 16 → ((c : ℕ) → c ≢ client → t.transaction c ≡ s.transaction c) → (s.transaction client).begun ≡ true → (t.transaction client).begun ≡ true
    → t.failed ≡ s.failed → (t.failed ≡ false → IsNoted t places free cs) → IsSound s places free cs flag → IsSound t places free cs flag
sound_goes_on s t places free cs client flag lt others was now same noted sound = record {
  sixteen = sound.sixteen;
  begun = λ c low. elim (cases_eq c client) [
    | inl e ↦ ap (λ (n : ℕ). (t.transaction n).begun) e ∙ (now ∙ (sym was ∙ (ap (λ (n : ℕ). (s.transaction n).begun) (sym e) ∙ sound.begun c low)))
    | inr ne ↦ ap (λ (y : Transaction). y.begun) (others c ne) ∙ sound.begun c low
  ];
  past = λ c le. ap (λ (y : Transaction). y.begun) (others c (λ e. omega (arith, e, lt, le))) ∙ sound.past c le;
  same_failed = sound.same_failed ∙ sym same;
  noted = noted;
}

-- one client changed a row
pub sound_wrote : (s t : SlotState) (places new : List Place) (free left : ℕ → ℕ) (cs ds : List Client) (client : ℕ) (flag : Bool) → client < 16 → ((c : ℕ) → c ≢ client → t.transaction c ≡ s.transaction c) → (t.transaction client).begun ≡ (s.transaction client).begun
    → t.failed ≡ s.failed → length ds ≡ length cs → ((c : ℕ) → (client_in ds c).begun ≡ (client_in cs c).begun) → IsNoted t new left ds → IsSound s places free cs flag → IsSound t new left ds flag
sound_wrote s t places new free left cs ds client flag lt others begun same many flags noted sound = record {
  sixteen = many ∙ sound.sixteen;
  begun = λ c low. elim (cases_eq c client) [
    | inl e ↦ ap (λ (n : ℕ). (t.transaction n).begun) e ∙ (begun ∙ (ap (λ (n : ℕ). (s.transaction n).begun) (sym e) ∙ (sound.begun c low ∙ sym (flags c))))
    | inr ne ↦ ap (λ (y : Transaction). y.begun) (others c ne) ∙ (sound.begun c low ∙ sym (flags c))
  ];
  past = λ c le. ap (λ (y : Transaction). y.begun) (others c (λ e. omega (arith, e, lt, le))) ∙ sound.past c le;
  same_failed = sound.same_failed ∙ sym same;
  noted = λ fine. noted;
}

-- one client's change of a row was refused
pub sound_refused : (s t : SlotState) (places new : List Place) (free left : ℕ → ℕ) (cs ds : List Client) (client : ℕ) (was now : Bool) → client < 16 → ((c : ℕ) → c ≢ client → t.transaction c ≡ s.transaction c) → (t.transaction client).begun ≡ (s.transaction client).begun
    → FlagAfter s t now → length ds ≡ length cs → ((c : ℕ) → (client_in ds c).begun ≡ (client_in cs c).begun) → (t.failed ≡ false → IsNoted t new left ds) → IsSound s places free cs was → IsSound t new left ds now
sound_refused s t places new free left cs ds client was now lt others begun flag many flags noted sound = record {
  sixteen = many ∙ sound.sixteen;
  begun = λ c low. elim (cases_eq c client) [
    | inl e ↦ ap (λ (n : ℕ). (t.transaction n).begun) e ∙ (begun ∙ (ap (λ (n : ℕ). (s.transaction n).begun) (sym e) ∙ (sound.begun c low ∙ sym (flags c))))
    | inr ne ↦ ap (λ (y : Transaction). y.begun) (others c ne) ∙ (sound.begun c low ∙ sym (flags c))
  ];
  past = λ c le. ap (λ (y : Transaction). y.begun) (others c (λ e. omega (arith, e, lt, le))) ∙ sound.past c le;
  same_failed = flag.same;
  noted = noted;
}

-- a refusal other than Disk and TxFull is NoMemory
pub memory_left : {T : Type 0} (fault : SlotFault) → (IsErrOf {T = T} (Err fault) TxFull → ⊥) → (IsErrOf {T = T} (Err fault) Disk → ⊥) → IsErrOf {T = T} (Err fault) NoMemory
memory_left Disk full disk = absurd (disk refl)
memory_left TxFull full disk = absurd (full refl)
memory_left NoMemory full disk = refl

-- what holds for every answer except Disk holds for Ok
pub on_fine : {T P : Type 0} (r : Result T SlotFault) → ((IsErrOf r Disk → ⊥) → P) → OnOk r P
on_fine (Ok v) f = f (λ e. cc e)
on_fine (Err e) f = tt
