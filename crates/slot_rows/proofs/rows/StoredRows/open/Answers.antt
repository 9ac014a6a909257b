use Rattle.std.proofs.Common.{◌≡◌, ℕ, List, Option, Some, None, MatchOption, Err, sym, ap, ◌∙◌, subst}
use Rattle.std.proofs.Math.Path.{fun_ext}
use Rattle.std.specs.Prelude.{⊤}
use Rattle.storage.specs.Slots.{IsReadable, SlotState, Transaction}
use Rattle.storage.specs.declared.slots.SlotFault.{SlotFault}
use Rattle.row_fragments.specs.Calls.{Looked}
use Rattle.row_fragments.specs.Chains.{AreChains}
use Rattle.row_fragments.proofs.Composes.{looked_as, readable_on}
use Rattle.byte_rows.specs.Rows.{opening_fault}
use Rattle.byte_rows.specs.Still.{Still}
use Rattle.byte_rows.proofs.Reading.{looked_still, still_both, still_looked}
use Rattle.slot_rows.specs.Chained.{HoldRows}
use Rattle.slot_rows.specs.Counted.{AreCounted}
use Rattle.slot_rows.specs.Decoded.{AreRead, decoded}
use Rattle.slot_rows.proofs.Chaining.{chains_go, opened_chains}
use Rattle.slot_rows.proofs.Opening.{opened_stored, stored_nowhere}
use Rattle.slot_rows.proofs.Quiet.{quiet_opened, quiet_rests}
use Rattle.slot_rows.proofs.rows.StoredRows.open.Goals as goal

none_is : {A : Type 0} (found : Option A) (P : Type 0) (Q : A → Type 0) → found ≡ None → MatchOption found P Q → P
none_is found P Q is h = subst (λ x. MatchOption x P Q) is h

some_is : {A : Type 0} (found : Option A) (x : A) (P : Type 0) (Q : A → Type 0) → found ≡ Some x → MatchOption found P Q → Q x
some_is found x P Q is h = subst (λ y. MatchOption y P Q) is h

-- the same slots after reads
there_too : (P : (ℕ → List ℕ) → Type 0) (r s : SlotState) (at_r at_s : ℕ → (ℕ → List ℕ) → Type 0) → Still r s at_r at_s → (IsReadable s → P s.reads) → IsReadable r → P r.reads
there_too P r s at_r at_s f held h = subst P (f.rests.reads h) (held (readable_on r s f.rests.keeps.observable f.failed h))

pub open-requires-clause-idle : goal.open-requires-clause-idle
open-requires-clause-idle g c = λ d. ap (λ (f : ℕ → Transaction). (f d).begun) c.in-Ok-Some.ensures.looked.rests.transaction ∙ c.requires.idle d

pub open-requires-clause-clean : goal.open-requires-clause-clean
open-requires-clause-clean g c = λ d. ap (λ (f : ℕ → Transaction). (f d).undo) c.in-Ok-Some.ensures.looked.rests.transaction ∙ c.requires.clean d

pub open-requires-clause-fine : goal.open-requires-clause-fine
open-requires-clause-fine g c = c.in-Ok-Some.ensures.looked.cause.stays (λ e. cc e) ∙ c.requires.fine

pub returns-in-Ok-open-clause-same : goal.returns-in-Ok-open-clause-same
returns-in-Ok-open-clause-same g c =
    let r = g.S.Slots.state c.args.slots in
    let s = g.S.Slots.state c.count_rows.new.slots in
    let t = g.S.Slots.state c.in-Ok-open.chains.slots in
    let at_r = g.S.Slots.stop c.args.slots in
    let at_s = g.S.Slots.stop c.count_rows.new.slots in
    let at_t = g.S.Slots.stop c.in-Ok-open.chains.slots in
    still_both r s t at_r at_s at_t (g.met.S.Slots.stop_known c.in-Ok-open.chains.slots) (looked_still r s at_r at_s _ (λ e. cc e) c.in-Ok-Some.ensures.looked) c.in-Ok-open.ensures.same

pub returns-in-Ok-open-clause-read : goal.returns-in-Ok-open-clause-read
returns-in-Ok-open-clause-read g c = some_is c.in-Ok-Some.field-0 c.in-Ok-Some.used ⊤ _ (cc c.in-Ok-Some.is) c.in-Ok-Some.ensures.read

pub invariant_of-result-clause-stored : goal.invariant_of-result-clause-stored
invariant_of-result-clause-stored g c =
    let r = g.S.Slots.state c.args.slots in
    let s = g.S.Slots.state c.count_rows.new.slots in
    let t = g.S.Slots.state c.in-Ok-open.chains.slots in
    let at_r = g.S.Slots.stop c.args.slots in
    let at_s = g.S.Slots.stop c.count_rows.new.slots in
    let at_t = g.S.Slots.stop c.in-Ok-open.chains.slots in
    let f : Still r t at_r at_t =
    still_both r s t at_r at_s at_t (g.met.S.Slots.stop_known c.in-Ok-open.chains.slots) (looked_still r s at_r at_s _ (λ e. cc e) c.in-Ok-Some.ensures.looked) c.in-Ok-open.ensures.same in
    let start : IsReadable t → IsReadable r = λ h. readable_on t r (sym f.rests.keeps.observable) (sym f.failed) h in
    let read : IsReadable r → AreRead c.args.schema r.reads = some_is c.in-Ok-Some.field-0 c.in-Ok-Some.used ⊤ _ (cc c.in-Ok-Some.is) c.in-Ok-Some.ensures.read in
    let chains : IsReadable r → AreChains r.reads = there_too AreChains r s at_r at_s (looked_still r s at_r at_s _ (λ e. cc e) c.in-Ok-Some.ensures.looked) c.in-Ok-open.ensures.chains in
    stored_nowhere c.args.schema t c.in-Ok.opens.items c.in-Ok.ensures.idle
    (opened_stored c.args.schema t
    (λ d. ap (λ (x : ℕ → Transaction). (x d).undo) f.rests.transaction ∙ c.requires.clean d)
    (λ h k.
    ap (λ (x : ℕ → List ℕ). x k) (f.rests.keeps.committed (start h).0)
    ∙ (c.requires.settled (start h) k ∙ sym (ap (λ (x : ℕ → List ℕ). x k) (f.rests.reads (start h)))))
    (λ h. subst (HoldRows c.args.schema) (sym (f.rests.reads (start h))) (record { read = read (start h); chains = ∣ chains (start h) ∣₁ })))

pub returns-in-Ok-open-clause-chains : goal.returns-in-Ok-open-clause-chains
returns-in-Ok-open-clause-chains g c =
    let r = g.S.Slots.state c.args.slots in
    let s = g.S.Slots.state c.count_rows.new.slots in
    let at_r = g.S.Slots.stop c.args.slots in
    let at_s = g.S.Slots.stop c.count_rows.new.slots in
    there_too AreChains r s at_r at_s (looked_still r s at_r at_s _ (λ e. cc e) c.in-Ok-Some.ensures.looked) c.in-Ok-open.ensures.chains

pub invariant_of-result-clause-laid : goal.invariant_of-result-clause-laid
invariant_of-result-clause-laid g c =
    let r = g.S.Slots.state c.args.slots in
    let s = g.S.Slots.state c.count_rows.new.slots in
    let t = g.S.Slots.state c.in-Ok-open.chains.slots in
    let at_r = g.S.Slots.stop c.args.slots in
    let at_s = g.S.Slots.stop c.count_rows.new.slots in
    let at_t = g.S.Slots.stop c.in-Ok-open.chains.slots in
    let looked : Still r s at_r at_s = looked_still r s at_r at_s _ (λ e. cc e) c.in-Ok-Some.ensures.looked in
    let f : Still r t at_r at_t = still_both r s t at_r at_s at_t (g.met.S.Slots.stop_known c.in-Ok-open.chains.slots) looked c.in-Ok-open.ensures.same in
    let chains : IsReadable r → AreChains r.reads = there_too AreChains r s at_r at_s looked c.in-Ok-open.ensures.chains in
    chains_go r t at_r at_t (g.met.S.Slots.stop_known c.in-Ok-open.chains.slots) (g.met.S.Slots.since_past c.args.slots) f.rests.keeps f.time
    (opened_chains r at_r c.requires.fine c.requires.settled c.requires.certain c.requires.stops (λ h. ∣ chains h ∣₁))

pub invariant_of-result-clause-counted : goal.invariant_of-result-clause-counted
invariant_of-result-clause-counted g c = λ h.
    let r = g.S.Slots.state c.args.slots in
    let s = g.S.Slots.state c.count_rows.new.slots in
    let t = g.S.Slots.state c.in-Ok-open.chains.slots in
    let at_r = g.S.Slots.stop c.args.slots in
    let at_s = g.S.Slots.stop c.count_rows.new.slots in
    let at_t = g.S.Slots.stop c.in-Ok-open.chains.slots in
    let f : Still r t at_r at_t =
    still_both r s t at_r at_s at_t (g.met.S.Slots.stop_known c.in-Ok-open.chains.slots) (looked_still r s at_r at_s _ (λ e. cc e) c.in-Ok-Some.ensures.looked) c.in-Ok-open.ensures.same in
    let start : IsReadable r = readable_on t r (sym f.rests.keeps.observable) (sym f.failed) h in
    let settled : (k : ℕ) → t.committed k ≡ r.reads k = λ k. ap (λ (x : ℕ → List ℕ). x k) (f.rests.keeps.committed start.0) ∙ c.requires.settled start k in
    let counted : IsReadable r → AreCounted (decoded c.args.schema r.reads) c.in-Ok-Some.used = some_is c.in-Ok-Some.field-0 c.in-Ok-Some.used ⊤ _ (cc c.in-Ok-Some.is) c.in-Ok-Some.ensures.counted in
    subst (λ (x : ℕ → List ℕ). AreCounted (decoded c.args.schema x) c.in-Ok-Some.used) (sym (fun_ext settled)) (counted start)

pub invariant_of-result-clause-quiet : goal.invariant_of-result-clause-quiet
invariant_of-result-clause-quiet g c =
    let r = g.S.Slots.state c.args.slots in
    let s = g.S.Slots.state c.count_rows.new.slots in
    let t = g.S.Slots.state c.in-Ok-open.chains.slots in
    let at_r = g.S.Slots.stop c.args.slots in
    let at_s = g.S.Slots.stop c.count_rows.new.slots in
    let at_t = g.S.Slots.stop c.in-Ok-open.chains.slots in
    let f : Still r t at_r at_t =
    still_both r s t at_r at_s at_t (g.met.S.Slots.stop_known c.in-Ok-open.chains.slots) (looked_still r s at_r at_s _ (λ e. cc e) c.in-Ok-Some.ensures.looked) c.in-Ok-open.ensures.same in
    quiet_rests r t (λ fine. c.requires.fine) f.rests (quiet_opened r c.requires.idle c.requires.certain)

pub returns-in-Ok-None-clause-err : goal.returns-in-Ok-None-clause-err
returns-in-Ok-None-clause-err g c =
    looked_as {U = ℕ} (g.S.Slots.state c.args.slots) (g.S.Slots.state c.count_rows.new.slots) (g.S.Slots.stop c.args.slots) (g.S.Slots.stop c.count_rows.new.slots) _ _ (λ e. absurd (cc e)) (λ e. absurd (cc e)) c.in-Ok-None.ensures.looked

pub returns-in-Ok-None-clause-broken : goal.returns-in-Ok-None-clause-broken
returns-in-Ok-None-clause-broken g c = λ is readable both. none_is c.in-Ok-None.field-0 _ _ (cc c.in-Ok-None.is) c.in-Ok-None.ensures.broken readable both.0

pub returns-in-Err-count_rows-clause-err : goal.returns-in-Err-count_rows-clause-err
returns-in-Err-count_rows-clause-err g c =
    looked_as {U = ℕ} (g.S.Slots.state c.args.slots) (g.S.Slots.state c.count_rows.new.slots) (g.S.Slots.stop c.args.slots) (g.S.Slots.stop c.count_rows.new.slots) _ _ (λ e. cc e) (λ e. cc e) c.in-Err-count_rows.ensures.looked

pub returns-in-Err-open-clause-err : goal.returns-in-Err-open-clause-err
returns-in-Err-open-clause-err g c =
    let r = g.S.Slots.state c.args.slots in
    let s = g.S.Slots.state c.count_rows.new.slots in
    let t = g.S.Slots.state c.in-Err-open.slots in
    let at_r = g.S.Slots.stop c.args.slots in
    let at_s = g.S.Slots.stop c.count_rows.new.slots in
    let at_t = g.S.Slots.stop c.in-Err-open.slots in
    subst (λ (x : SlotFault). Looked {T = ℕ} r t at_r at_t (Err x)) (sym c.refusal_of.ensures.slots)
    (still_looked r s t at_r at_s at_t (g.met.S.Slots.stop_known c.in-Err-open.slots) (looked_still r s at_r at_s _ (λ e. cc e) c.in-Ok-Some.ensures.looked) {T = ℕ} (Err (opening_fault c.in-Err-open.fault)) c.in-Err-open.ensures.err)

pub returns-in-Err-open-clause-broken : goal.returns-in-Err-open-clause-broken
returns-in-Err-open-clause-broken g c = λ is readable both.
    let r = g.S.Slots.state c.args.slots in
    let s = g.S.Slots.state c.count_rows.new.slots in
    let at_r = g.S.Slots.stop c.args.slots in
    let at_s = g.S.Slots.stop c.count_rows.new.slots in
    there_too (λ (f : ℕ → List ℕ). ¬ AreChains f) r s at_r at_s (looked_still r s at_r at_s _ (λ e. cc e) c.in-Ok-Some.ensures.looked) (c.in-Err-open.ensures.broken (c.refusal_of.ensures.broken is)) readable both.1
