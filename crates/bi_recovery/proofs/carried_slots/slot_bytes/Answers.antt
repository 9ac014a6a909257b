use Rattle.std.proofs.Common.{◌≡◌, ℕ, List, false, Result, Ok, Err, sym, ◌∙◌, subst}
use Rattle.std.specs.Prelude.{Option, IfOk, IfSome, IfNone}
use Rattle.storage.specs.Slots.{wrote, undone}
use Rattle.log_meaning.specs.Images.{slot_of}
use Rattle.log_meaning.proofs.Undone.{undone-not}
use Rattle.bi_recovery.proofs.carried_slots.slot_bytes.Goals as goal

ok_map : {T E : Type 0} (r : Result T E) (P Q : T → Type 0) → IfOk r P → ((x : T) → P x → Q x) → IfOk r Q
ok_map (Ok x) P Q p f = f x p
ok_map (Err e) P Q p f = tt

pub returns-in-Some-clause-bytes : goal.returns-in-Some-clause-bytes
returns-in-Some-clause-bytes g c = λ known.
    sym (subst (λ (r : Option (List ℕ)). IfSome r (λ bytes. (below : ℕ → List ℕ) → undone c.args.slots.now below c.args.slot ≡ bytes)) c.in-Some.is c.entry_bytes.ensures.some (slot_of (g.D.Disk.seen c.args.disk.now 0)))

pub returns-in-None-clause-bytes : goal.returns-in-None-clause-bytes
returns-in-None-clause-bytes g c =
    let not : wrote c.args.slots.now c.args.slot ≡ false = subst (λ (r : Option (List ℕ)). IfNone r (wrote c.args.slots.now c.args.slot ≡ false)) c.in-None.is c.entry_bytes.ensures.none in
    ok_map c.read_slot.result _ _ c.read_slot.ensures.bytes (λ bytes is known. is known ∙ sym (undone-not c.args.slots.now (slot_of (g.D.Disk.seen c.args.disk.now 0)) c.args.slot not))
