-- The log is kept once the slots are recovered and a generation without notes is open.
use Rattle.std.proofs.Common.{◌≡◌, ℕ, ◌%◌, ◌≤◌, Bool, false, List, [], ◌∷◌, length, Option, Some, None, refl, sym, ◌∙◌, ap, subst, arith, length-append}
use Rattle.std.proofs.lemmas.Bool.{true≢false}
use Rattle.std.specs.List.{flat_map}
use Rattle.storage.specs.declared.slots.Undo.{Undo}
use Rattle.storage.specs.Slots.{wrote}
use Rattle.log_meaning.specs.steps.Steps.{Image}
use Rattle.log_meaning.specs.declared.note.Note.{Note}
use Rattle.log_meaning.specs.Bytes.{log_bytes, header_bytes, batch_bytes}
use Rattle.log_meaning.specs.Images.{slot_of}
use Rattle.log_meaning.specs.Recovered.{changes_of, given}
use Rattle.log_meaning.specs.LogState.{notes_in, LogState, IsFilled}
use Rattle.log_meaning.specs.Logged.{Logged}
use Rattle.log_meaning.proofs.LoggedStarts.{fresh}
use Rattle.log_meaning.proofs.Filling.{filled_none}
use Rattle.log_meaning.proofs.OneLog.{length-head, length-batch}
use Rattle.bi_log.specs.declared.log.Log.{Log}
use Rattle.bi_log.specs.Appending.{RestsAt}
use Rattle.bi_log.specs.Logs.{HasNotes}
use Rattle.bi_recovery.specs.Reopening.{NewLog}
use Rattle.checkpoint.specs.kept.Numbers.{is_number, undo_of}
use Rattle.checkpoint.specs.kept.KeptLog.{KeptLog}

-- a log of 32 bytes has no batch
no_batch : (g : ℕ) (bs : List (List Note)) → length (log_bytes g bs) ≡ 32 → bs ≡ []
no_batch g [] is = refl
no_batch g (b ∷ bs) is = absurd (omega (arith, is, length-head g, length-append (1 ∷ header_bytes g) (flat_map (batch_bytes 1) (b ∷ bs)), length-append (batch_bytes 1 b) (flat_map (batch_bytes 1) bs), length-batch b))

module _ (slots : ℕ → List ℕ) (left : Image → Type 0) (log : Log) (un : ℕ → Option ℕ) (number : ℕ → Option ℕ) (list : ℕ → List Undo) (g e : ℕ) (seen : Image)
    (new : NewLog left log.area g e 32 slots) (there : left seen) where
  empty : new.batches ≡ []
  empty = no_batch g new.batches (sym (new.rests seen there).at)

  state : (image : Image) → left image → LogState log.area g e [] new.base image
  state image known = subst (λ (bs : List (List Note)). LogState log.area g e bs new.base image) empty (new.agrees image known)

  base_is : (s : ℕ) → new.base s ≡ slots s
  base_is s = sym (ap (λ (bs : List (List Note)). of_batches bs s) empty) ∙ new.recovers (λ t. false) s
    where
      of_batches : List (List Note) → ℕ → List ℕ
      of_batches bs s = given (λ t. false) (new.base s) (changes_of s (notes_in bs))

  -- every image has this log, without batches, and the next gate after its header
  pub rests_fresh : (image : Image) → left image → RestsAt (image log.area) (record { generation = g; batches = [] }) 32
  rests_fresh image known = record {
    log = (state image known).log;
    at = subst (λ (bs : List (List Note)). 32 ≡ length (log_bytes g bs)) empty (new.rests image known).at;
    there = (new.rests image known).there;
  }

  -- so it is where fewer slots of area 0 count
  pub narrowed : (e' : ℕ) → e' ≤ e → NewLog left log.area g e' 32 slots
  narrowed e' fewer = record {
    batches = new.batches;
    base = new.base;
    agrees = λ image known. let st = new.agrees image known in let there = st.there in record { newest = st.newest; log = st.log; there = omega (arith, there, fewer); below = st.below };
    rests = new.rests;
    recovers = new.recovers;
    filled = subst (λ (bs : List (List Note)). IsFilled e' (notes_in bs)) (sym empty) (filled_none e');
  }

  -- area 0 has the slots
  pub reads_slots : (s : ℕ) → slot_of (seen 0) s ≡ slots s
  reads_slots s = (state seen there).below s refl ∙ base_is s

  pub opened_log : ((image : Image) → left image → RestsAt (image log.area) (record { generation = g; batches = [] }) log.gate) → HasNotes log.buffer [] → ((s : ℕ) → un s ≡ None) → ((c : ℕ) → number c ≡ None) → ((c : ℕ) → list c ≡ [])
      → KeptLog slots slots left log un number list g e e 1
  opened_log rests none written idle lists = record {
    held = record { generation = g; batches = [] };
    buffered = [];
    base = slots;
    generation_is = refl;
    keeps = record { each = rests; notes = none };
    agrees = λ image known. let st = state image known in record { newest = st.newest; log = st.log; there = st.there; below = λ s noted. st.below s noted ∙ base_is s };
    logged = subst (λ (p : ℕ → Bool). Logged [] slots slots slots p (undo_of number list)) (λ i t. sym (ap (λ (o : Option ℕ). is_number o t) (idle (t % 16))) i) (fresh slots (undo_of number list));
    settled = λ s. refl;
    numbered = λ c m is. absurd (no_number m (sym (idle c) ∙ is));
    below = tt;
    settled_filled = filled_none e;
    filled_to = record { covered = λ j from lt. absurd (omega (arith, from, lt)); uncovered = λ j past. refl };
    changes = λ slot note is. absurd (no_number note (sym (written slot) ∙ is));
    noted = λ c slot w. absurd (true≢false (sym w ∙ ap (λ (us : List Undo). wrote us slot) (lists c)));
  }
    where
      no_number : (m : ℕ) → None ≡ Some m → ⊥
      no_number m is = cc
