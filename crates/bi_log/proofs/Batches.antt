-- A batch after a gate.
use Rattle.std.proofs.Common.{◌≡◌, ◌⊎◌, inl, inr, ℕ, ◌+◌, List, [], ◌∷◌, length, get_or, sym, ◌∙◌, ap, arith, length-append}
use Rattle.std.specs.Prelude.{All}
use Rattle.storage.specs.Disk.{Torn}
use Rattle.log_meaning.specs.steps.Steps.{Has}
use Rattle.log_meaning.proofs.StepsLemmas.Writes.{torn_keeps_below, has_torn}
use Rattle.log_meaning.specs.declared.note.Note.{Note}
use Rattle.log_meaning.specs.Bytes.{batch_bytes, log_bytes, after_gate, IsBatch}
use Rattle.log_meaning.specs.Images.{IsOpened}
use Rattle.log_meaning.proofs.Areas.{same_log, same_header, long_log, length-after_gate, either_batch, opened_batch, log-push}
use Rattle.log_meaning.proofs.OneLog.{length-batch}
use Rattle.bi_log.specs.Appending.{Held, Holds, with_batch, RestsAt}

-- the area has an open header and these batches, and another batch follows the gate, which is open or closed
pub record Laid (area : List ℕ) (h : Held) (b : List Note) (gate : ℕ) : Type 0 where
  pub opened : IsOpened area h.generation
  pub log : Has area 0 (log_bytes h.generation h.batches)
  pub sound : All IsBatch h.batches
  pub at : gate ≡ length (log_bytes h.generation h.batches)
  pub beyond : Has area (gate + 1) (after_gate b)

pub rests_torn : (old new : List ℕ) (h : Held) (gate n : ℕ) → RestsAt old h gate → Torn (gate + 1) n old new → RestsAt new h gate
rests_torn old new h gate n r torn = record {
  log = same_log old new h.generation h.batches gate r.at (torn_keeps_below (gate + 1) (gate + 1) n old new (omega arith) (omega (arith, r.there)) torn) r.log;
  at = r.at;
  there = omega (arith, r.there, torn.no_shorter);
}

pub laid_from : (area : List ℕ) (h : Held) (b : List Note) (gate : ℕ) → RestsAt area h gate → Has area (gate + 1) (after_gate b) → Laid area h b gate
laid_from area h b gate r has = record {
  opened = r.log.opened;
  log = record { reads = r.log.reads; there = omega (arith, r.there, r.at) };
  sound = r.log.sound;
  at = r.at;
  beyond = has;
}

pub laid_torn : (old new : List ℕ) (h : Held) (b : List Note) (gate : ℕ) → Laid old h b gate → Torn gate 1 old new → Laid new h b gate
laid_torn old new h b gate l torn = record {
  opened = same_header old new h.generation (λ i lt. torn.below i (omega (arith, lt, l.log.there, long_log h.generation h.batches)) (omega (arith, lt, l.at, long_log h.generation h.batches))) l.opened;
  log = has_torn gate 1 0 (log_bytes h.generation h.batches) old new torn (inl (omega (arith, l.at))) l.log;
  sound = l.sound;
  at = l.at;
  beyond = has_torn gate 1 (gate + 1) (after_gate b) old new torn (inr (omega arith)) l.beyond;
}

pub laid_either : (area : List ℕ) (h : Held) (b : List Note) (gate : ℕ) → IsBatch b → Laid area h b gate → Holds area h ⊎ Holds area (with_batch h b)
laid_either area h b gate sound l = either_batch area h.generation h.batches b gate l.at sound l.opened l.log.reads l.sound l.beyond.reads

pub laid_open : (area : List ℕ) (h : Held) (b : List Note) (gate : ℕ) → IsBatch b → Laid area h b gate → Has area gate (1 ∷ []) → RestsAt area (with_batch h b) (gate + length (after_gate b))
laid_open area h b gate sound l one = record {
  log = opened_batch area h.generation h.batches b gate l.at sound l.opened l.log.reads l.sound (ap (λ (k : ℕ). get_or area k 0) (omega arith) ∙ sym (one.reads 0 (omega arith))) l.beyond.reads;
  at = omega (arith, ap (length {A = ℕ}) (log-push h.generation h.batches b), length-append (log_bytes h.generation h.batches) (batch_bytes 1 b), length-batch b, length-after_gate b, l.at);
  there = omega (arith, l.beyond.there);
}
