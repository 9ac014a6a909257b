use Rattle.std.proofs.Common.{ℕ, ◌≡◌, ◌≤◌, List, length, arith, Option, Some, None}
use Rattle.std.specs.Prelude.{IfSome, IfNone}
use Rattle.storage.specs.Disk.{Reads}
use Rattle.log_meaning.specs.declared.note.Note.{Note}
use Rattle.log_meaning.specs.declared.note.Note.TheVariants.{Change as Changed, Commit}
use Rattle.log_meaning.specs.Bytes.{note_bytes, IsNote}
use Rattle.bi_log.specs.Appending.{Held}
use Rattle.bi_log.specs.Reading.{BeginsWith, HasBatches, IsInside}
use Rattle.bi_log.specs.Outcomes.{NoteAnswer}
use Rattle.bi_log.proofs.NoteBytes.{length-change, length-commit}
use Rattle.bi_log.proofs.ReadSteps.{note_more, broken_note}
use Rattle.bi_log.proofs.reader.note_at.Goals as goal

short : (n : Note) → IsNote n → length (note_bytes n) ≤ 525
short (Changed c) is = let l = length-change c is in omega (arith, l)
short (Commit tx) is = let l = length-commit tx in omega (arith, l)

says : (area bytes : List ℕ) (log : Held) (part : List Note) (at left : ℕ) (r : Option Note) → length bytes ≡ 525 → HasBatches area log → IsInside area log part at left → Reads area at bytes
    → IfSome r (λ n. BeginsWith bytes left n) → IfNone r ((n : Note) → BeginsWith bytes left n → ⊥) → NoteAnswer area log part at left r
says area bytes log part at left (Some n) long has inside reads begins none = note_more area bytes log part at left n long (short n begins.sound) has inside reads begins
says area bytes log part at left None long has inside reads begins none = broken_note area bytes log part at left long short has inside reads none

sound_then : (bytes : List ℕ) (left : ℕ) (r : Option Note) → IfSome r (λ n. BeginsWith bytes left n) → IfSome r (λ n. IsNote n × (length (note_bytes n) ≤ left))
sound_then bytes left (Some n) b = (b.sound, b.within)
sound_then bytes left None b = tt

pub returns-clause-ok : goal.returns-clause-ok
returns-clause-ok g c = λ known log part has inside.
    says (g.D.Disk.seen c.args.disk.now c.args.area) c.read.new.into log part c.args.at c.args.left c.first_note.result (omega arith) has inside (c.in_ok-read.ensures.bytes known) c.first_note.ensures.note c.first_note.ensures.none

pub returns-clause-sound : goal.returns-clause-sound
returns-clause-sound g c = sound_then c.read.new.into c.args.left c.first_note.result c.first_note.ensures.note
