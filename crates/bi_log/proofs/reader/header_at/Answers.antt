use Rattle.std.proofs.Common.{ℕ, ◌≡◌, List, length, get_or, sym, ◌∙◌, ap, arith, Option, Some, None}
use Rattle.std.specs.Prelude.{IfSome, IfNone}
use Rattle.storage.specs.Disk.{Reads}
use Rattle.log_meaning.specs.Images.{IsOpened}
use Rattle.log_meaning.proofs.Areas.{same_header}
use Rattle.bi_log.specs.declared.header.Header.{Header}
use Rattle.bi_log.specs.Outcomes.{HeaderAnswer}
use Rattle.bi_log.proofs.reader.header_at.Goals as goal

says : (area bytes : List ℕ) (r : Option Header) → length bytes ≡ 32 → Reads area 0 bytes → IfSome r (λ h. IsOpened bytes h.generation) → IfNone r ((g : ℕ) → IsOpened bytes g → ⊥) → HeaderAnswer area r
says area bytes (Some h) long reads some none = same_header bytes area h.generation (λ i lt. ap (λ (k : ℕ). get_or area k 0) (omega arith) ∙ sym (reads i (omega (arith, lt, long)))) some
says area bytes None long reads some none = λ g o. none g (same_header area bytes g (λ i lt. reads i (omega (arith, lt, long)) ∙ ap (λ (k : ℕ). get_or area k 0) (omega arith)) o)

pub returns-clause-ok : goal.returns-clause-ok
returns-clause-ok g c = λ known. says (g.D.Disk.seen c.args.disk.now c.args.area) c.read.new.into c.header_of.result (omega arith) (c.in_ok-read.ensures.bytes known) c.header_of.ensures.head c.header_of.ensures.none
