use Rattle.std.proofs.Common.{ap, codes, ◌≡◌, ◌++◌, ◌∙◌, ℕ, List, IfOk, sym, subst}
use Rattle.std.proofs.lemmas.Result.{IfOk-weaker}
use Rattle.block_meaning.specs.Lines.{line_of}
use Rattle.block_meaning.specs.Program.{Program, buffer_name}
use Rattle.record_rules.specs.lines.Complaints.{HasNames, complaint_in}
use Rattle.record_rules.specs.declared.lines.complaint.Complaint.{Complaint}
use Rattle.record_rules.proofs.LinesLemmas.Ended.{ended}
use Rattle.record_rules.proofs.lines.lines.Names.line.Goals as goal

pub returns-in-Locked : goal.returns-in-Locked
returns-in-Locked c =
    subst (λ (x : Complaint). IfOk c.of_buffer-in-Locked.result (λ line. (p : Program) (n : ℕ) → HasNames p n c.args.self.now.schema.now c.args.self.now.buffers.now → line.items ≡ line_of p n (complaint_in x))) (sym c.in-Locked.is)
    (IfOk-weaker c.of_buffer-in-Locked.result _ _ (λ line h p n names. h p n names ∙ ap (λ (t : List ℕ). codes "** record of " ++ t) (ended (buffer_name p n c.in-Locked.b) (codes " is locked"))) c.of_buffer-in-Locked.ensures)

pub returns-in-ReadNoLock : goal.returns-in-ReadNoLock
returns-in-ReadNoLock c =
    subst (λ (x : Complaint). IfOk c.of_buffer-in-ReadNoLock.result (λ line. (p : Program) (n : ℕ) → HasNames p n c.args.self.now.schema.now c.args.self.now.buffers.now → line.items ≡ line_of p n (complaint_in x))) (sym c.in-ReadNoLock.is)
    (IfOk-weaker c.of_buffer-in-ReadNoLock.result _ _ (λ line h p n names. h p n names ∙ ap (λ (t : List ℕ). codes "** record of " ++ t) (ended (buffer_name p n c.in-ReadNoLock.b) (codes " is read NO-LOCK"))) c.of_buffer-in-ReadNoLock.ensures)

pub returns-in-Gone : goal.returns-in-Gone
returns-in-Gone c =
    subst (λ (x : Complaint). IfOk c.of_buffer-in-Gone.result (λ line. (p : Program) (n : ℕ) → HasNames p n c.args.self.now.schema.now c.args.self.now.buffers.now → line.items ≡ line_of p n (complaint_in x))) (sym c.in-Gone.is)
    (IfOk-weaker c.of_buffer-in-Gone.result _ _ (λ line h p n names. h p n names ∙ ap (λ (t : List ℕ). codes "** record of " ++ t) (ended (buffer_name p n c.in-Gone.b) (codes " is gone"))) c.of_buffer-in-Gone.ensures)
