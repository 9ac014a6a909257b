use Rattle.std.proofs.Common.{ℕ, inl, inr, subst, arith}
use Rattle.storage.specs.Disk.{Reads}
use Rattle.bi_log.specs.Reading.{gate_of}
use Rattle.bi_log.proofs.ReadSteps.{enters, broken_head, head_number, gate_byte}
use Rattle.bi_log.proofs.reader.look_at_gate.Goals as goal

pub returns-then-n-eq0-clause-ok : goal.returns-then-n-eq0-clause-ok
returns-then-n-eq0-clause-ok g c = λ known log has at_is.
    let seen = g.D.Disk.seen c.args.disk.now c.args.area in
    let head = c.read.new.into in
    let reads : Reads seen (gate_of log) head = subst (λ (k : ℕ). Reads seen k head) at_is (c.in_ok-read.ensures.bytes known) in
    broken_head seen log c.batch_length-n.result has (gate_byte seen head (gate_of log) 1 (omega arith) reads c.if-head-ne1.false) (omega arith)
    (head_number seen head (gate_of log) c.batch_length-n.result (omega arith) reads c.batch_length-n.ensures)
    (inl c.if-n-eq0.true)

pub returns-then-n-gt1048576-clause-ok : goal.returns-then-n-gt1048576-clause-ok
returns-then-n-gt1048576-clause-ok g c = λ known log has at_is.
    let seen = g.D.Disk.seen c.args.disk.now c.args.area in
    let head = c.read.new.into in
    let reads : Reads seen (gate_of log) head = subst (λ (k : ℕ). Reads seen k head) at_is (c.in_ok-read.ensures.bytes known) in
    broken_head seen log c.batch_length-n.result has (gate_byte seen head (gate_of log) 1 (omega arith) reads c.if-head-ne1.false) (omega arith)
    (head_number seen head (gate_of log) c.batch_length-n.result (omega arith) reads c.batch_length-n.ensures)
    (inr c.if-n-gt1048576.true)

pub returns-clause-ok : goal.returns-clause-ok
returns-clause-ok g c = λ known log has at_is.
    let seen = g.D.Disk.seen c.args.disk.now c.args.area in
    let head = c.read.new.into in
    let reads : Reads seen (gate_of log) head = subst (λ (k : ℕ). Reads seen k head) at_is (c.in_ok-read.ensures.bytes known) in
    enters seen log c.batch_length-n.result (gate_byte seen head (gate_of log) 1 (omega arith) reads c.if-head-ne1.false)
    (head_number seen head (gate_of log) c.batch_length-n.result (omega arith) reads c.batch_length-n.ensures)
    (omega (arith, c.if-n-eq0.false)) (omega arith)
