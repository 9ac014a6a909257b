use Rattle.std.proofs.Common.{◌≡◌, Bool, IsTrue, sym, ◌∙◌, ap, subst}
use Rattle.storage.specs.Disk.{Others}
use Rattle.log_meaning.specs.steps.Steps.{Image}
use Rattle.log_meaning.proofs.StepsLemmas.Runs.{call, joined}
use Rattle.log_meaning.specs.Images.{slot_of}
use Rattle.log_meaning.specs.LogState.{WritesNoted}
use Rattle.log_meaning.proofs.Filling.{writes_none, writes_twice}
use Rattle.bi_log.proofs.Preparing.{ok_then}
use Rattle.bi_recovery.proofs.slots_written.put_back.Goals as goal

pub returns-clause-past : goal.returns-clause-past
returns-clause-past g c = joined _ _ _ _ _ _ (Others 0) (λ old new. new ≡ old) (Others 0) c.write_slots.ensures.past
    (call _ _ _ _ _ _ c.sync.ensures.time (λ m image left. (g.met.D.Disk.image_known c.sync.new.self m image left).past))
    (λ d image there s. s) (λ d image there m s k other. ap (λ (i : Image). i k) s) (λ d e image there x m y k other. ap (λ (i : Image). i k) y ∙ x k other)

pub returns-clause-time : goal.returns-clause-time
returns-clause-time g c = λ extent batches there may. joined _ _ _ _ _ _ (WritesNoted batches) (λ old new. new ≡ old) (WritesNoted batches) (c.write_slots.ensures.time extent batches there may)
    (call _ _ _ _ _ _ c.sync.ensures.time (λ m image left. (g.met.D.Disk.image_known c.sync.new.self m image left).past))
    (λ d image was s. s) (λ d image was m s. writes_none batches d image s) (λ d e image was x m y. writes_twice batches d e image x (writes_none batches e image y))

pub returns-clause-ok : goal.returns-clause-ok
returns-clause-ok g c = c.sync.ensures.durable

pub returns-clause-reads : goal.returns-clause-reads
returns-clause-reads g c = ok_then c.sync.result _ _ c.sync.ensures.durable (λ durable known s.
    ap (λ (i : Image). slot_of (i 0) s) (c.sync.ensures.seen (subst (λ (b : Bool). IsTrue b) (sym c.write_slots.ensures.same_observable) known)) ∙ c.in_ok-write_slots.ensures.reads known s)

pub returns-clause-others : goal.returns-clause-others
returns-clause-others g c = λ known k other. ap (λ (i : Image). i k) (c.sync.ensures.seen (subst (λ (b : Bool). IsTrue b) (sym c.write_slots.ensures.same_observable) known)) ∙ c.write_slots.ensures.others known k other
