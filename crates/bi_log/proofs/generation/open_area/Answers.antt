use Rattle.std.proofs.Common.{ℕ, get_or, refl, sym, ◌∙◌, ap, arith}
use Rattle.log_meaning.proofs.StepsLemmas.Runs.{wider, traced}
use Rattle.log_meaning.proofs.StepsLemmas.Writes.{torn_none}
use Rattle.bi_log.proofs.Preparing.{ok_then, opens_to, either_opens}
use Rattle.bi_log.proofs.Lengths.{run_torn}
use Rattle.bi_log.proofs.generation.open_area.Goals as goal

pub returns-clause-past : goal.returns-clause-past
returns-clause-past g c = wider _ _ _ _ _ _ c.write_through.ensures.time (λ d image was step. step.others)

pub returns-clause-time : goal.returns-clause-time
returns-clause-time g c = λ log gate prepared. wider _ _ _ _ _ _ c.write_through.ensures.time (λ d image was step. record { others = step.others; holds = either_opens (d c.args.area) (image c.args.area) log gate (prepared d was) step.torn })

pub returns-clause-ok : goal.returns-clause-ok
returns-clause-ok g c = ok_then c.write_through.result _ _ c.write_through.ensures.ok (λ ok log gate prepared image left.
    let h = traced _ _ _ _ _ c.write_through.ensures.time (λ d. torn_none c.args.area 0 1 d d refl) image left in
    let has = ok image left in
    opens_to (h.0 c.args.area) (image c.args.area) log gate (prepared (h.0) (h.1)) (h.2).torn (ap (λ (k : ℕ). get_or (image c.args.area) k 0) (omega arith) ∙ sym (has.reads 0 (omega arith))))

pub returns-clause-seen : goal.returns-clause-seen
returns-clause-seen g c = λ known. (c.write_through.ensures.seen known).others

pub returns-clause-within : goal.returns-clause-within
returns-clause-within g c = run_torn _ _ _ _ 1 c.args.area 0 1 (omega arith) c.write_through.ensures.time
