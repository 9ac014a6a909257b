use Rattle.std.proofs.Common.{ℕ, List, length, refl, sym, ◌∙◌, subst, arith}
use Rattle.log_meaning.specs.steps.Steps.{Has}
use Rattle.log_meaning.proofs.StepsLemmas.Runs.{wider, traced}
use Rattle.log_meaning.proofs.StepsLemmas.Writes.{torn_none, torn_keeps_below}
use Rattle.bi_log.specs.Appending.{fresh}
use Rattle.bi_log.proofs.Preparing.{ok_then, prepared_head}
use Rattle.bi_log.proofs.Lengths.{run_torn}
use Rattle.bi_log.proofs.generation.write_header.Goals as goal

pub returns-clause-time : goal.returns-clause-time
returns-clause-time g c = wider _ _ _ _ _ _ c.write_through.ensures.time (λ d image was step. record { others = step.others; gate = torn_keeps_below 1 1 (length c.new_header.result) (d c.args.area) (image c.args.area) (omega arith) (c.requires.closed d was).there step.torn })

pub returns-clause-ok : goal.returns-clause-ok
returns-clause-ok g c = ok_then c.write_through.result _ _ c.write_through.ensures.ok (λ ok image left.
    let h = traced _ _ _ _ _ c.write_through.ensures.time (λ d. torn_none c.args.area 1 (length c.new_header.result) d d refl) image left in
    let was = c.requires.closed (h.0) (h.1) in
    prepared_head (image c.args.area) (fresh c.args.generation) (λ one. was.gate (sym ((h.2).torn.below 0 (omega (arith, was.there)) (omega arith)) ∙ one)) refl c.requires.fits
    (subst (λ (l : List ℕ). Has (image c.args.area) 1 l) c.new_header.ensures (ok image left)))

pub returns-clause-seen : goal.returns-clause-seen
returns-clause-seen g c = λ known. (c.write_through.ensures.seen known).others

pub returns-clause-within : goal.returns-clause-within
returns-clause-within g c = run_torn _ _ _ _ 33 c.args.area 1 (length c.new_header.result) (omega arith) c.write_through.ensures.time
