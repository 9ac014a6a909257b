use Rattle.std.proofs.Common.{◌≡◌, ◌≢◌, ℕ, Bool, IsTrue, List, sym, ◌∙◌, subst, arith}
use Rattle.storage.specs.Disk.{Others}
use Rattle.storage.specs.Slots.{undone}
use Rattle.log_meaning.specs.steps.Steps.{Image, Run}
use Rattle.log_meaning.proofs.StepsLemmas.Runs.{joined, wider}
use Rattle.log_meaning.specs.declared.note.Note.{Note}
use Rattle.log_meaning.specs.Images.{slot_of}
use Rattle.bi_log.specs.Generations.{Closes, AfterGate}
use Rattle.bi_recovery.specs.Carried.{stills, IsCarried, CarriesTo}
use Rattle.bi_recovery.proofs.CarriedRun.{OpensNone, none_closes, none_to, run_none, run_after, run_carried}
use Rattle.bi_log.proofs.Lengths.{run_more, run_twice}
use Rattle.bi_recovery.proofs.carried_generation.carried_generation.Goals as goal

others_both : (was mid now : ℕ) (before between after : ℕ → Image → Type 0) (a : ℕ) → Run was mid before between (Others a) → Run mid now between after (Others a) → Run was now before after (Others a)
others_both was mid now before between after a one two = joined _ _ _ _ _ _ (Others a) (Others a) (Others a) one two (λ d image there s. s) (λ d image there m s. s) (λ d e image there x m y k other. y k other ∙ x k other)

others_close : (was now : ℕ) (before after : ℕ → Image → Type 0) (a : ℕ) → Run was now before after (Closes a) → Run was now before after (Others a)
others_close was now before after a run = wider _ _ _ _ (Closes a) (Others a) run (λ d image there s. s.others)

others_gate : (was now : ℕ) (before after : ℕ → Image → Type 0) (a : ℕ) → Run was now before after (AfterGate a) → Run was now before after (Others a)
others_gate was now before after a run = wider _ _ _ _ (AfterGate a) (Others a) run (λ d image there s. s.others)

none_close : (was now : ℕ) (before after : ℕ → Image → Type 0) (a : ℕ) → Run was now before after (Closes a) → Run was now before after (OpensNone a)
none_close was now before after a run = wider _ _ _ _ (Closes a) (OpensNone a) run (λ d image there s. none_closes a d image s)

to_none : (was now : ℕ) (before after : ℕ → Image → Type 0) (a k : ℕ) (notes : List Note) → Run was now before after (OpensNone a) → Run was now before after (CarriesTo a k notes)
to_none was now before after a k notes run = wider _ _ _ _ (OpensNone a) (CarriesTo a k notes) run (λ d image there s. none_to a k notes d image s)

pub returns-in_err-close_area-clause-past : goal.returns-in_err-close_area-clause-past
returns-in_err-close_area-clause-past g c = others_close _ _ _ _ c.args.area c.close_area.ensures.time

pub returns-in_err-write_header-clause-past : goal.returns-in_err-write_header-clause-past
returns-in_err-write_header-clause-past g c = others_both _ _ _ _ _ _ c.args.area (others_close _ _ _ _ c.args.area c.close_area.ensures.time) (others_gate _ _ _ _ c.args.area c.write_header.ensures.time)

pub returns-in_err-gate-clause-past : goal.returns-in_err-gate-clause-past
returns-in_err-gate-clause-past g c = others_both _ _ _ _ _ _ c.args.area (others_both _ _ _ _ _ _ c.args.area (others_close _ _ _ _ c.args.area c.close_area.ensures.time) (others_gate _ _ _ _ c.args.area c.write_header.ensures.time)) (others_gate _ _ _ _ c.args.area c.carry_slots.ensures.time)

pub returns-in_err-open_area-clause-past : goal.returns-in_err-open_area-clause-past
returns-in_err-open_area-clause-past g c = others_both _ _ _ _ _ _ c.args.area
    (others_both _ _ _ _ _ _ c.args.area (others_both _ _ _ _ _ _ c.args.area (others_close _ _ _ _ c.args.area c.close_area.ensures.time) (others_gate _ _ _ _ c.args.area c.write_header.ensures.time)) (others_gate _ _ _ _ c.args.area c.carry_slots.ensures.time))
    c.open_area.ensures.past

pub returns-clause-past : goal.returns-clause-past
returns-clause-past g c = others_both _ _ _ _ _ _ c.args.area
    (others_both _ _ _ _ _ _ c.args.area (others_both _ _ _ _ _ _ c.args.area (others_close _ _ _ _ c.args.area c.close_area.ensures.time) (others_gate _ _ _ _ c.args.area c.write_header.ensures.time)) (others_gate _ _ _ _ c.args.area c.carry_slots.ensures.time))
    c.open_area.ensures.past

pub returns-in_err-close_area-clause-time : goal.returns-in_err-close_area-clause-time
returns-in_err-close_area-clause-time g c = λ known. to_none _ _ _ _ c.args.area c.args.generation _ (none_close _ _ _ _ c.args.area c.close_area.ensures.time)

pub returns-in_err-write_header-clause-time : goal.returns-in_err-write_header-clause-time
returns-in_err-write_header-clause-time g c = λ known. to_none _ _ _ _ c.args.area c.args.generation _ (run_none _ _ _ _ _ _ c.args.area (none_close _ _ _ _ c.args.area c.close_area.ensures.time) (run_after _ _ _ _ c.args.area c.write_header.ensures.time c.in_ok-close_area.ensures.ok))

pub returns-in_err-gate-clause-time : goal.returns-in_err-gate-clause-time
returns-in_err-gate-clause-time g c = λ known. to_none _ _ _ _ c.args.area c.args.generation _ (run_none _ _ _ _ _ _ c.args.area
    (run_none _ _ _ _ _ _ c.args.area (none_close _ _ _ _ c.args.area c.close_area.ensures.time) (run_after _ _ _ _ c.args.area c.write_header.ensures.time c.in_ok-close_area.ensures.ok))
    (run_after _ _ _ _ c.args.area c.carry_slots.ensures.time (λ image left. (c.in_ok-write_header.ensures.ok image left).closed)))

pub returns-in_err-open_area-clause-time : goal.returns-in_err-open_area-clause-time
returns-in_err-open_area-clause-time g c = λ known.
    let known1 : IsTrue (g.D.Disk.observable c.close_area.new.disk) = subst (λ (b : Bool). IsTrue b) (sym c.close_area.ensures.same_observable) known in
    let known2 : IsTrue (g.D.Disk.observable c.write_header.new.disk) = subst (λ (b : Bool). IsTrue b) (sym c.write_header.ensures.same_observable) known1 in
    let other : 0 ≢ c.args.area = (λ is. let some_area = c.requires.other.0 in omega (arith, is, some_area)) in
    let same : g.D.Disk.seen c.write_header.new.disk 0 ≡ g.D.Disk.seen c.args.disk.now 0 = c.write_header.ensures.seen known1 0 other ∙ c.close_area.ensures.seen known 0 other in
    let k = subst (λ (l : List ℕ). IsCarried (g.D.Disk.left c.carry_slots.new.disk (g.D.Disk.time c.carry_slots.new.disk)) c.args.area c.in_ok-gate.gate c.args.generation (stills (undone c.args.slots.now (slot_of l)) c.args.count)) same (c.in_ok-gate.ensures.ok known2 c.args.generation c.in_ok-write_header.ensures.ok) in
    run_carried _ _ _ _ _ _ c.args.area c.args.generation c.in_ok-gate.gate _ (run_none _ _ _ _ _ _ c.args.area
    (run_none _ _ _ _ _ _ c.args.area (none_close _ _ _ _ c.args.area c.close_area.ensures.time) (run_after _ _ _ _ c.args.area c.write_header.ensures.time c.in_ok-close_area.ensures.ok))
    (run_after _ _ _ _ c.args.area c.carry_slots.ensures.time (λ image left. (c.in_ok-write_header.ensures.ok image left).closed)))
    k (c.open_area.ensures.time k.held c.in_ok-gate.gate k.prepared)

pub returns-clause-time : goal.returns-clause-time
returns-clause-time g c = λ known.
    let known1 : IsTrue (g.D.Disk.observable c.close_area.new.disk) = subst (λ (b : Bool). IsTrue b) (sym c.close_area.ensures.same_observable) known in
    let known2 : IsTrue (g.D.Disk.observable c.write_header.new.disk) = subst (λ (b : Bool). IsTrue b) (sym c.write_header.ensures.same_observable) known1 in
    let other : 0 ≢ c.args.area = (λ is. let some_area = c.requires.other.0 in omega (arith, is, some_area)) in
    let same : g.D.Disk.seen c.write_header.new.disk 0 ≡ g.D.Disk.seen c.args.disk.now 0 = c.write_header.ensures.seen known1 0 other ∙ c.close_area.ensures.seen known 0 other in
    let k = subst (λ (l : List ℕ). IsCarried (g.D.Disk.left c.carry_slots.new.disk (g.D.Disk.time c.carry_slots.new.disk)) c.args.area c.in_ok-gate.gate c.args.generation (stills (undone c.args.slots.now (slot_of l)) c.args.count)) same (c.in_ok-gate.ensures.ok known2 c.args.generation c.in_ok-write_header.ensures.ok) in
    run_carried _ _ _ _ _ _ c.args.area c.args.generation c.in_ok-gate.gate _ (run_none _ _ _ _ _ _ c.args.area
    (run_none _ _ _ _ _ _ c.args.area (none_close _ _ _ _ c.args.area c.close_area.ensures.time) (run_after _ _ _ _ c.args.area c.write_header.ensures.time c.in_ok-close_area.ensures.ok))
    (run_after _ _ _ _ c.args.area c.carry_slots.ensures.time (λ image left. (c.in_ok-write_header.ensures.ok image left).closed)))
    k (c.open_area.ensures.time k.held c.in_ok-gate.gate k.prepared)

pub returns-clause-ok : goal.returns-clause-ok
returns-clause-ok g c = λ known.
    let known1 : IsTrue (g.D.Disk.observable c.close_area.new.disk) = subst (λ (b : Bool). IsTrue b) (sym c.close_area.ensures.same_observable) known in
    let known2 : IsTrue (g.D.Disk.observable c.write_header.new.disk) = subst (λ (b : Bool). IsTrue b) (sym c.write_header.ensures.same_observable) known1 in
    let other : 0 ≢ c.args.area = (λ is. let some_area = c.requires.other.0 in omega (arith, is, some_area)) in
    let same : g.D.Disk.seen c.write_header.new.disk 0 ≡ g.D.Disk.seen c.args.disk.now 0 = c.write_header.ensures.seen known1 0 other ∙ c.close_area.ensures.seen known 0 other in
    let k = subst (λ (l : List ℕ). IsCarried (g.D.Disk.left c.carry_slots.new.disk (g.D.Disk.time c.carry_slots.new.disk)) c.args.area c.in_ok-gate.gate c.args.generation (stills (undone c.args.slots.now (slot_of l)) c.args.count)) same (c.in_ok-gate.ensures.ok known2 c.args.generation c.in_ok-write_header.ensures.ok) in
    record { held = k.held; is_generation = k.is_generation; rests = c.in_ok-open_area.ensures.ok k.held c.in_ok-gate.gate k.prepared; are = k.are }

pub returns-in_err-write_header-clause-seen : goal.returns-in_err-write_header-clause-seen
returns-in_err-write_header-clause-seen g c = λ known k other.
    c.write_header.ensures.seen (subst (λ (b : Bool). IsTrue b) (sym c.close_area.ensures.same_observable) known) k other ∙ c.close_area.ensures.seen known k other

pub returns-in_err-gate-clause-seen : goal.returns-in_err-gate-clause-seen
returns-in_err-gate-clause-seen g c = λ known k other.
    let known1 : IsTrue (g.D.Disk.observable c.close_area.new.disk) = subst (λ (b : Bool). IsTrue b) (sym c.close_area.ensures.same_observable) known in
    let known2 : IsTrue (g.D.Disk.observable c.write_header.new.disk) = subst (λ (b : Bool). IsTrue b) (sym c.write_header.ensures.same_observable) known1 in
    c.carry_slots.ensures.seen known2 k other ∙ c.write_header.ensures.seen known1 k other ∙ c.close_area.ensures.seen known k other

pub returns-in_err-open_area-clause-seen : goal.returns-in_err-open_area-clause-seen
returns-in_err-open_area-clause-seen g c = λ known k other.
    let known1 : IsTrue (g.D.Disk.observable c.close_area.new.disk) = subst (λ (b : Bool). IsTrue b) (sym c.close_area.ensures.same_observable) known in
    let known2 : IsTrue (g.D.Disk.observable c.write_header.new.disk) = subst (λ (b : Bool). IsTrue b) (sym c.write_header.ensures.same_observable) known1 in
    let known3 : IsTrue (g.D.Disk.observable c.carry_slots.new.disk) = subst (λ (b : Bool). IsTrue b) (sym c.carry_slots.ensures.same_observable) known2 in
    c.open_area.ensures.seen known3 k other ∙ c.carry_slots.ensures.seen known2 k other ∙ c.write_header.ensures.seen known1 k other ∙ c.close_area.ensures.seen known k other

pub returns-clause-seen : goal.returns-clause-seen
returns-clause-seen g c = λ known k other.
    let known1 : IsTrue (g.D.Disk.observable c.close_area.new.disk) = subst (λ (b : Bool). IsTrue b) (sym c.close_area.ensures.same_observable) known in
    let known2 : IsTrue (g.D.Disk.observable c.write_header.new.disk) = subst (λ (b : Bool). IsTrue b) (sym c.write_header.ensures.same_observable) known1 in
    let known3 : IsTrue (g.D.Disk.observable c.carry_slots.new.disk) = subst (λ (b : Bool). IsTrue b) (sym c.carry_slots.ensures.same_observable) known2 in
    c.open_area.ensures.seen known3 k other ∙ c.carry_slots.ensures.seen known2 k other ∙ c.write_header.ensures.seen known1 k other ∙ c.close_area.ensures.seen known k other

pub returns-in_err-close_area-clause-within : goal.returns-in_err-close_area-clause-within
returns-in_err-close_area-clause-within g c = λ short. run_more _ _ _ _ 167772160 1 (omega arith) c.close_area.ensures.within

pub returns-in_err-write_header-clause-within : goal.returns-in_err-write_header-clause-within
returns-in_err-write_header-clause-within g c = λ short. run_twice _ _ _ _ _ _ 167772160 (run_more _ _ _ _ 167772160 1 (omega arith) c.close_area.ensures.within) (run_more _ _ _ _ 167772160 33 (omega arith) c.write_header.ensures.within)

pub returns-in_err-gate-clause-within : goal.returns-in_err-gate-clause-within
returns-in_err-gate-clause-within g c = λ short. run_twice _ _ _ _ _ _ 167772160 (run_twice _ _ _ _ _ _ 167772160 (run_more _ _ _ _ 167772160 1 (omega arith) c.close_area.ensures.within) (run_more _ _ _ _ 167772160 33 (omega arith) c.write_header.ensures.within)) (c.carry_slots.ensures.within short)

pub returns-in_err-open_area-clause-within : goal.returns-in_err-open_area-clause-within
returns-in_err-open_area-clause-within g c = λ short. run_twice _ _ _ _ _ _ 167772160 (run_twice _ _ _ _ _ _ 167772160 (run_twice _ _ _ _ _ _ 167772160 (run_more _ _ _ _ 167772160 1 (omega arith) c.close_area.ensures.within) (run_more _ _ _ _ 167772160 33 (omega arith) c.write_header.ensures.within)) (c.carry_slots.ensures.within short)) (run_more _ _ _ _ 167772160 1 (omega arith) c.open_area.ensures.within)

pub returns-clause-within : goal.returns-clause-within
returns-clause-within g c = λ short. run_twice _ _ _ _ _ _ 167772160 (run_twice _ _ _ _ _ _ 167772160 (run_twice _ _ _ _ _ _ 167772160 (run_more _ _ _ _ 167772160 1 (omega arith) c.close_area.ensures.within) (run_more _ _ _ _ 167772160 33 (omega arith) c.write_header.ensures.within)) (c.carry_slots.ensures.within short)) (run_more _ _ _ _ 167772160 1 (omega arith) c.open_area.ensures.within)
