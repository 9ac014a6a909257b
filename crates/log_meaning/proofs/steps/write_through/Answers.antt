use Rattle.std.proofs.Common.{◌≡◌, ℕ, List, length, Bool, IsTrue, Result, Ok, Err, OnOk, sym, ◌∙◌, ap, subst}
use Rattle.storage.specs.Disk.{TornIn}
use Rattle.log_meaning.specs.steps.Steps.{Image, Has}
use Rattle.log_meaning.proofs.StepsLemmas.Runs.{call, joined}
use Rattle.log_meaning.proofs.StepsLemmas.Writes.{torn_none, torn_then, overlaid-has}
use Rattle.log_meaning.proofs.steps.write_through.Goals as goal

pub returns-in_err-write-clause-time : goal.returns-in_err-write-clause-time
returns-in_err-write-clause-time g c = call _ _ _ _ _ _ c.write.ensures.time (λ m image left. (g.met.D.Disk.image_known c.write.new.self m image left).past)

pub returns-clause-time : goal.returns-clause-time
returns-clause-time g c =
    let torn : Image → Image → Type 0 = TornIn c.args.area c.args.at (length c.args.bytes.now) in
    joined _ _ _ _ _ _ torn (λ old new. new ≡ old) torn
    (call _ _ _ _ _ _ c.write.ensures.time (λ m image left. (g.met.D.Disk.image_known c.write.new.self m image left).past))
    (call _ _ _ _ _ _ c.sync.ensures.time (λ m image left. (g.met.D.Disk.image_known c.sync.new.self m image left).past))
    (λ d image was step. step)
    (λ d image was mid same. torn_none c.args.area c.args.at (length c.args.bytes.now) d image same)
    (λ d e image was step mid same. torn_then c.args.area c.args.at (length c.args.bytes.now) d e image step same)

ok_then : {T E : Type 0} (r : Result T E) (P Q : Type 0) → OnOk r P → (P → Q) → OnOk r Q
ok_then (Ok x) P Q p f = f p
ok_then (Err e) P Q p f = tt

pub returns-clause-ok : goal.returns-clause-ok
returns-clause-ok g c = ok_then c.sync.result _ _ c.sync.ensures.durable (λ durable image left.
    let known_new = (g.met.D.Disk.image_known c.sync.new.self _ image left).same_observable in
    let known_mid : IsTrue (g.D.Disk.observable c.write.new.self) = subst (λ (b : Bool). IsTrue b) c.sync.ensures.same_observable known_new in
    let known_old : IsTrue (g.D.Disk.observable c.args.disk.now) = subst (λ (b : Bool). IsTrue b) c.write.ensures.same_observable known_mid in
    let is : image c.args.area ≡ _ = durable image left ∙ ap (λ (f : ℕ → List ℕ). f c.args.area) (c.sync.ensures.seen known_mid) ∙ c.in_ok-write.ensures.written known_old in
    subst (λ (l : List ℕ). Has l c.args.at c.args.bytes.now) (sym is) (overlaid-has c.args.at c.args.bytes.now _))

pub returns-clause-seen : goal.returns-clause-seen
returns-clause-seen g c = λ known. torn_then c.args.area c.args.at (length c.args.bytes.now) (g.D.Disk.seen c.args.disk.now) (g.D.Disk.seen c.write.new.self) (g.D.Disk.seen c.sync.new.self) (c.write.ensures.others known)
    (c.sync.ensures.seen (subst (λ (b : Bool). IsTrue b) (sym c.write.ensures.same_observable) known))
