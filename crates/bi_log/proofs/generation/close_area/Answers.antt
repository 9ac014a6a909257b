use Rattle.std.proofs.Common.{ℕ, ◌≡◌, ◌⊎◌, List, [], ◌∷◌, Bool, IsTrue, get_or, length, sym, ◌∙◌, ap, subst, arith}
use Rattle.log_meaning.specs.steps.Steps.{Image, Has}
use Rattle.log_meaning.proofs.StepsLemmas.Runs.{joined, stayed}
use Rattle.storage.specs.Disk.{TornIn, Stays}
use Rattle.log_meaning.proofs.Areas.{torn_closing, torn_gate}
use Rattle.bi_log.specs.Generations.{Closes, IsClosed}
use Rattle.bi_log.proofs.Preparing.{ok_then}
use Rattle.bi_log.specs.Lengths.{WithinLog}
use Rattle.bi_log.proofs.Lengths.{run_torn, run_twice}
use Rattle.bi_log.proofs.generation.close_area.Goals as goal

closing : (area : ℕ) (seen : List ℕ) (d image : Image) → d area ≡ seen → (get_or seen 0 0 ≡ 1) ⊎ (length seen ≡ 0) → TornIn area 0 1 d image → Closes area d image
closing area seen d image is was torn = record {
  others = torn.others;
  beyond = λ i from. torn_gate (d area) (image area) torn.torn i from;
  opened = λ h o. torn_closing (d area) (image area) h (subst (λ (l : List ℕ). (get_or l 0 0 ≡ 1) ⊎ (length l ≡ 0)) (sym is) was) torn.torn o;
}

twice : (area : ℕ) (d e image : Image) → Closes area d e → Closes area e image → Closes area d image
twice area d e image one two = record { others = λ k other. two.others k other ∙ one.others k other; beyond = λ i from. two.beyond i from ∙ one.beyond i from; opened = λ h o. one.opened h (two.opened h o) }

-- an image of the same moment
of_before : (was_observable known : Bool) (was_seen seen : Image) (was now : ℕ) (before after : ℕ → Image → Type 0) → Stays was_observable known was_seen seen was now before after → (image : Image) → after now image → before was image
of_before was_observable known was_seen seen was now before after s image left = subst (λ (m : ℕ). before m image) s.moment (s.nothing_else now image left)

closed_by : (image : List ℕ) → Has image 0 (0 ∷ []) → IsClosed image
closed_by image has = record { gate = λ one. zero_one (has.reads 0 (omega arith) ∙ ap (λ (k : ℕ). get_or image k 0) (omega arith) ∙ one); there = omega (arith, has.there) }
  where
    zero_one : ◌≡◌ {A = ℕ} 0 1 → ⊥
    zero_one e = omega (arith, e)

pub returns-in_err-is_open_or_empty-clause-time : goal.returns-in_err-is_open_or_empty-clause-time
returns-in_err-is_open_or_empty-clause-time g c = stayed _ _ _ _ _ _ _ _ _ c.is_open_or_empty.ensures.rest (λ m image left. (g.met.D.Disk.image_known c.args.disk.now m image left).past)

pub returns-then-branch-clause-time : goal.returns-then-branch-clause-time
returns-then-branch-clause-time g c =
    let a = c.args.area in
    let rest = c.is_open_or_empty.ensures.rest in
    let closes : (x image : Image) → g.D.Disk.left c.is_open_or_empty.new.disk (g.D.Disk.time c.is_open_or_empty.new.disk) x → TornIn a 0 1 x image → Closes a x image = λ x image mid torn.
    let was = of_before _ _ _ _ _ _ _ _ rest x mid in
    closing a (g.D.Disk.seen c.args.disk.now a) x image (c.requires.synced x was) (c.in_ok-is_open_or_empty.ensures.wants ((g.met.D.Disk.image_known c.args.disk.now _ x was).same_observable) c.if-branch.true) torn in
    joined _ _ _ _ _ _ (Closes a) (TornIn a 0 1) (Closes a)
    (stayed _ _ _ _ _ _ _ _ (Closes a) rest (λ m image left. (g.met.D.Disk.image_known c.args.disk.now m image left).past))
    c.write_through.ensures.time
    (λ d image was step. step)
    (λ d image was mid step. closes d image mid step)
    (λ d e image was one mid two. twice a d e image one (closes e image mid two))

pub returns-then-branch-clause-ok : goal.returns-then-branch-clause-ok
returns-then-branch-clause-ok g c = ok_then c.write_through.result _ _ c.write_through.ensures.ok (λ ok image left. closed_by (image c.args.area) (ok image left))

pub returns-clause-time : goal.returns-clause-time
returns-clause-time g c = stayed _ _ _ _ _ _ _ _ _ c.is_open_or_empty.ensures.rest (λ m image left. (g.met.D.Disk.image_known c.args.disk.now m image left).past)

pub returns-clause-ok : goal.returns-clause-ok
returns-clause-ok g c = λ image left.
    let was = of_before _ _ _ _ _ _ _ _ c.is_open_or_empty.ensures.rest image left in
    subst IsClosed (sym (c.requires.synced image was)) (c.in_ok-is_open_or_empty.ensures.closed ((g.met.D.Disk.image_known c.args.disk.now _ image was).same_observable) c.if-branch.false)

pub returns-in_err-is_open_or_empty-clause-seen : goal.returns-in_err-is_open_or_empty-clause-seen
returns-in_err-is_open_or_empty-clause-seen g c = λ known k other. ap (λ (i : Image). i k) (c.is_open_or_empty.ensures.rest.same known)

pub returns-then-branch-clause-seen : goal.returns-then-branch-clause-seen
returns-then-branch-clause-seen g c = λ known k other.
    (c.write_through.ensures.seen (subst (λ (b : Bool). IsTrue b) (sym c.is_open_or_empty.ensures.rest.same_observable) known)).others k other ∙ ap (λ (i : Image). i k) (c.is_open_or_empty.ensures.rest.same known)

pub returns-clause-seen : goal.returns-clause-seen
returns-clause-seen g c = λ known k other. ap (λ (i : Image). i k) (c.is_open_or_empty.ensures.rest.same known)

pub returns-in_err-is_open_or_empty-clause-within : goal.returns-in_err-is_open_or_empty-clause-within
returns-in_err-is_open_or_empty-clause-within g c = stayed _ _ _ _ _ _ _ _ (WithinLog 1) c.is_open_or_empty.ensures.rest (λ m image left. (g.met.D.Disk.image_known c.args.disk.now m image left).past)

pub returns-then-branch-clause-within : goal.returns-then-branch-clause-within
returns-then-branch-clause-within g c = run_twice _ _ _ _ _ _ 1
    (stayed _ _ _ _ _ _ _ _ (WithinLog 1) c.is_open_or_empty.ensures.rest (λ m image left. (g.met.D.Disk.image_known c.args.disk.now m image left).past))
    (run_torn _ _ _ _ 1 c.args.area 0 1 (omega arith) c.write_through.ensures.time)

pub returns-clause-within : goal.returns-clause-within
returns-clause-within g c = stayed _ _ _ _ _ _ _ _ (WithinLog 1) c.is_open_or_empty.ensures.rest (λ m image left. (g.met.D.Disk.image_known c.args.disk.now m image left).past)
