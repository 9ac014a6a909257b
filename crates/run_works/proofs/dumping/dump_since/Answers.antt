-- The images of the call are of the contents, so the disk keeps them.
use Rattle.std.proofs.Common.{◌≡◌, sym, subst, arith, ℕ}
use Rattle.run_works.specs.Disks.{state_of}
use Rattle.run_works.proofs.Disks.{all_are, short_kept}
use Rattle.run_works.proofs.dumping.dump_since.Goals as goal

pub invariant_of-watched : goal.invariant_of-watched
invariant_of-watched g c =
    let disk = c.args.disk in
    let seen = g.D.Disk.seen disk in
    let now : g.K.Start.moment ≡ g.D.Disk.time disk = c.requires.moment in
    record {
      past = omega (arith, now);
      images = λ image there. ∣ c.requires.images image there ∣₁;
      some = λ known. ∣ (seen, subst (λ (m : ℕ). g.D.Disk.left disk m seen) (sym now) (g.met.D.Disk.reads_left disk known)) ∣₁;
    }

pub returns-clause-kept : goal.returns-clause-kept
returns-clause-kept g c = λ contents holds.
    let disk = c.args.disk in
    let watched = c.dump-written.result.1 in
    let left = g.D.Disk.left watched.disk in
    c.dump-written.ensures.kept contents holds
    (all_are g.K.Start.images (left (g.D.Disk.time disk)) (λ image there. watched.images image (subst (λ (m : ℕ). left m image) (sym c.requires.moment) there)) c.args.schema contents
    (λ image was. holds.all image (c.requires.began image was)))

pub returns-clause-log : goal.returns-clause-log
returns-clause-log g c =
    let disk = c.args.disk in
    let watched = c.dump-written.result.1 in
    let left = g.D.Disk.left watched.disk in
    short_kept (state_of g.D.Disk disk) (state_of g.D.Disk watched.disk) g.K.Start.images c.requires.began
    (λ image there. watched.images image (subst (λ (m : ℕ). left m image) (sym c.requires.moment) there)) c.dump-written.ensures.short
