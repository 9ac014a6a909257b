use Rattle.std.proofs.Common.{rules, arith, ◌∙◌, sym, subst}
use Rattle.std.specs.Prelude.{IsTrue}
use Rattle.disk_files.proofs.Parts.{one_more}
use Rattle.disk_files.proofs.transfers.write_to.Goals as goal

pub loop-done-preserved : goal.loop-done-preserved
loop-done-preserved g c = (
  search rules,
  c.in_ok-count.ensures.same_observable ∙ c.loop-done.invariant.1,
  λ told.
      one_more c.args.at c.loop-done.done c.in_ok-count.count c.args.from.now (g.F.AreaFile.bytes c.args.file.now) c.loop-done.invariant.0 (g.F.AreaFile.bytes c.loop-done.file) (g.F.AreaFile.bytes c.write_some.new.self) (c.loop-done.invariant.2 told)
      (c.in_ok-count.ensures.written (subst IsTrue (sym c.loop-done.invariant.1) told) (omega (arith, c.if-count-eq0.false))),
)
