-- The sources are listed one after the other.
use Rattle.std.proofs.Common.{◌≡◌, ◌+◌, ◌++◌, ◌∷◌, [], List, ℕ, suc, add-one, arith, subst, sym, take}
use Rattle.run_report.specs.declared.refusal.Refusal.TheVariants.{NoMemory}
use Rattle.source_files.specs.Compiled.{BreaksSource, source_wants}
use Rattle.abl_cli.specs.Check.{HaveListings}
use Rattle.abl_cli.proofs.Checks.{listings_more, one_is_broken}
use Rattle.abl_cli.proofs.check.listings_over.Goals as goal

pub returns-in-Err-clause-refused : goal.returns-in-Err-clause-refused
returns-in-Err-clause-refused c =
    let numbered : c.loop-number.number ≡ 0 + c.loop-number.number = omega arith in
    one_is_broken c.args.schema.now 0 c.args.sources.now c.loop-number.listings.items c.loop-number.number c.index-sources-number.result c.in-Err.refusal c.loop-number-test.true c.loop-number.invariant c.index-sources-number.is
    (subst (λ (n : ℕ). BreaksSource c.args.schema.now n c.index-sources-number.result c.in-Err.refusal) numbered c.in-Err.ensures.refused)

-- there is no memory for its listing
pub returns-in-Err-push-clause-refused : goal.returns-in-Err-push-clause-refused
returns-in-Err-push-clause-refused c =
    one_is_broken c.args.schema.now 0 c.args.sources.now c.loop-number.listings.items c.loop-number.number c.index-sources-number.result NoMemory c.loop-number-test.true c.loop-number.invariant c.index-sources-number.is source_wants

pub loop-number-preserved : goal.loop-number-preserved
loop-number-preserved c =
    let more : HaveListings c.args.schema.now (take (suc c.loop-number.number) c.args.sources.now) (c.loop-number.listings.items ++ c.in-Ok.lines ∷ []) =
    listings_more c.args.schema.now c.args.sources.now c.loop-number.listings.items c.loop-number.number c.index-sources-number.result c.in-Ok.lines c.loop-number-test.true c.loop-number.invariant c.index-sources-number.is c.in-Ok.ensures.listed in
    subst (λ n. HaveListings c.args.schema.now (take n c.args.sources.now) c.push.new.self.items) (sym (add-one c.loop-number.number))
    (subst (λ listings. HaveListings c.args.schema.now (take (suc c.loop-number.number) c.args.sources.now) listings) (sym c.in-Ok-push.ensures.items) more)
