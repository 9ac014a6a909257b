use Rattle.std.proofs.Common.{◌≡◌, List, None, true, false, sym, subst, ◌∙◌, rules}
use Rattle.std.proofs.lemmas.Option.{none-some}
use Rattle.abl_values.specs.declared.schema.KeyPart.{KeyPart}
use Rattle.schema_text.specs.Words.{begins, part_at}
use Rattle.schema_text.proofs.HeadLines.{part_is}
use Rattle.schema_text.proofs.PartsSoFar.{PartsSoFar, all_parts, no_parts, one_more_part, part_read}
use Rattle.schema_text.proofs.Started.{part_started, part_there}
use Rattle.schema_text.proofs.indexes.parts_at.Goals as goal

pub loop-rest-init : goal.loop-rest-init
loop-rest-init c = subst (λ (ps : List KeyPart). PartsSoFar c.args.fields.now c.args.text.now ps c.args.text.now) (sym c.empty-parts.ensures) (no_parts c.args.fields.now c.args.text.now)

pub returns-in_default-clause-parts : goal.returns-in_default-clause-parts
returns-in_default-clause-parts c ps r w b e =
    let h : begins 32 c.loop-rest.rest.now ≡ true = sym c.begins.ensures ∙ c.loop-rest-test.true in
    let n = one_more_part c.args.fields.now c.args.text.now c.loop-rest.parts c.loop-rest.rest.now c.loop-rest.invariant h ps r w b e in
    let none : part_at c.args.fields.now c.loop-rest.rest.now ≡ None = search rules in
    absurd (none-some _ (sym none ∙ part_there c.args.fields.now n.item _ c.loop-rest.rest.now c.requires n.is n.text))

pub loop-rest-preserved : goal.loop-rest-preserved
loop-rest-preserved c =
    let h : begins 32 c.loop-rest.rest.now ≡ true = sym c.begins.ensures ∙ c.loop-rest-test.true in
    subst (λ (ps : List KeyPart). PartsSoFar c.args.fields.now c.args.text.now ps c.in-Some.read.rest.now) (sym c.in_ok-push.ensures.ok)
    (part_read c.args.fields.now c.args.text.now c.loop-rest.parts c.loop-rest.rest.now c.loop-rest.invariant h c.in-Some.read.part c.in-Some.read.rest.now c.in-Some.ensures.sound c.in-Some.ensures.shorter
    (λ q r low e. part_started c.args.fields.now q r c.loop-rest.rest.now (part_is c.in-Some.read.part c.in-Some.read.rest.now) c.requires low e c.in-Some.ensures.part))

pub returns-clause-parts : goal.returns-clause-parts
returns-clause-parts c ps r w b e =
    let h : begins 32 c.loop-rest.rest.now ≡ false = sym c.begins.ensures ∙ c.loop-rest-test.false in
    all_parts c.args.fields.now c.args.text.now c.loop-rest.parts c.loop-rest.rest.now c.loop-rest.invariant h ps r w b e
