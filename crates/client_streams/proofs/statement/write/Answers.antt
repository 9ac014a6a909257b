use Rattle.std.proofs.Common.{◌++◌, ◌∷◌, [], Ok, ap, ◌∙◌, subst}
use Rattle.block_meaning.specs.declared.wants.Piece.TheVariants.{Wrote}
use Rattle.client_output.specs.Written.{HasWritten}
use Rattle.client_streams.specs.Statements.{section_in}
use Rattle.client_streams.proofs.Effects.{wrote_kept, full_kept}
use Rattle.client_streams.proofs.statement.write.Goals as goal

pub returns-then-branch-clause-ok : goal.returns-then-branch-clause-ok
returns-then-branch-clause-ok c =
    let is = c.in_ok-write.was ∙ ap Ok c.if-branch.true in
    let written = c.write.ensures.fits is in
    let at = c.section_of-section.ensures ∙ ap (λ xs. section_in xs c.args.stream) c.as_slice.ensures.value in
    wrote_kept c.args.stream c.args.text.now c.args.machine.now c.go_on.new.machine c.write.new.self c.args.next c.args.left c.args.retry c.go_on.ensures written.0 written.1
    (λ names pieces h. subst (λ o. HasWritten c.write.new.self names (pieces ++ Wrote o c.args.text.now ∷ [])) at (c.write.ensures.written is names pieces h))

pub returns-clause-ok : goal.returns-clause-ok
returns-clause-ok c =
    let full = c.write.ensures.full (c.in_ok-write.was ∙ ap Ok c.if-branch.false) in
    full_kept c.args.stream c.args.text.now c.args.machine.now c.stop.new.machine c.write.new.self c.args.next c.args.left c.args.retry c.stop.ensures full.1 full.0
