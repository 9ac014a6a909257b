use Rattle.std.proofs.Common.{List, Option, sym, ◌∙◌, subst, arith}
use Rattle.abl_base.specs.declared.value.Kind.{Kind}
use Rattle.value_formats.specs.Imports.{Answers, line_at}
use Rattle.block_meaning.specs.Streams.{kinds_of}
use Rattle.client_streams.proofs.LinesLemmas.LineRead.{kinds_are, reads_line, beyond}
use Rattle.client_streams.proofs.lines.imports.read_line.Goals as goal

pub returns-then-from-input : goal.returns-then-from-input
returns-then-from-input c = beyond c.args.input.now c.args.from (kinds_of c.args.targets.now) (omega arith)

pub returns : goal.returns
returns c =
    reads_line c.import_line.result (line_at c.args.input.now c.args.from (kinds_of c.args.targets.now))
    (subst (λ (ks : List (Option Kind)). Answers c.import_line.result (line_at c.args.input.now c.args.from ks)) (c.as_slice.ensures.value ∙ c.in_ok-kinds.ensures ∙ sym (kinds_are c.args.targets.now)) c.import_line.ensures)
