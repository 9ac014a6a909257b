use Rattle.std.proofs.Common.{◌↔◌, ℕ, List, IsTrue, sym, subst}
use Rattle.key_index.specs.Search.{IsKeyBefore}
use Rattle.key_index.specs.Span.{StartsBefore}
use Rattle.key_index.proofs.Spans.{starts_included, starts_excluded}
use Rattle.key_index.proofs.span.starts_before.Goals as goal

pub returns-in-Included : goal.returns-in-Included
returns-in-Included c =
    subst (λ start. StartsBefore start c.args.bytes.now c.is_before.result) (sym c.in-Included.is)
    (starts_included c.in-Included.from c.args.bytes.now c.is_before.result
    (subst (λ (k : List ℕ). IsTrue c.is_before.result ↔ IsKeyBefore k c.args.bytes.now) c.as_slice.ensures.value c.is_before.ensures))

pub returns-in-Excluded : goal.returns-in-Excluded
returns-in-Excluded c =
    subst (λ start. StartsBefore start c.args.bytes.now c.is_before-in-Excluded.result) (sym c.in-Excluded.is)
    (starts_excluded c.in-Excluded.from c.args.bytes.now c.is_before-in-Excluded.result
    (subst (λ (k : List ℕ). IsTrue c.is_before-in-Excluded.result ↔ IsKeyBefore k c.args.bytes.now) c.as_slice-in-Excluded.ensures.value c.is_before-in-Excluded.ensures))
