use Rattle.std.proofs.Common.{ℕ, List, Option, sym, ap, ◌∙◌}
use Rattle.key_index.specs.declared.touched.Keyed.{Keyed}
use Rattle.key_index.specs.Index.{place_at}
use Rattle.key_index.specs.Touched.{row_of}
use Rattle.key_index.proofs.NodesOf.{place_at_is}
use Rattle.key_index.proofs.index.Index.place.Goals as goal

pub returns-in_err-get : goal.returns-in_err-get
returns-in_err-get c =
    c.from_residual.ensures ∙ ap (λ (o : Option Keyed). row_of o c.args.row.0) c.in_err-get.ensures.value
    ∙ sym (place_at_is c.self.inside.nodes c.args.self.now c.self.view_is c.as_slice.result.now c.args.row.0) ∙ ap (λ (k : List ℕ). place_at c.args.self.now k c.args.row.0) c.as_slice.ensures

pub returns : goal.returns
returns c =
    c.get-2.ensures ∙ ap (λ (o : Option Keyed). row_of o c.args.row.0) c.in_ok-get.ensures.value
    ∙ sym (place_at_is c.self.inside.nodes c.args.self.now c.self.view_is c.as_slice.result.now c.args.row.0) ∙ ap (λ (k : List ℕ). place_at c.args.self.now k c.args.row.0) c.as_slice.ensures
