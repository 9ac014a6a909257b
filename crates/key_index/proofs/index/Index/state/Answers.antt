use Rattle.std.proofs.Common.{ℕ, List, Option, sym, ap, ◌∙◌}
use Rattle.key_index.specs.declared.touched.Keyed.{Keyed}
use Rattle.key_index.specs.Index.{keeper_of, place_at}
use Rattle.key_index.specs.Touched.{keeper_in, row_of}
use Rattle.key_index.proofs.NodesOf.{keeper_is, place_at_is}
use Rattle.key_index.proofs.index.Index.state.Goals as goal

pub returns-in-None-clause-place : goal.returns-in-None-clause-place
returns-in-None-clause-place c =
    ap (λ (o : Option Keyed). row_of o c.args.row.0) c.in-None.ensures.value
    ∙ sym (place_at_is c.self.inside.nodes c.args.self.now c.self.view_is c.as_slice.result.now c.args.row.0) ∙ ap (λ (k : List ℕ). place_at c.args.self.now k c.args.row.0) c.as_slice.ensures

pub returns-in-None-clause-keeper : goal.returns-in-None-clause-keeper
returns-in-None-clause-keeper c =
    ap keeper_in c.in-None.ensures.value ∙ sym (keeper_is c.self.inside.nodes c.args.self.now c.self.view_is c.as_slice.result.now) ∙ ap (keeper_of c.args.self.now) c.as_slice.ensures

pub returns-in-Some-clause-place : goal.returns-in-Some-clause-place
returns-in-Some-clause-place c =
    c.get-in-Some.ensures ∙ ap (λ (o : Option Keyed). row_of o c.args.row.0) c.in-Some.ensures.value
    ∙ sym (place_at_is c.self.inside.nodes c.args.self.now c.self.view_is c.as_slice.result.now c.args.row.0) ∙ ap (λ (k : List ℕ). place_at c.args.self.now k c.args.row.0) c.as_slice.ensures

pub returns-in-Some-clause-keeper : goal.returns-in-Some-clause-keeper
returns-in-Some-clause-keeper c =
    ap keeper_in c.in-Some.ensures.value ∙ sym (keeper_is c.self.inside.nodes c.args.self.now c.self.view_is c.as_slice.result.now) ∙ ap (keeper_of c.args.self.now) c.as_slice.ensures
