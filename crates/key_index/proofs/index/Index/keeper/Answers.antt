use Rattle.std.proofs.Common.{sym, ap, ◌∙◌}
use Rattle.key_index.specs.Index.{keeper_of}
use Rattle.key_index.specs.Touched.{keeper_in}
use Rattle.key_index.proofs.NodesOf.{keeper_is}
use Rattle.key_index.proofs.index.Index.keeper.Goals as goal

pub returns-in_err-get : goal.returns-in_err-get
returns-in_err-get c =
    c.from_residual.ensures ∙ ap keeper_in c.in_err-get.ensures.value
    ∙ sym (keeper_is c.self.inside.nodes c.args.self.now c.self.view_is c.as_slice.result.now) ∙ ap (keeper_of c.args.self.now) c.as_slice.ensures

pub returns : goal.returns
returns c =
    ap keeper_in c.in_ok-get.ensures.value ∙ sym (keeper_is c.self.inside.nodes c.args.self.now c.self.view_is c.as_slice.result.now) ∙ ap (keeper_of c.args.self.now) c.as_slice.ensures
