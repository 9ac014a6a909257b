use Rattle.bound_tree.specs.Bound.{body_of, header_of}
use Rattle.binder.proofs.Inside.{procedure_is}
use Rattle.binder.proofs.procedures.procedure_with.Goals as goal

pub returns : goal.returns
returns c = λ w f.
    procedure_is w c.args.frame f c.args.place c.args.name c.args.own (body_of c.args.body.items) (header_of c.in_ok-header.header.value) _ (c.in_ok-header.ensures w f.block) c.into_vec.ensures
