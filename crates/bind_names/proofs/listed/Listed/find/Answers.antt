use Rattle.std.proofs.Common.{ap, ◌∙◌, map}
use Rattle.abl_values.specs.Schema.{number_of_name}
use Rattle.bind_names.proofs.Firsts.{number_within}
use Rattle.bind_names.proofs.listed.Listed.find.Goals as goal

pub returns-then-name-le-MAX_NAME_BYTES-clause-within : goal.returns-then-name-le-MAX_NAME_BYTES-clause-within
returns-then-name-le-MAX_NAME_BYTES-clause-within g c =
    number_within g.T.HasName.name_of c.args.self.now c.args.name.now c.number_in.result
    (c.number_in.ensures ∙ c.self.invariant c.args.name.now c.if-name-le-MAX_NAME_BYTES.true ∙ ap (λ l. number_of_name 0 (map g.T.HasName.name_of l) c.args.name.now) c.self.view_is)
