use Rattle.std.proofs.Common.{◌∷◌, sym, subst}
use Rattle.bind_names.specs.ByTable.{IsGrouping}
use Rattle.bind_names.specs.declared.names.NamedBuffer.{NamedBuffer}
use Rattle.bind_names.proofs.by_table.add.Goals as goal

pub returns : goal.returns
returns c = λ all left h. c.in_ok-put_somewhere.ensures all left (subst (λ (b : NamedBuffer). IsGrouping all (b ∷ left) c.args.groups.now.items) (sym c.in_ok-copy.ensures) h)
