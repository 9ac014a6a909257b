use Rattle.std.proofs.Common.{◌≡◌, map, drop}
use Rattle.abl_values.specs.Schema.{number_of_name}
use Rattle.bind_names.proofs.meaning.number_named.Given as goal

-- the number in what is left, counted on, is that in all
abbrev pub invariant-loop-i : goal.invariant-loop-i
invariant-loop-i g l =
    number_of_name l.i (map g.T.HasName.name_of (drop l.i l.items)) l.name ≡ number_of_name 0 (map g.T.HasName.name_of l.items) l.name
