use Rattle.std.proofs.Common.{◌≡◌, drop}
use Rattle.std.specs.List.{list_any}
use Rattle.binder.specs.Sources.{is_same_buffer}
use Rattle.binder.proofs.counting.is_named.Given as goal

abbrev pub invariant-loop-one : goal.invariant-loop-one
invariant-loop-one l = list_any (is_same_buffer l.naming) (drop l.one-index l.before) ≡ list_any (is_same_buffer l.naming) l.before
