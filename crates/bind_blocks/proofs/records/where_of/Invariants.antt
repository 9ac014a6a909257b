use Rattle.std.proofs.Common.{◌≡◌, None, drop, map}
use Rattle.syntax_tree.specs.Typed.{record_option_of}
use Rattle.bind_blocks.specs.Views.{maybe_test_of, where_from}
use Rattle.bind_blocks.proofs.records.where_of.Given as goal

abbrev pub invariant-loop-one : goal.invariant-loop-one
invariant-loop-one l = where_from (maybe_test_of l.found) (map record_option_of (drop l.one-index l.given)) ≡ where_from None (map record_option_of l.given)
