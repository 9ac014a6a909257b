use Rattle.std.proofs.Common.{◌≡◌, drop}
use Rattle.parse_tree.specs.Keywords.{abbreviated, spelled_short}
use Rattle.parse_tree.proofs.keyword.spelled_short.Given as goal

abbrev pub invariant-loop-kind : goal.invariant-loop-kind
invariant-loop-kind l = spelled_short abbreviated l.word ≡ spelled_short (drop l.kind-index l.kind-items) l.word
