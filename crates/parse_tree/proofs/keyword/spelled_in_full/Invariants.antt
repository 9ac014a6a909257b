use Rattle.std.proofs.Common.{◌≡◌, drop}
use Rattle.parse_tree.specs.Keywords.{reserved, spelled_in_full}
use Rattle.parse_tree.proofs.keyword.spelled_in_full.Given as goal

abbrev pub invariant-loop-kind : goal.invariant-loop-kind
invariant-loop-kind l = spelled_in_full reserved l.word ≡ spelled_in_full (drop l.kind-index l.kind-items) l.word
