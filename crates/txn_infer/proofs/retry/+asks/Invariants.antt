use Rattle.std.proofs.Common.{◌≡◌, drop}
use Rattle.txn_infer.specs.Links.{any_link}
use Rattle.txn_infer.proofs.retry.+asks.Given as goal

abbrev pub invariant-any_link-loop-link : goal.invariant-any_link-loop-link
invariant-any_link-loop-link l = any_link l.rest ≡ any_link (drop l.link-index l.rest)
