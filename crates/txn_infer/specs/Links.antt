-- The links of a chain that name RETRY, as the code goes over them.
use Rattle.std.specs.Prelude.{Bool, List}
use Rattle.std.specs.List.{list_any}
use Rattle.bound_tree.specs.declared.expression.Link.{Link}
use Rattle.bound_tree.specs.Bound.{expr_of}
use Rattle.txn_infer.specs.Retry.{asks_retry}

abbrev pub any_link : List Link → Bool
any_link = list_any (λ (x : Link). asks_retry (expr_of x.operand))
