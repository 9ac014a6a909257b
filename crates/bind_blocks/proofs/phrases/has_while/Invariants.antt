use Rattle.std.proofs.Common.{◌≡◌, drop, map}
use Rattle.std.specs.List.{list_any}
use Rattle.syntax_tree.specs.Typed.{phrase_of}
use Rattle.bind_blocks.specs.Headers.{is_while}
use Rattle.bind_blocks.proofs.phrases.has_while.Given as goal

abbrev pub invariant-loop-one : goal.invariant-loop-one
invariant-loop-one l = list_any is_while (map phrase_of (drop l.one-index l.given)) ≡ list_any is_while (map phrase_of l.given)
