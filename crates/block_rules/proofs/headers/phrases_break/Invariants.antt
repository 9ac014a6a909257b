use Rattle.std.proofs.Common.{◌≡◌, drop, map}
use Rattle.bind_names.specs.Judged.{first_of}
use Rattle.syntax_tree.specs.Typed.{phrase_of}
use Rattle.block_rules.specs.Around.{heads_of}
use Rattle.block_rules.specs.Rules.{phrases_break}
use Rattle.block_rules.proofs.headers.phrases_break.Given as goal

abbrev pub invariant-loop-phrase : goal.invariant-loop-phrase
invariant-loop-phrase l = first_of l.initial.first (phrases_break (heads_of l.around) (map phrase_of l.phrases)) ≡ first_of l.first (phrases_break (heads_of l.around) (map phrase_of (drop l.phrase-index l.phrases)))
