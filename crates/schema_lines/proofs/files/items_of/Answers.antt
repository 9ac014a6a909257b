use Rattle.std.proofs.Common.{◌≡◌, [], map, sym, ◌∙◌, arith, rules}
use Rattle.std.specs.Option.{option_copied}
use Rattle.std.proofs.lemmas.Grind.{common_steps}
use Rattle.schema_lines.specs.Lines.{before_period, trimmed}
use Rattle.schema_lines.specs.Files.{items_of}
use Rattle.schema_lines.proofs.Gathers.{followed_by-none, left_of}
use Rattle.schema_lines.proofs.files.items_of.Goals as goal

pub returns-then-same_bytes : goal.returns-then-same_bytes
unfolding items_of
returns-then-same_bytes c =
    let none : before_period (map trimmed (left_of (option_copied c.loop-rest.rest))) ≡ [] = grind (arith, common_steps) in
    sym (followed_by-none c.loop-rest.items.items) ∙ rw none at c.loop-rest.invariant

pub returns : goal.returns
unfolding items_of
returns c =
    let none : left_of (option_copied c.loop-rest.rest) ≡ [] = search rules in
    sym (followed_by-none c.loop-rest.items.items) ∙ rw none at c.loop-rest.invariant
