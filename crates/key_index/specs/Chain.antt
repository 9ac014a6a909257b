-- The items of a chain.
use Rattle.std.specs.Prelude.{List, [], ◌∷◌}
use Rattle.key_index.specs.declared.chain.Links.{Links}
use Rattle.key_index.specs.declared.chain.Links.TheVariants.{End, More'}

abbrev pub items_of : {T : Type 0} → Links T → List T
items_of End = []
items_of (More' item place rest) = item ∷ items_of rest
