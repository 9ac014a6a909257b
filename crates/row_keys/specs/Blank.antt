-- Indexes with no entry.
use Rattle.std.specs.Prelude.{◌≡◌, List, [], ◌∷◌}
use Rattle.std.specs.FinMap.{empty}
use Rattle.key_index.specs.Index.{Keys}

abbrev pub AreBlank : List Keys → Type 0
AreBlank [] = Unit {0}
AreBlank (index ∷ indexes) = (index ≡ empty) × AreBlank indexes
