-- What making a database does to an image.
use Rattle.std.specs.Prelude.{◌⊎◌, ℕ, List}
use Rattle.abl_values.specs.Schema.{SchemaData}
use Rattle.log_meaning.specs.steps.Steps.{Image}
use Rattle.log_meaning.specs.Images.{Recovers}
use Rattle.database_layout.specs.contents.Contents.{AreNew, new_contents}
use Rattle.database_layout.specs.contents.Born.{IsBorn}

-- The image recovers only to what the old one recovered to, or to the slots of a new database with this schema: then it is born, with this schema, the initial values of its sequences, and no rows.
abbrev pub CreatesNew : SchemaData → Image → Image → Type 0
CreatesNew schema old new = (slots : ℕ → List ℕ) → Recovers new slots → Recovers old slots ⊎ (AreNew schema slots × IsBorn new (new_contents schema))
