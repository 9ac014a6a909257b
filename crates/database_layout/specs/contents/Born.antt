-- Which images are those of a database.
use Rattle.std.specs.Prelude.{◌≡◌, ℕ, List}
use Rattle.log_meaning.specs.steps.Steps.{Image}
use Rattle.abl_values.specs.Schema.{SchemaData}
use Rattle.log_meaning.specs.Images.{Recovers}
use Rattle.database_layout.specs.contents.Contents.{AreContents, Contents, contents_in}

-- The image is born with these contents: it recovers to slots that hold them.
pub record IsBorn (image : Image) (contents : Contents) : Type 0 where
  pub slots : ℕ → List ℕ
  pub recovered : Recovers image slots
  pub schema : SchemaData
  pub held : AreContents schema slots
  pub are : contents ≡ contents_in schema slots
