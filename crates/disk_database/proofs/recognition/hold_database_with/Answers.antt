-- A database of the schema that was read is one of this text; where none was read there is none.
use Rattle.std.proofs.Common.{◌≡◌, Option, subst}
use Rattle.std.specs.Prelude.{IfSome}
use Rattle.abl_values.specs.Schema.{SchemaData, canonical_text}
use Rattle.schema_text.specs.Written.{IsHeld}
use Rattle.disk_database.proofs.Recognitions.{none_of_text}
use Rattle.disk_database.proofs.recognition.hold_database_with.Goals as goal

pub returns-in-Ok-Some-clause-yes : goal.returns-in-Ok-Some-clause-yes
returns-in-Ok-Some-clause-yes g c =
    let read = subst (λ (found : Option SchemaData). IfSome found (λ schema. (canonical_text schema ≡ c.args.text.now) × IsHeld schema)) c.in-Ok-Some.field-0-is c.in-Ok-Some.ensures.some in
    rw (read.0) at c.hold_database_of.ensures.yes

pub returns-in-Ok-None-clause-no : goal.returns-in-Ok-None-clause-no
returns-in-Ok-None-clause-no g c = λ no readable. none_of_text (g.S.Slots.state c.args.slots).reads c.args.text.now (c.requires.text readable) (c.in-Ok-None.ensures.none c.in-Ok-None.field-0-is)
