use Rattle.std.proofs.Common.{◌≡◌, ℕ, List, ap, ◌∙◌, map}
use Rattle.std.specs.Prelude.{insert}
use Rattle.schema_reader.specs.declared.meaning.OrderedField.{OrderedField}
use Rattle.schema_reader.specs.InOrder.{as_ordered, place_of}
use Rattle.schema_reader.proofs.Placing.{map-insert}
use Rattle.schema_reader.proofs.meaning.place.Goals as goal

pub returns : goal.returns
returns c =
    let place : c.place_of-place.result ≡ place_of c.args.field.order c.args.fields.now.items =
    c.place_of-place.ensures.place ∙ ap (λ (fs : List OrderedField). place_of c.args.field.order fs) c.as_slice.ensures.value in
    ap (map as_ordered) c.in_ok-insert.ensures.items
    ∙ ap (λ (n : ℕ). map as_ordered (insert c.args.fields.now.items n c.args.field)) place
    ∙ map-insert c.args.field c.args.fields.now.items
