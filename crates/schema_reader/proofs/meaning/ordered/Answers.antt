use Rattle.std.proofs.Common.{◌∷◌, [], map, sym, ap, ◌∙◌}
use Rattle.std.proofs.lemmas.List.{map-append}
use Rattle.schema_reader.specs.InOrder.{as_ordered}
use Rattle.schema_reader.proofs.Placing.{all_placed, all_placed-none, all_placed-push}
use Rattle.schema_reader.proofs.meaning.ordered.Goals as goal

pub loop-field-init : goal.loop-field-init
loop-field-init c =
    ap (λ gs. all_placed (map as_ordered c.args.text.items) (map as_ordered gs)) c.new-fields.ensures.items ∙ all_placed-none (map as_ordered c.args.text.items)

pub loop-field-preserved : goal.loop-field-preserved
loop-field-preserved c =
    let rest = map as_ordered c.pop.new.self.items in
    let gs = map as_ordered c.loop-field.fields.items in
    let f = as_ordered c.in-Some.field in
    ap (all_placed rest) c.in_ok-place.ensures
    ∙ sym (all_placed-push rest f gs)
    ∙ ap (λ fs. all_placed fs gs) (sym (ap (map as_ordered) c.in-Some.ensures.items ∙ map-append as_ordered c.pop.new.self.items (c.in-Some.field ∷ [])))
    ∙ c.loop-field.invariant
