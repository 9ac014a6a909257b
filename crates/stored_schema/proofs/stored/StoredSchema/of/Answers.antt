use Rattle.std.proofs.Common.{◌≡◌, ℕ, List, ap, subst, sym, ◌∙◌}
use Rattle.stored_schema.specs.Seen.{IsLaid}
use Rattle.stored_schema.specs.Text.{stored_text}
use Rattle.stored_schema.proofs.SeenLaid.{own-laid}
use Rattle.stored_schema.proofs.stored.StoredSchema.of.Goals as goal

pub invariant_of-result : goal.invariant_of-result
invariant_of-result c =
    let is : c.in_ok-text.text ≡ stored_text c.args.schema c.args.fields = c.in_ok-text.ensures ∙ ap (stored_text c.args.schema) c.as_slice.ensures in
    subst (λ (text : List ℕ). IsLaid (record { schema = c.args.schema; fields = c.args.fields; text = text })) (sym is) (own-laid (record { schema = c.args.schema; fields = c.args.fields; text = stored_text c.args.schema c.args.fields }) c.requires)
