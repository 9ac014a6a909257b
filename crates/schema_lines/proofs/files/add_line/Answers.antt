use Rattle.std.proofs.Common.{List, [], ◌∷◌, ◌++◌, sym, ap, ◌∙◌}
use Rattle.std.proofs.lemmas.Result.{on_ok_weaker}
use Rattle.schema_lines.specs.declared.item.Attributed.{Attributed}
use Rattle.schema_lines.specs.declared.item.Item.{Item}
use Rattle.schema_lines.specs.declared.item.Line.{Line}
use Rattle.schema_lines.specs.Files.{line_before}
use Rattle.schema_lines.specs.Walk.{followed_by}
use Rattle.schema_lines.proofs.Gathers.{followed_by-begins, followed_by-says}
use Rattle.schema_lines.proofs.files.add_line.Goals as goal

pub returns-in_ok-push-in-Begins : goal.returns-in_ok-push-in-Begins
returns-in_ok-push-in-Begins c = λ lot.
    let items : List Item = c.args.items.now.items in
    ap (λ (xs : List Item). followed_by xs lot) c.in_ok-push-in-Begins.ensures.items
    ∙ ap (λ (as_ : List Attributed). followed_by (items ++ record { line = c.args.number; head = c.in-Begins.head; attributes = as_ } ∷ []) lot) c.empty-attributes.ensures
    ∙ followed_by-begins c.args.number c.in-Begins.head items lot
    ∙ ap (λ (line : Line). followed_by items (line_before c.args.number line lot)) (sym c.in-Begins.is)

pub returns-in-Says : goal.returns-in-Says
returns-in-Says c = on_ok_weaker c.add_attribute.result (λ more lot.
    ap (λ (xs : List Item). followed_by xs lot) more
    ∙ followed_by-says c.args.number c.in-Says.attribute c.args.items.now.items lot
    ∙ ap (λ (line : Line). followed_by c.args.items.now.items (line_before c.args.number line lot)) (sym c.in-Says.is)) c.add_attribute.ensures
