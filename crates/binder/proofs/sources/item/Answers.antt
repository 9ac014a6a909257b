use Rattle.std.proofs.Common.{◌≡◌, ◌∙◌, ap, refl, List, ℕ}
use Rattle.std.specs.List.{list_any}
use Rattle.abl_values.specs.Schema.{same_name}
use Rattle.syntax_tree.specs.Typed.{item_of, statement_of, statements_of}
use Rattle.bind_names.specs.Views.{scene_of}
use Rattle.binder.proofs.Walk.{alone_adds, procedure_adds}
use Rattle.binder.proofs.sources.item.Goals as goal

pub returns-in_ok-join-in-Alone-clause-judged : goal.returns-in_ok-join-in-Alone-clause-judged
returns-in_ok-join-in-Alone-clause-judged c = λ grouped.
    alone_adds (scene_of c.args.scene.now) (scene_of c.statement.new.scene) (item_of c.args.item.now) (statement_of c.in-Alone.one) (ap item_of c.in-Alone.is) c.args.parts.now _ c.in_ok-more-in-Alone.more.items c.args.notes.now c.statement.new.notes
    c.in_ok-join-in-Alone.ensures refl refl c.in_ok-more-in-Alone.ensures.judged

pub returns-in_ok-add_procedure-in-Procedure-clause-judged : goal.returns-in_ok-add_procedure-in-Procedure-clause-judged
returns-in_ok-add_procedure-in-Procedure-clause-judged c = λ grouped.
    let taken : c.has-taken.result ≡ list_any (λ (x : List ℕ). same_name x c.in-Procedure.name.spelling) c.args.parts.now.names =
    c.has-taken.ensures ∙ ap (λ (y : List ℕ). list_any (λ (x : List ℕ). same_name x y) c.args.parts.now.names) c.as_slice.ensures in
    procedure_adds (scene_of c.args.scene.now) (scene_of c.internal.new.scene) (item_of c.args.item.now) c.in-Procedure.at c.in-Procedure.name (statements_of c.in-Procedure.body.items) (ap item_of c.in-Procedure.is)
    c.args.parts.now c.add_procedure.new.parts c.in_ok-made-in-Procedure.made c.in_ok-number-in-Procedure.number c.has-taken.result c.args.notes.now c.unless.new.self c.internal.new.notes
    c.in_ok-add_procedure-in-Procedure.ensures.body c.in_ok-add_procedure-in-Procedure.ensures.names c.in_ok-add_procedure-in-Procedure.ensures.procedures c.in_ok-number-in-Procedure.ensures taken c.unless.ensures.first c.unless.ensures.names
    (rw c.deref.ensures.value at (c.in_ok-made-in-Procedure.ensures.judged (c.in_procedure-own.ensures c.args.scene.now.namings.now grouped)))
