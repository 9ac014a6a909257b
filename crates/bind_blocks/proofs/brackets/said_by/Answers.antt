use Rattle.std.proofs.Common.{◌≡◌, ◌∙◌, ap, sym, true}
use Rattle.std.specs.List.{list_any}
use Rattle.abl_values.specs.Schema.{same_name}
use Rattle.syntax_tree.specs.Typed.{expression_of}
use Rattle.bind_names.specs.declared.names.Naming.{Naming}
use Rattle.bind_names.specs.Views.{buffer_of, scene_of}
use Rattle.bind_expressions.specs.Views.{typed_of}
use Rattle.bind_blocks.specs.Views.{name_in}
use Rattle.bind_blocks.proofs.Anding.{said_itself}
use Rattle.bind_blocks.proofs.brackets.said_by.Goals as goal

pub returns-then-names_buffer : goal.returns-then-names_buffer
returns-then-names_buffer c =
    let hit : list_any (λ (m : Naming). same_name m.name c.args.buffer.name.now) c.expression.new.notes.names ≡ true =
    ap (list_any (λ (m : Naming). same_name m.name c.args.buffer.name.now)) (sym c.as_slice.ensures) ∙ sym c.names_buffer.ensures ∙ c.if-names_buffer.true in
    said_itself (scene_of c.args.scene.now) (buffer_of c.args.buffer) c.args.field c.args.operator (name_in c.args.left) (expression_of c.args.e.now) (typed_of c.in_ok-x.x) c.no_notes-notes.result c.expression.new.notes
    c.no_notes-notes.ensures c.in_ok-x.ensures hit
