use Rattle.std.proofs.Common.{◌∙◌, ap, map, true, Option}
use Rattle.syntax_tree.specs.Typed.{record_option_of}
use Rattle.bind_names.specs.declared.names.NamingKind.TheVariants.{Free}
use Rattle.bind_names.specs.Names.{buffer}
use Rattle.bound_tree.specs.Bound.{stmt_of}
use Rattle.bound_tree.specs.declared.statement.FindWord.{FindWord}
use Rattle.bind_names.specs.Views.{scene_of}
use Rattle.bind_blocks.specs.Records.{find_word_of, looked_for}
use Rattle.bind_blocks.specs.Views.{find_stmt, selection_of}
use Rattle.bind_blocks.proofs.Finds.{find_judged}
use Rattle.bind_blocks.proofs.find.find.Goals as goal

pub returns : goal.returns
returns c =
    let w = scene_of c.args.scene.now in
    find_judged w (find_word_of c.args.which) (looked_for w (buffer w Free true c.args.buffer.now) (map record_option_of c.args.options.now)) (selection_of c.in_ok-selection.selection) (stmt_of c.in_ok-made.made) _ _ c.in_ok-selection.ensures
    (c.in_ok-made.ensures ∙ ap (λ (word : Option FindWord). find_stmt word (selection_of c.in_ok-selection.selection)) c.find_word_of.ensures)
