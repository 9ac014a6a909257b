use Rattle.std.proofs.Common.{map, true}
use Rattle.syntax_tree.specs.Typed.{record_option_of}
use Rattle.bind_names.specs.declared.names.NamingKind.TheVariants.{Weak}
use Rattle.bind_names.specs.Names.{buffer}
use Rattle.bind_names.specs.Views.{scene_of}
use Rattle.bind_blocks.specs.Records.{looked_for}
use Rattle.bind_blocks.specs.Views.{selection_of}
use Rattle.bind_blocks.proofs.Finds.{fetch_judged}
use Rattle.bind_blocks.proofs.openings.weak.Goals as goal

pub returns : goal.returns
returns c =
    let w = scene_of c.args.scene.now in
    fetch_judged c.args.which (looked_for w (buffer w Weak true c.args.buffer.now) (map record_option_of c.args.options.now)) (selection_of c.in_ok-selection.selection) _ _ c.in_ok-selection.ensures
