use Rattle.std.proofs.Common.{◌∙◌, ap, map, true, None, Option}
use Rattle.syntax_tree.specs.Syntax.{Expression}
use Rattle.syntax_tree.specs.Typed.{record_option_of}
use Rattle.bind_names.specs.Names.{buffer}
use Rattle.bind_names.specs.Views.{maybe_buffer_of, scene_of}
use Rattle.bind_blocks.specs.Views.{asked_of, selected, selection_of, where_from}
use Rattle.bind_blocks.proofs.Options.{looked_judged}
use Rattle.bind_blocks.proofs.records.looked_for.Goals as goal

pub returns : goal.returns
returns c =
    let w = scene_of c.args.scene.now in
    let options = map record_option_of c.args.options.now in
    looked_judged w (buffer w c.args.kind true c.args.word.now) options (maybe_buffer_of c.in_ok-found.found) (asked_of c.in_ok-asked.asked (where_from None options)) (selection_of c.in_ok-selection.selection) _ _ _
    c.in_ok-found.ensures c.in_ok-asked.ensures
    (c.in_ok-selection.ensures ∙ ap (λ (e : Option Expression). selected w (maybe_buffer_of c.in_ok-found.found) (asked_of c.in_ok-asked.asked e)) c.where_of.ensures)
