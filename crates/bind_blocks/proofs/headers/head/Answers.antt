use Rattle.std.proofs.Common.{◌∙◌, List, ap, map, subst}
use Rattle.std.specs.List.{list_any}
use Rattle.bound_tree.specs.Bound.{fetch_of, header_of, to_of}
use Rattle.syntax_tree.specs.Typed.{maybe_counting_of, opening_of, phrase_of}
use Rattle.syntax_tree.specs.declared.block.Phrase.{Phrase as TypedPhrase}
use Rattle.bind_names.specs.Views.{IsJudged, scene_of}
use Rattle.bind_blocks.specs.Headers.{block_kind_of, counts, header, is_transaction, opening, phrases}
use Rattle.bind_blocks.specs.Views.{phrases_of}
use Rattle.bind_blocks.proofs.Joining.{three_judged}
use Rattle.bind_blocks.proofs.headers.head.Goals as goal

pub returns : goal.returns
returns c =
    let given = c.args.given.now in
    let w = scene_of c.args.scene.now in
    let these = phrases_of c.in_ok-phrases.phrases in
    three_judged (header w given.at (list_any is_transaction (map phrase_of given.phrases.items)) (block_kind_of (opening_of given.opening)))
    (opening w (opening_of given.opening)) (counts w (maybe_counting_of given.counting)) (phrases w (map phrase_of given.phrases.items))
    (fetch_of c.in_ok-fetch.fetch) (to_of c.in_ok-to.to) these (header_of c.in_ok-made.made.value) c.args.notes.now c.opening.new.notes c.counts.new.notes c.all_phrases.new.notes
    c.in_ok-fetch.ensures c.in_ok-to.ensures
    (subst (λ (ps : List TypedPhrase). IsJudged (phrases w (map phrase_of ps)) these c.counts.new.notes c.all_phrases.new.notes) c.deref.ensures.value c.in_ok-phrases.ensures)
    (ap header_of c.in_ok-made.ensures.ok ∙ c.header_with-header.ensures)
