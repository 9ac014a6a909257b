use Rattle.bind_names.specs.Views.{scene_of}
use Rattle.bind_blocks.specs.Views.{phrases_of}
use Rattle.bind_blocks.proofs.Phrase.{PhrasesContinue}
use Rattle.bind_blocks.proofs.phrases.all_phrases.Given as goal

abbrev pub invariant-loop-one : goal.invariant-loop-one
invariant-loop-one l = PhrasesContinue (scene_of l.scene) l.given l.one-index (phrases_of l.so_far) l.notes l.fn.notes
