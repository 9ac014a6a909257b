use Rattle.std.proofs.Common.{arith}
use Rattle.bind_names.specs.Views.{scene_of}
use Rattle.bind_blocks.specs.Views.{phrases_of}
use Rattle.bind_blocks.proofs.Phrase.{phrases_judged, one_more_phrase}
use Rattle.bind_blocks.proofs.phrases.all_phrases.Goals as goal

pub loop-one-preserved : goal.loop-one-preserved
loop-one-preserved c =
    one_more_phrase (scene_of c.args.scene.now) c.args.given.now c.loop-one.one-index c.one-item.result (phrases_of c.loop-one.so_far) (phrases_of c.in_ok-so_far.so_far) c.args.notes.now c.loop-one.notes c.phrase.new.notes
    (omega arith) c.one-item.is c.in_ok-so_far.ensures c.loop-one.invariant

pub returns : goal.returns
returns c = phrases_judged (scene_of c.args.scene.now) c.args.given.now c.loop-one.one-index (phrases_of c.loop-one.so_far) c.args.notes.now c.loop-one.notes (omega arith) c.loop-one.invariant
