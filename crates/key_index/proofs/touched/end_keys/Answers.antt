use Rattle.key_index.proofs.TouchedKeys.{keys_listed, keys_start, keys_step}
use Rattle.key_index.proofs.touched.end_keys.Goals as goal

pub loop-key-init : goal.loop-key-init
loop-key-init c =
    rw (c.replace-rest.ensures.after, c.new.ensures, c.replace-rest.ensures.value) (keys_start c.args.client c.args.nodes.now c.args.touched.now c.requires)

pub loop-key-preserved : goal.loop-key-preserved
loop-key-preserved c =
    keys_step c.args.client c.args.nodes.now c.loop-key.nodes c.end_key.new.nodes c.loop-key.touched c.end_key.new.touched c.loop-key.rest c.take.new.self c.in-Some.key c.loop-key.invariant c.in-Some.ensures
    c.end_key.ensures.others c.end_key.ensures.ended c.end_key.ensures.listed c.end_key.ensures.more

pub returns-clause-listed : goal.returns-clause-listed
returns-clause-listed c = keys_listed c.args.client c.args.nodes.now c.loop-key.nodes c.loop-key.touched c.loop-key.rest c.loop-key.invariant c.in_default.ensures
