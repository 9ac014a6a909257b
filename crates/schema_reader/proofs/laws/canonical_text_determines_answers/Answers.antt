use Rattle.schema_reader.proofs.Observable.{canonical_text-tells_all}
use Rattle.schema_reader.proofs.laws.canonical_text_determines_answers.Goals as goal

pub returns : goal.returns
returns c = canonical_text-tells_all c.args.a.now c.args.b.now c.soundness.ensures c.soundness-2.ensures c.requires
