use Rattle.schema_reader.proofs.Alike.{canonical_text-tells_no_more}
use Rattle.schema_reader.proofs.laws.answers_determine_canonical_text.Goals as goal

pub returns : goal.returns
returns c = canonical_text-tells_no_more c.args.a.now c.args.b.now c.requires
