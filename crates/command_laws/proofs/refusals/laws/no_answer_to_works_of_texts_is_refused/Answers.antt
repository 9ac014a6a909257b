use Rattle.command_laws.proofs.RefusalsLemmas.Works.{works_unrefused}
use Rattle.command_laws.proofs.refusals.laws.no_answer_to_works_of_texts_is_refused.Goals as goal

pub returns : goal.returns
returns c = λ file texts works units setting trace ends parts of_file of did clients. works_unrefused file setting of_file units trace texts works ends parts of did clients
