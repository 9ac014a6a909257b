use Rattle.value_formats.proofs.OneImport.{imports_agree}
use Rattle.value_formats.proofs.laws.one_import.Goals as goal

pub returns : goal.returns
returns c = imports_agree
