use Rattle.temp_meaning.proofs.CallsBack.{restores_each_table, stay_kept}
use Rattle.temp_meaning.proofs.laws.back_restores_each_table.Goals as goal

pub returns-clause-tables : goal.returns-clause-tables
returns-clause-tables c = restores_each_table

pub returns-clause-kept : goal.returns-clause-kept
returns-clause-kept c = stay_kept
