use Rattle.value_formats.proofs.Exported.{row_back, row_back_at}
use Rattle.value_formats.proofs.laws.rows_are_read_back.Goals as goal

pub returns : goal.returns
returns c = record { first = row_back; anywhere = row_back_at }
