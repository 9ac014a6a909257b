use Rattle.abl_values.proofs.RowKeys.{key_bytes-same, key_bytes-cmp}
use Rattle.abl_values.proofs.laws.key_bytes_order_as_keys.Goals as goal

pub returns : goal.returns
returns c = record { same = key_bytes-same; order = key_bytes-cmp }
