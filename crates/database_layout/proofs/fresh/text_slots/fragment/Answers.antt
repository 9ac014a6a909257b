use Rattle.std.proofs.Common.{◌≡◌, length, arith, length-append}
use Rattle.abl_values.specs.Rows.{number_bytes}
use Rattle.abl_values.proofs.Numbers.{length-number_bytes}
use Rattle.row_fragments.specs.Fragments.{head_bytes, row_bytes}
use Rattle.row_fragments.proofs.Laid.{laid}
use Rattle.database_layout.proofs.fresh.text_slots.fragment.Goals as goal

pub returns : goal.returns
returns c =
    let h : length (head_bytes 3 (length c.args.content.now) c.args.next) ≡ 8 =
    omega (arith, length-append (number_bytes 2 (length c.args.content.now)) (number_bytes 4 c.args.next), length-number_bytes 2 (length c.args.content.now), length-number_bytes 4 c.args.next) in
    let r : length (row_bytes c.args.total 0) ≡ 6 =
    omega (arith, length-append (number_bytes 4 c.args.total) (number_bytes 2 0), length-number_bytes 4 c.args.total, length-number_bytes 2 0) in
    laid (head_bytes 3 (length c.args.content.now) c.args.next) (row_bytes c.args.total 0) c.args.content.now c.put_head.new.out c.put_total.new.out c.put_content.new.out h r c.requires
    c.put_head.ensures c.put_total.ensures c.put_content.ensures
