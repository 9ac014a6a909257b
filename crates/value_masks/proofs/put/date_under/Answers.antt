use Rattle.value_masks.proofs.MaskKinds.{date_mask_holds_parts}
use Rattle.value_masks.proofs.put.date_under.Goals as goal

pub overflow_sub-mask : goal.overflow_sub-mask
overflow_sub-mask c = date_mask_holds_parts c.args.mask.now c.requires
