use Rattle.value_masks.proofs.PutLaws.{length_put}
use Rattle.value_masks.proofs.laws.masked_texts_have_the_masks_width.Goals as goal

pub returns : goal.returns
returns c = length_put
