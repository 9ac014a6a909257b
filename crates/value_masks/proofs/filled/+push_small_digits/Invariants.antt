use Rattle.value_masks.proofs.filled.+push_small_digits.Given as goal

abbrev pub decreases-push_small_digits : goal.decreases-push_small_digits
decreases-push_small_digits l = l.digits
