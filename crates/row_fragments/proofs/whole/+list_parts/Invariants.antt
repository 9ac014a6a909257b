use Rattle.row_fragments.proofs.whole.+list_parts.Given as goal

abbrev pub decreases-list_parts : goal.decreases-list_parts
decreases-list_parts g l = l.left
