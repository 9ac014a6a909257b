use Rattle.row_fragments.proofs.measure.+length_from.Given as goal

abbrev pub decreases-length_from : goal.decreases-length_from
decreases-length_from g l = l.most
