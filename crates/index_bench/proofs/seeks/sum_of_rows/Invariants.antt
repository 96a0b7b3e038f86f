-- Each group leaves fewer rows.
use Rattle.index_bench.proofs.seeks.sum_of_rows.Given as goal

abbrev pub decreases-groups : goal.decreases-groups
decreases-groups g l = l.left
