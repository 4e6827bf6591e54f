use Rattle.std.proofs.Common.{◌+◌, ◌*◌}
use Rattle.compile.proofs.progress.Progress.+expanded_list_of.Given as goal

abbrev pub decreases-expanded : goal.decreases-expanded
decreases-expanded l = 2 * l.k

abbrev pub decreases-list_of : goal.decreases-list_of
decreases-list_of l = 2 * l.k + 1
