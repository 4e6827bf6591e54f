use Rattle.std.proofs.Common.{◌+◌, ◌*◌}
use Rattle.compile.proofs.progress.Progress.+part_after_progressed.Given as goal

abbrev pub decreases-progressed : goal.decreases-progressed
decreases-progressed l = 3 * l.k

abbrev pub decreases-find_after : goal.decreases-find_after
decreases-find_after l = 3 * l.k + 1

abbrev pub decreases-part_after : goal.decreases-part_after
decreases-part_after l = 3 * l.k + 2
