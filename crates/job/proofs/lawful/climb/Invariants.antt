use Rattle.std.proofs.Common.{◌<◌}
use Rattle.job.proofs.Climbing.{Passed}
use Rattle.job.proofs.lawful.climb.Given as goal

abbrev pub invariant-loop-p : goal.invariant-loop-p
invariant-loop-p g l = (l.p < l.r) × Passed (g.S.JobSource.rows l.source) l.r l.p

abbrev pub decreases-loop-p : goal.decreases-loop-p
decreases-loop-p g l = l.p
