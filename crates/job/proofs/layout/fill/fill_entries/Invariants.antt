use Rattle.std.proofs.Common.{◌≡◌, ℕ, ◌<◌, length}
use Rattle.job.specs.Entries.{EntryOf, entry}
use Rattle.job.proofs.layout.fill.fill_entries.Given as goal

abbrev pub invariant-loop-r : goal.invariant-loop-r
invariant-loop-r g l = (length l.entries ≡ 1024) × ((q : ℕ) → q < l.r → EntryOf (g.S.JobSource.rows l.source) q (entry l.entries q))
