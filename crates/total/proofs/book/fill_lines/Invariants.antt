use Rattle.total.proofs.Filling.{Sofar}
use Rattle.total.proofs.book.fill_lines.Given as goal

abbrev pub invariant-loop-r : goal.invariant-loop-r
invariant-loop-r g l =
    Sofar g.K.Total.meaning g.K.Total.none g.K.Total.joined g.K.Total.sealed (g.S.JobSource.rows l.source) l.initial.book l.book l.r
