use Rattle.std.proofs.Common.{◌≡◌, subst, arith, rules}
use Rattle.total.proofs.Filling.{Sofar, turn_finish, turn_async, sofar_same, sofar_all}
use Rattle.total.proofs.book.fill_lines.Goals as goal

pub loop-r-preserved-in-Finish-1 : goal.loop-r-preserved-in-Finish-1
loop-r-preserved-in-Finish-1 g c =
    turn_finish g.K.Total.meaning g.K.Total.none g.K.Total.joined g.K.Total.sealed (g.S.JobSource.rows c.args.source.now) c.args.book.now c.loop-r.book c.loop-r.r c.loop-r.invariant (omega arith) (omega arith) (omega arith) c.row_at.result c.row_at.ensures (search rules) c.gather.result c.gather.ensures

pub loop-r-preserved-in-Async-1 : goal.loop-r-preserved-in-Async-1
loop-r-preserved-in-Async-1 g c =
    turn_async g.K.Total.meaning g.K.Total.none g.K.Total.joined g.K.Total.sealed (g.S.JobSource.rows c.args.source.now) c.args.book.now c.loop-r.book c.loop-r.r c.loop-r.invariant (omega arith) (omega arith) (omega arith) c.row_at.result c.row_at.ensures (search rules) c.nothing.result c.nothing.ensures

pub returns : goal.returns
returns g c =
    let done : c.loop-r.r ≡ 0 = omega arith in
    let so = subst (Sofar g.K.Total.meaning g.K.Total.none g.K.Total.joined g.K.Total.sealed (g.S.JobSource.rows c.args.source.now) c.args.book.now c.loop-r.book) done c.loop-r.invariant in
    record {
      after = sofar_all g.K.Total.meaning g.K.Total.none g.K.Total.joined g.K.Total.sealed (g.S.JobSource.rows c.args.source.now) c.args.book.now c.loop-r.book c.requires.lawful (omega arith) so;
      same = sofar_same g.K.Total.meaning g.K.Total.none g.K.Total.joined g.K.Total.sealed (g.S.JobSource.rows c.args.source.now) c.args.book.now c.loop-r.book so;
    }
