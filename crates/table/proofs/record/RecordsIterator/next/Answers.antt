use Rattle.std.proofs.Common.{◌<◌, length, sym, arith}
use Rattle.std.proofs.lemmas.Bool.Decides.{nat_tests}
use Rattle.table.specs.Readings.{as_front}
use Rattle.table.proofs.Progress.{front_shorter}
use Rattle.table.proofs.record.RecordsIterator.next.Goals as goal

pub returns-in-Ok-clause-goes : goal.returns-in-Ok-clause-goes
returns-in-Ok-clause-goes c =
    let some : 0 < length c.args.self.now.rest.now = grind (arith, nat_tests, c.if-is_empty.ensures) in
    record {
      on = λ _. (tt, tt, front_shorter c.args.self.now.rest.now (as_front c.in-Ok.entry) some (sym c.in-Ok.ensures));
      keeps = tt;
      rests = λ _. tt;
    }
