use Rattle.std.proofs.Common.{◌+◌, length, ap, ◌∙◌, arith}
use Rattle.job.specs.Lawful.{checked}
use Rattle.total.specs.Outputs.{put}
use Rattle.total.proofs.Answering.{fill_all, checked_from}
use Rattle.runs.proofs.Worked.{totals_are, worked_is}
use Rattle.runs.proofs.reports.put_worked.Goals as goal

pub returns-in-Ok : goal.returns-in-Ok
returns-in-Ok c =
    let rows = c.args.rows.now in
    let valued = c.set_values.new.book in
    let book = c.fill_serial_totals.new.book in
    let lawful = checked_from (checked rows) (c.in-Ok.ensures.result ∙ fill_all rows (length valued) (omega arith)) in
    let same = totals_are rows valued book (omega arith) (omega arith) c.set_values.ensures c.in-Ok.ensures.after ∙ worked_is rows valued book lawful in
    record { place = c.put_totals.ensures.place ∙ ap (λ l. c.args.at + length l) same; after = c.put_totals.ensures.after ∙ ap (put c.args.out.now c.args.at) same; fits = c.put_totals.ensures.fits }
