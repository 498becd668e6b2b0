use Rattle.std.proofs.Common.{length}
use Rattle.table.specs.Texts.{read}
use Rattle.table.proofs.Tables.{counted_ok, counted_err}
use Rattle.table.proofs.text.read_rows.Goals as goal

pub returns-in_err-count-clause-after : goal.returns-in_err-count-clause-after
returns-in_err-count-clause-after c =
    let rows = c.args.rows.now in
    counted_err (read (length rows) c.args.text.now) c.in_err-count.field-0.0 rows c.in_err-count.ensures

pub fill_rows-requires : goal.fill_rows-requires
fill_rows-requires c = counted_ok (read (length c.args.rows.now) c.args.text.now) c.in_ok-count.count c.in_ok-count.ensures
