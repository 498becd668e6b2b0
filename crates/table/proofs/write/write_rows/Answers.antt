use Rattle.std.proofs.Common.{sym}
use Rattle.total.proofs.Outputs.{put_end_ok}
use Rattle.table.specs.JobTexts.{table_text}
use Rattle.table.proofs.Written.{written_back}
use Rattle.table.proofs.write.write_rows.Goals as goal

pub returns-clause-reads_back : goal.returns-clause-reads_back
returns-clause-reads_back c =
    let rows = c.args.rows.now in
    let put = c.in_ok-put_table.ensures in
    let ends = put_end_ok c.args.out.now 0 (table_text rows) c.in_ok-put_table.field-0 (sym put.result) in
    written_back rows c.args.out.now c.in_ok-put_table.field-0 c.put_table.new.out c.in_ok-check_rows.ensures ends.0 ends.1 put.after
