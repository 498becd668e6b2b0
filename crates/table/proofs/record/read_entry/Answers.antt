use Rattle.std.proofs.Common.{Ok, Err, sym, ap, ◌∙◌}
use Rattle.table.specs.Readings.{ok_map, as_front}
use Rattle.table.proofs.Fronts.{front_fault, front_known}
use Rattle.table.proofs.Results.{passed_up}
use Rattle.table.proofs.record.read_entry.Goals as goal

pub returns-in_err-record : goal.returns-in_err-record
returns-in_err-record c =
    ap (ok_map as_front) (passed_up _ c.from_residual.ensures.1) ∙ sym (front_fault c.args.text.now c.in_err-record.field-0.0 c.in_err-record.ensures)

pub returns-in_err-row : goal.returns-in_err-row
returns-in_err-row c =
    ap (ok_map as_front) (passed_up _ c.from_residual-in_err-row.ensures.1) ∙ sym (front_known c.args.text.now c.in_ok-record.record c.in_ok-record.ensures (Err c.in_err-row.field-0.0) c.in_err-row.ensures)

pub returns : goal.returns
returns c = sym (front_known c.args.text.now c.in_ok-record.record c.in_ok-record.ensures (Ok c.in_ok-row.field-0) c.in_ok-row.ensures)
