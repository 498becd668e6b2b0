use Rattle.std.proofs.Common.{sym, ap, ◌∙◌}
use Rattle.table.specs.Readings.{ok_map, text_left}
use Rattle.table.proofs.Fronts.{header_fault, header_known, header_other}
use Rattle.table.proofs.Results.{passed_up}
use Rattle.table.proofs.record.Records.new.Goals as goal

pub returns-in_err-header : goal.returns-in_err-header
returns-in_err-header c =
    ap (ok_map text_left) (passed_up _ c.from_residual.ensures.1) ∙ sym (header_fault c.args.text.now c.in_err-header.field-0.0 c.in_err-header.ensures)

pub returns-then-not-is_header : goal.returns-then-not-is_header
returns-then-not-is_header c = sym (header_other c.args.text.now c.in_ok-header.header c.in_ok-header.ensures (sym c.if-not-is_header.ensures))

pub returns : goal.returns
returns c = sym (header_known c.args.text.now c.in_ok-header.header c.in_ok-header.ensures (sym c.if-not-is_header.ensures))
