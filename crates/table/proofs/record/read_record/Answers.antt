use Rattle.table.proofs.Shapes.{refused, fault-kind, fault-size, fault-mark, no_size, no_mark, no_end, whole_record}
use Rattle.table.proofs.Results.{passed_up}
use Rattle.table.proofs.record.read_record.Goals as goal

pub returns-in_err-kind : goal.returns-in_err-kind
returns-in_err-kind c =
    refused (passed_up _ c.from_residual.ensures.1) (fault-kind c.args.text.now c.in_err-kind.ensures)

pub returns-in_err-size : goal.returns-in_err-size
returns-in_err-size c =
    refused (passed_up _ c.from_residual-in_err-size.ensures.1) (fault-size c.args.text.now c.in_ok-kind.kind c.in_ok-kind.ensures c.in_err-size.ensures)

pub returns-in_default : goal.returns-in_default
returns-in_default c = no_size c.args.text.now c.in_ok-kind.kind c.in_ok-kind.ensures c.in_ok-size.ensures c.in_default.is

pub returns-in_err-mark : goal.returns-in_err-mark
returns-in_err-mark c =
    refused (passed_up _ c.from_residual-in_err-mark.ensures.1) (fault-mark c.args.text.now c.in_ok-kind.kind c.in_ok-kind.ensures c.in_ok-size.ensures c.in-Some.is c.in_err-mark.ensures)

pub returns-in_default-2 : goal.returns-in_default-2
returns-in_default-2 c =
    no_mark c.args.text.now c.in_ok-kind.kind c.in_ok-kind.ensures c.in_ok-size.ensures c.in-Some.is c.in_ok-mark.ensures c.in_default-2.is

pub returns-in_default-stop : goal.returns-in_default-stop
returns-in_default-stop c =
    no_end c.args.text.now c.in_ok-kind.kind c.in_ok-kind.ensures c.in_ok-size.ensures c.in-Some.is c.in_ok-mark.ensures c.in-Some-2.is c.in_default-stop.is

pub returns : goal.returns
returns c =
    whole_record c.args.text.now c.in_ok-kind.kind c.in_ok-kind.ensures c.in_ok-size.ensures c.in-Some.is c.in_ok-mark.ensures c.in-Some-2.is c.in-LineEnd.is
