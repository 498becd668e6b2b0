use Rattle.total.proofs.SerialLaws.{only_serial}
use Rattle.total.proofs.book.fill_serial_totals.Goals as goal

pub returns-in_err-count-clause-alone : goal.returns-in_err-count-clause-alone
returns-in_err-count-clause-alone g c = only_serial _ _ _ _

pub returns-then-book-count-clause-alone : goal.returns-then-book-count-clause-alone
returns-then-book-count-clause-alone g c = only_serial _ _ _ _

pub returns-in_err-check-clause-alone : goal.returns-in_err-check-clause-alone
returns-in_err-check-clause-alone g c = only_serial _ _ _ _

pub returns-clause-alone : goal.returns-clause-alone
returns-clause-alone g c = only_serial _ _ _ _
