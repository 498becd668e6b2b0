-- The kinds of row, and the numbers that stand for them. Assumes nothing.
--     kind_number k              the number of a kind: 0 work, 1 finish, 2 async
--     numbered_kind n            the kind with that number, or that there is none
--     kind_in x                  the kind of row x, if its number is that of one
use Rattle.std.specs.Prelude.{ℕ, if◌then◌else◌, Some, None, Ok, Err, Option, Result, ◌==◌}
use Rattle.job.specs.declared.kind.Kind.{Kind}
use Rattle.job.specs.declared.kind.Kind.TheVariants.{Work, Finish, Async}
use Rattle.job.specs.declared.kind.UnknownKind.{UnknownKind}
use Rattle.job.specs.declared.row.Row.{Row}

abbrev pub kind_number : Kind → ℕ
kind_number Work = 0
kind_number Finish = 1
kind_number Async = 2

abbrev pub numbered_kind : ℕ → Result Kind UnknownKind
numbered_kind n =
    if n == 0 then Ok Work else (if n == 1 then Ok Finish else (if n == 2 then Ok Async else Err (record { number = n })))

abbrev pub kind_if : Result Kind UnknownKind → Option Kind
kind_if (Ok k) = Some k
kind_if (Err e) = None

abbrev pub kind_in : Row → Option Kind
kind_in x = kind_if (numbered_kind x.kind)
