-- How a board is loaded. Assumes nothing.
--     most_workers, most_figure       the most workers of a board; the largest S, F and INT
--     lawful_workers n           from 1 to the most
--     lawful_figures x           S and F up to the largest, INT from 1 to the largest
--     first_worker               a worker in row 0, with row 1 next
--     loaded rows n x            worker 0 in row 0, the others idle, all queues empty, all counters 0, all policies help-first
--     loads rows lines n x       what a load answers, where the book has so many lines
--     cleared rows book          each job line of a book set to nothing, and the lines past the job as they were
--     load b rows book n x       a load with its board and its book
use Rattle.std.specs.Prelude.{ℕ, ◌-◌, Bool, false, cond, ◌&&◌, List, ◌∷◌, ◌++◌, length, drop, replicate, Some, None, Ok, Err, Option, Result, nat_le, nat_lt}
use Rattle.job.specs.declared.refusal.JobRefusal.TheVariants.{RowCount, Unlawful}
use Rattle.job.specs.declared.row.Row.{Row}
use Rattle.job.specs.Lawful.{countable, lowest_unlawful}
use Rattle.rules.specs.declared.refusal.DealRefusal.{DealRefusal}
use Rattle.rules.specs.declared.refusal.DealRefusal.TheVariants.{Job, WorkerCount, Figures as BadFigures, ShortBook}
use Rattle.rules.specs.declared.state.Figures.{Figures}
use Rattle.rules.specs.declared.state.TaskState.TheVariants.{Unspawned, Running}
use Rattle.rules.specs.declared.state.WorkerState.TheVariants.{Stands}
use Rattle.rules.specs.Words.{begins}
use Rattle.rules.specs.Boards.{Worker, no_worker, Board, to_state}
use Rattle.rules.specs.Steps.{Outcome}

abbrev pub most_workers : ℕ
most_workers = 16

abbrev pub most_figure : ℕ
most_figure = 1024

abbrev pub lawful_workers : ℕ → Bool
lawful_workers n = nat_le 1 n && nat_le n most_workers

abbrev pub lawful_figures : Figures → Bool
lawful_figures x =
    nat_le x.stack most_figure && (nat_le x.fresh most_figure && (nat_le 1 x.interval && nat_le x.interval most_figure))

abbrev pub first_worker : Worker
first_worker = to_state (Stands (begins 0)) no_worker

abbrev pub loaded : List Row → ℕ → Figures → Board
loaded rows n x =
    record {
      rows = rows;
      workers = first_worker ∷ replicate (n - 1) no_worker;
      tasks = Running ∷ replicate (length rows - 1) Unspawned;
      lives = replicate (length rows) 0;
      figures = x;
      finished = false;
    }

abbrev pub unless_unlawful : Option ℕ → Result (Unit {0}) DealRefusal
unless_unlawful None = Ok tt
unless_unlawful (Some r) = Err (Job (Unlawful r))

abbrev pub loads : List Row → ℕ → ℕ → Figures → Result (Unit {0}) DealRefusal
loads rows lines n x =
    cond (countable (length rows))
    (cond (lawful_workers n)
    (cond (lawful_figures x) (cond (nat_lt lines (length rows)) (Err ShortBook) (unless_unlawful (lowest_unlawful rows))) (Err BadFigures))
    (Err WorkerCount))
    (Err (Job RowCount))

abbrev pub board_after : {E : Type 0} → Result (Unit {0}) E → Board → Board → Board
board_after (Ok u) new old = new
board_after (Err e) new old = old

module _ {M : Type 0} (nothing : M) where
  abbrev pub cleared : List Row → List M → List M
  cleared rows book = replicate (length rows) nothing ++ drop (length rows) book

  abbrev pub book_after : {E : Type 0} → Result (Unit {0}) E → List M → List M → List M
  book_after (Ok u) new old = new
  book_after (Err e) new old = old

  abbrev pub load : Board → List Row → List M → ℕ → Figures → Outcome (Result (Unit {0}) DealRefusal) M
  load b rows book n x =
      let answer = loads rows (length book) n x in
      record { answer = answer; board = board_after answer (loaded rows n x) b; book = book_after answer (cleared rows book) book }
