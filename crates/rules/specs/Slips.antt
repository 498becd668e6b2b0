-- Work rows taken, handed in and given back. Assumes nothing.
--     Slip                       names a worker and the work row that it took; it is handed in or given back
--     out_at s r                 a worker that does s is out at row r
--     is_out b slip              the slip is out on this board: the worker that it names is out at that row
--     takes b w                  worker w goes out with a slip for the work row that comes next
--     take b w                   a take with its board
--     hand_in b book slip x      the value goes to the row's line and is joined to its finish's line, and the worker moves past the row
--     give_back b slip           the worker goes back to the row, if the slip is out here; answers whether it was
use Rattle.std.specs.Prelude.{ℕ, ◌+◌, Bool, false, cond, List, length, set, Ok, Err, Result, ◌==◌, nat_le, nat_lt, slice_index_or, slice_set}
use Rattle.rules.specs.declared.met.Met.{Met}
use Rattle.rules.specs.declared.met.Met.TheVariants.{Work, Finish, Async, FinishEnd, AsyncEnd}
use Rattle.rules.specs.declared.refusal.DealRefusal.{DealRefusal}
use Rattle.rules.specs.declared.refusal.DealRefusal.TheVariants.{ShortBook, NoWorker, Finished, WorkerOut, NoWork, NotOut}
use Rattle.rules.specs.declared.state.Position.{Position}
use Rattle.rules.specs.declared.state.WorkerState.{WorkerState}
use Rattle.rules.specs.declared.state.WorkerState.TheVariants.{Idle, Stands, Out}
use Rattle.rules.specs.Words.{finish_of, onto, meets}
use Rattle.rules.specs.Boards.{Board, worker, to_state, with_worker}
use Rattle.rules.specs.Steps.{Outcome}

pub record Slip : Type 0 where
  pub worker : ℕ
  pub row : ℕ

pub record Took : Type 0 where
  pub answer : Result Slip DealRefusal
  pub board : Board

abbrev pub no_slip : Board → DealRefusal → Took
no_slip b e = record { answer = Err e; board = b }

abbrev pub takes_met : Board → ℕ → Position → Met → Took
takes_met b w p (Work r) =
    record { answer = Ok (record { worker = w; row = r }); board = with_worker b w (to_state (Out p) (worker b w)) }
takes_met b w p (Finish r) = no_slip b NoWork
takes_met b w p (Async r) = no_slip b NoWork
takes_met b w p (FinishEnd f) = no_slip b NoWork
takes_met b w p (AsyncEnd a) = no_slip b NoWork

abbrev pub takes_in : Board → ℕ → WorkerState → Took
takes_in b w Idle = no_slip b NoWork
takes_in b w (Out p) = no_slip b WorkerOut
takes_in b w (Stands p) = takes_met b w p (meets b.rows p)

abbrev pub take : Board → ℕ → Took
take b w =
    let taken = takes_in b w (worker b w).state in
    cond (nat_le (length b.workers) w) (no_slip b NoWorker) (cond b.finished (no_slip b Finished) taken)

abbrev pub out_at : WorkerState → ℕ → Bool
out_at Idle r = false
out_at (Stands p) r = false
out_at (Out p) r = p.next == r

abbrev pub is_out : Board → Slip → Bool
is_out b slip = out_at (worker b slip.worker).state slip.row

-- the position of a worker that is out, with another row next
abbrev pub back_onto : ℕ → WorkerState → WorkerState
back_onto n Idle = Idle
back_onto n (Stands p) = Stands p
back_onto n (Out p) = Stands (onto n p)

-- the worker that the slip names is in again, with row n next
abbrev pub comes_in : Board → Slip → ℕ → Board
comes_in b slip n =
    let x = worker b slip.worker in
    with_worker b slip.worker (to_state (back_onto n x.state) x)

module _ {M : Type 0} (nothing : M) (join : M → M → M) where
  abbrev pub entered : List M → ℕ → ℕ → M → List M
  entered book r f x = let noted = set book r x in slice_set noted f (join (slice_index_or noted f nothing) x)

  -- a refused hand in gives the slip back with its cause
  abbrev pub keeps_slip : Board → List M → Slip → DealRefusal → Outcome (Result (Unit {0}) (DealRefusal × Slip)) M
  keeps_slip b book slip e = record { answer = Err (e, slip); board = b; book = book }

  abbrev pub hand_in : Board → List M → Slip → M → Outcome (Result (Unit {0}) (DealRefusal × Slip)) M
  hand_in b book slip x =
      let moved = comes_in b slip (slip.row + 1) in
      let noted = entered book slip.row (finish_of b.rows slip.row) x in
      cond (nat_lt (length book) (length b.rows)) (keeps_slip b book slip ShortBook)
      (cond (is_out b slip) (record { answer = Ok tt; board = moved; book = noted }) (keeps_slip b book slip NotOut))

pub record Gave : Type 0 where
  pub answer : Bool
  pub board : Board

abbrev pub give_back : Board → Slip → Gave
give_back b slip =
    let back = comes_in b slip slip.row in
    record { answer = is_out b slip; board = cond (is_out b slip) back b }
