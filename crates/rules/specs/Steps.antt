-- One step. Assumes nothing.
--     Outcome R M                what a call answers, the board after it and the book after it
--     Dealt                      what a step answers, and the board after it
--     refused b e                refused by e, with the board as it was
--     granted a r closed b w     granted: the action, its row, the finish row closed, and the task that worker w has on the board b
--     opens, spawns, waits, ends, steals      the rules, one by one
--     acts b w p m               the rule for a worker that stands at p and meets m
--     turns b w v s              the rule for a worker that does s: it is idle and steals from v, it is out, or it stands
--     deals b lines w v          a step of worker w with victim v, where the book has so many lines
--     closed_by r                the finish row that an answer closes, if any
--     step b book w v            a step with its book
use Rattle.std.specs.Prelude.{ℕ, ◌+◌, ◌-◌, Bool, false, cond, not, ◌&&◌, List, length, Some, None, Ok, Err, Option, Result, ◌==◌, nat_le, nat_lt}
use Rattle.job.specs.Rows.{end, owner}
use Rattle.deque.specs.Queues.{top, below_top}
use Rattle.rules.specs.declared.answer.Action.{Action}
use Rattle.rules.specs.declared.answer.Action.TheVariants.{Open, First, Fresh as FreshDone, Close, Wait, End, Steal}
use Rattle.rules.specs.declared.answer.Answer.{Answer}
use Rattle.rules.specs.declared.met.Met.{Met}
use Rattle.rules.specs.declared.met.Met.TheVariants.{Work, Finish, Async, FinishEnd, AsyncEnd}
use Rattle.rules.specs.declared.refusal.DealRefusal.{DealRefusal}
use Rattle.rules.specs.declared.refusal.DealRefusal.TheVariants.{ShortBook, NoWorker, Finished, WorkerOut, AtWork, NoVictim, NothingToSteal}
use Rattle.rules.specs.declared.state.Policy.{Policy}
use Rattle.rules.specs.declared.state.Policy.TheVariants.{HelpFirst, WorkFirst}
use Rattle.rules.specs.declared.state.Position.{Position}
use Rattle.rules.specs.declared.state.TaskState.{TaskState}
use Rattle.rules.specs.declared.state.TaskState.TheVariants.{Unspawned, Fresh, Preempted, Running, Suspended, Ended}
use Rattle.rules.specs.declared.state.WorkerState.{WorkerState}
use Rattle.rules.specs.declared.state.WorkerState.TheVariants.{Idle, Stands, Out}
use Rattle.rules.specs.Words.{finish_of, onto, into, meets}
use Rattle.rules.specs.Boards.{Worker, Board, worker, task, live, to_preempted, to_fresh, with_worker, with_live, now_has, stands, leaves, resumes, takes_up}
use Rattle.rules.specs.Closing.{closes, closed_book}
use Rattle.rules.specs.Picking.{picks}
use Rattle.rules.specs.Placing.{placing, raised, placed}

pub record Outcome (R M : Type 0) : Type 0 where
  pub answer : R
  pub board : Board
  pub book : List M

pub record Dealt : Type 0 where
  pub answer : Result Answer DealRefusal
  pub board : Board

abbrev pub refused : Board → DealRefusal → Dealt
refused b e = record { answer = Err e; board = b }

abbrev pub granted : Action → ℕ → Option ℕ → Board → ℕ → Dealt
granted a r closed b w = record { answer = Ok (record { action = a; row = r; outcome = (closed, now_has b w) }); board = b }

-- the finish row that comes next becomes the inner row, and the row after it is next
abbrev pub opens : Board → ℕ → Position → ℕ → Dealt
opens b w p r = granted Open r None (stands b w (into r p)) w

-- the name of a spawn, by how the row is placed
abbrev pub spawn_action : Policy → Action
spawn_action HelpFirst = FreshDone
spawn_action WorkFirst = First

-- the live number of the row's finish rises, the task goes on at the row's end, and the row is placed
abbrev pub spawns : Board → ℕ → Position → ℕ → Dealt
spawns b w p r =
    granted (spawn_action (placing b.figures (worker b w))) r None (placed (raised b r) w (onto (end b.rows r) p) r) w

-- at the end of an inner finish row: with nobody live it closes, else the task is suspended there and the worker picks
abbrev pub ends_finish : Board → ℕ → Position → ℕ → Dealt
ends_finish b w p f =
    let closing = granted Close f (Some f) (closes b w p) w in
    let waiting = granted Wait f None (picks (leaves b w p.task (Suspended f)) w) w in
    cond (live b f == 0) closing waiting

abbrev pub suspended_at : ℕ → TaskState → Bool
suspended_at f Unspawned = false
suspended_at f Fresh = false
suspended_at f (Preempted i n) = false
suspended_at f Running = false
suspended_at f (Suspended g) = f == g
suspended_at f Ended = false

-- worker w, which has just ended task a of the finish row f: where f has nobody live any more and its owner is suspended there, it
-- takes the owner and closes f, else it picks
abbrev pub after_end : Board → ℕ → ℕ → ℕ → Dealt
after_end b w a f =
    let o = owner b.rows f in
    let taken = takes_up b w o in
    let closing = granted End a (Some f) (closes taken w (resumes b.rows o (task b o))) w in
    let picking = granted End a None (picks b w) w in
    cond (live b f == 0 && suspended_at f (task b o)) closing picking

-- at the end of the async row a: the task ends, and the live number of its finish falls
abbrev pub ends_task : Board → ℕ → ℕ → Dealt
ends_task b w a =
    let f = finish_of b.rows a in
    after_end (with_live (leaves b w a Ended) f (live b f - 1)) w a f

abbrev pub acts : Board → ℕ → Position → Met → Dealt
acts b w p (Work r) = refused b (AtWork r)
acts b w p (Finish r) = opens b w p r
acts b w p (Async r) = spawns b w p r
acts b w p (FinishEnd f) = ends_finish b w p f
acts b w p (AsyncEnd a) = ends_task b w a

abbrev pub robbed : Worker → Worker
robbed x =
    record { state = x.state; preempted = x.preempted; fresh = x.fresh; spawns = x.spawns; steals = x.steals + 1; policy = x.policy }

-- worker w takes up task t, which the victim v no longer has, as x says, and the victim's steal counter rises
abbrev pub steals : Board → ℕ → ℕ → ℕ → Worker → Dealt
steals b w v t x = granted Steal t None (takes_up (with_worker b v (robbed x)) w t) w

-- the top preempted task, or if there is none the top fresh one
abbrev pub steals_from : Option ℕ → Option ℕ → Board → ℕ → ℕ → Dealt
steals_from (Some t) o b w v = steals b w v t (to_preempted (below_top (worker b v).preempted) (worker b v))
steals_from None (Some d) b w v = steals b w v d (to_fresh (below_top (worker b v).fresh) (worker b v))
steals_from None None b w v = refused b NothingToSteal

abbrev pub looks_at : Board → ℕ → ℕ → Dealt
looks_at b w v =
    let found = steals_from (top (worker b v).preempted) (top (worker b v).fresh) b w v in
    cond (nat_lt v (length b.workers) && not (v == w)) found (refused b NoVictim)

abbrev pub turns : Board → ℕ → ℕ → WorkerState → Dealt
turns b w v Idle = looks_at b w v
turns b w v (Out p) = refused b WorkerOut
turns b w v (Stands p) = acts b w p (meets b.rows p)

abbrev pub deals : Board → ℕ → ℕ → ℕ → Dealt
deals b lines w v =
    let turn = turns b w v (worker b w).state in
    cond (nat_le (length b.workers) w) (refused b NoWorker)
    (cond (nat_lt lines (length b.rows)) (refused b ShortBook) (cond b.finished (refused b Finished) turn))

abbrev pub closed_by : Result Answer DealRefusal → Option ℕ
closed_by (Ok a) = a.outcome.0
closed_by (Err e) = None

module _ {M : Type 0} (nothing : M) (join : M → M → M) (seal : ℕ → M → M) where
  abbrev pub step : Board → List M → ℕ → ℕ → Outcome (Result Answer DealRefusal) M
  step b book w v =
      let dealt = deals b (length book) w v in
      record { answer = dealt.answer; board = dealt.board; book = closed_book nothing join seal b.rows (closed_by dealt.answer) book }
