-- The model of a board. Assumes nothing.
--     Worker                     a worker: what it does, its preempted and its fresh queue (each from its bottom to its top), its
--                                spawn counter, its steal counter and its policy
--     no_worker                  what is read where there is no worker: idle, with nothing
--     Board                      the rows of the job; the workers; for each row what has become of its task, and its live number;
--                                the figures S, F and INT; whether the run is finished
--     no_board                   a board never loaded: no rows and no workers
--     worker b w, task b t, live b f      worker w, what has become of task t, the live number of finish row f
--     to_state, to_preempted, to_fresh    a worker with something changed
--     with_worker, with_task, with_live   a board with something changed
--     task_of s                  the task of a worker that does s, if any
--     now_has b w                the task that worker w has, if any
--     stands b w p               worker w stands at position p
--     leaves b w t s             worker w leaves its task t, of which s has become, and is idle
--     resumes rows t s           where work at task t goes on, of which s has become: where it stopped, or at its beginning
--     takes_up b w t             worker w takes task t up, and goes on with it there
use Rattle.std.specs.Prelude.{ℕ, Bool, false, List, [], Some, None, Option, slice_index, slice_index_or, slice_set}
use Rattle.job.specs.declared.row.Row.{Row}
use Rattle.job.specs.Rows.{end}
use Rattle.rules.specs.declared.state.Figures.{Figures}
use Rattle.rules.specs.declared.state.Policy.{Policy}
use Rattle.rules.specs.declared.state.Policy.TheVariants.{HelpFirst}
use Rattle.rules.specs.declared.state.Position.{Position}
use Rattle.rules.specs.declared.state.TaskState.{TaskState}
use Rattle.rules.specs.declared.state.TaskState.TheVariants.{Unspawned, Fresh, Preempted, Running, Suspended, Ended}
use Rattle.rules.specs.declared.state.WorkerState.{WorkerState}
use Rattle.rules.specs.declared.state.WorkerState.TheVariants.{Idle, Stands, Out}
use Rattle.rules.specs.Words.{begins}

pub record Worker : Type 0 where
  pub state : WorkerState
  pub preempted : List ℕ
  pub fresh : List ℕ
  pub spawns : ℕ
  pub steals : ℕ
  pub policy : Policy

abbrev pub no_worker : Worker
no_worker = record { state = Idle; preempted = []; fresh = []; spawns = 0; steals = 0; policy = HelpFirst }

pub record Board : Type 0 where
  pub rows : List Row
  pub workers : List Worker
  pub tasks : List TaskState
  pub lives : List ℕ
  pub figures : Figures
  pub finished : Bool

abbrev pub no_board : Board
no_board =
    record {
      rows = [];
      workers = [];
      tasks = [];
      lives = [];
      figures = record { stack = 0; fresh = 0; interval = 0 };
      finished = false;
    }

abbrev pub worker : Board → ℕ → Worker
worker b w = slice_index_or b.workers w no_worker

abbrev pub task : Board → ℕ → TaskState
task b t = slice_index_or b.tasks t Unspawned

abbrev pub live : Board → ℕ → ℕ
live b f = slice_index b.lives f

abbrev pub to_state : WorkerState → Worker → Worker
to_state s x =
    record { state = s; preempted = x.preempted; fresh = x.fresh; spawns = x.spawns; steals = x.steals; policy = x.policy }

abbrev pub to_preempted : List ℕ → Worker → Worker
to_preempted q x =
    record { state = x.state; preempted = q; fresh = x.fresh; spawns = x.spawns; steals = x.steals; policy = x.policy }

abbrev pub to_fresh : List ℕ → Worker → Worker
to_fresh q x =
    record { state = x.state; preempted = x.preempted; fresh = q; spawns = x.spawns; steals = x.steals; policy = x.policy }

abbrev pub with_worker : Board → ℕ → Worker → Board
with_worker b w x =
    record { rows = b.rows; workers = slice_set b.workers w x; tasks = b.tasks; lives = b.lives; figures = b.figures; finished = b.finished }

abbrev pub with_task : Board → ℕ → TaskState → Board
with_task b t s =
    record { rows = b.rows; workers = b.workers; tasks = slice_set b.tasks t s; lives = b.lives; figures = b.figures; finished = b.finished }

abbrev pub with_live : Board → ℕ → ℕ → Board
with_live b f n =
    record { rows = b.rows; workers = b.workers; tasks = b.tasks; lives = slice_set b.lives f n; figures = b.figures; finished = b.finished }

abbrev pub task_of : WorkerState → Option ℕ
task_of Idle = None
task_of (Stands p) = Some p.task
task_of (Out p) = Some p.task

abbrev pub now_has : Board → ℕ → Option ℕ
now_has b w = task_of (worker b w).state

abbrev pub stands : Board → ℕ → Position → Board
stands b w p = with_worker b w (to_state (Stands p) (worker b w))

abbrev pub leaves : Board → ℕ → ℕ → TaskState → Board
leaves b w t s = with_task (with_worker b w (to_state Idle (worker b w))) t s

abbrev pub resumes : List Row → ℕ → TaskState → Position
resumes rows t Unspawned = begins t
resumes rows t Fresh = begins t
resumes rows t (Preempted i n) = record { task = t; inner = i; next = n }
resumes rows t Running = begins t
resumes rows t (Suspended f) = record { task = t; inner = f; next = end rows f }
resumes rows t Ended = begins t

abbrev pub takes_up : Board → ℕ → ℕ → Board
takes_up b w t = with_task (stands b w (resumes b.rows t (task b t))) t Running
