-- What holds on every board that was ever loaded. Assumes nothing.
--     one t                      1 where the test holds, else 0
--     is_unspawned, is_fresh, is_preempted, is_running, is_ended s      what has become of a task
--     is_unbegun s               unspawned or fresh
--     is_begun s                 begun and not ended: preempted, running or suspended
--     is_live s                  spawned and not ended
--     times a q                  how often row a stands in a queue
--     fresh_places b a, preempted_places b a      how often it stands in all fresh queues, in all preempted queues
--     holders b a                how many workers have the task a
--     sum_below f n              the sum of f over the numbers below n
--     live_in b f a              a is an async row, its finish is f, and it is live
--     live_number b f            how many such rows there are
--     spawned b                  how many async rows are spawned
--     burden x                   the tasks in the queues of a worker, and those that were stolen since its policy was settled
--     position_of s              where a worker stands that does s, if it has a task
--     stopped rows t s           where the task t stopped, of which s has become, if it is preempted or suspended
--     is_inner rows t i          row i is the task t, or a finish row of it
--     is_next rows i n           n is the end of row i, or the nearest row that encloses n is i
--     LawfulPosition rows p      a position in a task of the job, with such an inner row and such a next row
--     is_before_work rows p      the next row is a work row
--     is_live_task b a           a is an async row, and live
--     parent b a                 the task that spawns the async row a
--     keeper b a                 the owner of the finish of a
--     Shaped, Placed, Positioned, Counted, Waited, Ahead, Ending b      parts of what holds, in groups
--     Kept b                     these together
--     Sound b                    all that holds
use Rattle.std.specs.Prelude.{◌≡◌, ℕ, zero, suc, ◌+◌, ◌<◌, ◌≤◌, Bool, true, false, cond, not, ◌&&◌, ◌||◌, List, length, Some, None, sum_by, count_by, Option, ◌==◌, nat_eq}
use Rattle.job.specs.declared.row.Row.{Row}
use Rattle.job.specs.Lawful.{Lawful}
use Rattle.job.specs.Rows.{row, is_finish, is_async, is_task, is_work, end, nearest, owner, task as task-around}
use Rattle.rules.specs.declared.state.Position.{Position}
use Rattle.rules.specs.declared.state.TaskState.{TaskState}
use Rattle.rules.specs.declared.state.TaskState.TheVariants.{Unspawned, Fresh, Preempted, Running, Suspended, Ended}
use Rattle.rules.specs.declared.state.WorkerState.{WorkerState}
use Rattle.rules.specs.declared.state.WorkerState.TheVariants.{Idle, Stands, Out}
use Rattle.rules.specs.Words.{finish_of, within}
use Rattle.rules.specs.Boards.{Worker, Board, worker, task, live, task_of}
use Rattle.rules.specs.Loads.{lawful_workers, lawful_figures}

abbrev pub one : Bool → ℕ
one t = cond t 1 0

abbrev pub is_unspawned : TaskState → Bool
is_unspawned Unspawned = true
is_unspawned Fresh = false
is_unspawned (Preempted i n) = false
is_unspawned Running = false
is_unspawned (Suspended f) = false
is_unspawned Ended = false

abbrev pub is_fresh : TaskState → Bool
is_fresh Unspawned = false
is_fresh Fresh = true
is_fresh (Preempted i n) = false
is_fresh Running = false
is_fresh (Suspended f) = false
is_fresh Ended = false

abbrev pub is_preempted : TaskState → Bool
is_preempted Unspawned = false
is_preempted Fresh = false
is_preempted (Preempted i n) = true
is_preempted Running = false
is_preempted (Suspended f) = false
is_preempted Ended = false

abbrev pub is_running : TaskState → Bool
is_running Unspawned = false
is_running Fresh = false
is_running (Preempted i n) = false
is_running Running = true
is_running (Suspended f) = false
is_running Ended = false

abbrev pub is_ended : TaskState → Bool
is_ended Unspawned = false
is_ended Fresh = false
is_ended (Preempted i n) = false
is_ended Running = false
is_ended (Suspended f) = false
is_ended Ended = true

abbrev pub is_unbegun : TaskState → Bool
is_unbegun Unspawned = true
is_unbegun Fresh = true
is_unbegun (Preempted i n) = false
is_unbegun Running = false
is_unbegun (Suspended f) = false
is_unbegun Ended = false

abbrev pub is_begun : TaskState → Bool
is_begun Unspawned = false
is_begun Fresh = false
is_begun (Preempted i n) = true
is_begun Running = true
is_begun (Suspended f) = true
is_begun Ended = false

abbrev pub is_live : TaskState → Bool
is_live Unspawned = false
is_live Fresh = true
is_live (Preempted i n) = true
is_live Running = true
is_live (Suspended f) = true
is_live Ended = false

abbrev pub times : ℕ → List ℕ → ℕ
times a q = count_by (nat_eq a) q

abbrev pub has : ℕ → Option ℕ → Bool
has a None = false
has a (Some t) = a == t

abbrev pub fresh_places : Board → ℕ → ℕ
fresh_places b a = sum_by (λ x. times a x.fresh) b.workers

abbrev pub preempted_places : Board → ℕ → ℕ
preempted_places b a = sum_by (λ x. times a x.preempted) b.workers

abbrev pub holders : Board → ℕ → ℕ
holders b a = sum_by (λ x. one (has a (task_of x.state))) b.workers

abbrev pub sum_below : (ℕ → ℕ) → ℕ → ℕ
sum_below f zero = 0
sum_below f (suc n) = sum_below f n + f n

abbrev pub is_live_task : Board → ℕ → Bool
is_live_task b a = is_async (row b.rows a) && is_live (task b a)

abbrev pub live_in : Board → ℕ → ℕ → Bool
live_in b f a = is_live_task b a && f == finish_of b.rows a

abbrev pub live_number : Board → ℕ → ℕ
live_number b f = sum_below (λ a. one (live_in b f a)) (length b.rows)

abbrev pub spawned : Board → ℕ
spawned b = sum_below (λ a. one (is_async (row b.rows a) && not (is_unspawned (task b a)))) (length b.rows)

abbrev pub burden : Worker → ℕ
burden x = x.steals + (length x.preempted + length x.fresh)

abbrev pub position_of : WorkerState → Option Position
position_of Idle = None
position_of (Stands p) = Some p
position_of (Out p) = Some p

abbrev pub stopped : List Row → ℕ → TaskState → Option Position
stopped rows t Unspawned = None
stopped rows t Fresh = None
stopped rows t (Preempted i n) = Some (record { task = t; inner = i; next = n })
stopped rows t Running = None
stopped rows t (Suspended f) = Some (record { task = t; inner = f; next = end rows f })
stopped rows t Ended = None

abbrev pub parent : Board → ℕ → ℕ
parent b a = owner b.rows a

abbrev pub keeper : Board → ℕ → ℕ
keeper b a = owner b.rows (finish_of b.rows a)

abbrev pub is_inner : List Row → ℕ → ℕ → Bool
is_inner rows t i = i == t || (is_finish (row rows i) && has t (task-around rows i))

abbrev pub is_next : List Row → ℕ → ℕ → Bool
is_next rows i n = n == end rows i || has i (nearest rows n)

pub record LawfulPosition (rows : List Row) (p : Position) : Type 0 where
  pub task_here : p.task < length rows
  pub is_a_task : is_task rows p.task ≡ true
  pub inner_is : is_inner rows p.task p.inner ≡ true
  pub after : p.inner < p.next
  pub before : p.next ≤ end rows p.inner
  pub next_is : is_next rows p.inner p.next ≡ true
  deriving IsProp as LawfulPosition-prop

abbrev pub is_before_work : List Row → Position → Bool
is_before_work rows p = not (p.next == end rows p.inner) && is_work (row rows p.next)

-- a lawful job, lawful figures, a state and a live number for each row, and spawn counters below INT
pub record Shaped (b : Board) : Type 0 where
  pub lawful : Lawful b.rows
  pub crew : lawful_workers (length b.workers) ≡ true
  pub figured : lawful_figures b.figures ≡ true
  pub tasks_sized : length b.tasks ≡ length b.rows
  pub lives_sized : length b.lives ≡ length b.rows
  pub counters : (w : ℕ) → w < length b.workers → (worker b w).spawns < b.figures.interval
  deriving IsProp as Shaped-prop

-- each task that is fresh stands in one fresh queue, each that is preempted in one preempted queue, each that runs has one worker, and
-- nothing else does; only row 0 and async rows are ever spawned
pub record Placed (b : Board) : Type 0 where
  pub fresh_once : (a : ℕ) → fresh_places b a ≡ one (is_fresh (task b a))
  pub preempted_once : (a : ℕ) → preempted_places b a ≡ one (is_preempted (task b a))
  pub running_once : (a : ℕ) → holders b a ≡ one (is_running (task b a))
  pub only_tasks : (a : ℕ) → is_unspawned (task b a) ≡ false → is_task b.rows a ≡ true
  deriving IsProp as Placed-prop

-- each worker with a task stands lawfully, and each task without one stopped lawfully; a worker is out for a work row only
pub record Positioned (b : Board) : Type 0 where
  pub workers_stand : (w : ℕ) (p : Position) → position_of (worker b w).state ≡ Some p → LawfulPosition b.rows p
  pub outs_work : (w : ℕ) (p : Position) → (worker b w).state ≡ Out p → is_before_work b.rows p ≡ true
  pub tasks_stop : (t : ℕ) (p : Position) → stopped b.rows t (task b t) ≡ Some p → LawfulPosition b.rows p
  deriving IsProp as Positioned-prop

-- a finish row's live number counts the live async rows whose finish it is
pub record Counted (b : Board) : Type 0 where
  pub lives_match : (f : ℕ) → f < length b.rows → live b f ≡ live_number b f
  deriving IsProp as Counted-prop

-- the owner of a live task's finish is begun and has not left that finish row
pub record Waited (b : Board) : Type 0 where
  pub keeper_begun : (a : ℕ) → is_live_task b a ≡ true → is_begun (task b (keeper b a)) ≡ true
  pub keeper_stands : (a w : ℕ) (p : Position) → is_live_task b a ≡ true → position_of (worker b w).state ≡ Some p → p.task ≡ keeper b a → within b.rows p.inner (finish_of b.rows a) ≡ true
  pub keeper_stopped : (a : ℕ) (p : Position) → is_live_task b a ≡ true → stopped b.rows (keeper b a) (task b (keeper b a)) ≡ Some p → within b.rows p.inner (finish_of b.rows a) ≡ true
  deriving IsProp as Waited-prop

-- the async rows that a task has still to come to are unspawned
pub record Ahead (b : Board) : Type 0 where
  pub unbegun_ahead : (a : ℕ) → is_async (row b.rows a) ≡ true → is_unbegun (task b (parent b a)) ≡ true → is_unspawned (task b a) ≡ true
  pub standing_ahead : (a w : ℕ) (p : Position) → is_async (row b.rows a) ≡ true → position_of (worker b w).state ≡ Some p → p.task ≡ parent b a → p.next ≤ a → is_unspawned (task b a) ≡ true
  pub stopped_ahead : (a : ℕ) (p : Position) → is_async (row b.rows a) ≡ true → stopped b.rows (parent b a) (task b (parent b a)) ≡ Some p → p.next ≤ a → is_unspawned (task b a) ≡ true
  deriving IsProp as Ahead-prop

-- row 0 is begun, and has ended just when the run is finished
pub record Ending (b : Board) : Type 0 where
  pub first_begun : b.finished ≡ false → is_begun (task b 0) ≡ true
  pub first_ended : b.finished ≡ true → is_ended (task b 0) ≡ true
  deriving IsProp as Ending-prop

pub record Kept (b : Board) : Type 0 where
  pub shaped : Shaped b
  pub placed : Placed b
  pub positioned : Positioned b
  pub counted : Counted b
  pub waited : Waited b
  pub ahead : Ahead b
  pub ending : Ending b
  deriving IsProp as Kept-prop

pub record Sound (b : Board) : Type 0 where
  pub kept : Kept b
  -- no more tasks are queued and stolen than were spawned, so neither a queue nor a steal counter outgrows the job
  pub bounded : sum_by burden b.workers ≤ spawned b
  -- an idle worker's queues are empty
  pub idle_empty : (w : ℕ) → (worker b w).state ≡ Idle → (length (worker b w).preempted ≡ 0) × (length (worker b w).fresh ≡ 0)
  -- a task is suspended only where somebody is live
  pub waits : (t f : ℕ) → task b t ≡ Suspended f → 1 ≤ live b f
  deriving IsProp as Sound-prop
