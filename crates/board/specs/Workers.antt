-- What is stolen from a worker. Assumes nothing.
--     offers x                   the task that is stolen from a worker: the top of its preempted queue, else that of its fresh queue
--     robbed_of x                the worker without it, where there is one
use Rattle.std.specs.Prelude.{ℕ, Some, None, Option}
use Rattle.deque.specs.Queues.{top, below_top}
use Rattle.rules.specs.Boards.{Worker, to_preempted, to_fresh}
use Rattle.rules.specs.Steps.{robbed}

abbrev pub first_of : Option ℕ → Option ℕ → Option ℕ
first_of (Some t) o = Some t
first_of None o = o

abbrev pub offers : Worker → Option ℕ
offers x = first_of (top x.preempted) (top x.fresh)

abbrev pub robbed_by : Option ℕ → Option ℕ → Worker → Worker
robbed_by (Some t) o x = robbed (to_preempted (below_top x.preempted) x)
robbed_by None (Some d) x = robbed (to_fresh (below_top x.fresh) x)
robbed_by None None x = x

abbrev pub robbed_of : Worker → Worker
robbed_of x = robbed_by (top x.preempted) (top x.fresh) x
