-- Which task a worker takes up that has just left its own. Assumes nothing.
--     takes_preempted b w t      worker w takes up t, the bottom of its preempted queue
--     takes_fresh b w d          worker w takes up d, the bottom of its fresh queue
--     prefers_preempted b t d    t goes before d: the nearest finish row that is or encloses the inner row of t is the finish of d, or
--                                lies inside it
--     picks b w                  worker w picks between the two; with neither it stays idle
use Rattle.std.specs.Prelude.{ℕ, Bool, cond, Some, None, Option}
use Rattle.deque.specs.Queues.{bottom, above_bottom}
use Rattle.rules.specs.Words.{finish_of, finish_at, within}
use Rattle.rules.specs.Boards.{Board, worker, task, to_preempted, to_fresh, with_worker, resumes, takes_up}

abbrev pub takes_preempted : Board → ℕ → ℕ → Board
takes_preempted b w t = takes_up (with_worker b w (to_preempted (above_bottom (worker b w).preempted) (worker b w))) w t

abbrev pub takes_fresh : Board → ℕ → ℕ → Board
takes_fresh b w d = takes_up (with_worker b w (to_fresh (above_bottom (worker b w).fresh) (worker b w))) w d

abbrev pub prefers_preempted : Board → ℕ → ℕ → Bool
prefers_preempted b t d = within b.rows (finish_at b.rows (resumes b.rows t (task b t)).inner) (finish_of b.rows d)

abbrev pub picks_from : Option ℕ → Option ℕ → Board → ℕ → Board
picks_from None None b w = b
picks_from (Some t) None b w = takes_preempted b w t
picks_from None (Some d) b w = takes_fresh b w d
picks_from (Some t) (Some d) b w = cond (prefers_preempted b t d) (takes_preempted b w t) (takes_fresh b w d)

abbrev pub picks : Board → ℕ → Board
picks b w = picks_from (bottom (worker b w).preempted) (bottom (worker b w).fresh) b w
