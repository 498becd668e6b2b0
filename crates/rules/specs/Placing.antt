-- How a worker places an async row that it spawns. Assumes nothing.
--     placing figures x          by S, else by F, else by its policy
--     settled figures x          a worker whose spawn counter reached INT: its policy anew, and both counters at 0
--     counts_spawn figures x     a worker after one spawn more
--     raised b r                 the live number of the finish of r raised by 1
--     helps_first b w p r        the child r goes to the bottom of the fresh queue, and the parent, at position p, goes on
--     works_first b w p r        the parent goes to the bottom of the preempted queue, and the child begins
--     placed b w p r             the one or the other, and the spawn is counted
use Rattle.std.specs.Prelude.{ℕ, ◌+◌, cond, ◌∷◌, length, nat_le, nat_lt}
use Rattle.rules.specs.declared.state.Figures.{Figures}
use Rattle.rules.specs.declared.state.Policy.{Policy}
use Rattle.rules.specs.declared.state.Policy.TheVariants.{HelpFirst, WorkFirst}
use Rattle.rules.specs.declared.state.Position.{Position}
use Rattle.rules.specs.declared.state.TaskState.TheVariants.{Fresh, Preempted}
use Rattle.rules.specs.declared.state.WorkerState.TheVariants.{Idle, Stands}
use Rattle.rules.specs.Words.{finish_of}
use Rattle.rules.specs.Boards.{Worker, Board, worker, live, to_state, to_preempted, to_fresh, with_worker, with_task, with_live, takes_up}

-- S or more own preempted tasks: help-first; else F or more own fresh tasks: work-first; else the policy
abbrev pub placing : Figures → Worker → Policy
placing figures x =
    cond (nat_le figures.stack (length x.preempted)) HelpFirst (cond (nat_le figures.fresh (length x.fresh)) WorkFirst x.policy)

abbrev pub settled : Figures → Worker → Worker
settled figures x =
    record {
      state = x.state;
      preempted = x.preempted;
      fresh = x.fresh;
      spawns = 0;
      steals = 0;
      policy = cond (nat_lt figures.interval x.steals) HelpFirst WorkFirst;
    }

abbrev pub counts_spawn : Figures → Worker → Worker
counts_spawn figures x =
    cond (nat_le figures.interval (x.spawns + 1)) (settled figures x)
    (record { state = x.state; preempted = x.preempted; fresh = x.fresh; spawns = x.spawns + 1; steals = x.steals; policy = x.policy })

abbrev pub raised : Board → ℕ → Board
raised b r = with_live b (finish_of b.rows r) (live b (finish_of b.rows r) + 1)

abbrev pub helps_first : Board → ℕ → Position → ℕ → Board
helps_first b w p r =
    let x = worker b w in
    with_task (with_worker b w (to_fresh (r ∷ x.fresh) (to_state (Stands p) x))) r Fresh

abbrev pub works_first : Board → ℕ → Position → ℕ → Board
works_first b w p r =
    let x = worker b w in
    let off = with_worker b w (to_preempted (p.task ∷ x.preempted) (to_state Idle x)) in
    takes_up (with_task off p.task (Preempted p.inner p.next)) w r

abbrev pub placed_by : Policy → Board → ℕ → Position → ℕ → Board
placed_by HelpFirst b w p r = helps_first b w p r
placed_by WorkFirst b w p r = works_first b w p r

abbrev pub placed : Board → ℕ → Position → ℕ → Board
placed b w p r =
    let after = placed_by (placing b.figures (worker b w)) b w p r in
    with_worker after w (counts_spawn b.figures (worker after w))
