-- A worker that goes on in its task: what holds of the board is kept. Assumes nothing.
use Rattle.std.proofs.Common.{◌≡◌, ℕ, ◌+◌, ◌<◌, ◌≤◌, true, length, Some, sum_by, sym, ap, ◌∙◌, subst, arith, length-set}
use Rattle.rules.specs.declared.state.Position.{Position}
use Rattle.rules.specs.declared.state.WorkerState.TheVariants.{Out}
use Rattle.rules.specs.Words.{finish_of, within}
use Rattle.rules.specs.Boards.{Worker, no_worker, Board, worker, task, with_worker, task_of}
use Rattle.rules.specs.Loads.{lawful_workers}
use Rattle.rules.specs.Sound.{one, has, times, is_unspawned, is_before_work, position_of, burden, is_live_task, keeper, parent, LawfulPosition, Shaped, Placed, Positioned, Waited, Ahead, Kept}
use Rattle.std.proofs.lemmas.List.Sums.{sum_by-set}
use Rattle.laws.proofs.Changes.{at_set, task_of_position, stands_here}
use Rattle.laws.proofs.Sums.{sum-set_same}

module _ (b : Board) (k : Kept b) (w : ℕ) (x : Worker) (p q : Position) where
  -- worker w stood at p, and now stands at q, as x says, with the same queues
  pub record Moves : Type 0 where
    pub from : position_of (worker b w).state ≡ Some p
    pub to : position_of x.state ≡ Some q
    pub fresh_same : x.fresh ≡ (worker b w).fresh
    pub preempted_same : x.preempted ≡ (worker b w).preempted
    pub counter : x.spawns < b.figures.interval
    pub out_work : (r : Position) → x.state ≡ Out r → is_before_work b.rows r ≡ true
    pub same_task : q.task ≡ p.task
    pub lawful : LawfulPosition b.rows q
    pub inside : (a : ℕ) → is_live_task b a ≡ true → p.task ≡ keeper b a → within b.rows q.inner (finish_of b.rows a) ≡ true
    pub onward : p.next ≤ q.next

  abbrev moved : Board
  moved = with_worker b w x

  module _ (m : Moves) where
    here : w < length b.workers
    here = stands_here b w p m.from

    task_same : task_of x.state ≡ task_of (worker b w).state
    task_same = task_of_position x.state q m.to ∙ ap Some m.same_task ∙ sym (task_of_position (worker b w).state p m.from)

    moved_shaped : Shaped moved
    moved_shaped =
        record {
          lawful = k.shaped.lawful;
          crew = ap lawful_workers (length-set b.workers w x) ∙ k.shaped.crew;
          figured = k.shaped.figured;
          tasks_sized = k.shaped.tasks_sized;
          lives_sized = k.shaped.lives_sized;
          counters = λ v l. at_set (λ (y : Worker). y.spawns < b.figures.interval) b.workers w x no_worker here v
              (λ e. m.counter)
              (λ ne. k.shaped.counters v (omega (arith, length-set b.workers w x)));
        }

    moved_placed : Placed moved
    moved_placed =
        record {
          fresh_once = λ a. sum-set_same (λ (y : Worker). times a y.fresh) b.workers w x no_worker (λ l. ap (times a) m.fresh_same) ∙ k.placed.fresh_once a;
          preempted_once = λ a. sum-set_same (λ (y : Worker). times a y.preempted) b.workers w x no_worker (λ l. ap (times a) m.preempted_same) ∙ k.placed.preempted_once a;
          running_once = λ a. sum-set_same (λ (y : Worker). one (has a (task_of y.state))) b.workers w x no_worker (λ l. ap (λ o. one (has a o)) task_same) ∙ k.placed.running_once a;
          only_tasks = k.placed.only_tasks;
        }

    stands_at : (r : Position) → position_of x.state ≡ Some r → r ≡ q
    stands_at r e = let f = m.to in cc

    moved_positioned : Positioned moved
    moved_positioned =
        record {
          workers_stand = λ v r. at_set (λ (y : Worker). position_of y.state ≡ Some r → LawfulPosition b.rows r) b.workers w x no_worker here v
              (λ e f. subst (LawfulPosition b.rows) (sym (stands_at r f)) m.lawful)
              (λ ne. k.positioned.workers_stand v r);
          outs_work = λ v r. at_set (λ (y : Worker). y.state ≡ Out r → is_before_work b.rows r ≡ true) b.workers w x no_worker here v
              (λ e. m.out_work r)
              (λ ne. k.positioned.outs_work v r);
          tasks_stop = k.positioned.tasks_stop;
        }

    moved_waited : Waited moved
    moved_waited =
        record {
          keeper_begun = k.waited.keeper_begun;
          keeper_stands = λ a v r y. at_set (λ (y : Worker). position_of y.state ≡ Some r → r.task ≡ keeper b a → within b.rows r.inner (finish_of b.rows a) ≡ true) b.workers w x no_worker here v
              (λ e f g.
              let is = stands_at r f in
              subst (λ (z : Position). within b.rows z.inner (finish_of b.rows a) ≡ true) (sym is)
              (m.inside a y (sym m.same_task ∙ sym (ap (λ (z : Position). z.task) is) ∙ g)))
              (λ ne. k.waited.keeper_stands a v r y);
          keeper_stopped = k.waited.keeper_stopped;
        }

    moved_ahead : Ahead moved
    moved_ahead =
        record {
          unbegun_ahead = k.ahead.unbegun_ahead;
          standing_ahead = λ a v r y. at_set (λ (y : Worker). position_of y.state ≡ Some r → r.task ≡ parent b a → r.next ≤ a → is_unspawned (task b a) ≡ true) b.workers w x no_worker here v
              (λ e f g l.
              let is = stands_at r f in
              k.ahead.standing_ahead a w p y m.from (sym m.same_task ∙ sym (ap (λ (z : Position). z.task) is) ∙ g) (omega (arith, m.onward, ap (λ (z : Position). z.next) is)))
              (λ ne. k.ahead.standing_ahead a v r y);
          stopped_ahead = k.ahead.stopped_ahead;
        }

    pub moved_burdens : sum_by burden moved.workers + burden (worker b w) ≡ sum_by burden b.workers + burden x
    moved_burdens = sum_by-set burden b.workers w x no_worker here

    pub moved_kept : Kept moved
    moved_kept =
        record {
          shaped = moved_shaped;
          placed = moved_placed;
          positioned = moved_positioned;
          counted = record { lives_match = k.counted.lives_match };
          waited = moved_waited;
          ahead = moved_ahead;
          ending = record { first_begun = k.ending.first_begun; first_ended = k.ending.first_ended };
        }
