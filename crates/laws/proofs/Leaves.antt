-- A worker that leaves its task: what holds of the board is kept. Assumes nothing.
use Rattle.std.proofs.Common.{◌≡◌, ℕ, ◌+◌, ◌<◌, ◌≤◌, Bool, true, false, not, ◌&&◌, eqb, ◌≢◌, length, Some, sum_by, sym, refl, ap, ◌∙◌, subst, arith, length-set}
use Rattle.std.proofs.lemmas.List.Sums.{sum_by-set}
use Rattle.std.proofs.lemmas.Bool.{both_ways, eq-eqb, ne_eqb}
use Rattle.job.specs.Rows.{row, is_async}
use Rattle.rules.specs.declared.state.Position.{Position}
use Rattle.rules.specs.declared.state.TaskState.{TaskState}
use Rattle.rules.specs.declared.state.TaskState.TheVariants.{Unspawned, Running}
use Rattle.rules.specs.declared.state.WorkerState.{WorkerState}
use Rattle.rules.specs.declared.state.WorkerState.TheVariants.{Idle, Out}
use Rattle.rules.specs.Words.{finish_of, within}
use Rattle.rules.specs.Boards.{Worker, no_worker, Board, worker, task, with_worker, with_task, task_of}
use Rattle.rules.specs.Loads.{lawful_workers}
use Rattle.rules.specs.Sound.{one, has, times, is_unspawned, is_unbegun, is_fresh, is_preempted, is_running, is_ended, is_begun, is_live, is_before_work, position_of, stopped, burden, is_live_task, live_in, spawned, keeper, parent, LawfulPosition, Shaped, Placed, Positioned, Counted, Waited, Ahead, Ending, Kept}
use Rattle.laws.proofs.Changes.{at_set, task_here, task_of_position, stands_here, runs}
use Rattle.laws.proofs.States.{running_is, begun_live}
use Rattle.laws.proofs.Sums.{sum-set_same, sum_below_same}

module _ (b : Board) (k : Kept b) (w : ℕ) (x : Worker) (p : Position) (s : TaskState) where
  -- worker w, which stood at p, is idle, as x says, and s has become of its task
  pub record Leaves : Type 0 where
    pub from : position_of (worker b w).state ≡ Some p
    pub idle : x.state ≡ Idle
    pub same_spawns : x.spawns ≡ (worker b w).spawns
    pub fresh_same : (a : ℕ) → times a x.fresh ≡ times a (worker b w).fresh
    pub preempted_more : (a : ℕ) → times a x.preempted ≡ times a (worker b w).preempted + one (eqb a p.task && is_preempted s)
    pub not_fresh : is_fresh s ≡ false
    pub not_running : is_running s ≡ false
    pub not_unspawned : is_unspawned s ≡ false
    pub stops : (r : Position) → stopped b.rows p.task s ≡ Some r → r ≡ p
    pub keeps : (a : ℕ) → is_live_task b a ≡ true → keeper b a ≡ p.task → is_begun s ≡ true
    pub unbegun : is_unbegun s ≡ false

  abbrev left : Board
  left = with_task (with_worker b w x) p.task s

  module _ (m : Leaves) where
    here : w < length b.workers
    here = stands_here b w p m.from

    has-task : task_of (worker b w).state ≡ Some p.task
    has-task = task_of_position (worker b w).state p m.from

    pub ran : task b p.task ≡ Running
    ran = running_is (task b p.task) (runs b k.placed p.task w here has-task)

    task-placed : p.task < length b.tasks
    task-placed = task_here b p.task (λ e. both_ways (is_running (task b p.task)) (ap is_running e) (ap is_running ran))

    -- the state of each task after it
    pub at_task : (P : ℕ → TaskState → Type 0) → P p.task s → ((a : ℕ) → a ≢ p.task → P a (task b a)) → (a : ℕ) → P a (task left a)
    at_task P new old a =
        at_set (P a) b.tasks p.task s Unspawned task-placed a
        (λ e. subst (λ j. P j s) (sym e) new)
        (λ ne. old a ne)

    -- worker w is idle, and every other does what it did
    at_worker : (P : WorkerState → Type 0) (u : ℕ) → P Idle → (u ≢ w → P (worker b u).state) → P (worker left u).state
    at_worker P u new old =
        at_set (λ (y : Worker). P y.state) b.workers w x no_worker here u
        (λ e. subst P (sym m.idle) new)
        old

    pub live_back : (a : ℕ) → is_live_task left a ≡ true → is_live_task b a ≡ true
    live_back =
        at_task (λ a z. (is_async (row b.rows a) && is_live z) ≡ true → is_live_task b a ≡ true)
        (λ y. let async : is_async (row b.rows p.task) ≡ true = first _ _ y in ap (λ z. is_async (row b.rows p.task) && is_live z) ran ∙ ap (λ z. z && true) async)
        (λ a ne y. y)
      where
        first : (i j : Bool) → (i && j) ≡ true → i ≡ true
        first true j e = refl
        first false j e = absurd (both_ways false refl e)

    spawned_same : (a : ℕ) → is_unspawned (task left a) ≡ is_unspawned (task b a)
    spawned_same = at_task (λ a z. is_unspawned z ≡ is_unspawned (task b a)) (m.not_unspawned ∙ sym (ap is_unspawned ran)) (λ a ne. refl)

    pub left-shaped : Shaped left
    left-shaped =
        record {
          lawful = k.shaped.lawful;
          crew = ap lawful_workers (length-set b.workers w x) ∙ k.shaped.crew;
          figured = k.shaped.figured;
          tasks_sized = length-set b.tasks p.task s ∙ k.shaped.tasks_sized;
          lives_sized = k.shaped.lives_sized;
          counters = λ u l. at_set (λ (y : Worker). y.spawns < b.figures.interval) b.workers w x no_worker here u
              (λ e. subst (λ n. n < b.figures.interval) (sym m.same_spawns) (k.shaped.counters w here))
              (λ ne. k.shaped.counters u (omega (arith, length-set b.workers w x)));
        }

    preempted-sum : (a : ℕ) → sum_by (λ (y : Worker). times a y.preempted) left.workers ≡ one (is_preempted (task b a)) + one (eqb a p.task && is_preempted s)
    preempted-sum a =
        let change = sum_by-set (λ (y : Worker). times a y.preempted) b.workers w x no_worker here in
        omega (arith, k.placed.preempted_once a, m.preempted_more a)

    holder_sum : (a : ℕ) → sum_by (λ (y : Worker). one (has a (task_of y.state))) left.workers + one (eqb a p.task) ≡ one (is_running (task b a))
    holder_sum a =
        let change = sum_by-set (λ (y : Worker). one (has a (task_of y.state))) b.workers w x no_worker here in
        let idle : one (has a (task_of x.state)) ≡ 0 = ap (λ z. one (has a (task_of z))) m.idle in
        let busy : one (has a (task_of (worker b w).state)) ≡ one (eqb a p.task) = ap (λ o. one (has a o)) has-task in
        omega (arith, k.placed.running_once a)

    pub left-placed : Placed left
    left-placed =
        record {
          fresh_once = λ a.
              sum-set_same (λ (y : Worker). times a y.fresh) b.workers w x no_worker (λ l. m.fresh_same a)
              ∙ k.placed.fresh_once a
              ∙ at_task (λ c z. one (is_fresh (task b c)) ≡ one (is_fresh z)) (ap (λ z. one (is_fresh z)) ran ∙ sym (ap one m.not_fresh)) (λ c ne. refl) a;
          preempted_once = λ a.
              preempted-sum a
              ∙ at_task (λ c z. one (is_preempted (task b c)) + one (eqb c p.task && is_preempted s) ≡ one (is_preempted z))
              (let off : one (is_preempted (task b p.task)) ≡ 0 = ap (λ z. one (is_preempted z)) ran in
              let on : one (eqb p.task p.task && is_preempted s) ≡ one (is_preempted s) = ap (λ z. one (z && is_preempted s)) (eq-eqb p.task p.task refl) in
              omega arith)
              (λ c ne. let off : one (eqb c p.task && is_preempted s) ≡ 0 = ap (λ z. one (z && is_preempted s)) (ne_eqb c p.task ne) in omega arith)
              a;
          running_once = λ a. at_task (λ c z. (n : ℕ) → n + one (eqb c p.task) ≡ one (is_running (task b c)) → n ≡ one (is_running z))
              (λ n e.
              let on : one (is_running (task b p.task)) ≡ 1 = ap (λ z. one (is_running z)) ran in
              let off : one (is_running s) ≡ 0 = ap one m.not_running in
              let own : one (eqb p.task p.task) ≡ 1 = ap one (eq-eqb p.task p.task refl) in
              omega arith)
              (λ c ne n e. let off : one (eqb c p.task) ≡ 0 = ap one (ne_eqb c p.task ne) in omega arith)
              a _ (holder_sum a);
          only_tasks = λ a n. k.placed.only_tasks a (sym (spawned_same a) ∙ n);
        }

    no_position : {Q : Type 0} (r : Position) → position_of Idle ≡ Some r → Q
    no_position r e = let z : ◌≡◌ {A = ℕ} 0 1 = cc in absurd (omega arith)

    pub left-positioned : Positioned left
    left-positioned =
        record {
          workers_stand = λ u r. at_worker (λ z. position_of z ≡ Some r → LawfulPosition b.rows r) u (no_position r) (λ ne. k.positioned.workers_stand u r);
          outs_work = λ u r. at_worker (λ z. z ≡ Out r → is_before_work b.rows r ≡ true) u
              (λ e. let z : ◌≡◌ {A = ℕ} 0 1 = cc in absurd (omega arith))
              (λ ne. k.positioned.outs_work u r);
          tasks_stop = λ a r. at_task (λ c z. stopped b.rows c z ≡ Some r → LawfulPosition b.rows r)
              (λ e. subst (LawfulPosition b.rows) (sym (m.stops r e)) (k.positioned.workers_stand w p m.from))
              (λ c ne. k.positioned.tasks_stop c r)
              a;
        }

    pub left-waited : Waited left
    left-waited =
        record {
          keeper_begun = λ a y. at_task (λ c z. keeper b a ≡ c → is_begun (task b c) ≡ true → is_begun z ≡ true)
              (λ e z. m.keeps a (live_back a y) e)
              (λ c ne e z. z)
              (keeper b a) refl (k.waited.keeper_begun a (live_back a y));
          keeper_stands = λ a u r y. at_worker (λ z. position_of z ≡ Some r → r.task ≡ keeper b a → within b.rows r.inner (finish_of b.rows a) ≡ true) u
              (no_position r)
              (λ ne. k.waited.keeper_stands a u r (live_back a y));
          keeper_stopped = λ a r y. at_task (λ c z. keeper b a ≡ c → (stopped b.rows c (task b c) ≡ Some r → within b.rows r.inner (finish_of b.rows a) ≡ true) → stopped b.rows c z ≡ Some r → within b.rows r.inner (finish_of b.rows a) ≡ true)
              (λ own old e.
              let is = m.stops r e in
              k.waited.keeper_stands a w r (live_back a y) (m.from ∙ ap Some (sym is)) (ap (λ (z : Position). z.task) is ∙ sym own))
              (λ c ne own old. old)
              (keeper b a) refl
              (k.waited.keeper_stopped a r (live_back a y));
        }

    pub left-ahead : Ahead left
    left-ahead =
        record {
          unbegun_ahead = λ a y. at_task (λ c z. (is_unbegun (task b c) ≡ true → is_unspawned (task b a) ≡ true) → is_unbegun z ≡ true → is_unspawned (task left a) ≡ true)
              (λ old z. absurd (both_ways (is_unbegun s) m.unbegun z))
              (λ c ne old z. spawned_same a ∙ old z)
              (parent b a)
              (k.ahead.unbegun_ahead a y);
          standing_ahead = λ a u r y. at_worker (λ z. position_of z ≡ Some r → r.task ≡ parent b a → r.next ≤ a → is_unspawned (task left a) ≡ true) u
              (no_position r)
              (λ ne e f l. spawned_same a ∙ k.ahead.standing_ahead a u r y e f l);
          stopped_ahead = λ a r y. at_task (λ c z. parent b a ≡ c → (stopped b.rows c (task b c) ≡ Some r → r.next ≤ a → is_unspawned (task b a) ≡ true) → stopped b.rows c z ≡ Some r → r.next ≤ a → is_unspawned (task left a) ≡ true)
              (λ own old e l.
              let is = m.stops r e in
              spawned_same a ∙ k.ahead.standing_ahead a w r y (m.from ∙ ap Some (sym is)) (ap (λ (z : Position). z.task) is ∙ sym own) l)
              (λ c ne own old e l. spawned_same a ∙ old e l)
              (parent b a) refl
              (k.ahead.stopped_ahead a r y);
        }

    pub left-spawned : spawned left ≡ spawned b
    left-spawned =
        sum_below_same _ _ (length b.rows) (λ a h. ap (λ z. one (is_async (row b.rows a) && not z)) (spawned_same a))

    pub left_burdens : sum_by burden left.workers + burden (worker b w) ≡ sum_by burden b.workers + burden x
    left_burdens = sum_by-set burden b.workers w x no_worker here

    -- a task that was left to wait
    module _ (begun : is_begun s ≡ true) where
      live_same : (a : ℕ) → is_live (task left a) ≡ is_live (task b a)
      live_same = at_task (λ a z. is_live z ≡ is_live (task b a)) (begun_live s begun ∙ sym (ap is_live ran)) (λ a ne. refl)

      left-counted : Counted left
      left-counted =
          record {
            lives_match = λ f l. k.counted.lives_match f l ∙ sum_below_same (λ a. one (live_in b f a)) (λ a. one (live_in left f a)) (length b.rows)
                (λ a h. ap (λ z. one ((is_async (row b.rows a) && z) && eqb f (finish_of b.rows a))) (sym (live_same a)));
          }

      left-ending : Ending left
      left-ending =
          record {
            first_begun = λ n. at_task (λ c z. is_begun (task b c) ≡ true → is_begun z ≡ true) (λ z. begun) (λ c ne z. z) 0 (k.ending.first_begun n);
            first_ended = λ y. at_task (λ c z. is_ended (task b c) ≡ true → is_ended z ≡ true)
                (λ z. absurd (both_ways (is_ended (task b p.task)) (ap is_ended ran) z))
                (λ c ne z. z)
                0
                (k.ending.first_ended y);
          }

      pub left-kept : Kept left
      left-kept =
          record {
            shaped = left-shaped;
            placed = left-placed;
            positioned = left-positioned;
            counted = left-counted;
            waited = left-waited;
            ahead = left-ahead;
            ending = left-ending;
          }
