-- An idle worker that takes up a task: what holds of the board is kept. Assumes nothing.
use Rattle.std.proofs.Common.{◌≡◌, ℕ, ◌+◌, ◌<◌, ◌≤◌, Bool, true, false, not, ◌&&◌, eqb, ◌≢◌, length, Some, sum_by, sym, refl, ap, ◌∙◌, subst, ⊎_elim, arith, length-set}
use Rattle.std.proofs.lemmas.List.Sums.{sum_by-set}
use Rattle.std.proofs.lemmas.Bool.{both_ways, eq-eqb, ne_eqb}
use Rattle.job.specs.Rows.{row, is_async}
use Rattle.rules.specs.declared.state.Position.{Position}
use Rattle.rules.specs.declared.state.TaskState.{TaskState}
use Rattle.rules.specs.declared.state.TaskState.TheVariants.{Unspawned, Running}
use Rattle.rules.specs.declared.state.WorkerState.{WorkerState}
use Rattle.rules.specs.declared.state.WorkerState.TheVariants.{Idle, Stands, Out}
use Rattle.rules.specs.Words.{finish_of, within}
use Rattle.rules.specs.Boards.{Worker, no_worker, Board, worker, task, to_state, with_worker, task_of, resumes, takes_up}
use Rattle.rules.specs.Loads.{lawful_workers}
use Rattle.rules.specs.Sound.{one, has, times, is_unspawned, is_unbegun, is_fresh, is_preempted, is_running, is_ended, is_begun, is_live, is_before_work, position_of, stopped, burden, is_live_task, live_in, spawned, keeper, parent, LawfulPosition, Shaped, Placed, Positioned, Counted, Waited, Ahead, Ending, Kept}
use Rattle.laws.proofs.Changes.{at_set, task_here}
use Rattle.laws.proofs.Positions.{begins-lawful}
use Rattle.laws.proofs.States.{resumes-task, waiting_cases, live-spawned, live_unended}
use Rattle.laws.proofs.Sums.{sum-set_same, sum_below_same}

module _ (b : Board) (k : Kept b) (v : ℕ) (x : Worker) (w t : ℕ) where
  -- worker v, as x says, no longer has the task t in a queue, and worker w is idle
  pub record Takes : Type 0 where
    pub taker_here : w < length b.workers
    pub taker_idle : (worker b w).state ≡ Idle
    pub giver_here : v < length b.workers
    pub same_state : x.state ≡ (worker b v).state
    pub same_spawns : x.spawns ≡ (worker b v).spawns
    pub fresh_less : (a : ℕ) → times a (worker b v).fresh ≡ times a x.fresh + one (eqb a t && is_fresh (task b t))
    pub preempted_less : (a : ℕ) → times a (worker b v).preempted ≡ times a x.preempted + one (eqb a t && is_preempted (task b t))
    pub waiting : is_live (task b t) ≡ true
    pub unheld : is_running (task b t) ≡ false

  abbrev given : Board
  given = with_worker b v x

  abbrev place : Position
  place = resumes b.rows t (task b t)

  abbrev taken : Board
  taken = takes_up given w t

  module _ (m : Takes) where
    long : length given.workers ≡ length b.workers
    long = length-set b.workers v x

    taker_given : w < length given.workers
    taker_given = omega (arith, long, m.taker_here)

    -- nobody's state changes by the giving
    state_given : (u : ℕ) → (worker given u).state ≡ (worker b u).state
    state_given u =
        at_set (λ (y : Worker). y.state ≡ (worker b u).state) b.workers v x no_worker m.giver_here u
        (λ e. m.same_state ∙ ap (λ j. (worker b j).state) (sym e))
        (λ ne. refl)

    spawns_given : (u : ℕ) → (worker given u).spawns ≡ (worker b u).spawns
    spawns_given u =
        at_set (λ (y : Worker). y.spawns ≡ (worker b u).spawns) b.workers v x no_worker m.giver_here u
        (λ e. m.same_spawns ∙ ap (λ j. (worker b j).spawns) (sym e))
        (λ ne. refl)

    task-placed : t < length b.tasks
    task-placed = task_here b t (λ e. both_ways (is_live (task b t)) (ap is_live e) m.waiting)

    task_known : t < length b.rows
    task_known = omega (arith, k.shaped.tasks_sized, task-placed)

    -- the state of each task after it
    at_task : (P : ℕ → TaskState → Type 0) → P t Running → ((a : ℕ) → a ≢ t → P a (task b a)) → (a : ℕ) → P a (task taken a)
    at_task P here there a =
        at_set (P a) b.tasks t Running Unspawned task-placed a
        (λ e. subst (λ j. P j Running) (sym e) here)
        (λ ne. there a ne)

    live_same : (a : ℕ) → is_live (task taken a) ≡ is_live (task b a)
    live_same = at_task (λ a s. is_live s ≡ is_live (task b a)) (sym m.waiting) (λ a ne. refl)

    live_back : (a : ℕ) → is_live_task taken a ≡ true → is_live_task b a ≡ true
    live_back a y = sym (ap (λ z. is_async (row b.rows a) && z) (live_same a)) ∙ y

    spawned_same : (a : ℕ) → is_unspawned (task taken a) ≡ is_unspawned (task b a)
    spawned_same = at_task (λ a s. is_unspawned s ≡ is_unspawned (task b a)) (sym (live-spawned (task b t) m.waiting)) (λ a ne. refl)

    -- where it goes on
    place-lawful : LawfulPosition b.rows place
    place-lawful =
        ⊎_elim
        (λ fresh. subst (λ s. LawfulPosition b.rows (resumes b.rows t s)) (sym fresh) (begins-lawful b.rows k.shaped.lawful t task_known (k.placed.only_tasks t (live-spawned (task b t) m.waiting))))
        (λ stop. k.positioned.tasks_stop t place stop)
        (waiting_cases b.rows t (task b t) m.waiting m.unheld)

    -- worker w stands there, and every other where it was
    at_worker : (P : WorkerState → Type 0) (u : ℕ) → P (Stands place) → (u ≢ w → P (worker b u).state) → P (worker taken u).state
    at_worker P u here there =
        at_set (λ (y : Worker). P y.state) given.workers w _ no_worker taker_given u
        (λ e. here)
        (λ ne. subst P (sym (state_given u)) (there ne))

    stands_at : (r : Position) → position_of (Stands place) ≡ Some r → place ≡ r
    stands_at r e = cc

    taken-shaped : Shaped taken
    taken-shaped =
        record {
          lawful = k.shaped.lawful;
          crew = ap lawful_workers (length-set given.workers w _ ∙ long) ∙ k.shaped.crew;
          figured = k.shaped.figured;
          tasks_sized = length-set b.tasks t Running ∙ k.shaped.tasks_sized;
          lives_sized = k.shaped.lives_sized;
          counters = λ u l. at_set (λ (y : Worker). y.spawns < b.figures.interval) given.workers w _ no_worker taker_given u
              (λ e. subst (λ n. n < b.figures.interval) (sym (spawns_given w)) (k.shaped.counters w m.taker_here))
              (λ ne. subst (λ n. n < b.figures.interval) (sym (spawns_given u)) (k.shaped.counters u (omega (arith, long, length-set given.workers w (to_state (Stands place) (worker given w))))));
        }

    fresh-sum : (a : ℕ) → sum_by (λ (y : Worker). times a y.fresh) taken.workers + one (eqb a t && is_fresh (task b t)) ≡ one (is_fresh (task b a))
    fresh-sum a =
        let second = sum-set_same (λ (y : Worker). times a y.fresh) given.workers w (to_state (Stands place) (worker given w)) no_worker (λ l. refl) in
        let first = sum_by-set (λ (y : Worker). times a y.fresh) b.workers v x no_worker m.giver_here in
        omega (arith, k.placed.fresh_once a, m.fresh_less a)

    preempted-sum : (a : ℕ) → sum_by (λ (y : Worker). times a y.preempted) taken.workers + one (eqb a t && is_preempted (task b t)) ≡ one (is_preempted (task b a))
    preempted-sum a =
        let second = sum-set_same (λ (y : Worker). times a y.preempted) given.workers w (to_state (Stands place) (worker given w)) no_worker (λ l. refl) in
        let first = sum_by-set (λ (y : Worker). times a y.preempted) b.workers v x no_worker m.giver_here in
        omega (arith, k.placed.preempted_once a, m.preempted_less a)

    holder_sum : (a : ℕ) → sum_by (λ (y : Worker). one (has a (task_of y.state))) taken.workers ≡ one (is_running (task b a)) + one (eqb a t)
    holder_sum a =
        let first = sum-set_same (λ (y : Worker). one (has a (task_of y.state))) b.workers v x no_worker (λ l. ap (λ s. one (has a (task_of s))) m.same_state) in
        let second = sum_by-set (λ (y : Worker). one (has a (task_of y.state))) given.workers w (to_state (Stands place) (worker given w)) no_worker taker_given in
        let idle : one (has a (task_of (worker given w).state)) ≡ 0 = ap (λ s. one (has a (task_of s))) (state_given w ∙ m.taker_idle) in
        let busy : one (has a (Some place.task)) ≡ one (eqb a t) = ap (λ j. one (eqb a j)) (resumes-task b.rows t (task b t)) in
        omega (arith, k.placed.running_once a)

    -- one task fewer of a sort, where the task was of that sort
    sort_less : (sort : TaskState → Bool) → sort Running ≡ false → (a n : ℕ) → n + one (eqb a t && sort (task b t)) ≡ one (sort (task b a)) → n ≡ one (sort (task taken a))
    sort_less sort none a n e =
        at_task (λ c s. (q : ℕ) → q + one (eqb c t && sort (task b t)) ≡ one (sort (task b c)) → q ≡ one (sort s))
        (λ q f.
        let same : one (eqb t t && sort (task b t)) ≡ one (sort (task b t)) = ap (λ z. one (z && sort (task b t))) (eq-eqb t t refl) in
        let zero' : one (sort Running) ≡ 0 = ap one none in
        omega arith)
        (λ c ne q f.
        let no' : one (eqb c t && sort (task b t)) ≡ 0 = ap (λ z. one (z && sort (task b t))) (ne_eqb c t ne) in
        omega arith)
        a n e

    taken-placed : Placed taken
    taken-placed =
        record {
          fresh_once = λ a. sort_less is_fresh refl a _ (fresh-sum a);
          preempted_once = λ a. sort_less is_preempted refl a _ (preempted-sum a);
          running_once = λ a. holder_sum a ∙ at_task (λ c s. one (is_running (task b c)) + one (eqb c t) ≡ one (is_running s))
              (let off : one (is_running (task b t)) ≡ 0 = ap one m.unheld in let on : one (eqb t t) ≡ 1 = ap one (eq-eqb t t refl) in omega arith)
              (λ c ne. let off : one (eqb c t) ≡ 0 = ap one (ne_eqb c t ne) in omega arith)
              a;
          only_tasks = λ a n. k.placed.only_tasks a (sym (spawned_same a) ∙ n);
        }

    taken-positioned : Positioned taken
    taken-positioned =
        record {
          workers_stand = λ u r. at_worker (λ s. position_of s ≡ Some r → LawfulPosition b.rows r) u
              (λ e. subst (LawfulPosition b.rows) (stands_at r e) place-lawful)
              (λ ne. k.positioned.workers_stand u r);
          outs_work = λ u r. at_worker (λ s. s ≡ Out r → is_before_work b.rows r ≡ true) u
              (λ e. let z : ◌≡◌ {A = ℕ} 0 1 = cc in absurd (omega arith))
              (λ ne. k.positioned.outs_work u r);
          tasks_stop = λ a r. at_task (λ c s. stopped b.rows c s ≡ Some r → LawfulPosition b.rows r)
              (λ e. let z : ◌≡◌ {A = ℕ} 0 1 = cc in absurd (omega arith))
              (λ c ne. k.positioned.tasks_stop c r)
              a;
        }

    taken-counted : Counted taken
    taken-counted =
        record {
          lives_match = λ f l. k.counted.lives_match f l ∙ sum_below_same (λ a. one (live_in b f a)) (λ a. one (live_in taken f a)) (length b.rows)
              (λ a h. ap (λ z. one ((is_async (row b.rows a) && z) && eqb f (finish_of b.rows a))) (sym (live_same a)));
        }

    -- a live row that the task keeps lies in a finish row that the task has not left
    kept-inside : (a : ℕ) → is_live_task b a ≡ true → t ≡ keeper b a → within b.rows place.inner (finish_of b.rows a) ≡ true
    kept-inside a y e =
        ⊎_elim
        (λ fresh. absurd (both_ways (is_begun (task b (keeper b a))) (ap (λ j. is_begun (task b j)) (sym e) ∙ ap is_begun fresh) (k.waited.keeper_begun a y)))
        (λ stop. k.waited.keeper_stopped a place y (ap (λ j. stopped b.rows j (task b j)) (sym e) ∙ stop))
        (waiting_cases b.rows t (task b t) m.waiting m.unheld)

    taken-waited : Waited taken
    taken-waited =
        record {
          keeper_begun = λ a y. at_task (λ c s. is_begun (task b c) ≡ true → is_begun s ≡ true) (λ z. refl) (λ c ne z. z) (keeper b a) (k.waited.keeper_begun a (live_back a y));
          keeper_stands = λ a u r y. at_worker (λ s. position_of s ≡ Some r → r.task ≡ keeper b a → within b.rows r.inner (finish_of b.rows a) ≡ true) u
              (λ e f.
              let is = stands_at r e in
              subst (λ (z : Position). within b.rows z.inner (finish_of b.rows a) ≡ true) is
              (kept-inside a (live_back a y) (sym (resumes-task b.rows t (task b t)) ∙ ap (λ (z : Position). z.task) is ∙ f)))
              (λ ne. k.waited.keeper_stands a u r (live_back a y));
          keeper_stopped = λ a r y. at_task (λ c s. (stopped b.rows c (task b c) ≡ Some r → within b.rows r.inner (finish_of b.rows a) ≡ true) → stopped b.rows c s ≡ Some r → within b.rows r.inner (finish_of b.rows a) ≡ true)
              (λ old e. let z : ◌≡◌ {A = ℕ} 0 1 = cc in absurd (omega arith))
              (λ c ne old. old)
              (keeper b a)
              (k.waited.keeper_stopped a r (live_back a y));
        }

    -- the rows that the task has still to come to
    still_ahead : (a : ℕ) → is_async (row b.rows a) ≡ true → t ≡ parent b a → place.next ≤ a → is_unspawned (task b a) ≡ true
    still_ahead a y e l =
        ⊎_elim
        (λ fresh. k.ahead.unbegun_ahead a y (ap (λ j. is_unbegun (task b j)) (sym e) ∙ ap is_unbegun fresh))
        (λ stop. k.ahead.stopped_ahead a place y (ap (λ j. stopped b.rows j (task b j)) (sym e) ∙ stop) l)
        (waiting_cases b.rows t (task b t) m.waiting m.unheld)

    taken-ahead : Ahead taken
    taken-ahead =
        record {
          unbegun_ahead = λ a y. at_task (λ c s. (is_unbegun (task b c) ≡ true → is_unspawned (task b a) ≡ true) → is_unbegun s ≡ true → is_unspawned (task taken a) ≡ true)
              (λ old z. absurd (both_ways false refl z))
              (λ c ne old z. spawned_same a ∙ old z)
              (parent b a)
              (k.ahead.unbegun_ahead a y);
          standing_ahead = λ a u r y. at_worker (λ s. position_of s ≡ Some r → r.task ≡ parent b a → r.next ≤ a → is_unspawned (task taken a) ≡ true) u
              (λ e f l.
              let is = stands_at r e in
              spawned_same a ∙ still_ahead a y (sym (resumes-task b.rows t (task b t)) ∙ ap (λ (z : Position). z.task) is ∙ f) (subst (λ (z : Position). z.next ≤ a) (sym is) l))
              (λ ne e f l. spawned_same a ∙ k.ahead.standing_ahead a u r y e f l);
          stopped_ahead = λ a r y. at_task (λ c s. (stopped b.rows c (task b c) ≡ Some r → r.next ≤ a → is_unspawned (task b a) ≡ true) → stopped b.rows c s ≡ Some r → r.next ≤ a → is_unspawned (task taken a) ≡ true)
              (λ old e. let z : ◌≡◌ {A = ℕ} 0 1 = cc in absurd (omega arith))
              (λ c ne old e l. spawned_same a ∙ old e l)
              (parent b a)
              (k.ahead.stopped_ahead a r y);
        }

    taken-ending : Ending taken
    taken-ending =
        record {
          first_begun = λ n. at_task (λ c s. is_begun (task b c) ≡ true → is_begun s ≡ true) (λ z. refl) (λ c ne z. z) 0 (k.ending.first_begun n);
          first_ended = λ y. at_task (λ c s. is_ended (task b c) ≡ true → is_ended s ≡ true)
              (λ z. absurd (both_ways (is_ended (task b t)) (live_unended (task b t) m.waiting) z))
              (λ c ne z. z)
              0
              (k.ending.first_ended y);
        }

    pub taken-kept : Kept taken
    taken-kept =
        record {
          shaped = taken-shaped;
          placed = taken-placed;
          positioned = taken-positioned;
          counted = taken-counted;
          waited = taken-waited;
          ahead = taken-ahead;
          ending = taken-ending;
        }

    pub taken-spawned : spawned taken ≡ spawned b
    taken-spawned =
        sum_below_same _ _ (length b.rows) (λ a h. ap (λ z. one (is_async (row b.rows a) && not z)) (spawned_same a))

    pub taken_burdens : sum_by burden taken.workers + burden (worker b v) ≡ sum_by burden b.workers + burden x
    taken_burdens =
        let second = sum-set_same burden given.workers w (to_state (Stands place) (worker given w)) no_worker (λ l. refl) in
        let first = sum_by-set burden b.workers v x no_worker m.giver_here in
        omega arith
