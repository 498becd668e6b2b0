-- A task that ends, and a run that ends: what holds of the board is kept. Assumes nothing.
use Rattle.std.proofs.Common.{◌≡◌, ℕ, zero, suc, ◌+◌, ◌-◌, ◌<◌, ◌≤◌, Bool, true, false, ◌&&◌, eqb, ◌≢◌, List, [], ◌∷◌, length, get_or, set, Some, sum_by, sym, refl, ap, ◌∙◌, subst, ⊎_elim, arith, length-set}
use Rattle.std.proofs.lemmas.List.{get_or_past}
use Rattle.std.proofs.lemmas.List.Sums.{get_or-le-sum_by}
use Rattle.std.proofs.lemmas.Bool.{cases_lt, cases_Bool, both_ways, and_from, and_parts, or_cases, eq-eqb, ne_eqb, eqb-true}
use Rattle.job.specs.declared.row.Row.{Row}
use Rattle.job.specs.Rows.{row, is_async, is_task}
use Rattle.job.specs.Lawful.{Lawful}
use Rattle.rules.specs.declared.state.Position.{Position}
use Rattle.rules.specs.declared.state.TaskState.{TaskState}
use Rattle.rules.specs.declared.state.TaskState.TheVariants.{Unspawned, Fresh, Preempted, Running, Suspended, Ended}
use Rattle.rules.specs.declared.state.WorkerState.TheVariants.{Idle}
use Rattle.rules.specs.Words.{finish_of}
use Rattle.rules.specs.Boards.{Worker, no_worker, Board, worker, task, live, to_state, with_live, leaves}
use Rattle.rules.specs.Closing.{ends_run}
use Rattle.rules.specs.Sound.{one, times, is_fresh, is_preempted, is_ended, is_begun, is_live, position_of, stopped, burden, is_live_task, live_in, live_number, spawned, keeper, LawfulPosition, Kept}
use Rattle.laws.proofs.Changes.{at_set}
use Rattle.laws.proofs.Leaves.{Leaves, ran, left-shaped, left-placed, left-positioned, left-waited, left-ahead, left-spawned, left_burdens, live_back, at_task}
use Rattle.laws.proofs.Positions.{inner_task, owner-around}
use Rattle.laws.proofs.Rows.{async_here, async_later, finish_is, within_is}
use Rattle.laws.proofs.States.{begun_live, fresh-live, preempted-live, live-spawned}
use Rattle.laws.proofs.Sums.{one_of_sum, times_cons, sum_below_same, sum_below_change}

-- a live row is an async row of the job, after row 0
module _ (b : Board) (k : Kept b) (a : ℕ) (y : is_live_task b a ≡ true) where
  pub live_async : is_async (row b.rows a) ≡ true
  live_async = (and_parts (is_async (row b.rows a)) (is_live (task b a)) y).0

  pub live_later : 0 < a
  live_later = async_later b.rows k.shaped.lawful a live_async

  pub live_here : a < length b.rows
  live_here = async_here b.rows a live_async

  pub finish-before : finish_of b.rows a < a
  finish-before = (finish_is b.rows k.shaped.lawful a live_later live_here).before

  -- so its finish counts it
  pub counts : (f : ℕ) → f ≡ finish_of b.rows a → 1 ≤ live b f
  counts f e =
      let l : f < length b.rows = omega (arith, finish-before, live_here) in
      let in-it : one (live_in b f a) ≡ 1 = ap one (and_from (is_live_task b a) (eqb f (finish_of b.rows a)) y (eq-eqb f (finish_of b.rows a) e)) in
      omega (arith, k.counted.lives_match f l, one_of_sum (λ c. one (live_in b f c)) (length b.rows) a live_here)

-- nobody has a keeper that ended
no_stop : {Q : Type 0} (rows : List Row) (t : ℕ) (r : Position) → stopped rows t Ended ≡ Some r → Q
no_stop rows t r e = let z : ◌≡◌ {A = ℕ} 0 1 = cc in absurd (omega arith)

-- leaving for good
module _ (b : Board) (k : Kept b) (w : ℕ) (p : Position) (from : position_of (worker b w).state ≡ Some p) where
  abbrev idler : Worker
  idler = to_state Idle (worker b w)

  pub ends-leaves : ((a : ℕ) → is_live_task b a ≡ true → keeper b a ≡ p.task → ⊥) → Leaves b k w idler p Ended
  ends-leaves nobody =
      record {
        from = from;
        idle = refl;
        same_spawns = refl;
        fresh_same = λ a. refl;
        preempted_more = λ a. (omega (arith, none a));
        not_fresh = refl;
        not_running = refl;
        not_unspawned = refl;
        stops = λ r. no_stop b.rows p.task r;
        keeps = λ a y e. absurd (nobody a y e);
        unbegun = refl;
      }
    where
      none : (a : ℕ) → one (eqb a p.task && false) ≡ 0
      none a = ap one (never (eqb a p.task))
        where
          never : (t : Bool) → (t && false) ≡ false
          never true = refl
          never false = refl

  at : LawfulPosition b.rows p
  at = k.positioned.workers_stand w p from

  law : Lawful b.rows
  law = k.shaped.lawful

  -- at the end of an async row
  module _ (own : p.inner ≡ p.task) (async : is_async (row b.rows p.task) ≡ true) where
    pub task_later : 0 < p.task
    task_later = async_later b.rows law p.task async

    keeps_nobody : (a : ℕ) → is_live_task b a ≡ true → keeper b a ≡ p.task → ⊥
    keeps_nobody a y e =
        let g = finish_of b.rows a in
        let here : g < length b.rows = omega (arith, finish-before b k a y, live_here b k a y) in
        let inside = k.waited.keeper_stands a w p y from (sym e) in
        let around = owner-around b.rows law g here (omega (arith, e, task_later)) in
        ⊎_elim (λ same. omega (arith, own, e, around.0)) (λ enc. omega (arith, own, e, around.0, enc.0)) (within_is b.rows law p.inner g inside)

    leave : Leaves b k w idler p Ended
    leave = ends-leaves keeps_nobody

    f : ℕ
    f = finish_of b.rows p.task

    abbrev pub ended-task : Board
    ended-task = with_live (leaves b w p.task Ended) (finish_of b.rows p.task) (live b (finish_of b.rows p.task) - 1)

    here : p.task < length b.rows
    here = at.task_here

    was_live : is_live_task b p.task ≡ true
    was_live = and_from (is_async (row b.rows p.task)) (is_live (task b p.task)) async (ap is_live (ran b k w idler p Ended leave))

    pub some-live : 1 ≤ live b (finish_of b.rows p.task)
    some-live = counts b k p.task was_live (finish_of b.rows p.task) refl

    finish-here : finish_of b.rows p.task < length b.rows
    finish-here = omega (arith, finish-before b k p.task was_live, here)

    -- one row fewer is live, of this finish
    fewer : (g : ℕ) → live_number (leaves b w p.task Ended) g + one (eqb g (finish_of b.rows p.task)) ≡ live_number b g
    fewer g =
        let left = leaves b w p.task Ended in
        let change = sum_below_change (λ a. one (live_in b g a)) (λ a. one (live_in left g a)) (length b.rows) p.task here
        (λ a ne. at_task b k w idler p Ended leave (λ c s. c ≢ p.task → one (live_in b g c) ≡ one ((is_async (row b.rows c) && is_live s) && eqb g (finish_of b.rows c)))
        (λ wrong. absurd (wrong refl)) (λ c other same. refl) a ne) in
        let new : one (live_in left g p.task) ≡ 0 = at_task b k w idler p Ended leave (λ c s. c ≡ p.task → one ((is_async (row b.rows c) && is_live s) && eqb g (finish_of b.rows c)) ≡ 0)
        (λ e. ap (λ z. one ((z && false) && eqb g (finish_of b.rows p.task))) async) (λ c ne e. absurd (ne e)) p.task refl in
        let old : one (live_in b g p.task) ≡ one (eqb g (finish_of b.rows p.task)) = ap (λ z. one (z && eqb g (finish_of b.rows p.task))) was_live in
        omega arith

    pub ended-kept : Kept ended-task
    ended-kept =
        let left = leaves b w p.task Ended in
        let shaped = left-shaped b k w idler p Ended leave in
        let placed = left-placed b k w idler p Ended leave in
        let positioned = left-positioned b k w idler p Ended leave in
        let waited = left-waited b k w idler p Ended leave in
        let ahead = left-ahead b k w idler p Ended leave in
        record {
          shaped = record {
            lawful = shaped.lawful;
            crew = shaped.crew;
            figured = shaped.figured;
            tasks_sized = shaped.tasks_sized;
            lives_sized = length-set b.lives _ _ ∙ shaped.lives_sized;
            counters = shaped.counters;
          };
          placed = record { fresh_once = placed.fresh_once; preempted_once = placed.preempted_once; running_once = placed.running_once; only_tasks = placed.only_tasks };
          positioned = record { workers_stand = positioned.workers_stand; outs_work = positioned.outs_work; tasks_stop = positioned.tasks_stop };
          counted = record {
            lives_match = λ g l. at_set (λ n. n ≡ live_number left g) b.lives (finish_of b.rows p.task) (live b (finish_of b.rows p.task) - 1) 0 (omega (arith, k.shaped.lives_sized, finish-here)) g
                (λ e.
                let own : one (eqb g (finish_of b.rows p.task)) ≡ 1 = ap one (eq-eqb g (finish_of b.rows p.task) e) in
                let same : live b (finish_of b.rows p.task) ≡ live b g = ap (live b) (sym e) in
                omega (arith, fewer g, k.counted.lives_match g l))
                (λ ne.
                let other : one (eqb g (finish_of b.rows p.task)) ≡ 0 = ap one (ne_eqb g (finish_of b.rows p.task) ne) in
                omega (arith, fewer g, k.counted.lives_match g l));
          };
          waited = record { keeper_begun = waited.keeper_begun; keeper_stands = waited.keeper_stands; keeper_stopped = waited.keeper_stopped };
          ahead = record { unbegun_ahead = ahead.unbegun_ahead; standing_ahead = ahead.standing_ahead; stopped_ahead = ahead.stopped_ahead };
          ending = record {
            first_begun = λ n. at_task b k w idler p Ended leave (λ c s. c ≡ 0 → is_begun (task b c) ≡ true → is_begun s ≡ true)
                (λ e. absurd (omega (arith, task_later)))
                (λ c ne e z. z)
                0 refl (k.ending.first_begun n);
            first_ended = λ y. at_task b k w idler p Ended leave (λ c s. is_ended (task b c) ≡ true → is_ended s ≡ true) (λ z. refl) (λ c ne z. z) 0 (k.ending.first_ended y);
          };
        }

    pub ended_burdens : sum_by burden ended-task.workers ≡ sum_by burden b.workers
    ended_burdens = omega (arith, left_burdens b k w idler p Ended leave)

    pub ended-spawned : spawned ended-task ≡ spawned b
    ended-spawned = left-spawned b k w idler p Ended leave

    pub ended_ran : task b p.task ≡ Running
    ended_ran = ran b k w idler p Ended leave

  -- at the end of row 0, with nobody live in it
  module _ (first : p.inner ≡ 0) (none : live b 0 ≡ 0) where
    pub first-task : p.task ≡ 0
    first-task = sym (inner_task b.rows law p at (subst (λ j. is_task b.rows j ≡ true) (sym first) refl)) ∙ first

    first-keeps_nobody : (a : ℕ) → is_live_task b a ≡ true → keeper b a ≡ p.task → ⊥
    first-keeps_nobody a y e =
        let inside = k.waited.keeper_stands a w p y from (sym e) in
        ⊎_elim
        (λ same. omega (arith, counts b k a y 0 (sym first ∙ same), none))
        (λ enc. omega (arith, enc.0, first))
        (within_is b.rows law p.inner (finish_of b.rows a) inside)

    -- then nobody is live at all: the keeper of a live row is live, and comes before it
    nobody_below : (n a : ℕ) → a < n → is_live_task b a ≡ true → ⊥
    nobody_below zero a l y = omega arith
    nobody_below (suc n) a l y =
        let begun = k.waited.keeper_begun a y in
        let live' = begun_live (task b (keeper b a)) begun in
        let a-task = k.placed.only_tasks (keeper b a) (live-spawned (task b (keeper b a)) live') in
        let g-here : finish_of b.rows a < length b.rows = omega (arith, finish-before b k a y, live_here b k a y) in
        ⊎_elim
        (λ e. first-keeps_nobody a y (eqb-true (keeper b a) 0 e ∙ sym first-task))
        (λ async.
        let later = async_later b.rows law (keeper b a) async in
        let around = owner-around b.rows law (finish_of b.rows a) g-here later in
        nobody_below n (keeper b a) (omega (arith, around.0, finish-before b k a y)) (and_from (is_async (row b.rows (keeper b a))) (is_live (task b (keeper b a))) async live'))
        (or_cases (eqb (keeper b a) 0) (is_async (row b.rows (keeper b a))) a-task)

    pub nobody_live : (a : ℕ) → is_live_task b a ≡ false
    nobody_live a = ⊎_elim (λ y. absurd (nobody_below (suc a) a (omega arith) y)) (λ n. n) (cases_Bool (is_live_task b a))

    last_leave : Leaves b k w idler p Ended
    last_leave = ends-leaves first-keeps_nobody

    -- row 0 counts nowhere
    same_number : (g : ℕ) → live_number b g ≡ live_number (leaves b w p.task Ended) g
    same_number g =
        sum_below_same (λ a. one (live_in b g a)) (λ a. one (live_in (leaves b w p.task Ended) g a)) (length b.rows)
        (λ a l. at_task b k w idler p Ended last_leave (λ c s. one (live_in b g c) ≡ one ((is_async (row b.rows c) && is_live s) && eqb g (finish_of b.rows c)))
        (let no' = not_async in ap (λ z. one ((z && is_live (task b p.task)) && eqb g (finish_of b.rows p.task))) no' ∙ sym (ap (λ z. one ((z && false) && eqb g (finish_of b.rows p.task))) no'))
        (λ c ne. refl) a)
      where
        not_async : is_async (row b.rows p.task) ≡ false
        not_async = ⊎_elim (λ y. absurd (omega (arith, async_later b.rows law p.task y, first-task))) (λ n. n) (cases_Bool (is_async (row b.rows p.task)))

    last_kept_at : (t : ℕ) → p.task ≡ t → Kept (record { rows = b.rows; workers = (leaves b w t Ended).workers; tasks = (leaves b w t Ended).tasks; lives = b.lives; figures = b.figures; finished = true })
    last_kept_at t own =
        let shaped = left-shaped b k w idler p Ended last_leave in
        let placed = left-placed b k w idler p Ended last_leave in
        let positioned = left-positioned b k w idler p Ended last_leave in
        let waited = left-waited b k w idler p Ended last_leave in
        let ahead = left-ahead b k w idler p Ended last_leave in
        subst (λ j. Kept (record { rows = b.rows; workers = (leaves b w j Ended).workers; tasks = (leaves b w j Ended).tasks; lives = b.lives; figures = b.figures; finished = true })) own
        (record {
          shaped = record {
            lawful = shaped.lawful;
            crew = shaped.crew;
            figured = shaped.figured;
            tasks_sized = shaped.tasks_sized;
            lives_sized = shaped.lives_sized;
            counters = shaped.counters;
          };
          placed = record { fresh_once = placed.fresh_once; preempted_once = placed.preempted_once; running_once = placed.running_once; only_tasks = placed.only_tasks };
          positioned = record { workers_stand = positioned.workers_stand; outs_work = positioned.outs_work; tasks_stop = positioned.tasks_stop };
          counted = record { lives_match = λ g l. k.counted.lives_match g l ∙ same_number g };
          waited = record { keeper_begun = waited.keeper_begun; keeper_stands = waited.keeper_stands; keeper_stopped = waited.keeper_stopped };
          ahead = record { unbegun_ahead = ahead.unbegun_ahead; standing_ahead = ahead.standing_ahead; stopped_ahead = ahead.stopped_ahead };
          ending = record {
            first_begun = λ n. absurd (both_ways true n refl);
            first_ended = λ y. at_task b k w idler p Ended last_leave (λ c s. c ≡ 0 → is_ended s ≡ true) (λ e. refl) (λ c ne e. absurd (ne (e ∙ sym first-task))) 0 refl;
          };
        })

    pub last_kept : Kept (ends_run b w)
    last_kept = last_kept_at 0 first-task

    pub last_burdens : sum_by burden (ends_run b w).workers ≡ sum_by burden b.workers
    last_burdens = omega (arith, left_burdens b k w idler p Ended last_leave)

    pub last_spawned : spawned (ends_run b w) ≡ spawned b
    last_spawned = subst (λ j. spawned (leaves b w j Ended) ≡ spawned b) first-task (left-spawned b k w idler p Ended last_leave)

    pub last_ran : task b 0 ≡ Running
    last_ran = ap (task b) (sym first-task) ∙ ran b k w idler p Ended last_leave

    -- and nobody is live after it
    pub last_nobody : (a : ℕ) → is_live_task (ends_run b w) a ≡ false
    last_nobody a = ⊎_elim (λ y. absurd (both_ways (is_live_task b a) (nobody_live a) (back a y))) (λ n. n) (cases_Bool (is_live_task (ends_run b w) a))
      where
        back : (c : ℕ) → is_live_task (ends_run b w) c ≡ true → is_live_task b c ≡ true
        back c y = live_back b k w idler p Ended last_leave c (subst (λ j. (is_async (row b.rows c) && is_live (get_or (set b.tasks j Ended) c Unspawned)) ≡ true) (sym first-task) y)

-- where nobody is live and row 0 does not wait in a queue, all queues are empty
no_rows : (q : List ℕ) → ((a : ℕ) → times a q ≡ 0) → length q ≡ 0
no_rows [] e = refl
no_rows (x ∷ q) e = let on : one (eqb x x) ≡ 1 = ap one (eq-eqb x x refl) in absurd (omega (arith, e x, times_cons x x q))

module _ (b : Board) (k : Kept b) (nobody : (a : ℕ) → is_live_task b a ≡ false) (first : is_ended (task b 0) ≡ true) where
  not_waiting : (a : ℕ) → is_live (task b a) ≡ true → ⊥
  not_waiting a y =
      ⊎_elim
      (λ e. ended (task b 0) first (subst (λ j. is_live (task b j) ≡ true) (eqb-true a 0 e) y))
      (λ async. both_ways (is_live_task b a) (nobody a) (and_from (is_async (row b.rows a)) (is_live (task b a)) async y))
      (or_cases (eqb a 0) (is_async (row b.rows a)) (k.placed.only_tasks a (live-spawned (task b a) y)))
    where
      ended : (s : TaskState) → is_ended s ≡ true → is_live s ≡ true → ⊥
      ended Unspawned e z = both_ways false refl e
      ended Fresh e z = both_ways false refl e
      ended (Preempted i n) e z = both_ways false refl e
      ended Running e z = both_ways false refl e
      ended (Suspended f) e z = both_ways false refl e
      ended Ended e z = both_ways false refl z

  pub queues_empty : (w : ℕ) → (length (worker b w).preempted ≡ 0) × (length (worker b w).fresh ≡ 0)
  queues_empty w =
      ⊎_elim
      (λ l. (
        no_rows (worker b w).preempted (λ a. omega (arith, get_or-le-sum_by (λ (x : Worker). times a x.preempted) b.workers w no_worker l, k.placed.preempted_once a, preempted_none a)),
        no_rows (worker b w).fresh (λ a. omega (arith, get_or-le-sum_by (λ (x : Worker). times a x.fresh) b.workers w no_worker l, k.placed.fresh_once a, fresh_none a)),
      ))
      (λ past. (ap (λ (x : Worker). length x.preempted) (get_or_past b.workers w no_worker past), ap (λ (x : Worker). length x.fresh) (get_or_past b.workers w no_worker past)))
      (cases_lt w (length b.workers))
    where
      fresh_none : (a : ℕ) → one (is_fresh (task b a)) ≡ 0
      fresh_none a = ⊎_elim (λ y. absurd (not_waiting a (fresh-live (task b a) y).0)) (λ n. ap one n) (cases_Bool (is_fresh (task b a)))

      preempted_none : (a : ℕ) → one (is_preempted (task b a)) ≡ 0
      preempted_none a = ⊎_elim (λ y. absurd (not_waiting a (preempted-live (task b a) y).0)) (λ n. ap one n) (cases_Bool (is_preempted (task b a)))
