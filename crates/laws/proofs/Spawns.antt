-- A worker that spawns an async row into its fresh queue: what holds of the board is kept. Assumes nothing.
use Rattle.std.proofs.Common.{◌≡◌, ℕ, ◌+◌, ◌<◌, ◌≤◌, true, false, not, ◌&&◌, eqb, ◌≢◌, ◌⊎◌, ◌∷◌, length, Some, None, sum_by, unwrap_or, sym, refl, ap, ◌∙◌, subst, inl, inr, ⊎_elim, arith, length-set}
use Rattle.std.proofs.lemmas.List.Sums.{sum_by-set}
use Rattle.std.proofs.lemmas.Bool.{cases_Bool, both_ways, and_from, or_right, eq-eqb, ne_eqb}
use Rattle.job.specs.Rows.{row, is_finish, is_async, is_task, end, owner}
use Rattle.job.specs.Lawful.{Lawful}
use Rattle.job.proofs.LawfulRows.{ends-after}
use Rattle.rules.specs.declared.state.Position.{Position}
use Rattle.rules.specs.declared.state.TaskState.{TaskState}
use Rattle.rules.specs.declared.state.TaskState.TheVariants.{Unspawned, Fresh, Preempted, Running, Suspended, Ended}
use Rattle.rules.specs.declared.state.WorkerState.{WorkerState}
use Rattle.rules.specs.declared.state.WorkerState.TheVariants.{Stands, Out}
use Rattle.rules.specs.Words.{finish_of, within, onto}
use Rattle.rules.specs.Boards.{Worker, no_worker, Board, worker, task, live, to_state, to_fresh, task_of}
use Rattle.rules.specs.Loads.{lawful_workers}
use Rattle.rules.specs.Placing.{raised, helps_first}
use Rattle.rules.specs.Sound.{one, has, times, is_unspawned, is_unbegun, is_fresh, is_preempted, is_running, is_ended, is_begun, is_live, is_before_work, position_of, stopped, burden, is_live_task, live_in, live_number, spawned, keeper, parent, LawfulPosition, Shaped, Placed, Positioned, Counted, Waited, Ahead, Ending, Kept}
use Rattle.laws.proofs.Changes.{at_set, task_of_position, stands_here, runs, alone}
use Rattle.laws.proofs.Endings.{live_here, live_later, finish-before}
use Rattle.laws.proofs.Positions.{inner_owner, inner_async, next_row, next_later, next_task, onto-lawful, next_finish, next_finish_beyond, owner-around}
use Rattle.laws.proofs.Rows.{finish_of-here, within_self}
use Rattle.laws.proofs.States.{running_is}
use Rattle.laws.proofs.Sums.{times_cons, sum-set_same, sum_below_change}

unspawned_is : (s : TaskState) → is_unspawned s ≡ true → s ≡ Unspawned
unspawned_is Unspawned y = refl
unspawned_is Fresh y = absurd (both_ways false refl y)
unspawned_is (Preempted i n) y = absurd (both_ways false refl y)
unspawned_is Running y = absurd (both_ways false refl y)
unspawned_is (Suspended f) y = absurd (both_ways false refl y)
unspawned_is Ended y = absurd (both_ways false refl y)

module _ (b : Board) (k : Kept b) (w : ℕ) (p : Position) where
  -- worker w stands at p, where an async row comes next
  pub record Spawns : Type 0 where
    pub from : position_of (worker b w).state ≡ Some p
    pub on : p.next ≢ end b.rows p.inner
    pub async : is_async (row b.rows p.next) ≡ true

  abbrev r : ℕ
  r = p.next

  abbrev q : Position
  q = onto (end b.rows p.next) p

  abbrev x : Worker
  x = to_fresh (r ∷ (worker b w).fresh) (to_state (Stands q) (worker b w))

  abbrev spawned-board : Board
  spawned-board = helps_first (raised b r) w q r

  module _ (m : Spawns) where
    law : Lawful b.rows
    law = k.shaped.lawful

    at : LawfulPosition b.rows p
    at = k.positioned.workers_stand w p m.from

    here : w < length b.workers
    here = stands_here b w p m.from

    r_here : r < length b.rows
    r_here = next_row b.rows law p at m.on

    r_later : 0 < r
    r_later = next_later b.rows law p at m.on

    has-task : task_of (worker b w).state ≡ Some p.task
    has-task = task_of_position (worker b w).state p m.from

    pub ran : task b p.task ≡ Running
    ran = running_is (task b p.task) (runs b k.placed p.task w here has-task)

    parent_is : p.task ≡ parent b r
    parent_is = sym (ap (λ o. unwrap_or o 0) (next_task b.rows law p at m.on))

    -- it was not spawned before
    pub was : task b r ≡ Unspawned
    was = unspawned_is (task b r) (k.ahead.standing_ahead r w p m.async m.from parent_is (omega arith))

    pub not_parent : r ≢ p.task
    not_parent e = both_ways (is_running (task b r)) (ap is_running was) (ap (λ j. is_running (task b j)) e ∙ ap is_running ran)

    r_placed : r < length b.tasks
    r_placed = omega (arith, k.shaped.tasks_sized, r_here)

    at_task : (P : ℕ → TaskState → Type 0) → P r Fresh → ((a : ℕ) → a ≢ r → P a (task b a)) → (a : ℕ) → P a (task spawned-board a)
    at_task P new old a =
        at_set (P a) b.tasks r Fresh Unspawned r_placed a
        (λ e. subst (λ j. P j Fresh) (sym e) new)
        (λ ne. old a ne)

    at_worker : (P : WorkerState → Type 0) (u : ℕ) → (u ≡ w → P (Stands q)) → (u ≢ w → P (worker b u).state) → P (worker spawned-board u).state
    at_worker P u new old = at_set (λ (y : Worker). P y.state) b.workers w x no_worker here u new old

    stands_at : (s : Position) → position_of (Stands q) ≡ Some s → q ≡ s
    stands_at s e = cc

    spawned-shaped : Shaped spawned-board
    spawned-shaped =
        record {
          lawful = law;
          crew = ap lawful_workers (length-set b.workers w x) ∙ k.shaped.crew;
          figured = k.shaped.figured;
          tasks_sized = length-set b.tasks r Fresh ∙ k.shaped.tasks_sized;
          lives_sized = length-set b.lives _ _ ∙ k.shaped.lives_sized;
          counters = λ u l. at_set (λ (y : Worker). y.spawns < b.figures.interval) b.workers w x no_worker here u
              (λ e. k.shaped.counters w here)
              (λ ne. k.shaped.counters u (omega (arith, length-set b.workers w x)));
        }

    fresh-sum : (a : ℕ) → sum_by (λ (y : Worker). times a y.fresh) spawned-board.workers ≡ one (is_fresh (task b a)) + one (eqb a r)
    fresh-sum a =
        let change = sum_by-set (λ (y : Worker). times a y.fresh) b.workers w x no_worker here in
        omega (arith, k.placed.fresh_once a, times_cons a r (worker b w).fresh)

    spawned-placed : Placed spawned-board
    spawned-placed =
        record {
          fresh_once = λ a. fresh-sum a ∙ at_task (λ c s. one (is_fresh (task b c)) + one (eqb c r) ≡ one (is_fresh s))
              (let off : one (is_fresh (task b r)) ≡ 0 = ap (λ s. one (is_fresh s)) was in let on : one (eqb r r) ≡ 1 = ap one (eq-eqb r r refl) in omega arith)
              (λ c ne. let off : one (eqb c r) ≡ 0 = ap one (ne_eqb c r ne) in omega arith)
              a;
          preempted_once = λ a.
              sum-set_same (λ (y : Worker). times a y.preempted) b.workers w x no_worker (λ l. refl)
              ∙ k.placed.preempted_once a
              ∙ at_task (λ c s. one (is_preempted (task b c)) ≡ one (is_preempted s)) (ap (λ s. one (is_preempted s)) was) (λ c ne. refl) a;
          running_once = λ a.
              sum-set_same (λ (y : Worker). one (has a (task_of y.state))) b.workers w x no_worker (λ l. sym (ap (λ o. one (has a o)) has-task))
              ∙ k.placed.running_once a
              ∙ at_task (λ c s. one (is_running (task b c)) ≡ one (is_running s)) (ap (λ s. one (is_running s)) was) (λ c ne. refl) a;
          only_tasks = at_task (λ c s. is_unspawned s ≡ false → is_task b.rows c ≡ true)
              (λ n. or_right (eqb r 0) (is_async (row b.rows r)) m.async)
              (λ c ne. k.placed.only_tasks c);
        }

    spawned-positioned : Positioned spawned-board
    spawned-positioned =
        record {
          workers_stand = λ u s. at_worker (λ z. position_of z ≡ Some s → LawfulPosition b.rows s) u
              (λ same e. subst (LawfulPosition b.rows) (stands_at s e) (onto-lawful b.rows law p at m.on))
              (λ ne. k.positioned.workers_stand u s);
          outs_work = λ u s. at_worker (λ z. z ≡ Out s → is_before_work b.rows s ≡ true) u
              (λ same e. let z : ◌≡◌ {A = ℕ} 0 1 = cc in absurd (omega arith))
              (λ ne. k.positioned.outs_work u s);
          tasks_stop = λ a s. at_task (λ c z. stopped b.rows c z ≡ Some s → LawfulPosition b.rows s)
              (λ e. let z : ◌≡◌ {A = ℕ} 0 1 = cc in absurd (omega arith))
              (λ c ne. k.positioned.tasks_stop c s)
              a;
        }

    f : ℕ
    f = finish_of b.rows r

    -- one row more is live, of this finish
    more : (g : ℕ) → live_number spawned-board g ≡ live_number b g + one (eqb g (finish_of b.rows r))
    more g =
        let change = sum_below_change (λ a. one (live_in b g a)) (λ a. one (live_in spawned-board g a)) (length b.rows) r r_here
        (λ a ne. at_task (λ c s. c ≢ r → one (live_in b g c) ≡ one ((is_async (row b.rows c) && is_live s) && eqb g (finish_of b.rows c)))
        (λ wrong. absurd (wrong refl)) (λ c other same. refl) a ne) in
        let new : one (live_in spawned-board g r) ≡ one (eqb g (finish_of b.rows r)) = at_task (λ c s. c ≡ r → one ((is_async (row b.rows c) && is_live s) && eqb g (finish_of b.rows c)) ≡ one (eqb g (finish_of b.rows c)))
        (λ e. ap (λ z. one ((z && true) && eqb g (finish_of b.rows r))) m.async) (λ c ne e. absurd (ne e)) r refl in
        let old : one (live_in b g r) ≡ 0 = ap (λ s. one ((is_async (row b.rows r) && is_live s) && eqb g (finish_of b.rows r))) was ∙ ap (λ z. one ((z && false) && eqb g (finish_of b.rows r))) m.async in
        omega arith

    finish_r_here : finish_of b.rows r < length b.rows
    finish_r_here = finish_of-here b.rows law r r_later r_here

    spawned-counted : Counted spawned-board
    spawned-counted =
        record {
          lives_match = λ g l. at_set (λ n. n ≡ live_number spawned-board g) b.lives (finish_of b.rows r) (live b (finish_of b.rows r) + 1) 0 (omega (arith, k.shaped.lives_sized, finish_r_here)) g
              (λ e.
              let own : one (eqb g (finish_of b.rows r)) ≡ 1 = ap one (eq-eqb g (finish_of b.rows r) e) in
              let same : live b (finish_of b.rows r) ≡ live b g = ap (live b) (sym e) in
              omega (arith, more g, k.counted.lives_match g l))
              (λ ne.
              let other : one (eqb g (finish_of b.rows r)) ≡ 0 = ap one (ne_eqb g (finish_of b.rows r) ne) in
              omega (arith, more g, k.counted.lives_match g l));
        }

    -- a row that is live now is the new one, or was live before
    live_cases : (a : ℕ) → is_live_task spawned-board a ≡ true → (a ≡ r) ⊎ (is_live_task b a ≡ true)
    live_cases = at_task (λ c s. (is_async (row b.rows c) && is_live s) ≡ true → (c ≡ r) ⊎ (is_live_task b c ≡ true)) (λ y. inl refl) (λ c ne y. inr y)

    -- the finish of the new row is the inner row, which the parent keeps, or that of the parent itself
    finish_cases : ((p.inner ≡ finish_of b.rows r) × (keeper b r ≡ p.task)) ⊎ ((is_live_task b p.task ≡ true) × (finish_of b.rows p.task ≡ finish_of b.rows r))
    finish_cases =
        ⊎_elim
        (λ y.
        let e = next_finish b.rows law p at m.on y in
        inl (sym e, ap (owner b.rows) e ∙ inner_owner b.rows law p at y))
        (λ n.
        let own = inner_async b.rows law p at n in
        inr (and_from (is_async (row b.rows p.task)) (is_live (task b p.task)) own.1 (ap is_live ran), ap (finish_of b.rows) (sym own.0) ∙ sym (next_finish_beyond b.rows law p at m.on n)))
        (cases_Bool (is_finish (row b.rows p.inner)))

    -- a live task does not keep itself
    keeps_other : (a : ℕ) → is_live_task b a ≡ true → a ≡ keeper b a → ⊥
    keeps_other a y e =
        let g-here : finish_of b.rows a < length b.rows = omega (arith, finish-before b k a y, live_here b k a y) in
        let around = owner-around b.rows law (finish_of b.rows a) g-here (omega (arith, live_later b k a y)) in
        omega (arith, around.0, finish-before b k a y)

    -- the new row's keeper, and where it stands
    new_begun : is_begun (task b (keeper b r)) ≡ true
    new_begun =
        ⊎_elim
        (λ h. ap (λ j. is_begun (task b j)) h.1 ∙ ap is_begun ran)
        (λ h. ap (λ g. is_begun (task b (owner b.rows g))) (sym h.1) ∙ k.waited.keeper_begun p.task h.0)
        finish_cases

    new_own : p.task ≡ keeper b r → within b.rows p.inner (finish_of b.rows r) ≡ true
    new_own e =
        ⊎_elim
        (λ h. subst (λ g. within b.rows p.inner g ≡ true) h.0 (within_self b.rows law p.inner))
        (λ h. absurd (keeps_other p.task h.0 (e ∙ ap (owner b.rows) (sym h.1))))
        finish_cases

    new_stands : (u : ℕ) (s : Position) → u ≢ w → position_of (worker b u).state ≡ Some s → s.task ≡ keeper b r → within b.rows s.inner (finish_of b.rows r) ≡ true
    new_stands u s ne e own =
        ⊎_elim
        (λ h. absurd (ne (alone b k.placed p.task u w (stands_here b u s e) here (task_of_position (worker b u).state s e ∙ ap Some (own ∙ h.1)) has-task)))
        (λ h. subst (λ g. within b.rows s.inner g ≡ true) h.1 (k.waited.keeper_stands p.task u s h.0 e (own ∙ ap (owner b.rows) (sym h.1))))
        finish_cases

    new_stopped : (s : Position) → stopped b.rows (keeper b r) (task b (keeper b r)) ≡ Some s → within b.rows s.inner (finish_of b.rows r) ≡ true
    new_stopped s e =
        ⊎_elim
        (λ h. let none : None ≡ Some s = sym (ap (λ z. stopped b.rows p.task z) ran) ∙ sym (ap (λ j. stopped b.rows j (task b j)) h.1) ∙ e in let z : ◌≡◌ {A = ℕ} 0 1 = cc in absurd (omega arith))
        (λ h. subst (λ g. within b.rows s.inner g ≡ true) h.1 (k.waited.keeper_stopped p.task s h.0 (ap (λ g. stopped b.rows (owner b.rows g) (task b (owner b.rows g))) h.1 ∙ e)))
        finish_cases

    -- by the two kinds of live rows
    by_live : (P : ℕ → Type 0) (a : ℕ) → is_live_task spawned-board a ≡ true → P r → (is_live_task b a ≡ true → P a) → P a
    by_live P a y new old = ⊎_elim (λ e. subst P (sym e) new) old (live_cases a y)

    spawned-waited : Waited spawned-board
    spawned-waited =
        record {
          keeper_begun = λ a y. at_task (λ c s. is_begun (task b c) ≡ true → is_begun s ≡ true)
              (λ z. absurd (both_ways (is_begun (task b r)) (ap is_begun was) z))
              (λ c ne z. z)
              (keeper b a)
              (by_live (λ c. is_begun (task b (keeper b c)) ≡ true) a y new_begun (k.waited.keeper_begun a));
          keeper_stands = λ a u s y. at_worker (λ z. position_of z ≡ Some s → s.task ≡ keeper b a → within b.rows s.inner (finish_of b.rows a) ≡ true) u
              (λ same e own.
              let is = stands_at s e in
              subst (λ (z : Position). within b.rows z.inner (finish_of b.rows a) ≡ true) is
              (by_live (λ c. p.task ≡ keeper b c → within b.rows p.inner (finish_of b.rows c) ≡ true) a y new_own (λ old. k.waited.keeper_stands a w p old m.from) (ap (λ (z : Position). z.task) is ∙ own)))
              (λ ne e. by_live (λ c. s.task ≡ keeper b c → within b.rows s.inner (finish_of b.rows c) ≡ true) a y (new_stands u s ne e) (λ old. k.waited.keeper_stands a u s old e));
          keeper_stopped = λ a s y. at_task (λ c z. (stopped b.rows c (task b c) ≡ Some s → within b.rows s.inner (finish_of b.rows a) ≡ true) → stopped b.rows c z ≡ Some s → within b.rows s.inner (finish_of b.rows a) ≡ true)
              (λ old e. let z : ◌≡◌ {A = ℕ} 0 1 = cc in absurd (omega arith))
              (λ c ne old. old)
              (keeper b a)
              (by_live (λ c. stopped b.rows (keeper b c) (task b (keeper b c)) ≡ Some s → within b.rows s.inner (finish_of b.rows c) ≡ true) a y (new_stopped s) (λ old. k.waited.keeper_stopped a s old));
        }

    -- what is ahead of others than the new row's parent
    still : (a : ℕ) → a ≢ r → is_unspawned (task b a) ≡ true → is_unspawned (task spawned-board a) ≡ true
    still a ne y = at_task (λ c s. c ≢ r → is_unspawned (task b c) ≡ true → is_unspawned s ≡ true) (λ wrong z. absurd (wrong refl)) (λ c other z e. e) a ne y

    inside_not : (a : ℕ) → is_async (row b.rows a) ≡ true → parent b a ≡ r → a ≢ r
    inside_not a y e same =
        let around = owner-around b.rows law a (subst (λ j. j < length b.rows) (sym same) r_here) (omega (arith, r_later)) in
        omega (arith, around.0)

    spawned-ahead : Ahead spawned-board
    spawned-ahead =
        record {
          unbegun_ahead = λ a y. at_task (λ c s. parent b a ≡ c → is_unbegun s ≡ true → is_unspawned (task spawned-board a) ≡ true)
              (λ e z. still a (inside_not a y e) (k.ahead.unbegun_ahead a y (ap (λ j. is_unbegun (task b j)) e ∙ ap is_unbegun was)))
              (λ c ne e z. still a
              (λ same. both_ways (is_unbegun (task b c)) (ap (λ j. is_unbegun (task b j)) (sym e ∙ ap (parent b) same ∙ sym parent_is) ∙ ap is_unbegun ran) z)
              (k.ahead.unbegun_ahead a y (ap (λ j. is_unbegun (task b j)) e ∙ z)))
              (parent b a) refl;
          standing_ahead = λ a u s y. at_worker (λ z. position_of z ≡ Some s → s.task ≡ parent b a → s.next ≤ a → is_unspawned (task spawned-board a) ≡ true) u
              (λ same e own l.
              let is = stands_at s e in
              let past = ends-after b.rows r (law.each r r_here) in
              let less : end b.rows r ≤ a = subst (λ (z : Position). z.next ≤ a) (sym is) l in
              still a (λ z. omega arith) (k.ahead.standing_ahead a w p y m.from (ap (λ (z : Position). z.task) is ∙ own) (omega arith)))
              (λ ne e own l. still a
              (λ same. ne (alone b k.placed p.task u w (stands_here b u s e) here (task_of_position (worker b u).state s e ∙ ap Some (own ∙ ap (parent b) same ∙ sym parent_is)) has-task))
              (k.ahead.standing_ahead a u s y e own l));
          stopped_ahead = λ a s y. at_task (λ c z. parent b a ≡ c → stopped b.rows c z ≡ Some s → s.next ≤ a → is_unspawned (task spawned-board a) ≡ true)
              (λ own e l. let z : ◌≡◌ {A = ℕ} 0 1 = cc in absurd (omega arith))
              (λ c ne own e l. still a
              (λ same. let none : None ≡ Some s = sym (ap (λ z. stopped b.rows p.task z) ran) ∙ ap (λ j. stopped b.rows j (task b j)) (parent_is ∙ ap (parent b) (sym same) ∙ own) ∙ e in let z : ◌≡◌ {A = ℕ} 0 1 = cc in omega arith)
              (k.ahead.stopped_ahead a s y (ap (λ j. stopped b.rows j (task b j)) own ∙ e) l))
              (parent b a) refl;
        }

    spawned-ending : Ending spawned-board
    spawned-ending =
        record {
          first_begun = λ n. at_task (λ c s. c ≡ 0 → is_begun (task b c) ≡ true → is_begun s ≡ true) (λ e. absurd (omega (arith, r_later))) (λ c ne e z. z) 0 refl (k.ending.first_begun n);
          first_ended = λ y. at_task (λ c s. c ≡ 0 → is_ended (task b c) ≡ true → is_ended s ≡ true) (λ e. absurd (omega (arith, r_later))) (λ c ne e z. z) 0 refl (k.ending.first_ended y);
        }

    pub spawned-kept : Kept spawned-board
    spawned-kept =
        record {
          shaped = spawned-shaped;
          placed = spawned-placed;
          positioned = spawned-positioned;
          counted = spawned-counted;
          waited = spawned-waited;
          ahead = spawned-ahead;
          ending = spawned-ending;
        }

    pub spawned_more : spawned spawned-board ≡ spawned b + 1
    spawned_more =
        let change = sum_below_change (λ a. one (is_async (row b.rows a) && not (is_unspawned (task b a)))) (λ a. one (is_async (row b.rows a) && not (is_unspawned (task spawned-board a)))) (length b.rows) r r_here
        (λ a ne. at_task (λ c s. c ≢ r → one (is_async (row b.rows c) && not (is_unspawned (task b c))) ≡ one (is_async (row b.rows c) && not (is_unspawned s)))
        (λ wrong. absurd (wrong refl)) (λ c other same. refl) a ne) in
        let new : one (is_async (row b.rows r) && not (is_unspawned (task spawned-board r))) ≡ 1 = at_task (λ c s. c ≡ r → one (is_async (row b.rows c) && not (is_unspawned s)) ≡ 1)
        (λ e. ap (λ z. one (z && true)) m.async) (λ c ne e. absurd (ne e)) r refl in
        let old : one (is_async (row b.rows r) && not (is_unspawned (task b r))) ≡ 0 = ap (λ s. one (is_async (row b.rows r) && not (is_unspawned s))) was ∙ ap (λ z. one (z && false)) m.async in
        omega arith

    pub spawned_burdens : sum_by burden spawned-board.workers ≡ sum_by burden b.workers + 1
    spawned_burdens =
        let change = sum_by-set burden b.workers w x no_worker here in
        omega arith

    -- nobody else is touched
    pub spawned-worker : worker spawned-board w ≡ x
    spawned-worker = at_set (λ (y : Worker). y ≡ x) b.workers w x no_worker here w (λ e. refl) (λ ne. absurd (ne refl))
