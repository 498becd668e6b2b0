-- A loaded board is sound. Assumes nothing.
use Rattle.std.proofs.Common.{◌≡◌, ℕ, zero, suc, ◌-◌, ◌<◌, ◌≤◌, true, false, eqb, ltb, leb, List, length, get_or, replicate, Some, None, Ok, Err, sum_by, Option, Result, sym, refl, ap, ◌∙◌, subst, ⊎_elim, arith}
use lib.ListN.{length-replicate}
use Rattle.std.proofs.lemmas.List.Sums.{sum_by-cons}
use Rattle.std.proofs.lemmas.Bool.{cond-true, cond-false, cases_Bool, both_ways, and_parts, leb-true, ltb-false, ne_eqb}
use Rattle.job.specs.declared.refusal.JobRefusal.TheVariants.{RowCount, Unlawful}
use Rattle.job.specs.declared.row.Row.{Row}
use Rattle.job.specs.Lawful.{Lawful, countable, lowest_unlawful}
use Rattle.job.specs.Rows.{most_rows, row, is_async, is_task}
use Rattle.job.proofs.Nests.{lowest_none}
use Rattle.rules.specs.declared.refusal.DealRefusal.{DealRefusal}
use Rattle.rules.specs.declared.refusal.DealRefusal.TheVariants.{Job, WorkerCount, Figures as BadFigures, ShortBook}
use Rattle.rules.specs.declared.state.Figures.{Figures}
use Rattle.rules.specs.declared.state.TaskState.{TaskState}
use Rattle.rules.specs.declared.state.TaskState.TheVariants.{Unspawned, Running, Suspended}
use Rattle.rules.specs.declared.state.WorkerState.TheVariants.{Idle, Out}
use Rattle.rules.specs.Words.{begins, finish_of}
use Rattle.rules.specs.Boards.{Worker, no_worker, Board, worker, task, live, task_of}
use Rattle.rules.specs.Loads.{most_figure, lawful_workers, lawful_figures, first_worker, loaded, unless_unlawful, loads}
use Rattle.rules.specs.Sound.{one, has, times, is_unspawned, is_fresh, is_preempted, is_running, is_live, is_before_work, position_of, stopped, burden, sum_below, is_live_task, live_in, Kept, Sound, LawfulPosition}
use Rattle.laws.proofs.Positions.{begins-lawful}
use Rattle.laws.proofs.Rows.{async_later}
use Rattle.laws.proofs.Sums.{sum_below_same}

same_everywhere : {X : Type 0} (n i : ℕ) (y : X) → get_or (replicate n y) i y ≡ y
same_everywhere zero i y = refl
same_everywhere (suc n) zero y = refl
same_everywhere (suc n) (suc i) y = same_everywhere n i y

sum_none : {X : Type 0} (f : X → ℕ) (n : ℕ) (y : X) → f y ≡ 0 → sum_by f (replicate n y) ≡ 0
sum_none f zero y e = refl
sum_none f (suc n) y e = omega (arith, sum_by-cons f y (replicate n y), sum_none f n y e)

sum_below_none : (n : ℕ) → sum_below (λ a. 0) n ≡ 0
sum_below_none zero = refl
sum_below_none (suc n) = omega (arith, sum_below_none n)

-- what a granted load was given
pub record Granted (rows : List Row) (lines n : ℕ) (x : Figures) : Type 0 where
  pub lawful : Lawful rows
  pub crew : lawful_workers n ≡ true
  pub figured : lawful_figures x ≡ true
  pub room : length rows ≤ lines

ok_err : {P : Type 0} (e : DealRefusal) → ◌≡◌ {A = Result (Unit {0}) DealRefusal} (Err e) (Ok tt) → P
ok_err e is = let z : ◌≡◌ {A = ℕ} 0 1 = cc in absurd (omega arith)

pub granted_is : (rows : List Row) (lines n : ℕ) (x : Figures) → loads rows lines n x ≡ Ok tt → Granted rows lines n x
granted_is rows lines n x ok =
    ⊎_elim
    (λ counts.
    let ok₁ = sym (cond-true (countable (length rows)) _ _ counts) ∙ ok in
    ⊎_elim
    (λ crew.
    let ok₂ = sym (cond-true (lawful_workers n) _ _ crew) ∙ ok₁ in
    ⊎_elim
    (λ figured.
    let ok₃ = sym (cond-true (lawful_figures x) _ _ figured) ∙ ok₂ in
    ⊎_elim
    (λ short. ok_err ShortBook (sym (cond-true (ltb lines (length rows)) _ _ short) ∙ ok₃))
    (λ long.
    let ok₄ = sym (cond-false (ltb lines (length rows)) _ _ long) ∙ ok₃ in
    let few = and_parts (leb 1 (length rows)) (leb (length rows) most_rows) counts in
    record {
      lawful = lowest_none rows (leb-true 1 (length rows) few.0) (leb-true (length rows) most_rows few.1) (unlawful_none (lowest_unlawful rows) ok₄);
      crew = crew;
      figured = figured;
      room = ltb-false lines (length rows) long;
    })
    (cases_Bool (ltb lines (length rows))))
    (λ no'. ok_err BadFigures (sym (cond-false (lawful_figures x) _ _ no') ∙ ok₂))
    (cases_Bool (lawful_figures x)))
    (λ no'. ok_err WorkerCount (sym (cond-false (lawful_workers n) _ _ no') ∙ ok₁))
    (cases_Bool (lawful_workers n)))
    (λ no'. ok_err (Job RowCount) (sym (cond-false (countable (length rows)) _ _ no') ∙ ok))
    (cases_Bool (countable (length rows)))
  where
    unlawful_none : (o : Option ℕ) → unless_unlawful o ≡ Ok tt → o ≡ None
    unlawful_none None e = refl
    unlawful_none (Some r) e = ok_err (Job (Unlawful r)) e

module _ (rows : List Row) (lines n : ℕ) (x : Figures) (g : Granted rows lines n x) where
  abbrev b : Board
  b = loaded rows n x

  some-rows : 1 ≤ length rows
  some-rows = g.lawful.some

  -- all workers but the first are idle, and all tasks but row 0 unspawned
  by_worker : (P : ℕ → Worker → Type 0) → P 0 first_worker → ((w : ℕ) → P (suc w) no_worker) → (w : ℕ) → P w (worker b w)
  by_worker P first others zero = first
  by_worker P first others (suc w) = subst (P (suc w)) (sym (same_everywhere (n - 1) w no_worker)) (others w)

  by_task : (P : ℕ → TaskState → Type 0) → P 0 Running → ((a : ℕ) → P (suc a) Unspawned) → (a : ℕ) → P a (task b a)
  by_task P first others zero = first
  by_task P first others (suc a) = subst (P (suc a)) (sym (same_everywhere (length rows - 1) a Unspawned)) (others a)

  -- nothing is queued, and worker 0 alone has a task
  sum_over : (f : Worker → ℕ) → f no_worker ≡ 0 → sum_by f b.workers ≡ f first_worker
  sum_over f e = omega (arith, sum_by-cons f first_worker (replicate (n - 1) no_worker), sum_none f (n - 1) no_worker e)

  nobody_live : (a : ℕ) → is_live_task b a ≡ true → ⊥
  nobody_live a y =
      let both = and_parts (is_async (row rows a)) (is_live (task b a)) y in
      by_task (λ c s. is_async (row rows c) ≡ true → is_live s ≡ true → ⊥)
      (λ async z. omega (arith, async_later rows g.lawful 0 async))
      (λ c async z. both_ways false refl z)
      a both.0 both.1

  unspawned : (a : ℕ) → is_async (row rows a) ≡ true → is_unspawned (task b a) ≡ true
  unspawned = by_task (λ c s. is_async (row rows c) ≡ true → is_unspawned s ≡ true) (λ async. absurd (omega (arith, async_later rows g.lawful 0 async))) (λ c async. refl)

  no_lives : (f : ℕ) → live b f ≡ 0
  no_lives f = same_everywhere (length rows) f 0

  none_live : (f a : ℕ) → 0 ≡ one (live_in b f a)
  none_live f a = ⊎_elim (λ y. absurd (nobody_live a (and_parts (is_live_task b a) (eqb f (finish_of rows a)) y).0)) (λ n'. sym (ap one n')) (cases_Bool (live_in b f a))

  crew-size : length b.workers ≡ n
  crew-size =
      let few = leb-true 1 n (and_parts (leb 1 n) _ g.crew).0 in
      omega (arith, length-replicate (n - 1) no_worker)

  some_interval : 0 < x.interval
  some_interval =
      let one' = and_parts (leb x.stack most_figure) _ g.figured in
      let two = and_parts (leb x.fresh most_figure) _ one'.1 in
      let three = and_parts (leb 1 x.interval) (leb x.interval most_figure) two.1 in
      leb-true 1 x.interval three.0

  loaded-kept : Kept b
  loaded-kept =
      record {
        shaped = record {
          lawful = g.lawful;
          crew = ap lawful_workers crew-size ∙ g.crew;
          figured = g.figured;
          tasks_sized = omega (arith, some-rows, length-replicate (length rows - 1) Unspawned);
          lives_sized = length-replicate (length rows) 0;
          counters = λ w l. by_worker (λ c (y : Worker). y.spawns < x.interval) some_interval (λ c. some_interval) w;
        };
        placed = record {
          fresh_once = λ a. sum_over (λ (y : Worker). times a y.fresh) refl ∙ by_task (λ c s. 0 ≡ one (is_fresh s)) refl (λ c. refl) a;
          preempted_once = λ a. sum_over (λ (y : Worker). times a y.preempted) refl ∙ by_task (λ c s. 0 ≡ one (is_preempted s)) refl (λ c. refl) a;
          running_once = λ a. sum_over (λ (y : Worker). one (has a (task_of y.state))) refl ∙ by_task (λ c s. one (eqb c 0) ≡ one (is_running s)) refl (λ c. ap one (ne_eqb (suc c) 0 (λ e. omega arith))) a;
          only_tasks = by_task (λ c s. is_unspawned s ≡ false → is_task rows c ≡ true) (λ e. refl) (λ c e. absurd (both_ways true e refl));
        };
        positioned = record {
          workers_stand = λ w p. by_worker (λ c (y : Worker). position_of y.state ≡ Some p → LawfulPosition rows p)
              (λ e. let same : begins 0 ≡ p = cc in subst (LawfulPosition rows) same (begins-lawful rows g.lawful 0 some-rows refl))
              (λ c e. let z : ◌≡◌ {A = ℕ} 0 1 = cc in absurd (omega arith))
              w;
          outs_work = λ w p. by_worker (λ c (y : Worker). y.state ≡ Out p → is_before_work rows p ≡ true)
              (λ e. let z : ◌≡◌ {A = ℕ} 0 1 = cc in absurd (omega arith))
              (λ c e. let z : ◌≡◌ {A = ℕ} 0 1 = cc in absurd (omega arith))
              w;
          tasks_stop = λ t p. by_task (λ c s. stopped rows c s ≡ Some p → LawfulPosition rows p)
              (λ e. let z : ◌≡◌ {A = ℕ} 0 1 = cc in absurd (omega arith))
              (λ c e. let z : ◌≡◌ {A = ℕ} 0 1 = cc in absurd (omega arith))
              t;
        };
        counted = record {
          lives_match = λ f l. no_lives f ∙ sym (sum_below_none (length rows)) ∙ sum_below_same (λ a. 0) (λ a. one (live_in b f a)) (length rows) (λ a m. none_live f a);
        };
        waited = record {
          keeper_begun = λ a y. absurd (nobody_live a y);
          keeper_stands = λ a w p y. absurd (nobody_live a y);
          keeper_stopped = λ a p y. absurd (nobody_live a y);
        };
        ahead = record {
          unbegun_ahead = λ a y e. unspawned a y;
          standing_ahead = λ a w p y e f l. unspawned a y;
          stopped_ahead = λ a p y e l. unspawned a y;
        };
        ending = record { first_begun = λ e. refl; first_ended = λ e. absurd (both_ways false refl e) };
      }

  pub loaded_sound : Sound b
  loaded_sound =
      record {
        kept = loaded-kept;
        bounded = omega (arith, sum_over burden refl);
        idle_empty = λ w. by_worker (λ c (y : Worker). y.state ≡ Idle → (length y.preempted ≡ 0) × (length y.fresh ≡ 0)) (λ e. (refl, refl)) (λ c e. (refl, refl)) w;
        waits = λ t f. by_task (λ c s. s ≡ Suspended f → 1 ≤ live b f)
            (λ e. let z : ◌≡◌ {A = ℕ} 0 1 = cc in absurd (omega arith))
            (λ c e. let z : ◌≡◌ {A = ℕ} 0 1 = cc in absurd (omega arith))
            t;
      }
