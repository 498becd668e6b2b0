-- The rules by which a worker is done with its task for now or for good: boards are sound after them. Assumes nothing.
use Rattle.std.proofs.Common.{◌≡◌, ℕ, ◌-◌, ◌<◌, ◌≤◌, true, false, ◌&&◌, eqb, ◌≢◌, length, set, Some, sum_by, sym, refl, ap, ◌∙◌, subst, ⊎_elim, arith, length-set}
use Rattle.std.proofs.lemmas.List.{set-get_or}
use Rattle.std.proofs.lemmas.Bool.{cases_eq, both_ways, and_parts, and_cases, eq-eqb, eqb-true, eqb-false}
use Rattle.job.specs.Rows.{row, is_finish, is_async, end, owner}
use Rattle.job.specs.Lawful.{Lawful}
use Rattle.rules.specs.declared.state.Position.{Position}
use Rattle.rules.specs.declared.state.TaskState.{TaskState}
use Rattle.rules.specs.declared.state.TaskState.TheVariants.{Unspawned, Fresh, Preempted, Running, Suspended, Ended}
use Rattle.rules.specs.declared.state.WorkerState.TheVariants.{Idle, Stands}
use Rattle.rules.specs.Words.{finish_of}
use Rattle.rules.specs.Boards.{Worker, no_worker, Board, worker, task, live, to_state, with_worker, leaves, resumes, takes_up}
use Rattle.rules.specs.Closing.{closes}
use Rattle.rules.specs.Picking.{picks}
use Rattle.rules.specs.Steps.{suspended_at}
use Rattle.rules.specs.Sound.{one, is_fresh, is_preempted, is_running, is_live, position_of, stopped, burden, spawned, LawfulPosition, Kept, Sound}
use Rattle.laws.proofs.Changes.{at_set, task_here, stands_here}
use Rattle.laws.proofs.Closings.{running_not, closes_sound}
use Rattle.laws.proofs.Endings.{ended-task, ended-kept, ended_burdens, ended-spawned, ended_ran}
use Rattle.laws.proofs.Leaves.{Leaves, ran, left-kept, left-spawned, left_burdens}
use Rattle.laws.proofs.Positions.{inner_owner}
use Rattle.laws.proofs.Rows.{finish-here, async_later, finish_is}
use Rattle.laws.proofs.Taking.{Between, and_off, taken_sound, picks_sound}
use Rattle.laws.proofs.TakesUp.{Takes}

suspended_is : (f : ℕ) (s : TaskState) → suspended_at f s ≡ true → s ≡ Suspended f
suspended_is f Unspawned y = absurd (both_ways false refl y)
suspended_is f Fresh y = absurd (both_ways false refl y)
suspended_is f (Preempted i n) y = absurd (both_ways false refl y)
suspended_is f Running y = absurd (both_ways false refl y)
suspended_is f (Suspended g) y = ap Suspended (sym (eqb-true f g y))
suspended_is f Ended y = absurd (both_ways false refl y)

-- whoever is suspended at a finish row owns it
pub suspended_owner : (b : Board) (k : Kept b) (t f : ℕ) → task b t ≡ Suspended f → (is_finish (row b.rows f) ≡ true → owner b.rows f ≡ t)
suspended_owner b k t f e y =
    let p : Position = record { task = t; inner = f; next = end b.rows f } in
    inner_owner b.rows k.shaped.lawful p (k.positioned.tasks_stop t p (ap (stopped b.rows t) e)) y

module _ (b : Board) (h : Sound b) (w : ℕ) (p : Position) (from : position_of (worker b w).state ≡ Some p) where
  abbrev k : Kept b
  k = h.kept

  law : Lawful b.rows
  law = k.shaped.lawful

  at : LawfulPosition b.rows p
  at = k.positioned.workers_stand w p from

  here : w < length b.workers
  here = stands_here b w p from

  -- others do what they did
  left_others : (u : ℕ) → u ≢ w → (worker (with_worker b w (to_state Idle (worker b w))) u).state ≡ Idle → (length (worker (with_worker b w (to_state Idle (worker b w))) u).preempted ≡ 0) × (length (worker (with_worker b w (to_state Idle (worker b w))) u).fresh ≡ 0)
  left_others u ne =
      at_set (λ (y : Worker). y.state ≡ Idle → (length y.preempted ≡ 0) × (length y.fresh ≡ 0)) b.workers w (to_state Idle (worker b w)) no_worker here u
      (λ e. absurd (ne e))
      (λ other. h.idle_empty u)

  left_idle : (worker (with_worker b w (to_state Idle (worker b w))) w).state ≡ Idle
  left_idle = at_set (λ (y : Worker). y.state ≡ Idle) b.workers w (to_state Idle (worker b w)) no_worker here w (λ e. refl) (λ ne. absurd (ne refl))

  left_here : w < length (set b.workers w (to_state Idle (worker b w)))
  left_here = omega (arith, here, length-set b.workers w (to_state Idle (worker b w)))

  -- the task is suspended at the end of its inner finish row, where somebody is live
  module _ (last : p.next ≡ end b.rows p.inner) (some : 1 ≤ live b p.inner) where
    suspends : Leaves b k w (to_state Idle (worker b w)) p (Suspended p.inner)
    suspends =
        record {
          from = from;
          idle = refl;
          same_spawns = refl;
          fresh_same = λ a. refl;
          preempted_more = λ a. omega (arith, and_off (eqb a p.task));
          not_fresh = refl;
          not_running = refl;
          not_unspawned = refl;
          stops = λ r e. let q : record { task = p.task; inner = p.inner; next = end b.rows p.inner } ≡ r = cc in sym q ∙ (λ i. record { task = p.task; inner = p.inner; next = sym last i });
          keeps = λ a y e. refl;
          unbegun = refl;
        }

    abbrev left : Board
    left = leaves b w p.task (Suspended p.inner)

    suspended_between : Between left w
    suspended_between =
        record {
          kept = left-kept b k w (to_state Idle (worker b w)) p (Suspended p.inner) suspends refl;
          bounded = omega (arith, h.bounded, left_burdens b k w (to_state Idle (worker b w)) p (Suspended p.inner) suspends, left-spawned b k w (to_state Idle (worker b w)) p (Suspended p.inner) suspends);
          others = left_others;
          waits = λ c f. at_set (λ s. s ≡ Suspended f → 1 ≤ live b f) b.tasks p.task (Suspended p.inner) Unspawned
              (task_here b p.task (running_not (task b p.task) (ran b k w (to_state Idle (worker b w)) p (Suspended p.inner) suspends))) c
              (λ e is. let same : p.inner ≡ f = cc in subst (λ g. 1 ≤ live b g) same some)
              (λ ne is. h.waits c f is);
          here = left_here;
          idle = left_idle;
        }

    pub suspends_sound : Sound (picks left w)
    suspends_sound = picks_sound left w suspended_between

  -- the task ends at the end of its async row
  module _ (own : p.inner ≡ p.task) (async : is_async (row b.rows p.task) ≡ true) where
    abbrev f : ℕ
    f = finish_of b.rows p.task

    abbrev ended : Board
    ended = ended-task b k w p from own async

    k' : Kept ended
    k' = ended-kept b k w p from own async

    finish_f : is_finish (row b.rows f) ≡ true
    finish_f = (finish_is b.rows law p.task (async_later b.rows law p.task async) at.task_here).sorted

    f_here : f < length b.lives
    f_here = omega (arith, finish-here b.rows f finish_f, k.shaped.lives_sized)

    ended-bounded : sum_by burden ended.workers ≤ spawned ended
    ended-bounded = omega (arith, h.bounded, ended_burdens b k w p from own async, ended-spawned b k w p from own async)

    -- whoever is suspended elsewhere still waits for somebody
    elsewhere : (c g : ℕ) → task ended c ≡ Suspended g → g ≢ f → 1 ≤ live ended g
    elsewhere c g is ne =
        let was = at_set (λ s. s ≡ Suspended g → task b c ≡ Suspended g) b.tasks p.task Ended Unspawned (task_here b p.task (running_not (task b p.task) (ended_ran b k w p from own async))) c
        (λ e wrong. let z : ◌≡◌ {A = ℕ} 0 1 = cc in absurd (omega arith)) (λ other y. y) is in
        at_set (λ n. 1 ≤ n) b.lives f (live b f - 1) 0 f_here g (λ e. absurd (ne e)) (λ other. h.waits c g was)

    abbrev o : ℕ
    o = owner b.rows f

    -- nobody to resume: the worker picks
    pub picks_on : (eqb (live ended f) 0 && suspended_at f (task ended o)) ≡ false → Sound (picks ended w)
    picks_on no' =
        picks_sound ended w (record {
          kept = k';
          bounded = ended-bounded;
          others = left_others;
          waits = λ c g is. ⊎_elim
              (λ e. waited c g is e)
              (λ ne. elsewhere c g is ne)
              (cases_eq g f);
          here = left_here;
          idle = left_idle;
        })
      where
        waited : (c g : ℕ) → task ended c ≡ Suspended g → g ≡ f → 1 ≤ live ended g
        waited c g is e =
            let at_f : task ended c ≡ Suspended f = is ∙ ap Suspended e in
            let same = suspended_owner ended k' c f at_f finish_f in
            let y : suspended_at f (task ended o) ≡ true = ap (λ j. suspended_at f (task ended j)) same ∙ ap (suspended_at f) at_f ∙ eq-eqb f f refl in
            ⊎_elim
            (λ n. let z = eqb-false (live ended f) 0 n in subst (λ j. 1 ≤ live ended j) (sym e) (omega arith))
            (λ n. absurd (both_ways (suspended_at f (task ended o)) n y))
            (and_cases (eqb (live ended f) 0) (suspended_at f (task ended o)) no')

    -- the owner waits there, and nobody is live any more: the worker takes it, and the finish row closes
    module _ (yes' : (eqb (live ended f) 0 && suspended_at f (task ended o)) ≡ true) where
      none : live ended f ≡ 0
      none = eqb-true (live ended f) 0 (and_parts (eqb (live ended f) 0) (suspended_at f (task ended o)) yes').0

      waits_there : task ended o ≡ Suspended f
      waits_there = suspended_is f (task ended o) (and_parts (eqb (live ended f) 0) (suspended_at f (task ended o)) yes').1

      same_board : with_worker ended w (worker ended w) ≡ ended
      same_board = λ i. record { rows = ended.rows; workers = set-get_or ended.workers w no_worker i; tasks = ended.tasks; lives = ended.lives; figures = ended.figures; finished = ended.finished }

      takes-owner : Takes ended k' w (worker ended w) w o
      takes-owner =
          record {
            taker_here = left_here;
            taker_idle = left_idle;
            giver_here = left_here;
            same_state = refl;
            same_spawns = refl;
            fresh_less = λ a. let off : one (eqb a o && is_fresh (task ended o)) ≡ 0 = ap (λ s. one (eqb a o && is_fresh s)) waits_there ∙ and_off (eqb a o) in omega arith;
            preempted_less = λ a. let off : one (eqb a o && is_preempted (task ended o)) ≡ 0 = ap (λ s. one (eqb a o && is_preempted s)) waits_there ∙ and_off (eqb a o) in omega arith;
            waiting = ap is_live waits_there;
            unheld = ap is_running waits_there;
          }

      abbrev taken : Board
      taken = takes_up ended w o

      taken_is_sound : Sound taken
      taken_is_sound =
          subst (λ c. Sound (takes_up c w o)) same_board
          (taken_sound ended k' w (worker ended w) w o takes-owner (omega (arith, ended-bounded))
          (λ c g is ne. elsewhere c g is (λ e. ne (sym (suspended_owner ended k' c f (is ∙ ap Suspended e) finish_f))))
          (λ u ne. subst (λ c. (worker c u).state ≡ Idle → (length (worker c u).preempted ≡ 0) × (length (worker c u).fresh ≡ 0)) (sym same_board) (left_others u ne)))

      abbrev place : Position
      place = resumes b.rows o (task ended o)

      place_is : place ≡ record { task = o; inner = f; next = end b.rows f }
      place_is = ap (resumes b.rows o) waits_there

      taken-stands : position_of (worker taken w).state ≡ Some place
      taken-stands =
          at_set (λ (y : Worker). position_of y.state ≡ Some place) ended.workers w (to_state (Stands place) (worker ended w)) no_worker left_here w (λ e. refl) (λ ne. absurd (ne refl))

      pub resumes_sound : Sound (closes taken w place)
      resumes_sound =
          let inner : place.inner ≡ f = ap (λ (q : Position). q.inner) place_is in
          closes_sound taken taken_is_sound w place taken-stands
          (subst (λ j. is_finish (row b.rows j) ≡ true) (sym inner) finish_f)
          (ap (λ (q : Position). q.next) place_is ∙ ap (end b.rows) (sym inner))
          (ap (live ended) inner ∙ none)
