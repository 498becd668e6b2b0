-- The rules by which an async row is spawned and placed: boards are sound after them. Assumes nothing.
use Rattle.std.proofs.Common.{◌≡◌, ℕ, ◌+◌, ◌<◌, ◌≤◌, eqb, ◌≢◌, ◌∷◌, length, get_or, set, Some, sym, refl, ap, ◌∙◌, subst, ap₂, arith, length-set}
use Rattle.std.proofs.lemmas.List.{set-set, set_comm, get_or-set_same, get_or-set_other}
use Rattle.deque.specs.Queues.{bottom, above_bottom}
use Rattle.job.specs.Rows.{end}
use Rattle.rules.specs.declared.state.Policy.{Policy}
use Rattle.rules.specs.declared.state.Policy.TheVariants.{HelpFirst, WorkFirst}
use Rattle.rules.specs.declared.state.Position.{Position}
use Rattle.rules.specs.declared.state.TaskState.{TaskState}
use Rattle.rules.specs.declared.state.TaskState.TheVariants.{Unspawned, Fresh, Preempted, Running, Suspended}
use Rattle.rules.specs.declared.state.WorkerState.TheVariants.{Idle, Stands}
use Rattle.rules.specs.Words.{finish_of, begins, onto}
use Rattle.rules.specs.Boards.{Worker, no_worker, Board, worker, task, live, to_state, to_preempted, to_fresh, with_worker, with_task, resumes}
use Rattle.rules.specs.Picking.{takes_fresh}
use Rattle.rules.specs.Placing.{placing, counts_spawn, raised, helps_first, works_first, placed_by, placed}
use Rattle.rules.specs.Sound.{position_of, Kept, Sound}
use Rattle.laws.proofs.Changes.{at_set, stands_here}
use Rattle.laws.proofs.Leaves.{Leaves, left-kept, left-spawned, left_burdens}
use Rattle.laws.proofs.Positions.{next_row, next_later}
use Rattle.laws.proofs.Queues.{bottom-taken, bottom-length, bottom_in}
use Rattle.laws.proofs.Rows.{finish_of-here}
use Rattle.laws.proofs.Spawns.{Spawns, was, not_parent, spawned-kept, spawned_more, spawned_burdens, spawned-worker}
use Rattle.laws.proofs.Standing.{counted_sound}
use Rattle.laws.proofs.Sums.{times_cons}
use Rattle.laws.proofs.Taking.{and_on, lost_fresh, taken_sound}
use Rattle.laws.proofs.TakesUp.{Takes}

module _ (b : Board) (h : Sound b) (w : ℕ) (p : Position) (m : Spawns b h.kept w p) where
  abbrev k : Kept b
  k = h.kept

  abbrev r : ℕ
  r = p.next

  abbrev q : Position
  q = onto (end b.rows p.next) p

  abbrev x : Worker
  x = worker b w

  here : w < length b.workers
  here = stands_here b w p m.from

  r_here : r < length b.rows
  r_here = next_row b.rows k.shaped.lawful p (k.positioned.workers_stand w p m.from) m.on

  r_later : 0 < r
  r_later = next_later b.rows k.shaped.lawful p (k.positioned.workers_stand w p m.from) m.on

  r_placed : r < length b.tasks
  r_placed = omega (arith, k.shaped.tasks_sized, r_here)

  -- no live number falls
  raised-live : (g : ℕ) → 1 ≤ live b g → 1 ≤ live (raised b r) g
  raised-live g some =
      at_set (λ n. 1 ≤ n) b.lives (finish_of b.rows r) (live b (finish_of b.rows r) + 1) 0
      (omega (arith, k.shaped.lives_sized, finish_of-here b.rows k.shaped.lawful r r_later r_here)) g
      (λ e. omega arith)
      (λ ne. some)

  -- other workers are as they were, whatever becomes of w
  other_idle : (y : Worker) (u : ℕ) → u ≢ w → (worker (with_worker b w y) u).state ≡ Idle → (length (worker (with_worker b w y) u).preempted ≡ 0) × (length (worker (with_worker b w y) u).fresh ≡ 0)
  other_idle y u ne =
      at_set (λ (z : Worker). z.state ≡ Idle → (length z.preempted ≡ 0) × (length z.fresh ≡ 0)) b.workers w y no_worker here u
      (λ e. absurd (ne e))
      (λ other. h.idle_empty u)

  -- the child waits in the fresh queue
  abbrev helped : Board
  helped = helps_first (raised b r) w q r

  abbrev x₂ : Worker
  x₂ = to_fresh (r ∷ x.fresh) (to_state (Stands q) x)

  helped_sound : Sound helped
  helped_sound =
      record {
        kept = spawned-kept b k w p m;
        bounded = omega (arith, h.bounded, spawned_burdens b k w p m, spawned_more b k w p m);
        idle_empty = λ u. at_set (λ (z : Worker). z.state ≡ Idle → (length z.preempted ≡ 0) × (length z.fresh ≡ 0)) b.workers w x₂ no_worker here u
            (λ e is. let z : ◌≡◌ {A = ℕ} 0 1 = cc in absurd (omega arith))
            (λ ne. h.idle_empty u);
        waits = λ c f. at_set (λ s. s ≡ Suspended f → 1 ≤ live (raised b r) f) b.tasks r Fresh Unspawned r_placed c
            (λ e is. let z : ◌≡◌ {A = ℕ} 0 1 = cc in absurd (omega arith))
            (λ ne is. raised-live f (h.waits c f is));
      }

  -- the parent waits in the preempted queue
  abbrev t : ℕ
  t = p.task

  abbrev s₃ : TaskState
  s₃ = Preempted q.inner q.next

  abbrev x₃ : Worker
  x₃ = to_preempted (t ∷ (worker helped w).preempted) (to_state Idle (worker helped w))

  abbrev parked : Board
  parked = with_task (with_worker helped w x₃) t s₃

  helped_stands : position_of (worker helped w).state ≡ Some q
  helped_stands = ap (λ (y : Worker). position_of y.state) (spawned-worker b k w p m)

  parks : Leaves helped helped_sound.kept w x₃ q s₃
  parks =
      record {
        from = helped_stands;
        idle = refl;
        same_spawns = refl;
        fresh_same = λ a. refl;
        preempted_more = λ a. omega (arith, times_cons a t (worker helped w).preempted, and_on (eqb a t));
        not_fresh = refl;
        not_running = refl;
        not_unspawned = refl;
        stops = λ z e. let same : q ≡ z = cc in sym same;
        keeps = λ a y e. refl;
        unbegun = refl;
      }

  parked_kept : Kept parked
  parked_kept = left-kept helped helped_sound.kept w x₃ q s₃ parks refl

  helped_here : w < length helped.workers
  helped_here = omega (arith, here, length-set b.workers w x₂)

  parked_worker : worker parked w ≡ x₃
  parked_worker = get_or-set_same helped.workers w x₃ no_worker helped_here

  -- and the child begins
  abbrev x₄ : Worker
  x₄ = to_fresh (above_bottom (worker parked w).fresh) (worker parked w)

  child_bottom : bottom (worker parked w).fresh ≡ Some r
  child_bottom = ap (λ (y : Worker). bottom y.fresh) parked_worker ∙ ap (λ (y : Worker). bottom y.fresh) (spawned-worker b k w p m)

  parked_here : w < length parked.workers
  parked_here = omega (arith, helped_here, length-set helped.workers w x₃)

  takes_child : Takes parked parked_kept w x₄ w r
  takes_child =
      lost_fresh parked parked_kept w x₄ w r parked_here (ap (λ (y : Worker). y.state) parked_worker) parked_here refl refl refl
      (bottom-taken (worker parked w).fresh r child_bottom) (bottom_in (worker parked w).fresh r child_bottom)

  helped_tasks : t < length helped.tasks
  helped_tasks = omega (arith, length-set b.tasks r Fresh, k.shaped.tasks_sized, (k.positioned.workers_stand w p m.from).task_here)

  -- all of w's entries so far are overwritten
  parked_set : (y : Worker) → set parked.workers w y ≡ set b.workers w y
  parked_set y = set-set (set b.workers w x₂) w x₃ y ∙ set-set b.workers w x₂ y

  begun_sound : Sound (takes_fresh parked w r)
  begun_sound =
      taken_sound parked parked_kept w x₄ w r takes_child
      (omega (arith, h.bounded, spawned_burdens b k w p m, spawned_more b k w p m, left_burdens helped helped_sound.kept w x₃ q s₃ parks, left-spawned helped helped_sound.kept w x₃ q s₃ parks, bottom-length (worker parked w).fresh r child_bottom))
      (λ c f is ne. at_set (λ s. s ≡ Suspended f → 1 ≤ live (raised b r) f) helped.tasks t s₃ Unspawned helped_tasks c
      (λ e wrong. let z : ◌≡◌ {A = ℕ} 0 1 = cc in absurd (omega arith))
      (λ other was. helped_sound.waits c f was) is)
      (λ u ne. subst (λ ws. (get_or ws u no_worker).state ≡ Idle → (length (get_or ws u no_worker).preempted ≡ 0) × (length (get_or ws u no_worker).fresh ≡ 0)) (sym (parked_set x₄)) (other_idle x₄ u ne))

  -- that is the board of the rule
  abbrev y₁ : Worker
  y₁ = to_preempted (t ∷ x.preempted) (to_state Idle x)

  x₄_is : x₄ ≡ y₁
  x₄_is =
      ap (λ (y : Worker). to_fresh (above_bottom y.fresh) y) (parked_worker ∙ ap (λ (y : Worker). to_preempted (t ∷ y.preempted) (to_state Idle y)) (spawned-worker b k w p m))

  child_fresh : task parked r ≡ Fresh
  child_fresh = get_or-set_other helped.tasks t r s₃ Unspawned (not_parent b k w p m) ∙ get_or-set_same b.tasks r Fresh Unspawned r_placed

  child_unspawned : get_or (set b.tasks t s₃) r Unspawned ≡ Unspawned
  child_unspawned = get_or-set_other b.tasks t r s₃ Unspawned (not_parent b k w p m) ∙ was b k w p m

  last_worker : to_state (Stands (resumes b.rows r (task parked r))) (worker (with_worker parked w x₄) w) ≡ to_state (Stands (begins r)) y₁
  last_worker =
      ap₂ (λ s (y : Worker). to_state (Stands (resumes b.rows r s)) y) child_fresh (get_or-set_same parked.workers w x₄ no_worker parked_here ∙ x₄_is)

  rule_worker : to_state (Stands (resumes b.rows r (get_or (set b.tasks t s₃) r Unspawned))) (worker (with_worker b w y₁) w) ≡ to_state (Stands (begins r)) y₁
  rule_worker = ap₂ (λ s (y : Worker). to_state (Stands (resumes b.rows r s)) y) child_unspawned (get_or-set_same b.workers w y₁ no_worker here)

  same_workers : (takes_fresh parked w r).workers ≡ (works_first (raised b r) w q r).workers
  same_workers =
      set-set parked.workers w x₄ _
      ∙ parked_set _
      ∙ ap (set b.workers w) (last_worker ∙ sym rule_worker)
      ∙ sym (set-set b.workers w y₁ _)

  same_tasks : (takes_fresh parked w r).tasks ≡ (works_first (raised b r) w q r).tasks
  same_tasks = ap (λ ts. set ts r Running) (set_comm b.tasks r t Fresh s₃ (not_parent b k w p m)) ∙ set-set (set b.tasks t s₃) r Fresh Running

  same_board : takes_fresh parked w r ≡ works_first (raised b r) w q r
  same_board = λ i. record { rows = b.rows; workers = same_workers i; tasks = same_tasks i; lives = (raised b r).lives; figures = b.figures; finished = b.finished }

  worked_sound : Sound (works_first (raised b r) w q r)
  worked_sound = subst Sound same_board begun_sound

  worked-stands : position_of (worker (works_first (raised b r) w q r) w).state ≡ Some (begins r)
  worked-stands =
      ap (λ (y : Worker). position_of y.state) (get_or-set_same (set b.workers w y₁) w _ no_worker (omega (arith, here, length-set b.workers w y₁)) ∙ rule_worker)

  -- placed the one way or the other, and counted
  by_policy : (how : Policy) → Sound (with_worker (placed_by how (raised b r) w q r) w (counts_spawn b.figures (worker (placed_by how (raised b r) w q r) w)))
  by_policy HelpFirst = counted_sound helped helped_sound w q helped_stands
  by_policy WorkFirst = counted_sound (works_first (raised b r) w q r) worked_sound w (begins r) worked-stands

  pub placed_sound : Sound (placed (raised b r) w q r)
  placed_sound = by_policy (placing b.figures (worker (raised b r) w))
