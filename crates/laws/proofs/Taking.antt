-- The rules by which a worker comes by a task: it picks, it steals, or it takes an owner. Boards are sound after them. Assumes nothing.
use Rattle.std.proofs.Common.{◌≡◌, ℕ, ◌+◌, ◌<◌, ◌≤◌, Bool, true, false, ◌&&◌, eqb, ◌≢◌, length, set, Some, None, sum_by, Option, sym, refl, ap, ◌∙◌, subst, ⊎_elim, arith, length-set}
use Rattle.std.proofs.lemmas.List.Sums.{get_or-le-sum_by}
use Rattle.std.proofs.lemmas.Bool.{cond_both, cases_Bool, cases_eq, both_ways}
use Rattle.deque.specs.Queues.{bottom, above_bottom, top, below_top}
use Rattle.rules.specs.declared.state.TaskState.{TaskState}
use Rattle.rules.specs.declared.state.TaskState.TheVariants.{Unspawned, Running, Suspended}
use Rattle.rules.specs.declared.state.WorkerState.TheVariants.{Idle, Stands}
use Rattle.rules.specs.Boards.{Worker, no_worker, Board, worker, task, live, to_state, to_preempted, to_fresh, with_worker, resumes, takes_up}
use Rattle.rules.specs.Picking.{takes_preempted, takes_fresh, prefers_preempted, picks_from, picks}
use Rattle.rules.specs.Steps.{robbed}
use Rattle.rules.specs.Sound.{one, times, is_fresh, is_preempted, is_live, burden, spawned, Placed, Kept, Sound}
use Rattle.laws.proofs.Changes.{at_set, task_here}
use Rattle.laws.proofs.Queues.{bottom-taken, bottom-length, bottom_in, top_taken, top-length, top_in, no_bottom}
use Rattle.laws.proofs.States.{fresh-live, preempted-live}
use Rattle.laws.proofs.Sums.{one_true, one_at_most}
use Rattle.laws.proofs.TakesUp.{Takes, taken-kept, taken_burdens, taken-spawned}

-- sound but for worker w, which is idle and may have tasks in its queues
pub record Between (b : Board) (w : ℕ) : Type 0 where
  pub kept : Kept b
  pub bounded : sum_by burden b.workers ≤ spawned b
  pub others : (u : ℕ) → u ≢ w → (worker b u).state ≡ Idle → (length (worker b u).preempted ≡ 0) × (length (worker b u).fresh ≡ 0)
  pub waits : (t f : ℕ) → task b t ≡ Suspended f → 1 ≤ live b f
  pub here : w < length b.workers
  pub idle : (worker b w).state ≡ Idle

module _ (b : Board) (placed : Placed b) (w t : ℕ) (l : w < length b.workers) where
  pub in_fresh : 1 ≤ times t (worker b w).fresh → is_fresh (task b t) ≡ true
  in_fresh some =
      one_true (is_fresh (task b t)) (omega (arith, placed.fresh_once t, one_at_most (is_fresh (task b t)), get_or-le-sum_by (λ (x : Worker). times t x.fresh) b.workers w no_worker l))

  pub in_preempted : 1 ≤ times t (worker b w).preempted → is_preempted (task b t) ≡ true
  in_preempted some =
      one_true (is_preempted (task b t)) (omega (arith, placed.preempted_once t, one_at_most (is_preempted (task b t)), get_or-le-sum_by (λ (x : Worker). times t x.preempted) b.workers w no_worker l))

-- a task of one sort is not of another
fresh_not : (s : TaskState) → is_fresh s ≡ true → is_preempted s ≡ false
fresh_not s y = other s y
  where
    other : (z : TaskState) → is_fresh z ≡ true → is_preempted z ≡ false
    other TaskState.Unspawned e = refl
    other TaskState.Fresh e = refl
    other (TaskState.Preempted i n) e = absurd (both_ways false refl e)
    other TaskState.Running e = refl
    other (TaskState.Suspended f) e = refl
    other TaskState.Ended e = refl

pub and_off : (t : Bool) → one (t && false) ≡ 0
and_off true = refl
and_off false = refl

pub and_on : (t : Bool) → one (t && true) ≡ one t
and_on true = refl
and_on false = refl

-- a task is lost from one queue of worker v, as x says
module _ (b : Board) (k : Kept b) (v : ℕ) (x : Worker) (w t : ℕ) (w-here : w < length b.workers) (w-idle : (worker b w).state ≡ Idle) (v-here : v < length b.workers) (same_state : x.state ≡ (worker b v).state) (same_spawns : x.spawns ≡ (worker b v).spawns) where
  pub lost_preempted : x.fresh ≡ (worker b v).fresh → ((a : ℕ) → times a (worker b v).preempted ≡ times a x.preempted + one (eqb a t)) → 1 ≤ times t (worker b v).preempted → Takes b k v x w t
  lost_preempted same less some =
      let y = in_preempted b k.placed v t v-here some in
      let n : is_fresh (task b t) ≡ false = ⊎_elim (λ f. absurd (both_ways (is_preempted (task b t)) (fresh_not (task b t) f) y)) (λ z. z) (cases_Bool (is_fresh (task b t))) in
      record {
        taker_here = w-here;
        taker_idle = w-idle;
        giver_here = v-here;
        same_state = same_state;
        same_spawns = same_spawns;
        fresh_less = λ a. let off : one (eqb a t && is_fresh (task b t)) ≡ 0 = ap (λ z. one (eqb a t && z)) n ∙ and_off (eqb a t) in let e : times a x.fresh ≡ times a (worker b v).fresh = ap (times a) same in omega arith;
        preempted_less = λ a. let on : one (eqb a t && is_preempted (task b t)) ≡ one (eqb a t) = ap (λ z. one (eqb a t && z)) y ∙ and_on (eqb a t) in omega (arith, less a);
        waiting = (preempted-live (task b t) y).0;
        unheld = (preempted-live (task b t) y).1;
      }

  pub lost_fresh : x.preempted ≡ (worker b v).preempted → ((a : ℕ) → times a (worker b v).fresh ≡ times a x.fresh + one (eqb a t)) → 1 ≤ times t (worker b v).fresh → Takes b k v x w t
  lost_fresh same less some =
      let y = in_fresh b k.placed v t v-here some in
      let n = fresh_not (task b t) y in
      record {
        taker_here = w-here;
        taker_idle = w-idle;
        giver_here = v-here;
        same_state = same_state;
        same_spawns = same_spawns;
        fresh_less = λ a. let on : one (eqb a t && is_fresh (task b t)) ≡ one (eqb a t) = ap (λ z. one (eqb a t && z)) y ∙ and_on (eqb a t) in omega (arith, less a);
        preempted_less = λ a. let off : one (eqb a t && is_preempted (task b t)) ≡ 0 = ap (λ z. one (eqb a t && z)) n ∙ and_off (eqb a t) in let e : times a x.preempted ≡ times a (worker b v).preempted = ap (times a) same in omega arith;
        waiting = (fresh-live (task b t) y).0;
        unheld = (fresh-live (task b t) y).1;
      }

-- taking a task up
module _ (b : Board) (k : Kept b) (v : ℕ) (x : Worker) (w t : ℕ) (m : Takes b k v x w t) where
  -- nobody is suspended that was not
  waits-after : ((c f : ℕ) → task b c ≡ Suspended f → c ≢ t → 1 ≤ live b f) → (c f : ℕ) → task (takes_up (with_worker b v x) w t) c ≡ Suspended f → 1 ≤ live b f
  waits-after old c f =
      at_set (λ s. s ≡ Suspended f → 1 ≤ live b f) b.tasks t Running Unspawned
      (task_here b t (λ e. both_ways (is_live (task b t)) (ap is_live e) m.waiting)) c
      (λ e is. let z : ◌≡◌ {A = ℕ} 0 1 = cc in absurd (omega arith))
      (λ ne is. old c f is ne)

  pub taken_sound :
      sum_by burden b.workers + burden x ≤ spawned b + burden (worker b v) →
      ((c f : ℕ) → task b c ≡ Suspended f → c ≢ t → 1 ≤ live b f) →
      ((u : ℕ) → u ≢ w → (worker (with_worker b v x) u).state ≡ Idle → (length (worker (with_worker b v x) u).preempted ≡ 0) × (length (worker (with_worker b v x) u).fresh ≡ 0)) →
      Sound (takes_up (with_worker b v x) w t)
  taken_sound room old others =
      record {
        kept = taken-kept b k v x w t m;
        bounded = omega (arith, taken_burdens b k v x w t m, taken-spawned b k v x w t m);
        idle_empty = λ u. at_set (λ (y : Worker). y.state ≡ Idle → (length y.preempted ≡ 0) × (length y.fresh ≡ 0)) (set b.workers v x) w (to_state (Stands (resumes b.rows t (task b t))) (worker (with_worker b v x) w)) no_worker (omega (arith, length-set b.workers v x, m.taker_here)) u
            (λ e is. let z : ◌≡◌ {A = ℕ} 0 1 = cc in absurd (omega arith))
            (λ ne. others u ne);
        waits = waits-after old;
      }

-- worker w picks
module _ (b : Board) (w : ℕ) (h : Between b w) where
  own_others : (x : Worker) (u : ℕ) → u ≢ w → (worker (with_worker b w x) u).state ≡ Idle → (length (worker (with_worker b w x) u).preempted ≡ 0) × (length (worker (with_worker b w x) u).fresh ≡ 0)
  own_others x u ne =
      at_set (λ (y : Worker). y.state ≡ Idle → (length y.preempted ≡ 0) × (length y.fresh ≡ 0)) b.workers w x no_worker h.here u
      (λ e. absurd (ne e))
      (λ other. h.others u ne)

  pub preempted_sound : (t : ℕ) → bottom (worker b w).preempted ≡ Some t → Sound (takes_preempted b w t)
  preempted_sound t e =
      let x = to_preempted (above_bottom (worker b w).preempted) (worker b w) in
      let m = lost_preempted b h.kept w x w t h.here h.idle h.here refl refl refl (bottom-taken (worker b w).preempted t e) (bottom_in (worker b w).preempted t e) in
      taken_sound b h.kept w x w t m (omega (arith, h.bounded, bottom-length (worker b w).preempted t e)) (λ c f is ne. h.waits c f is) (own_others x)

  pub fresh_sound : (t : ℕ) → bottom (worker b w).fresh ≡ Some t → Sound (takes_fresh b w t)
  fresh_sound t e =
      let x = to_fresh (above_bottom (worker b w).fresh) (worker b w) in
      let m = lost_fresh b h.kept w x w t h.here h.idle h.here refl refl refl (bottom-taken (worker b w).fresh t e) (bottom_in (worker b w).fresh t e) in
      taken_sound b h.kept w x w t m (omega (arith, h.bounded, bottom-length (worker b w).fresh t e)) (λ c f is ne. h.waits c f is) (own_others x)

  -- with empty queues it is idle as others are
  rests_sound : bottom (worker b w).preempted ≡ None → bottom (worker b w).fresh ≡ None → Sound b
  rests_sound p f =
      record {
        kept = h.kept;
        bounded = h.bounded;
        idle_empty = λ u is. ⊎_elim
            (λ e. subst (λ j. (length (worker b j).preempted ≡ 0) × (length (worker b j).fresh ≡ 0)) (sym e) (no_bottom (worker b w).preempted p, no_bottom (worker b w).fresh f))
            (λ ne. h.others u ne is)
            (cases_eq u w);
        waits = h.waits;
      }

  by_bottoms : (o d : Option ℕ) → bottom (worker b w).preempted ≡ o → bottom (worker b w).fresh ≡ d → Sound (picks_from o d b w)
  by_bottoms None None p f = rests_sound p f
  by_bottoms (Some t) None p f = preempted_sound t p
  by_bottoms None (Some d) p f = fresh_sound d f
  by_bottoms (Some t) (Some d) p f =
      cond_both (prefers_preempted b t d) (takes_preempted b w t) (takes_fresh b w d) Sound (λ y. preempted_sound t p) (λ n. fresh_sound d f)

  pub picks_sound : Sound (picks b w)
  picks_sound = by_bottoms (bottom (worker b w).preempted) (bottom (worker b w).fresh) refl refl

-- worker w, which is idle, takes the top of a queue of worker v
module _ (b : Board) (h : Sound b) (w v : ℕ) (w-here : w < length b.workers) (w-idle : (worker b w).state ≡ Idle) (v-here : v < length b.workers) where
  -- the victim is not idle, for it has a task queued
  victim_others : (x : Worker) → x.state ≡ (worker b v).state → ((worker b v).state ≡ Idle → ⊥) → (u : ℕ) → u ≢ w → (worker (with_worker b v x) u).state ≡ Idle → (length (worker (with_worker b v x) u).preempted ≡ 0) × (length (worker (with_worker b v x) u).fresh ≡ 0)
  victim_others x same busy u ne =
      at_set (λ (y : Worker). y.state ≡ Idle → (length y.preempted ≡ 0) × (length y.fresh ≡ 0)) b.workers v x no_worker v-here u
      (λ e is. absurd (busy (sym same ∙ is)))
      (λ other. h.idle_empty u)

  pub stolen_preempted : (t : ℕ) → top (worker b v).preempted ≡ Some t → Sound (takes_up (with_worker b v (robbed (to_preempted (below_top (worker b v).preempted) (worker b v)))) w t)
  stolen_preempted t e =
      let x = robbed (to_preempted (below_top (worker b v).preempted) (worker b v)) in
      let m = lost_preempted b h.kept v x w t w-here w-idle v-here refl refl refl (top_taken (worker b v).preempted t e) (top_in (worker b v).preempted t e) in
      taken_sound b h.kept v x w t m (omega (arith, h.bounded, top-length (worker b v).preempted t e)) (λ c f is ne. h.waits c f is)
      (victim_others x refl (λ is. omega (arith, (h.idle_empty v is).0, top-length (worker b v).preempted t e)))

  pub stolen_fresh : (t : ℕ) → top (worker b v).fresh ≡ Some t → Sound (takes_up (with_worker b v (robbed (to_fresh (below_top (worker b v).fresh) (worker b v)))) w t)
  stolen_fresh t e =
      let x = robbed (to_fresh (below_top (worker b v).fresh) (worker b v)) in
      let m = lost_fresh b h.kept v x w t w-here w-idle v-here refl refl refl (top_taken (worker b v).fresh t e) (top_in (worker b v).fresh t e) in
      taken_sound b h.kept v x w t m (omega (arith, h.bounded, top-length (worker b v).fresh t e)) (λ c f is ne. h.waits c f is)
      (victim_others x refl (λ is. omega (arith, (h.idle_empty v is).1, top-length (worker b v).fresh t e)))
