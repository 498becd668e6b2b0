-- Reading what was changed. Assumes nothing.
use Rattle.std.proofs.Common.{◌≡◌, ℕ, ◌<◌, true, ◌≢◌, List, length, get_or, set, Some, None, sym, refl, ap, ◌∙◌, subst, ⊎_elim, arith}
use Rattle.std.proofs.lemmas.List.{get_or-set_same, get_or-set_other, get_or_past}
use Rattle.std.proofs.lemmas.List.Sums.{get_or-le-sum_by}
use Rattle.std.proofs.lemmas.Bool.{cases_eq, cases_lt, eq-eqb}
use Rattle.rules.specs.declared.state.Position.{Position}
use Rattle.rules.specs.declared.state.TaskState.TheVariants.{Unspawned}
use Rattle.rules.specs.declared.state.WorkerState.{WorkerState}
use Rattle.rules.specs.declared.state.WorkerState.TheVariants.{Idle, Stands, Out}
use Rattle.rules.specs.Boards.{Worker, no_worker, Board, worker, task, task_of}
use Rattle.rules.specs.Sound.{one, has, is_running, position_of, Placed}
use Rattle.laws.proofs.Sums.{two_of_sum, one_at_most, one_true}

-- what holds of a new entry, and of every other as it was
pub at_set : {X : Type 0} (P : X → Type 0) (xs : List X) (i : ℕ) (x d : X) → i < length xs → (j : ℕ) → (j ≡ i → P x) → (j ≢ i → P (get_or xs j d)) → P (get_or (set xs i x) j d)
at_set P xs i x d l j here there =
    ⊎_elim
    (λ same. subst P (sym (ap (λ k. get_or (set xs i x) k d) same ∙ get_or-set_same xs i x d l)) (here same))
    (λ other. subst P (sym (get_or-set_other xs i j x d other)) (there other))
    (cases_eq j i)

pub task_of_position : (s : WorkerState) (p : Position) → position_of s ≡ Some p → task_of s ≡ Some p.task
task_of_position Idle p e = let z : ◌≡◌ {A = ℕ} 0 1 = cc in absurd (omega arith)
task_of_position (Stands q) p e = cc
task_of_position (Out q) p e = cc

-- a worker with a position is one of the workers
pub stands_here : (b : Board) (w : ℕ) (p : Position) → position_of (worker b w).state ≡ Some p → w < length b.workers
stands_here b w p e =
    ⊎_elim
    (λ l. l)
    (λ past.
    let none : None ≡ Some p = sym (ap (λ (x : Worker). position_of x.state) (get_or_past b.workers w no_worker past)) ∙ e in
    let z : ◌≡◌ {A = ℕ} 0 1 = cc in
    absurd (omega arith))
    (cases_lt w (length b.workers))

-- a task that is no longer unspawned has a place
pub task_here : (b : Board) (t : ℕ) → (task b t ≡ Unspawned → ⊥) → t < length b.tasks
task_here b t ne = ⊎_elim (λ l. l) (λ past. absurd (ne (get_or_past b.tasks t Unspawned past))) (cases_lt t (length b.tasks))

holds : (a : ℕ) (x : Worker) → ℕ
holds a x = one (has a (task_of x.state))

module _ (b : Board) (placed : Placed b) where
  -- who holds a task holds it alone, and it runs
  held : (a w : ℕ) → task_of (worker b w).state ≡ Some a → one (has a (task_of (worker b w).state)) ≡ 1
  held a w e = ap (λ o. one (has a o)) e ∙ ap one (eq-eqb a a refl)

  pub runs : (a w : ℕ) → w < length b.workers → task_of (worker b w).state ≡ Some a → is_running (task b a) ≡ true
  runs a w l e =
      let some = get_or-le-sum_by (λ (x : Worker). one (has a (task_of x.state))) b.workers w no_worker l in
      one_true (is_running (task b a)) (omega (arith, placed.running_once a, held a w e, one_at_most (is_running (task b a))))

  pub alone : (a v w : ℕ) → v < length b.workers → w < length b.workers → task_of (worker b v).state ≡ Some a → task_of (worker b w).state ≡ Some a → v ≡ w
  alone a v w l m e f =
      ⊎_elim
      (λ same. same)
      (λ other.
      let two = two_of_sum (λ (x : Worker). one (has a (task_of x.state))) b.workers v w no_worker l m other in
      absurd (omega (arith, placed.running_once a, held a v e, held a w f, one_at_most (is_running (task b a)))))
      (cases_eq v w)
