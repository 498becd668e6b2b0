-- Every call keeps a board sound. Assumes nothing.
use Rattle.std.proofs.Common.{◌≡◌, ℕ, ◌-◌, ◌<◌, true, false, cond, not, ◌&&◌, eqb, ltb, leb, length, Some, None, Option, sym, refl, ap, subst, arith}
use Rattle.std.proofs.lemmas.Bool.{cond_both, and_parts, eqb-true, eqb-false, ltb-true, leb-false}
use Rattle.deque.specs.Queues.{top}
use Rattle.job.specs.Rows.{row, is_finish, is_async, end, owner}
use Rattle.rules.specs.declared.met.Met.TheVariants.{Work, Finish, Async, FinishEnd, AsyncEnd}
use Rattle.rules.specs.declared.state.Position.{Position}
use Rattle.rules.specs.declared.state.WorkerState.{WorkerState}
use Rattle.rules.specs.declared.state.WorkerState.TheVariants.{Idle, Stands, Out}
use Rattle.rules.specs.Words.{finish_of, meets_row, meets_end, meets}
use Rattle.rules.specs.Boards.{Board, worker, task, live, with_live, leaves}
use Rattle.rules.specs.Steps.{Dealt, ends_finish, ends_task, suspended_at, acts, steals_from, looks_at, turns, deals}
use Rattle.rules.specs.Sound.{position_of, LawfulPosition, Sound}
use Rattle.rules.specs.declared.state.TaskState.TheVariants.{Ended}
use Rattle.laws.proofs.Closings.{closes_sound}
use Rattle.laws.proofs.Positions.{inner_async}
use Rattle.laws.proofs.Spawning.{placed_sound}
use Rattle.laws.proofs.Standing.{opened_sound}
use Rattle.laws.proofs.Stopping.{suspends_sound, picks_on, resumes_sound}
use Rattle.laws.proofs.Taking.{stolen_preempted, stolen_fresh}

-- a worker that stands acts by what it meets
module _ (b : Board) (h : Sound b) (w : ℕ) (p : Position) (is : (worker b w).state ≡ Stands p) where
  from : position_of (worker b w).state ≡ Some p
  from = ap position_of is

  at : LawfulPosition b.rows p
  at = h.kept.positioned.workers_stand w p from

  finish-end : is_finish (row b.rows p.inner) ≡ true → p.next ≡ end b.rows p.inner → Sound (ends_finish b w p p.inner).board
  finish-end y last =
      cond_both (eqb (live b p.inner) 0) _ _ (λ (d : Dealt). Sound d.board)
      (λ e. closes_sound b h w p from y last (eqb-true (live b p.inner) 0 e))
      (λ n. let some = eqb-false (live b p.inner) 0 n in suspends_sound b h w p from last (omega arith))

  async_end : is_finish (row b.rows p.inner) ≡ false → Sound (ends_task b w p.inner).board
  async_end n =
      let both = inner_async b.rows h.kept.shaped.lawful p at n in
      subst (λ a. Sound (ends_task b w a).board) (sym both.0)
      (cond_both (eqb (live (ended p.task) (finish_of b.rows p.task)) 0 && suspended_at (finish_of b.rows p.task) (task (ended p.task) (owner b.rows (finish_of b.rows p.task)))) _ _ (λ (d : Dealt). Sound d.board)
      (λ y. resumes_sound b h w p from both.0 both.1 y)
      (λ no'. picks_on b h w p from both.0 both.1 no'))
    where
      ended : ℕ → Board
      ended a = with_live (leaves b w a Ended) (finish_of b.rows a) (live b (finish_of b.rows a) - 1)

  pub acts_sound : Sound (acts b w p (meets b.rows p)).board
  acts_sound =
      cond_both (eqb p.next (end b.rows p.inner)) (meets_end b.rows p.inner) (meets_row b.rows p.next) (λ met. Sound (acts b w p met).board)
      (λ e.
      let last = eqb-true p.next (end b.rows p.inner) e in
      cond_both (is_finish (row b.rows p.inner)) (FinishEnd p.inner) (AsyncEnd p.inner) (λ met. Sound (acts b w p met).board) (λ y. finish-end y last) async_end)
      (λ n.
      let on = eqb-false p.next (end b.rows p.inner) n in
      cond_both (is_finish (row b.rows p.next)) (Finish p.next) (cond (is_async (row b.rows p.next)) (Async p.next) (Work p.next)) (λ met. Sound (acts b w p met).board)
      (λ y. opened_sound b h w p from on y)
      (λ nf.
      cond_both (is_async (row b.rows p.next)) (Async p.next) (Work p.next) (λ met. Sound (acts b w p met).board)
      (λ y. placed_sound b h w p (record { from = from; on = on; async = y }))
      (λ na. h)))

-- a worker that is idle looks at a victim
module _ (b : Board) (h : Sound b) (w v : ℕ) (here : w < length b.workers) where
  by_tops : (worker b w).state ≡ Idle → v < length b.workers → (o d : Option ℕ) → top (worker b v).preempted ≡ o → top (worker b v).fresh ≡ d → Sound (steals_from o d b w v).board
  by_tops idle l (Some t) d e f = stolen_preempted b h w v here idle l t e
  by_tops idle l None (Some t) e f = stolen_fresh b h w v here idle l t f
  by_tops idle l None None e f = h

  looks_sound : (worker b w).state ≡ Idle → Sound (looks_at b w v).board
  looks_sound idle =
      cond_both (ltb v (length b.workers) && not (eqb v w)) _ _ (λ (d : Dealt). Sound d.board)
      (λ y. by_tops idle (ltb-true v (length b.workers) (and_parts (ltb v (length b.workers)) (not (eqb v w)) y).0) (top (worker b v).preempted) (top (worker b v).fresh) refl refl)
      (λ n. h)

  turns_sound : (s : WorkerState) → (worker b w).state ≡ s → Sound (turns b w v s).board
  turns_sound Idle is = looks_sound is
  turns_sound (Out p) is = h
  turns_sound (Stands p) is = acts_sound b h w p is

pub deals_sound : (b : Board) → Sound b → (lines w v : ℕ) → Sound (deals b lines w v).board
deals_sound b h lines w v =
    cond_both (leb (length b.workers) w) _ _ (λ (d : Dealt). Sound d.board)
    (λ y. h)
    (λ n.
    cond_both (ltb lines (length b.rows)) _ _ (λ (d : Dealt). Sound d.board)
    (λ y. h)
    (λ n'. cond_both b.finished _ _ (λ (d : Dealt). Sound d.board) (λ y. h) (λ n''. turns_sound b h w v (leb-false (length b.workers) w n) (worker b w).state refl)))
