-- A finish row that is closed at its end: boards are sound after it. Assumes nothing.
use Rattle.std.proofs.Common.{◌≡◌, ℕ, ◌≤◌, true, eqb, Some, sym, refl, ap, ◌∙◌, arith}
use Rattle.std.proofs.lemmas.Bool.{cond_both, both_ways, eqb-true, eqb-false}
use Rattle.job.specs.Rows.{row, is_finish, end}
use Rattle.rules.specs.declared.state.Position.{Position}
use Rattle.rules.specs.declared.state.TaskState.{TaskState}
use Rattle.rules.specs.declared.state.TaskState.TheVariants.{Unspawned, Running, Suspended, Ended}
use Rattle.rules.specs.Boards.{Board, worker, task, live, stands}
use Rattle.rules.specs.Closing.{out_of, ends_run, closes}
use Rattle.rules.specs.Sound.{is_running, position_of, Kept, Sound}
use Rattle.laws.proofs.Changes.{at_set, task_here}
use Rattle.laws.proofs.Endings.{last_kept, last_burdens, last_spawned, last_ran, last_nobody, queues_empty}
use Rattle.laws.proofs.Standing.{closed_sound}

pub running_not : (s : TaskState) → s ≡ Running → s ≡ Unspawned → ⊥
running_not s e f = both_ways (is_running s) (ap is_running f) (ap is_running e)

module _ (b : Board) (h : Sound b) (w : ℕ) (p : Position) (from : position_of (worker b w).state ≡ Some p) where
  abbrev k : Kept b
  k = h.kept

  -- row 0 closes, and the run ends: nobody is left
  pub last_sound : p.inner ≡ 0 → live b 0 ≡ 0 → Sound (ends_run b w)
  last_sound first none =
      let k' = last_kept b k w p from first none in
      let empty = queues_empty (ends_run b w) k' (last_nobody b k w p from first none) (k'.ending.first_ended refl) in
      record {
        kept = k';
        bounded = omega (arith, h.bounded, last_burdens b k w p from first none, last_spawned b k w p from first none);
        idle_empty = λ u is. empty u;
        waits = λ c f. at_set (λ s. s ≡ Suspended f → 1 ≤ live b f) b.tasks 0 Ended Unspawned (task_here b 0 (running_not (task b 0) (last_ran b k w p from first none))) c
            (λ e is. let z : ◌≡◌ {A = ℕ} 0 1 = cc in absurd (omega arith))
            (λ ne is. h.waits c f is);
      }

  -- a finish row is closed at its end, in which nobody is live
  pub closes_sound : is_finish (row b.rows p.inner) ≡ true → p.next ≡ end b.rows p.inner → live b p.inner ≡ 0 → Sound (closes b w p)
  closes_sound y last none =
      cond_both (eqb p.inner 0) (ends_run b w) (stands b w (out_of b.rows p)) Sound
      (λ e. let first = eqb-true p.inner 0 e in last_sound first (ap (live b) (sym first) ∙ none))
      (λ n. closed_sound b h w p from y (eqb-false p.inner 0 n) last none)
