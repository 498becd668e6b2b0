-- What has become of a task, told by tests. Assumes nothing.
use Rattle.std.proofs.Common.{◌≡◌, ℕ, true, false, ◌⊎◌, List, Some, refl, inl, inr}
use Rattle.std.proofs.lemmas.Bool.{both_ways}
use Rattle.job.specs.declared.row.Row.{Row}
use Rattle.rules.specs.declared.state.TaskState.{TaskState}
use Rattle.rules.specs.declared.state.TaskState.TheVariants.{Unspawned, Fresh, Preempted, Running, Suspended, Ended}
use Rattle.rules.specs.Boards.{resumes}
use Rattle.rules.specs.Sound.{is_unspawned, is_unbegun, is_fresh, is_preempted, is_running, is_ended, is_begun, is_live, stopped}

pub resumes-task : (rows : List Row) (t : ℕ) (s : TaskState) → (resumes rows t s).task ≡ t
resumes-task rows t Unspawned = refl
resumes-task rows t Fresh = refl
resumes-task rows t (Preempted i n) = refl
resumes-task rows t Running = refl
resumes-task rows t (Suspended f) = refl
resumes-task rows t Ended = refl

-- a task that waits for a worker: it is fresh, or it stopped where it resumes
pub waiting_cases : (rows : List Row) (t : ℕ) (s : TaskState) → is_live s ≡ true → is_running s ≡ false → (s ≡ Fresh) ⊎ (stopped rows t s ≡ Some (resumes rows t s))
waiting_cases rows t Unspawned y n = absurd (both_ways false refl y)
waiting_cases rows t Fresh y n = inl refl
waiting_cases rows t (Preempted i m) y n = inr refl
waiting_cases rows t Running y n = absurd (both_ways true n refl)
waiting_cases rows t (Suspended f) y n = inr refl
waiting_cases rows t Ended y n = absurd (both_ways false refl y)

pub live-spawned : (s : TaskState) → is_live s ≡ true → is_unspawned s ≡ false
live-spawned Unspawned y = absurd (both_ways false refl y)
live-spawned Fresh y = refl
live-spawned (Preempted i n) y = refl
live-spawned Running y = refl
live-spawned (Suspended f) y = refl
live-spawned Ended y = refl

pub live_unended : (s : TaskState) → is_live s ≡ true → is_ended s ≡ false
live_unended Unspawned y = refl
live_unended Fresh y = refl
live_unended (Preempted i n) y = refl
live_unended Running y = refl
live_unended (Suspended f) y = refl
live_unended Ended y = absurd (both_ways false refl y)

pub running_is : (s : TaskState) → is_running s ≡ true → s ≡ Running
running_is Unspawned y = absurd (both_ways false refl y)
running_is Fresh y = absurd (both_ways false refl y)
running_is (Preempted i n) y = absurd (both_ways false refl y)
running_is Running y = refl
running_is (Suspended f) y = absurd (both_ways false refl y)
running_is Ended y = absurd (both_ways false refl y)

pub begun_live : (s : TaskState) → is_begun s ≡ true → is_live s ≡ true
begun_live Unspawned y = absurd (both_ways false refl y)
begun_live Fresh y = absurd (both_ways false refl y)
begun_live (Preempted i n) y = refl
begun_live Running y = refl
begun_live (Suspended f) y = refl
begun_live Ended y = absurd (both_ways false refl y)

pub begun_unended : (s : TaskState) → is_begun s ≡ true → is_unbegun s ≡ false
begun_unended Unspawned y = absurd (both_ways false refl y)
begun_unended Fresh y = absurd (both_ways false refl y)
begun_unended (Preempted i n) y = refl
begun_unended Running y = refl
begun_unended (Suspended f) y = refl
begun_unended Ended y = absurd (both_ways false refl y)

pub fresh-live : (s : TaskState) → is_fresh s ≡ true → (is_live s ≡ true) × (is_running s ≡ false)
fresh-live Unspawned y = absurd (both_ways false refl y)
fresh-live Fresh y = (refl, refl)
fresh-live (Preempted i n) y = absurd (both_ways false refl y)
fresh-live Running y = absurd (both_ways false refl y)
fresh-live (Suspended f) y = absurd (both_ways false refl y)
fresh-live Ended y = absurd (both_ways false refl y)

pub preempted-live : (s : TaskState) → is_preempted s ≡ true → (is_live s ≡ true) × (is_running s ≡ false)
preempted-live Unspawned y = absurd (both_ways false refl y)
preempted-live Fresh y = absurd (both_ways false refl y)
preempted-live (Preempted i n) y = (refl, refl)
preempted-live Running y = absurd (both_ways false refl y)
preempted-live (Suspended f) y = absurd (both_ways false refl y)
preempted-live Ended y = absurd (both_ways false refl y)
