-- The rules by which a worker goes on in its task: boards stay sound. Assumes nothing.
use Rattle.std.proofs.Common.{◌≡◌, ℕ, ◌+◌, ◌<◌, ◌≤◌, true, leb, ◌≢◌, length, Some, None, sym, refl, ap, ◌∙◌, arith}
use Rattle.std.proofs.lemmas.Bool.{cond_both, and_parts, leb-true, leb-false}
use Rattle.job.specs.Rows.{row, is_finish, end}
use Rattle.job.proofs.LawfulRows.{ends-after}
use Rattle.rules.specs.declared.state.Position.{Position}
use Rattle.rules.specs.declared.state.WorkerState.{WorkerState}
use Rattle.rules.specs.declared.state.WorkerState.TheVariants.{Idle, Stands, Out}
use Rattle.rules.specs.Words.{inside, finish_of, within, onto, into}
use Rattle.rules.specs.Boards.{Worker, no_worker, Board, worker, live, to_state, with_worker, stands}
use Rattle.rules.specs.Closing.{out_of}
use Rattle.rules.specs.Loads.{most_figure}
use Rattle.rules.specs.Placing.{settled, counts_spawn}
use Rattle.rules.specs.Sound.{is_before_work, position_of, burden, is_live_task, keeper, LawfulPosition, Kept, Sound}
use Rattle.laws.proofs.Changes.{at_set, stands_here}
use Rattle.laws.proofs.Endings.{counts}
use Rattle.laws.proofs.Positions.{next_near, next_row, into-lawful, onto-lawful, inner_near, out_lawful}
use Rattle.laws.proofs.Repositions.{Moves, moved_kept, moved_burdens}
use Rattle.laws.proofs.Rows.{within_deeper, within_outer}

idle_stands : {Q : Type 0} (s : WorkerState) (p : Position) → position_of s ≡ Some p → s ≡ Idle → Q
idle_stands s p e f = let none : None ≡ Some p = sym (ap position_of f) ∙ e in let z : ◌≡◌ {A = ℕ} 0 1 = cc in absurd (omega arith)

pub stands_not : (Q : Position → Type 0) (q r : Position) → Stands q ≡ Out r → Q r
stands_not Q q r e = let z : ◌≡◌ {A = ℕ} 0 1 = cc in absurd (omega arith)

-- in each of these the worker keeps its task, and the board stays sound
pub moved_sound : (b : Board) (h : Sound b) (w : ℕ) (x : Worker) (p q : Position) → Moves b h.kept w x p q → burden x ≤ burden (worker b w) → Sound (with_worker b w x)
moved_sound b h w x p q m light =
    record {
      kept = moved_kept b h.kept w x p q m;
      bounded = omega (arith, h.bounded, moved_burdens b h.kept w x p q m);
      idle_empty = λ u. at_set (λ (y : Worker). y.state ≡ Idle → (length y.preempted ≡ 0) × (length y.fresh ≡ 0)) b.workers w x no_worker (stands_here b w p m.from) u
          (λ e. idle_stands x.state q m.to)
          (λ ne. h.idle_empty u);
      waits = h.waits;
    }

module _ (b : Board) (h : Sound b) (w : ℕ) (p : Position) (from : position_of (worker b w).state ≡ Some p) where
  abbrev k : Kept b
  k = h.kept

  at : LawfulPosition b.rows p
  at = k.positioned.workers_stand w p from

  here : w < length b.workers
  here = stands_here b w p from

  -- what the task keeps
  own-inside : (a : ℕ) → is_live_task b a ≡ true → p.task ≡ keeper b a → within b.rows p.inner (finish_of b.rows a) ≡ true
  own-inside a y = k.waited.keeper_stands a w p y from

  -- another state of the same worker, at another place of the same task
  pub to_sound : (s : WorkerState) (q : Position) → position_of s ≡ Some q → ((r : Position) → s ≡ Out r → is_before_work b.rows r ≡ true) → q.task ≡ p.task → LawfulPosition b.rows q → ((a : ℕ) → is_live_task b a ≡ true → p.task ≡ keeper b a → within b.rows q.inner (finish_of b.rows a) ≡ true) → p.next ≤ q.next → Sound (with_worker b w (to_state s (worker b w)))
  to_sound s q to out same lawful inner onward =
      moved_sound b h w (to_state s (worker b w)) p q
      (record {
        from = from;
        to = to;
        fresh_same = refl;
        preempted_same = refl;
        counter = k.shaped.counters w here;
        out_work = out;
        same_task = same;
        lawful = lawful;
        inside = inner;
        onward = onward;
      })
      (omega arith)

  -- at the same place
  pub still_sound : (s : WorkerState) → position_of s ≡ Some p → ((r : Position) → s ≡ Out r → is_before_work b.rows r ≡ true) → Sound (with_worker b w (to_state s (worker b w)))
  still_sound s to out = to_sound s p to out refl at own-inside (omega arith)

  module _ (on : p.next ≢ end b.rows p.inner) where
    -- a finish row is opened
    pub opened_sound : is_finish (row b.rows p.next) ≡ true → Sound (stands b w (into p.next p))
    opened_sound y =
        to_sound (Stands (into p.next p)) (into p.next p) refl (stands_not (λ r. is_before_work b.rows r ≡ true) (into p.next p)) refl (into-lawful b.rows k.shaped.lawful p at on y)
        (λ a z own. within_deeper b.rows k.shaped.lawful p.next p.inner (finish_of b.rows a) (next_row b.rows k.shaped.lawful p at on) (next_near b.rows k.shaped.lawful p at on) (own-inside a z own))
        (omega arith)

    -- a row is passed
    pub passed_sound : Sound (stands b w (onto (end b.rows p.next) p))
    passed_sound =
        let past = ends-after b.rows p.next (k.shaped.lawful.each p.next (next_row b.rows k.shaped.lawful p at on)) in
        to_sound (Stands (onto (end b.rows p.next) p)) (onto (end b.rows p.next) p) refl (stands_not (λ r. is_before_work b.rows r ≡ true) (onto (end b.rows p.next) p)) refl (onto-lawful b.rows k.shaped.lawful p at on) own-inside (omega arith)

  -- a finish row other than row 0 is closed, in which nobody is live
  pub closed_sound : is_finish (row b.rows p.inner) ≡ true → p.inner ≢ 0 → p.next ≡ end b.rows p.inner → live b p.inner ≡ 0 → Sound (stands b w (out_of b.rows p))
  closed_sound y other last none =
      to_sound (Stands (out_of b.rows p)) (out_of b.rows p) refl (stands_not (λ r. is_before_work b.rows r ≡ true) (out_of b.rows p)) refl (out_lawful b.rows k.shaped.lawful p at y other)
      (λ a z own. within_outer b.rows k.shaped.lawful p.inner (inside b.rows p.inner) (finish_of b.rows a) (inner_near b.rows k.shaped.lawful p at y other) (own-inside a z own)
      (λ same. omega (arith, counts b k a z p.inner same, none)))
      (omega arith)

  -- a spawn is counted
  pub counted_sound : Sound (with_worker b w (counts_spawn b.figures (worker b w)))
  counted_sound =
      cond_both (leb b.figures.interval ((worker b w).spawns + 1)) (settled b.figures (worker b w)) _ (λ x. Sound (with_worker b w x))
      (λ e. moved_sound b h w (settled b.figures (worker b w)) p p (moves (settled b.figures (worker b w)) refl refl refl some) (omega arith))
      (λ e. moved_sound b h w _ p p (moves _ refl refl refl (leb-false b.figures.interval ((worker b w).spawns + 1) e)) (omega arith))
    where
      some : 0 < b.figures.interval
      some =
          let f = b.figures in
          let one' = and_parts (leb f.stack most_figure) _ k.shaped.figured in
          let two = and_parts (leb f.fresh most_figure) _ one'.1 in
          let three = and_parts (leb 1 f.interval) (leb f.interval most_figure) two.1 in
          leb-true 1 f.interval three.0

      moves : (x : Worker) → x.state ≡ (worker b w).state → x.fresh ≡ (worker b w).fresh → x.preempted ≡ (worker b w).preempted → x.spawns < b.figures.interval → Moves b k w x p p
      moves x same f q c =
          record {
            from = from;
            to = ap position_of same ∙ from;
            fresh_same = f;
            preempted_same = q;
            counter = c;
            out_work = λ r e. k.positioned.outs_work w r (sym same ∙ e);
            same_task = refl;
            lawful = at;
            inside = own-inside;
            onward = omega arith;
          }
