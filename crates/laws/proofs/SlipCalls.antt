-- Work rows taken, handed in and given back keep a board sound. Assumes nothing.
use Rattle.std.proofs.Common.{◌≡◌, ℕ, ◌+◌, true, false, cond, not, eqb, ltb, leb, List, length, Some, Result, refl, ap, subst, arith}
use Rattle.std.proofs.lemmas.Bool.{cond_both, both_ways, and_parts, and_from, eqb-true, eqb-false, not-true, not_from_false}
use Rattle.job.specs.Rows.{row, is_work, is_finish, is_async, end}
use Rattle.job.proofs.LawfulRows.{work_from, work_alone}
use Rattle.rules.specs.declared.met.Met.TheVariants.{Work, Finish, Async, FinishEnd, AsyncEnd}
use Rattle.rules.specs.declared.refusal.DealRefusal.{DealRefusal}
use Rattle.rules.specs.declared.state.Position.{Position}
use Rattle.rules.specs.declared.state.WorkerState.{WorkerState}
use Rattle.rules.specs.declared.state.WorkerState.TheVariants.{Idle, Stands, Out}
use Rattle.rules.specs.Words.{onto, meets_row, meets_end, meets}
use Rattle.rules.specs.Boards.{Board, worker, to_state, with_worker, stands}
use Rattle.rules.specs.Slips.{Slip, Took, takes_met, takes_in, take, out_at, is_out, back_onto, hand_in, give_back}
use Rattle.rules.specs.Steps.{Outcome}
use Rattle.rules.specs.Sound.{position_of, is_before_work, Sound}
use Rattle.laws.proofs.Positions.{next_row}
use Rattle.laws.proofs.Standing.{still_sound, passed_sound, stands_not}

-- a worker that stands before a work row goes out for it
module _ (b : Board) (h : Sound b) (w : ℕ) (p : Position) (is : (worker b w).state ≡ Stands p) where
  from : position_of (worker b w).state ≡ Some p
  from = ap position_of is

  takes_out : eqb p.next (end b.rows p.inner) ≡ false → is_finish (row b.rows p.next) ≡ false → is_async (row b.rows p.next) ≡ false → Sound (with_worker b w (to_state (Out p) (worker b w)))
  takes_out n nf na =
      let law = h.kept.shaped.lawful in
      let on = eqb-false p.next (end b.rows p.inner) n in
      let here = next_row b.rows law p (h.kept.positioned.workers_stand w p from) on in
      let work = work_from b.rows p.next (law.each p.next here) nf na in
      let before = and_from (not (eqb p.next (end b.rows p.inner))) (is_work (row b.rows p.next)) (not_from_false _ n) work in
      still_sound b h w p from (Out p) refl (λ r e. let same : p ≡ r = cc in subst (λ q. is_before_work b.rows q ≡ true) same before)

  met_sound : Sound (takes_met b w p (meets b.rows p)).board
  met_sound =
      cond_both (eqb p.next (end b.rows p.inner)) (meets_end b.rows p.inner) (meets_row b.rows p.next) (λ met. Sound (takes_met b w p met).board)
      (λ e. cond_both (is_finish (row b.rows p.inner)) (FinishEnd p.inner) (AsyncEnd p.inner) (λ met. Sound (takes_met b w p met).board) (λ y. h) (λ n. h))
      (λ n.
      cond_both (is_finish (row b.rows p.next)) (Finish p.next) (cond (is_async (row b.rows p.next)) (Async p.next) (Work p.next)) (λ met. Sound (takes_met b w p met).board)
      (λ y. h)
      (λ nf. cond_both (is_async (row b.rows p.next)) (Async p.next) (Work p.next) (λ met. Sound (takes_met b w p met).board) (λ y. h) (λ na. takes_out n nf na)))

takes_in_sound : (b : Board) → Sound b → (w : ℕ) (s : WorkerState) → (worker b w).state ≡ s → Sound (takes_in b w s).board
takes_in_sound b h w Idle is = h
takes_in_sound b h w (Out p) is = h
takes_in_sound b h w (Stands p) is = met_sound b h w p is

pub take_sound : (b : Board) → Sound b → (w : ℕ) → Sound (take b w).board
take_sound b h w =
    cond_both (leb (length b.workers) w) _ _ (λ (d : Took). Sound d.board)
    (λ y. h)
    (λ n. cond_both b.finished _ _ (λ (d : Took). Sound d.board) (λ y. h) (λ n'. takes_in_sound b h w (worker b w).state refl))

-- a worker that is out comes in again, past the row or before it
module _ (b : Board) (h : Sound b) (w r : ℕ) where
  passes : (s : WorkerState) → (worker b w).state ≡ s → out_at s r ≡ true → Sound (with_worker b w (to_state (back_onto (r + 1) s) (worker b w)))
  unfolding end
  passes Idle is y = absurd (both_ways false refl y)
  passes (Stands p) is y = absurd (both_ways false refl y)
  passes (Out p) is y =
      let law = h.kept.shaped.lawful in
      let from : position_of (worker b w).state ≡ Some p = ap position_of is in
      let both = and_parts (not (eqb p.next (end b.rows p.inner))) (is_work (row b.rows p.next)) (h.kept.positioned.outs_work w p is) in
      let on = eqb-false p.next (end b.rows p.inner) (not-true _ both.0) in
      let here = next_row b.rows law p (h.kept.positioned.workers_stand w p from) on in
      let alone = work_alone b.rows p.next (law.each p.next here) both.1 in
      let next : end b.rows p.next ≡ r + 1 = omega (arith, alone, eqb-true p.next r y) in
      subst (λ n. Sound (stands b w (onto n p))) next (passed_sound b h w p from on)

  returns : (s : WorkerState) → (worker b w).state ≡ s → out_at s r ≡ true → Sound (with_worker b w (to_state (back_onto r s) (worker b w)))
  returns Idle is y = absurd (both_ways false refl y)
  returns (Stands p) is y = absurd (both_ways false refl y)
  returns (Out p) is y =
      let next : p.next ≡ r = eqb-true p.next r y in
      subst (λ n. Sound (stands b w (onto n p))) next
      (still_sound b h w p (ap position_of is) (Stands p) refl (stands_not (λ q. is_before_work b.rows q ≡ true) p))

module _ {M : Type 0} (nothing : M) (join : M → M → M) where
  pub hand_in_sound : (b : Board) → Sound b → (book : List M) (slip : Slip) (x : M) → Sound (hand_in nothing join b book slip x).board
  hand_in_sound b h book slip x =
      cond_both (ltb (length book) (length b.rows)) _ _ (λ (d : Outcome (Result (Unit {0}) (DealRefusal × Slip)) M). Sound d.board)
      (λ y. h)
      (λ n.
      cond_both (is_out b slip) _ _ (λ (d : Outcome (Result (Unit {0}) (DealRefusal × Slip)) M). Sound d.board)
      (λ y. passes b h slip.worker slip.row (worker b slip.worker).state refl y)
      (λ n'. h))

pub give_back_sound : (b : Board) → Sound b → (slip : Slip) → Sound (give_back b slip).board
give_back_sound b h slip =
    cond_both (is_out b slip) _ _ Sound (λ y. returns b h slip.worker slip.row (worker b slip.worker).state refl y) (λ n. h)
