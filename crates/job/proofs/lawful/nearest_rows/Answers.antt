use Rattle.std.proofs.Common.{◌≡◌, true, length, get_or, set, Some, None, sym, ap, ◌∙◌, subst, ⊎_elim, arith, below_more, length-set}
use Rattle.std.proofs.lemmas.List.{get_or-set_same, get_or-set_other}
use Rattle.std.proofs.lemmas.Bool.{cases_eq}
use Rattle.job.specs.Rows.{nearest}
use Rattle.job.specs.Lawful.{lawful_row}
use Rattle.job.proofs.Climbing.{lower}
use Rattle.job.proofs.LawfulRows.{whole-end, unlawful_at, unlawful_none}
use Rattle.job.proofs.Nests.{counted_is, granted, verdict_is}
use Rattle.job.proofs.lawful.nearest_rows.Goals as goal

pub returns-then-not-first_is_lawful-clause-result : goal.returns-then-not-first_is_lawful-clause-result
returns-then-not-first_is_lawful-clause-result g c =
    let rows = g.S.JobSource.rows c.args.source.now in
    let few = counted_is (length rows) _ c.requires in
    verdict_is rows _ c.requires (Some 0)
    (unlawful_at rows 0 (omega arith) (sym c.if-not-first_is_lawful.ensures) (λ q l. absurd (omega arith)))

pub climb-p-requires : goal.climb-p-requires
climb-p-requires g c =
    let rows = g.S.JobSource.rows c.args.source.now in
    let few = counted_is (length rows) _ c.requires in
    let all = whole-end rows (sym c.if-not-first_is_lawful.ensures) in
    record { later = (omega arith, omega arith); whole = omega arith; tabled = c.loop-r.invariant.2 }

pub returns-then-not-is_lawful-clause-result : goal.returns-then-not-is_lawful-clause-result
returns-then-not-is_lawful-clause-result g c =
    let rows = g.S.JobSource.rows c.args.source.now in
    let few = counted_is (length rows) _ c.requires in
    verdict_is rows _ c.requires (Some c.loop-r.r)
    (unlawful_at rows c.loop-r.r (omega arith) (sym c.if-not-is_lawful.ensures) c.loop-r.invariant.1)

pub overflow_cast-nearest : goal.overflow_cast-nearest
overflow_cast-nearest g c =
    let rows = g.S.JobSource.rows c.args.source.now in
    let few = counted_is (length rows) _ c.requires in
    let less = lower rows c.loop-r.r _ c.climb-p.ensures in
    omega arith

pub loop-r-preserved : goal.loop-r-preserved
loop-r-preserved g c =
    let rows = g.S.JobSource.rows c.args.source.now in
    let r = c.loop-r.r in
    let table = c.loop-r.nearest in
    let p = c.climb-p.result in
    let few = counted_is (length rows) _ c.requires in (
      length-set table r p ∙ c.loop-r.invariant.0,
      below_more (λ q. lawful_row rows q ≡ true) r c.loop-r.invariant.1 (sym {b = lawful_row rows r} c.if-not-is_lawful.ensures),
      λ q l m.
          ⊎_elim
          (λ same.
          subst (λ k. nearest rows k ≡ Some (get_or (set table r p) k 0)) (sym same)
          (c.climb-p.ensures ∙ ap Some (sym (get_or-set_same table r p 0 (omega arith)))))
          (λ other. c.loop-r.invariant.2 q l (omega arith) ∙ ap Some (sym (get_or-set_other table r q p 0 other)))
          (cases_eq q r),
    )

pub returns : goal.returns
returns g c =
    let rows = g.S.JobSource.rows c.args.source.now in
    let few = counted_is (length rows) _ c.requires in
    let none = unlawful_none rows (λ q l. c.loop-r.invariant.1 q (omega arith)) in
    let is = verdict_is rows _ c.requires None none in
    record { result = is; near = record { lawful = granted rows is; near = λ q later l. c.loop-r.invariant.2 q later (omega arith) } }
