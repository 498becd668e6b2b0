use Rattle.std.proofs.Common.{◌≡◌, ◌+◌, ◌<◌, cond, map, length, sym, ap, ◌∙◌, subst, arith}
use Rattle.std.proofs.lemmas.List.{get_or-map}
use Rattle.job.specs.declared.row.Row.{Row}
use Rattle.job.specs.Rows.{row, end, is_finish}
use Rattle.job.proofs.Nests.{ends_in_job}
use Rattle.total.specs.Serial.{line_of, with_line, gathered}
use Rattle.total.proofs.Walking.{Turn, turn, at_start, sum_start, sum_all}
use Rattle.total.proofs.book.gather.Given as given
use Rattle.total.proofs.book.gather.Goals as goal
use Rattle.total.proofs.book.gather.Goals.{After-row_at-x, After-next_row-r}

pub loop-r-init : goal.loop-r-init
unfolding end
loop-r-init g c =
    let rows = g.S.JobSource.rows c.args.source.now in
    let book = map g.K.Total.meaning c.args.book.now in
    let f = c.args.f in (
      at_start rows c.requires.lawful f c.requires.inside c.requires.finish,
      ap (λ (x : Row). f + x.size) c.row_at.ensures,
      c.nothing-sum.ensures ∙ sym (sum_start rows c.requires.lawful f c.requires.inside c.requires.finish g.K.Total.none g.K.Total.joined g.K.Total.sealed (line_of g.K.Total.none book)),
    )

-- the walk stays inside the job
below : (g : given.Over) (c : After-row_at-x g) → c.loop-r.r < length (g.S.JobSource.rows c.args.source.now)
below g c =
    let short = ends_in_job (g.S.JobSource.rows c.args.source.now) c.requires.lawful c.args.f c.requires.inside in
    omega (arith, c.loop-r.invariant.1)

pub offset_bounds-book-r : goal.offset_bounds-book-r
offset_bounds-book-r g c = let l = below g c in omega arith

pub bounds-book-r : goal.bounds-book-r
bounds-book-r g c = let l = below g c in omega arith

pub next_row-r-requires : goal.next_row-r-requires
next_row-r-requires g c = let l = below g (goal.at.next_row-r-requires g c).After-row_at-x in omega (arith, c.requires.lawful.few)

turned : (g : given.Over) (c : After-next_row-r g) → Turn (g.S.JobSource.rows c.args.source.now) c.requires.lawful c.args.f c.requires.inside c.requires.finish g.K.Total.none g.K.Total.joined g.K.Total.sealed (line_of g.K.Total.none (map g.K.Total.meaning c.args.book.now)) c.loop-r.r c.next_row-r.result
turned g c =
    let rows = g.S.JobSource.rows c.args.source.now in
    let r = c.loop-r.r in
    let law = c.requires.lawful in
    let f = c.args.f in
    let line = line_of g.K.Total.none (map g.K.Total.meaning c.args.book.now) in
    subst
    (Turn rows law f c.requires.inside c.requires.finish g.K.Total.none g.K.Total.joined g.K.Total.sealed line r)
    (ap (λ (x : Row). cond (is_finish x) (r + x.size) (r + 1)) (sym c.row_at-x.ensures) ∙ sym c.next_row-r.ensures)
    (turn rows law f c.requires.inside c.requires.finish g.K.Total.none g.K.Total.joined g.K.Total.sealed line r c.loop-r.invariant.0 (omega (arith, c.loop-r.invariant.1)) (ends_in_job rows law f c.requires.inside))

-- the line that the code reads is the line of the book of meanings
line_read : (g : given.Over) (c : After-next_row-r g) → g.K.Total.meaning c.index-book-r.result ≡ line_of g.K.Total.none (map g.K.Total.meaning c.args.book.now) c.loop-r.r
line_read g c =
    let l = below g (goal.at.loop-r-preserved g c).After-row_at-x in
    ap g.K.Total.meaning c.index-book-r.is
    ∙ sym (get_or-map g.K.Total.meaning c.args.book.now c.loop-r.r c.index-book-r.result g.K.Total.none (omega arith))

pub loop-r-smaller : goal.loop-r-smaller
loop-r-smaller g c = let on = (turned g c).on in omega (arith, c.loop-r.invariant.1)

pub loop-r-preserved : goal.loop-r-preserved
loop-r-preserved g c =
    let t = turned g c in
    let with : Row → g.K.Total.Meaning → g.K.Total.Meaning → g.K.Total.Meaning = with_line g.K.Total.none g.K.Total.joined g.K.Total.sealed in (
      t.at,
      c.loop-r.invariant.1,
      c.with_row-sum.ensures
          ∙ ap (λ (x : Row). with x (g.K.Total.meaning c.loop-r.sum) (g.K.Total.meaning c.index-book-r.result)) c.row_at-x.ensures
          ∙ ap (λ s. with (row (g.S.JobSource.rows c.args.source.now) c.loop-r.r) s (g.K.Total.meaning c.index-book-r.result)) c.loop-r.invariant.2
          ∙ ap (with (row (g.S.JobSource.rows c.args.source.now) c.loop-r.r) _) (line_read g c)
          ∙ sym t.more,
    )

pub returns : goal.returns
returns g c =
    let rows = g.S.JobSource.rows c.args.source.now in
    let short = ends_in_job rows c.requires.lawful c.args.f c.requires.inside in
    let done : c.loop-r.r ≡ end rows c.args.f = omega (arith, c.loop-r.invariant.1, c.loop-r.invariant.0.within) in
    let line = line_of g.K.Total.none (map g.K.Total.meaning c.args.book.now) in
    c.loop-r.invariant.2
    ∙ ap (gathered g.K.Total.none g.K.Total.joined g.K.Total.sealed rows line c.args.f) done
    ∙ sym (sum_all rows c.requires.lawful c.args.f c.requires.inside c.requires.finish g.K.Total.none g.K.Total.joined g.K.Total.sealed line short)
