use Rattle.std.proofs.Common.{sym, ap, ◌∙◌, subst, arith}
use Rattle.job.specs.Rows.{blank, is_finish}
use Rattle.total.specs.Counts.{count_text}
use Rattle.total.specs.Outputs.{put, put_end}
use Rattle.table.specs.RunTables.{total_record}
use Rattle.runs.proofs.Totals.{Sofar, sofar_finish, sofar_other, taken}
use Rattle.runs.proofs.reports.put_totals.Goals as goal

pub loop-r-preserved-then-is : goal.loop-r-preserved-then-is
loop-r-preserved-then-is c =
    let rows = c.args.rows.now in
    let book = c.args.book.now in
    let i = c.loop-r.invariant in
    let s = c.in-Some.ensures.steps in
    let k = c.loop-r.r-iterator.count in
    let a = taken rows _ k c.next.new.self.count c.in-Some.row.now _ blank i.2 s.0.0 s.2 in
    let b = taken book _ k c.next.new.self.count c.in-Some.total.now _ (record { value = 0 }) i.3 s.0.1 s.2 in
    let line = ap (λ j. total_record j (count_text c.in-Some.total.now)) s.1 ∙ ap (λ t. total_record k (count_text t)) b.1 in
    let put_it = sofar_finish rows book c.args.out.now c.args.at c.requires.room c.loop-r.out c.loop-r.place k i.0 c.put_total_record.new.out c.unwrap-place.result a.0 (omega (arith, s.1, s.3)) (ap is_finish (sym a.1) ∙ sym c.is.ensures ∙ c.if-is.true) (sym c.unwrap-place.ensures ∙ c.put_total_record.ensures.result ∙ ap (λ t. put_end c.loop-r.out c.loop-r.place t) line) (c.put_total_record.ensures.after ∙ ap (λ t. put c.loop-r.out c.loop-r.place t) line) in
    (subst (λ n. Sofar rows book c.args.out.now c.args.at c.put_total_record.new.out c.unwrap-place.result n) (sym s.2) put_it, omega (arith, a.0, s.2), a.2, b.2)

pub loop-r-preserved : goal.loop-r-preserved
loop-r-preserved c =
    let rows = c.args.rows.now in
    let book = c.args.book.now in
    let i = c.loop-r.invariant in
    let s = c.in-Some.ensures.steps in
    let k = c.loop-r.r-iterator.count in
    let a = taken rows _ k c.next.new.self.count c.in-Some.row.now _ blank i.2 s.0.0 s.2 in
    let b = taken book _ k c.next.new.self.count c.in-Some.total.now _ (record { value = 0 }) i.3 s.0.1 s.2 in
    let same = sofar_other rows book c.args.out.now c.args.at c.requires.room c.loop-r.out c.loop-r.place k i.0 (ap is_finish (sym a.1) ∙ sym c.is.ensures ∙ c.if-is.false) in
    (subst (λ n. Sofar rows book c.args.out.now c.args.at c.loop-r.out c.loop-r.place n) (sym s.2) same, omega (arith, a.0, s.2), a.2, b.2)
