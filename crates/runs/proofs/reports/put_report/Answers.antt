use Rattle.std.proofs.Common.{◌≡◌, ◌-◌, ◌++◌, length, take, sym, ap, ◌∙◌, arith}
use Rattle.job.specs.Refusals.{place}
use Rattle.table.specs.RunTables.{run_header, refused_record}
use Rattle.table.specs.Faults.{text_number, text_told}
use Rattle.table.specs.Texts.{read}
use Rattle.runs.specs.Reports.{worked, reported}
use Rattle.runs.proofs.Readings.{read-front, read-refused, header, header_then}
use Rattle.total.proofs.Outputs.{put_end_ok}
use Rattle.runs.proofs.reports.put_report.Goals as goal

pub slice_bounds-put_worked-end : goal.slice_bounds-put_worked-end
slice_bounds-put_worked-end c =
    let f = read-front (read (length c.args.rows.now) c.args.text.now) c.in-Ok.count c.read_rows.new.rows c.args.rows.now c.in-Ok.ensures.result c.in-Ok.ensures.after in
    omega (arith, f.within)

pub returns-in-Ok : goal.returns-in-Ok
returns-in-Ok c =
    let text = c.args.text.now in
    let after = c.read_rows.new.rows in
    let f = read-front (read (length c.args.rows.now) text) c.in-Ok.count after c.args.rows.now c.in-Ok.ensures.result c.in-Ok.ensures.after in
    let sized : length c.args.rows.now ≡ 1024 = omega arith in
    let whole : c.in-Ok.count - 0 ≡ c.in-Ok.count = omega arith in
    let body : worked (take (c.in-Ok.count - 0) after) ≡ reported (read 1024 text) = ap (λ n. worked (take n after)) whole ∙ ap worked f.front ∙ sym (ap reported f.is) ∙ ap (λ n. reported (read n text)) sized in
    header_then c.args.out.now c.put_run_header.new.out c.put_worked.new.out (worked (take (c.in-Ok.count - 0) after)) c.unwrap-at.result c.put_worked.result (header c.args.out.now c.unwrap-at.result _ c.put_run_header.ensures.result c.unwrap-at.ensures) c.put_run_header.ensures.after c.put_worked.ensures.place c.put_worked.ensures.after (omega (arith, c.put_worked.ensures.fits))
    ∙ ap (λ b. run_header ++ b) body

pub returns-in-Err : goal.returns-in-Err
returns-in-Err c =
    let text = c.args.text.now in
    let sized : length c.args.rows.now ≡ 1024 = omega arith in
    let is = read-refused (read (length c.args.rows.now) text) c.in-Err.fault c.in-Err.ensures.result in
    let told = refused_record (text_number c.in-Err.fault) (place (text_told c.in-Err.fault)) in
    let body : told ≡ reported (read 1024 text) = sym (ap reported is) ∙ ap (λ n. reported (read n text)) sized in
    let ends = put_end_ok c.put_run_header.new.out c.unwrap-at.result told c.unwrap.result (sym c.put_refused_record.ensures.result ∙ c.unwrap.ensures) in
    header_then c.args.out.now c.put_run_header.new.out c.put_refused_record.new.out told c.unwrap-at.result c.unwrap.result (header c.args.out.now c.unwrap-at.result _ c.put_run_header.ensures.result c.unwrap-at.ensures) c.put_run_header.ensures.after ends.1 c.put_refused_record.ensures.after (omega (arith, ends.0, ends.1))
    ∙ ap (λ b. run_header ++ b) body
