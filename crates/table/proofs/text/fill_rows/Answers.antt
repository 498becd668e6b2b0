use Rattle.std.proofs.Common.{◌≡◌, ◌<◌, [], ◌∷◌, ◌++◌, length, take, Ok, sym, refl, ap, ◌∙◌, subst, inl, arith}
use Rattle.std.specs.Iterator.Adapters.{enumerate_source, enumerate_count}
use Rattle.table.specs.Readings.{text_left}
use Rattle.table.proofs.Progress.{header_shorter}
use Rattle.table.proofs.Tables.{Sofar, sofar_start, sofar_end, sofar_bad, sofar_more, no_fault, read_short, room-left, filled_more, filled_all}
use Rattle.table.proofs.text.fill_rows.Goals as goal
use Rattle.table.proofs.text.fill_rows.Goals.{In-Ok-record}

pub loop-i-init : goal.loop-i-init
loop-i-init c =
    let t = c.args.text.now in
    let rows = c.args.rows.now in
    let it = c.into_iter-i-iterator.result in
    let gives = c.into_iter-i-iterator.ensures.into_iter_gives in
    let left = text_left (enumerate_source it) in
    let none : enumerate_count it ≡ 0 = ap enumerate_count gives ∙ c.enumerate-i-items.ensures.count in
    let header = ap (λ s. Ok (text_left (enumerate_source s))) gives ∙ ap (λ r. Ok (text_left r)) c.enumerate-i-items.ensures.source ∙ c.in-Ok.ensures in
    let short = read_short (length rows) t c.requires in
    ((tt, tt, inl (omega (arith, header_shorter t left header))), tt, subst (λ n. Sofar (length rows) t left n (take n rows)) (sym none) (sofar_start (length rows) t left short header), refl)

pub unreachable-requires-in_default-record : goal.unreachable-requires-in_default-record
unreachable-requires-in_default-record c =
    no_fault (length c.args.rows.now) c.args.text.now c.requires _ (sofar_bad c.loop-i.invariant.2 c.in-Some.ensures.steps.0 _ c.in_default-record.is)

has_room : (c : In-Ok-record) → enumerate_count c.loop-i.i-iterator < length c.args.rows.now
has_room c = room-left (length c.args.rows.now) c.args.text.now c.requires c.loop-i.invariant.2 c.in-Some.ensures.steps.0 c.in-Ok-record.is

pub bounds-rows-i : goal.bounds-rows-i
bounds-rows-i c = omega (arith, has_room (goal.at.bounds-rows-i c).In-Ok-record, c.in-Some.ensures.steps.1)

pub loop-i-preserved : goal.loop-i-preserved
loop-i-preserved c =
    let t = c.args.text.now in
    let old = c.args.rows.now in
    let rows = c.loop-i.rows in
    let n = enumerate_count c.loop-i.i-iterator in
    let m = enumerate_count c.next.new.self in
    let next = text_left (enumerate_source c.next.new.self) in
    let row = c.in-Ok-record.row in
    let room = has_room (goal.at.loop-i-preserved c).In-Ok-record in
    let step = c.in-Some.ensures.steps in
    let filled = filled_more rows old n c.in-Some.i m row step.1 step.2 (omega (arith, room)) c.loop-i.invariant.3 in
    let more = sofar_more c.loop-i.invariant.2 step.0 c.in-Ok-record.is room in
    (c.in-Some.ensures.goes.keeps, tt, subst (Sofar (length old) t next m) (sym filled.0) (subst (λ k. Sofar (length old) t next k (take n rows ++ row ∷ [])) (sym step.2) more), filled.1)

pub returns : goal.returns
returns c =
    let rows = c.loop-i.rows in
    let n = enumerate_count c.loop-i.i-iterator in
    let so = c.loop-i.invariant.2 in
    filled_all rows c.args.rows.now (take n rows) n _ refl so.len c.loop-i.invariant.3 (sofar_end so c.in-None.ensures.steps.0)
