use Rattle.std.proofs.Common.{◌≡◌, ◌≤◌, ◌∙◌, sym, arith, slice_index_or, arith}
use Rattle.ocr_replay_body.proofs.Nexts.{linked_past, linked_own, linked_start, apart_over, read_at}
use Rattle.ocr_replay_body.proofs.links.note.Goals as goal

pub returns-then-edt-limit : goal.returns-then-edt-limit
returns-then-edt-limit c =
    let number : c.edt.inside.0 ≡ c.in-Some.edt = c.edt.view_is in
    linked_past c.args.limit c.args.entries.now c.args.place c.args.links.now.nexts.items c.args.links.now.firsts.items c.index-entries-place.result c.requires.within c.index-entries-place.is
    (λ t fits. c.in-Some.ensures.some t ∙ apart_over c.in-Some.edt t c.args.limit (omega (arith, number, c.if-edt-limit.true)) fits) c.requires.linked

pub returns-then-is_run_by : goal.returns-then-is_run_by
returns-then-is_run_by c =
    let number : c.edt.inside.0 ≡ c.in-Some.edt = c.edt.view_is in
    let links = c.args.links.now in
    let fits : c.in-Some.edt ≤ c.args.limit = omega (arith, number, c.if-edt-limit.false) in
    let first : c.index.result.now ≡ slice_index_or links.firsts.items c.in-Some.edt 0 =
    read_at links.firsts.items c.in-Some.edt c.index.result.now (omega (arith, fits, c.requires.linked.firsts_are)) (rw number at c.index.ensures) in
    rw (number, first) (linked_own c.args.limit c.args.entries.now c.args.place c.in-Some.edt links.nexts.items links.firsts.items c.index-entries-place.result c.requires.within c.index-entries-place.is
    c.in-Some.ensures.some fits (sym c.is_run_by.ensures ∙ c.if-is_run_by.true) c.requires.linked)

pub returns-else-is_run_by : goal.returns-else-is_run_by
returns-else-is_run_by c =
    let number : c.edt.inside.0 ≡ c.in-Some.edt = c.edt.view_is in
    let links = c.args.links.now in
    let fits : c.in-Some.edt ≤ c.args.limit = omega (arith, number, c.if-edt-limit.false) in
    let first : c.index.result.now ≡ slice_index_or links.firsts.items c.in-Some.edt 0 =
    read_at links.firsts.items c.in-Some.edt c.index.result.now (omega (arith, fits, c.requires.linked.firsts_are)) (rw number at c.index.ensures) in
    rw first (linked_start c.args.limit c.args.entries.now c.args.place c.in-Some.edt links.nexts.items links.firsts.items c.index-entries-place.result c.requires.within c.index-entries-place.is
    c.in-Some.ensures.some (sym c.is_run_by.ensures ∙ c.if-is_run_by.false) c.requires.linked)
