use Rattle.std.proofs.Common.{◌≡◌, ◌∷◌, length, arith}
use Rattle.ocr_memory_model_order.specs.Causes.{causes, ends, isolated_ends, graph_of}
use Rattle.ocr_memory_model_order.specs.Makers.{satisfies, leaves}
use Rattle.ocr_memory_model.specs.Keys.{satisfied_in, left_in, ended_key, isolated_key}
use Rattle.ocr_memory_model_order.specs.Places.{places}
use Rattle.ocr_memory_model_order.proofs.Graphs.{graph_length}
use Rattle.ocr_memory_model.proofs.Keeps.{family_in, satisfied_tells, left_tells, ended_tells, isolated_tells}
use Rattle.ocr_memory_model.proofs.past.Past.note.Goals as goal

pub returns : goal.returns
returns c = λ s past kept next held.
    let e = c.args.entry.now in
    let g = graph_of s past in
    let cs = causes s past e in
    let at : length past ≡ c.len-place.result = (let n = kept.rows.count in let m = graph_length s past in let l = c.len-place.ensures in omega (arith, n, m, l)) in
    record {
      rows = c.in_ok-push.ensures g cs kept.rows next;
      last = c.in_ok-note_last.ensures past at kept.last;
      starting = c.in_ok-note_starting.ensures past at kept.starting;
      satisfactions = c.in_ok-note_satisfaction.ensures past at kept.satisfactions;
      links = c.in_ok-note_links.ensures past at kept.links;
      satisfied = c.in_ok-note.ensures g cs (λ x. places (satisfies x) past) (λ x. places (satisfies x) (e ∷ past)) kept.satisfied next
          (family_in s satisfies past e (satisfied_in e) c.satisfied_in.result c.satisfied_in.ensures (λ x. satisfied_tells x past e));
      left = c.in_ok-note-2.ensures g cs (λ x. places (leaves x) past) (λ x. places (leaves x) (e ∷ past)) kept.left next
          (family_in s leaves past e (left_in e) c.left_in.result c.left_in.ensures (λ x. left_tells x past e));
      ended = c.in_ok-note-3.ensures g cs (λ d. places (ends s d) past) (λ d. places (ends s d) (e ∷ past)) kept.ended next
          (family_in s (ends s) past e (ended_key e c.args.mode) c.ended_key.result c.ended_key.ensures (λ d. ended_tells s d past e c.args.mode held));
      isolated = c.in_ok-note-4.ensures g cs (λ d. places (isolated_ends s d) past) (λ d. places (isolated_ends s d) (e ∷ past)) kept.isolated next
          (family_in s (isolated_ends s) past e (isolated_key e c.args.mode) c.isolated_key.result c.isolated_key.ensures (λ d. isolated_tells s d past e c.args.mode held));
    }
