use Rattle.std.proofs.Common.{◌<◌, length, arith}
use Rattle.ocr_memory_model_order.specs.Causes.{graph_of}
use Rattle.ocr_memory_model_rows.proofs.Reach.{within}
use Rattle.ocr_memory_model_order.proofs.Graphs.{graph_law}
use Rattle.ocr_memory_model.proofs.happens_before.HappensBefore.before.Goals as goal

pub returns : goal.returns
returns c = λ s J order. (
  λ is.
      let low : c.args.b < length (graph_of s J) = (let n = order.rows.count in let l = c.before-2.ensures.within is in omega (arith, n, l)) in
      (graph_law s J c.args.a c.args.b order.run).1 (c.before-2.ensures.only (graph_of s J) order.rows low is),
  λ h.
      let r = (graph_law s J c.args.a c.args.b order.run).0 h in
      c.before-2.ensures.all (graph_of s J) order.rows (within (graph_of s J) c.args.a c.args.b r.1).1 r.0 r.1,
)
