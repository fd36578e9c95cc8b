-- One run more: it is written at to + x, and the two that it is picked from lie before `to`.
use Rattle.std.proofs.Common.{◌+◌, ◌<◌, ◌≢◌, length, ◌∙◌, arith, below_more}
use Rattle.filters.proofs.Entries.{at_same, at_other, at_read, beside_more}
use Rattle.filters.proofs.line.lengthen.Goals as goal

pub loop-x-preserved : goal.loop-x-preserved
loop-x-preserved g c =
    let f = g.K.Kind.means in
    let at_x = c.args.to + c.loop-x.x in
    let ia = c.args.from + c.loop-x.x in
    let ib = c.args.from + c.loop-x.x + c.args.d in (
      omega arith,
      λ z. below_more _ _
          (λ k h. let ne : c.args.to + k ≢ at_x = omega arith in at_other f z c.loop-x.lines at_x c.pick.result (c.args.to + k) ne ∙ c.loop-x.invariant.1 z k h)
          (let lt : at_x < length c.loop-x.lines = omega arith in
          let la : ia < length c.loop-x.lines = omega arith in
          let lb : ib < length c.loop-x.lines = omega arith in
          let ba : ia < c.args.to = omega arith in
          let bb : ib < c.args.to = omega arith in
          let s = at_same f z c.loop-x.lines at_x c.pick.result lt in
          let p = at_read f z c.loop-x.lines ia c.index-lines-from.result la c.index-lines-from.is in
          let q = at_read f z c.loop-x.lines ib c.index-lines-from-in-loop-x.result lb c.index-lines-from-in-loop-x.is in
          let pe = c.loop-x.invariant.2.before z ia ba in
          let qe = c.loop-x.invariant.2.before z ib bb in
          cc (s, p, q, pe, qe, c.pick.ensures)),
      beside_more f c.loop-x.lines c.args.lines.now c.args.to c.loop-x.x c.pick.result c.loop-x.invariant.2,
    )
