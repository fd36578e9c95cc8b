-- The acts that are left lead to the same lines and to the same state.
use Rattle.std.proofs.Common.{◌≡◌, ◌++◌, drop}
use Rattle.worksheets.specs.Performed.{state}
use Rattle.jobs.specs.Listings.{lines, left}
use Rattle.jobs.proofs.perform.make_all.Given as goal

abbrev pub invariant-loop-act : goal.invariant-loop-act
invariant-loop-act g l = record {
  lines : l.so_far.items ++ lines g.H.Cell.Kind.lattice (drop l.act-index l.acts) (state g.H.Cell.Kind.means g.H.Holder.sheet l.worksheet)
      ≡ l.initial.so_far.items ++ lines g.H.Cell.Kind.lattice l.acts (state g.H.Cell.Kind.means g.H.Holder.sheet l.initial.worksheet);
  after : left g.H.Cell.Kind.lattice (drop l.act-index l.acts) (state g.H.Cell.Kind.means g.H.Holder.sheet l.worksheet)
      ≡ left g.H.Cell.Kind.lattice l.acts (state g.H.Cell.Kind.means g.H.Holder.sheet l.initial.worksheet);
}
