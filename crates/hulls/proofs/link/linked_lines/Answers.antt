-- A state more is gathered exactly where the test says that it links.
use Rattle.std.proofs.Common.{arith}
use Rattle.std.specs.Prelude.{IsTrue}
use Rattle.state_sets.specs.declared.state.State.{State}
use Rattle.state_sets.specs.States.{Has}
use Rattle.hulls.proofs.Sets.{gathers_next}
use Rattle.hulls.proofs.link.linked_lines.Goals as goal

pub loop-number-preserved : goal.loop-number-preserved
loop-number-preserved g c =
    let a = g.A.Algebra.algebra in
    gathers_next a.count (λ to. (s : State) × Has a.count c.args.sources s × IsTrue (a.link s to))
    c.loop-number.found c.loop-number.number (omega arith) c.loop-number.invariant c.some_links_to.result
    c.some_links_to.ensures.0 c.some_links_to.ensures.1 c.with_if-found.result c.with_if-found.ensures
