-- Both tests are made on the old sets, and then both lines are cut.
use Rattle.std.proofs.Common.{◌<◌, IsTrue, subst}
use Rattle.state_sets.specs.declared.state.State.{State}
use Rattle.state_sets.specs.declared.state.StateSet.{StateSet}
use Rattle.state_sets.specs.States.{Has}
use Rattle.state_sets.specs.Labellings.{label_at}
use Rattle.hulls.specs.Sets.{Means}
use Rattle.hulls.proofs.Narrowed.{is_none, is_some}
use Rattle.hulls.proofs.AlongLinks.{conflict_at_source, conflict_at_line, link_done}
use Rattle.hulls.proofs.board.Board.narrow_along.Goals as goal

pub returns-then-eq : goal.returns-then-eq
returns-then-eq g c =
    let a = g.A.Algebra.algebra in let net = c.args.net.now in let on = c.args.conditions.now in let old = c.args.self.now in
    let at_source = c.linked_sources-at_source.result in let at_line = c.linked_lines-at_line.result in let mid = c.cut_in.new.self in
    record {
      turn = conflict_at_source a net on.kind on.steps old c.requires.of c.requires.within c.args.link c.requires.link c.link.result
          c.link.ensures at_source at_line
          (subst (λ (set : StateSet). Means a.count at_source (λ s. (s.0 < a.count) × ((l : State) × Has a.count set l × IsTrue (a.link s l))))
          c.get.ensures.set c.linked_sources-at_source.ensures)
          (subst (λ (set : StateSet). Means a.count at_line (λ l. (l.0 < a.count) × ((s : State) × Has a.count set s × IsTrue (a.link s l))))
          c.get-2.ensures.set c.linked_lines-at_line.ensures)
          mid c.cut_in.ensures.cut
          (is_none c.eq.result c.cut_in.result (label_at mid.labels c.link.result.0.0) c.eq.ensures c.if-eq.true c.cut_in.ensures.left);
    }

pub returns-then-eq-2 : goal.returns-then-eq-2
returns-then-eq-2 g c =
    let a = g.A.Algebra.algebra in let net = c.args.net.now in let on = c.args.conditions.now in let old = c.args.self.now in
    let at_source = c.linked_sources-at_source.result in let at_line = c.linked_lines-at_line.result in let mid = c.cut_in.new.self in
    let new = c.cut_in-2.new.self in
    record {
      turn = conflict_at_line a net on.kind on.steps old c.requires.of c.requires.within c.args.link c.requires.link c.link.result
          c.link.ensures at_source at_line
          (subst (λ (set : StateSet). Means a.count at_source (λ s. (s.0 < a.count) × ((l : State) × Has a.count set l × IsTrue (a.link s l))))
          c.get.ensures.set c.linked_sources-at_source.ensures)
          (subst (λ (set : StateSet). Means a.count at_line (λ l. (l.0 < a.count) × ((s : State) × Has a.count set s × IsTrue (a.link s l))))
          c.get-2.ensures.set c.linked_lines-at_line.ensures)
          mid c.cut_in.ensures.cut new c.cut_in-2.ensures.cut
          (is_none c.eq-2.result c.cut_in-2.result (label_at new.labels c.link.result.1.0) c.eq-2.ensures c.if-eq-2.true c.cut_in-2.ensures.left);
    }

pub returns : goal.returns
returns g c =
    let a = g.A.Algebra.algebra in let net = c.args.net.now in let on = c.args.conditions.now in let old = c.args.self.now in
    let at_source = c.linked_sources-at_source.result in let at_line = c.linked_lines-at_line.result in let mid = c.cut_in.new.self in
    let new = c.cut_in-2.new.self in
    record {
      turn = link_done a net on.kind on.steps old c.requires.of c.requires.within c.args.link c.requires.link c.link.result
          c.link.ensures at_source at_line
          (subst (λ (set : StateSet). Means a.count at_source (λ s. (s.0 < a.count) × ((l : State) × Has a.count set l × IsTrue (a.link s l))))
          c.get.ensures.set c.linked_sources-at_source.ensures)
          (subst (λ (set : StateSet). Means a.count at_line (λ l. (l.0 < a.count) × ((s : State) × Has a.count set s × IsTrue (a.link s l))))
          c.get-2.ensures.set c.linked_lines-at_line.ensures)
          mid c.cut_in.ensures.cut new c.cut_in-2.ensures.cut c.requires.awake c.requires.some
          (is_some c.eq.result c.cut_in.result (label_at mid.labels c.link.result.0.0) c.eq.ensures c.if-eq.false c.cut_in.ensures.left)
          (is_some c.eq-2.result c.cut_in-2.result (label_at new.labels c.link.result.1.0) c.eq-2.ensures c.if-eq-2.false c.cut_in-2.ensures.left);
    }
