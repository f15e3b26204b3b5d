use Rattle.implication.specs.Scopes.{standing}
use Rattle.refutation_check.proofs.Walking.{comes_next, goes_round}
use Rattle.refutation_check.proofs.WalkRoots.{mark_within, line_within, told_within, root_round}
use Rattle.refutation_check.proofs.walk.turn.Goals as goal

-- Back to the node above the half that was put off last, and down into that half.

pub back_to-requires-clause-now : goal.back_to-requires-clause-now
back_to-requires-clause-now g c =
    mark_within c.requires.walk.root (standing c.args.scope.now) c.in-Some.next c.pop.new.self.items c.args.pending.now.items c.in-Some.ensures.items
    c.requires.walk.walk

pub assume_half-requires : goal.assume_half-requires
assume_half-requires g c = record {
  line = line_within c.requires.walk.root (standing c.args.scope.now) c.in-Some.next c.pop.new.self.items c.args.pending.now.items
      c.in-Some.ensures.items c.requires.walk.walk (standing c.back_to.new.self) c.back_to.ensures.back;
  told = told_within c.requires.walk.root (standing c.args.scope.now) c.in-Some.next c.pop.new.self.items c.args.pending.now.items
      c.in-Some.ensures.items c.requires.walk.walk (standing c.back_to.new.self) c.back_to.ensures.back;
}

pub returns-in-Some-clause-root : goal.returns-in-Some-clause-root
returns-in-Some-clause-root g c = λ root walk.
    root_round root (standing c.args.scope.now) c.in-Some.next c.pop.new.self.items c.args.pending.now.items c.in-Some.ensures.items walk
    (standing c.back_to.new.self) c.back_to.ensures.back (standing c.assume_half.new.scope) c.assume_half.ensures.extends

pub returns-in-Some-clause-goes : goal.returns-in-Some-clause-goes
returns-in-Some-clause-goes g c = λ target above walks.
    goes_round g.A.Algebra.algebra target (standing c.args.scope.now) (standing c.back_to.new.self) (standing c.assume_half.new.scope) above c.in-Some.next
    c.pop.new.self.items
    (comes_next g.A.Algebra.algebra target (standing c.args.scope.now) above c.in-Some.next c.pop.new.self.items c.args.pending.now.items c.in-Some.ensures.items walks)
    c.back_to.ensures.back c.assume_half.ensures.extends (λ halves at. c.assume_half.ensures.below target halves at)
