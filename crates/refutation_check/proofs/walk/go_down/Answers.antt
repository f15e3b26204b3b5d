use Rattle.std.proofs.Common.{true, refl}
use Rattle.implication.specs.Scopes.{standing}
use Rattle.state_laws.specs.Halves.{half_of}
use Rattle.trees.specs.Halves.{halves_of}
use Rattle.refutation_check.specs.declared.walk.Pending.{Pending}
use Rattle.refutation_check.proofs.Walking.{goes_down}
use Rattle.refutation_check.proofs.WalkRoots.{root_down}
use Rattle.refutation_check.proofs.walk.go_down.Goals as goal

-- The second half is put off, and the first one assumed.

pub returns-clause-goes : goal.returns-clause-goes
returns-clause-goes g c = λ target above walks.
    let second : Pending = record { half = half_of c.args.split true; mark = c.mark-mark.result } in
    goes_down g.A.Algebra.algebra target (standing c.args.scope.now) (standing c.assume_half.new.scope) above c.args.split
    c.args.pending.now.items c.push.new.self.items second c.requires.line c.requires.told refl c.mark-mark.ensures c.in_ok-push.ensures.items
    c.assume_half.ensures.extends (c.assume_half.ensures.below target (halves_of above) walks.at) walks

pub returns-clause-root : goal.returns-clause-root
returns-clause-root g c = λ root walk.
    let second : Pending = record { half = half_of c.args.split true; mark = c.mark-mark.result } in
    root_down root (standing c.args.scope.now) (standing c.assume_half.new.scope) c.args.pending.now.items c.push.new.self.items second
    c.requires.line c.requires.told c.mark-mark.ensures c.in_ok-push.ensures.items c.assume_half.ensures.extends walk
