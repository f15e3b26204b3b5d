-- The path's source is in the support, and so is what is blamed for it.
use Rattle.std.proofs.Common.{◌<◌, None, refl, sym, ap, ◌∙◌, subst, subst₂, arith}
use Rattle.pd_base.specs.Links.{links_of}
use Rattle.pd_base.specs.declared.ids.LineId.{LineId}
use Rattle.netlist.specs.Circuit.{Circuit, line_count}
use Rattle.netlist.specs.LinkedPairs.{IsSupported}
use Rattle.netlist.specs.Paths.{end_of}
use Rattle.implication.specs.Scopes.{standing}
use Rattle.trees.proofs.Bound.{own_in_support}
use Rattle.justify.specs.Desks.{AreInSupport}
use Rattle.justify.proofs.TriedSources.{blamed_in_support, kept_desk}
use Rattle.justify.proofs.trying.blame_source.Goals as goal

pub set_failure-requires-clause-room : goal.set_failure-requires-clause-room
set_failure-requires-clause-room g c = c.requires.desk.made.blame ∙ sym (ap line_count c.net.ensures)

pub set_failure-requires-clause-labels : goal.set_failure-requires-clause-labels
set_failure-requires-clause-labels g c = c.labels.ensures.one_each ∙ sym (ap line_count c.net.ensures)

pub set_failure-requires-clause-line : goal.set_failure-requires-clause-line
set_failure-requires-clause-line g c =
    let P : Circuit → Type 0 = λ n. c.source.result.0 < line_count n in
    let within = c.requires.prefix.source in let same = ap (λ l. l.0) c.source.ensures in
    subst P (sym c.net.ensures) (omega (arith, within, same))

pub returns-clause-desk : goal.returns-clause-desk
returns-clause-desk g c =
    kept_desk g.A.Algebra.algebra (standing c.args.scope.now).net (standing c.args.scope.now).rules c.args.target.now.path.now c.args.desk.now _
    (record { cone = refl; states = refl; blame = c.set_failure.ensures.room; liked = refl; justifier = refl; judge = refl }) c.requires.desk

pub returns-clause-blamed : goal.returns-clause-blamed
returns-clause-blamed g c =
    let now = standing c.args.scope.now in let path = c.args.target.now.path.now in
    let own = own_in_support now.net now.rules path c.requires.prefix in
    let P : Circuit → Type 0 = λ n. AreInSupport n now.rules path c.set_failure.new.self.sources in
    subst P c.net.ensures
    (blamed_in_support c.net.result.now now.rules path (links_of now.rules) refl c.source.result None c.set_failure.new.self.sources
    c.set_failure.ensures.blamed
    (let Q : Circuit → LineId → Type 0 = λ n line. IsSupported n (links_of now.rules) (end_of n path) line.0 in
    subst₂ Q (sym c.net.ensures) (sym c.source.ensures) own.supported) tt)
