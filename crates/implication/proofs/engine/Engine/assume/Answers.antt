-- A set that takes some state away is one assumption more.
use Rattle.std.proofs.Common.{rules, ◌≡◌, List, OnOk, IfErr, Some, None, sym, ap, ◌∙◌, subst}
use Rattle.implication.specs.declared.assumption.Assumption.{Assumption}
use Rattle.implication.specs.declared.assumption.Assumption.TheVariants.{Assumed}
use Rattle.implication.specs.Moves.{grown, closed_at}
use Rattle.implication.proofs.Assuming.{left_seen, assumed_fits, assumed_more, assumed_none, extends_added}
use Rattle.implication.proofs.Restoring.{extends_itself}
use Rattle.implication.proofs.Wholes.{open_of, emptied_of}
use Rattle.implication.proofs.engine.Engine.assume.Goals as goal

pub add-requires-clause-left : goal.add-requires-clause-left
add-requires-clause-left g c =
    left_seen g.A.Algebra.algebra c.self.invariant.0 c.args.self.now c.self.view_is c.args.line c.requires.line c.index.result.now c.index.ensures

pub add-requires-clause-fits : goal.add-requires-clause-fits
add-requires-clause-fits g c =
    assumed_fits g.A.Algebra.algebra c.self.invariant.0 c.args.self.now c.self.view_is c.args.line c.args.to c.index.result.now
    c.intersect-cut.result c.requires.line c.requires.told c.index.ensures c.intersect-cut.ensures (sym c.if-eq.false ∙ c.eq.ensures)

pub returns-in-Some-clause-emptied : goal.returns-in-Some-clause-emptied
returns-in-Some-clause-emptied g c =
    emptied_of g.A.Algebra.algebra g.met.A.Algebra.laws c.self.invariant.0 c.args.self.now c.self.view_is (Some c.in-Some.emptied) c.in-Some.is

pub returns-then-eq-clause-ok : goal.returns-then-eq-clause-ok
returns-then-eq-clause-ok g c =
    ap (grown c.args.self.now)
    (sym (assumed_none g.A.Algebra.algebra.count c.args.self.now.assumptions c.args.line c.args.to c.index.result.now c.intersect-cut.result
    (left_seen g.A.Algebra.algebra c.self.invariant.0 c.args.self.now c.self.view_is c.args.line c.requires.line c.index.result.now c.index.ensures)
    c.intersect-cut.ensures (sym c.if-eq.true ∙ c.eq.ensures)))

pub returns-then-eq-clause-open : goal.returns-then-eq-clause-open
returns-then-eq-clause-open g c =
    let free : c.self.inside.conflict ≡ None = search rules in
    open_of g.A.Algebra.algebra g.met.A.Algebra.laws c.self.invariant.0 c.args.self.now c.self.view_is None free

pub returns-clause-ok : goal.returns-clause-ok
returns-clause-ok g c =
    let P : List Assumption → Type 0 = λ list. OnOk c.add.result (c.add.new.self ≡ grown c.args.self.now list) in
    subst P
    (sym (assumed_more g.A.Algebra.algebra.count c.args.self.now.assumptions c.args.line c.args.to c.index.result.now c.intersect-cut.result
    (left_seen g.A.Algebra.algebra c.self.invariant.0 c.args.self.now c.self.view_is c.args.line c.requires.line c.index.result.now c.index.ensures)
    c.intersect-cut.ensures (sym c.if-eq.false ∙ c.eq.ensures)))
    c.add.ensures.ok

pub returns-clause-err : goal.returns-clause-err
returns-clause-err g c = λ free.
    let P : List Assumption → Type 0 = λ list. IfErr c.add.result (λ conflict. c.add.new.self ≡ closed_at c.args.self.now list conflict.0) in
    subst P
    (sym (assumed_more g.A.Algebra.algebra.count c.args.self.now.assumptions c.args.line c.args.to c.index.result.now c.intersect-cut.result
    (left_seen g.A.Algebra.algebra c.self.invariant.0 c.args.self.now c.self.view_is c.args.line c.requires.line c.index.result.now c.index.ensures)
    c.intersect-cut.ensures (sym c.if-eq.false ∙ c.eq.ensures)))
    c.add.ensures.err

pub returns-clause-extends : goal.returns-clause-extends
returns-clause-extends g c =
    let free : c.args.self.now.conflict ≡ None = search rules in
    extends_added c.add.result c.args.self.now c.add.new.self (Assumed c.args.line c.intersect-cut.result) free c.add.ensures.ok
    c.add.ensures.err c.add.ensures.later

pub returns-in-Some-clause-extends : goal.returns-in-Some-clause-extends
returns-in-Some-clause-extends g c = extends_itself c.args.self.now

pub returns-then-is_none-clause-extends : goal.returns-then-is_none-clause-extends
returns-then-is_none-clause-extends g c = extends_itself c.args.self.now

pub returns-then-eq-clause-extends : goal.returns-then-eq-clause-extends
returns-then-eq-clause-extends g c = extends_itself c.args.self.now

pub returns-then-eq-clause-err : goal.returns-then-eq-clause-err
returns-then-eq-clause-err g c = λ free. tt
