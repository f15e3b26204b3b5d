-- The mark of a pin is of as many as were entered before it.
use Rattle.std.proofs.Common.{◌≡◌, ℕ, ◌<◌, List, length, get_or, Some, sym, ap, ◌∙◌, arith}
use Rattle.std.proofs.lemmas.List.{length-map}
use Rattle.std.proofs.lemmas.Option.{slice_get-get_or}
use Rattle.pd_base.specs.declared.ids.PinRef.{PinRef}
use Rattle.implication.specs.declared.assumption.Assumption.TheVariants.{Entered}
use Rattle.implication.specs.declared.scope.ScopeMark.{ScopeMark}
use Rattle.implication.specs.Moves.{back_at}
use Rattle.implication.specs.Scopes.{standing}
use Rattle.prefix_sensitize.specs.Marks.{AreMarksOf}
use Rattle.prefix_sensitize.proofs.descent.Descent.back_to.Goals as goal

mark_at : (pins : List PinRef) (marks : List ScopeMark) → AreMarksOf pins marks → (count : ℕ) → count < length marks
    → (mark : ScopeMark) → mark ≡ get_or marks count mark → mark.at ≡ count
mark_at pins marks are count within mark is = are.each count mark (slice_get-get_or marks count mark within ∙ ap Some (sym is))

pub back_to-requires-clause-now : goal.back_to-requires-clause-now
back_to-requires-clause-now g c =
    let within : c.args.count < length c.self.inside.marks.items =
    omega (arith, c.if-count-len.true, c.len.ensures, c.self.inside.marks.ok.0) in
    let at = mark_at c.self.inside.pins.items c.self.inside.marks.items c.self.invariant c.args.count within c.index.result.now c.index.ensures in
    omega (
      arith,
      at,
      within,
      c.self.invariant.one_each,
      ap length c.self.view_is,
      ap length c.requires.entered,
      length-map c.args.self.now Entered,
    )

pub returns-then-count-len-clause-back : goal.returns-then-count-len-clause-back
returns-then-count-len-clause-back g c =
    let within : c.args.count < length c.self.inside.marks.items =
    omega (arith, c.if-count-len.true, c.len.ensures, c.self.inside.marks.ok.0) in
    c.back_to.ensures.back
    ∙ ap (back_at (standing c.args.scope.now))
    (mark_at c.self.inside.pins.items c.self.inside.marks.items c.self.invariant c.args.count within c.index.result.now c.index.ensures)
