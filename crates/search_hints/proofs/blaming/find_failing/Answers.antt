-- The line, and the other one if there is one.
use Rattle.std.proofs.Common.{⊎_elim, inl, inr, ◌∷◌, [], sym, ap, subst}
use Rattle.std.specs.List.{Contains}
use Rattle.pd_base.specs.declared.ids.LineId.{LineId}
use Rattle.cones.specs.FoundLines.{FoundSet}
use Rattle.search_hints.specs.Blamed.{IsSomeLine}
use Rattle.cones.proofs.Finding.{only_one}
use Rattle.search_hints.proofs.Behind.{first_only}
use Rattle.search_hints.proofs.blaming.find_failing.Goals as goal

pub returns-in-Some-clause-only : goal.returns-in-Some-clause-only
returns-in-Some-clause-only c = λ other has. ⊎_elim
    (λ (was : Contains c.add.new.self.lines (record { 0 = other })).
    inl (first_only c.args.line c.clear.new.self c.add.new.self (ap (λ (f : FoundSet). f.lines) c.clear.ensures) c.add.ensures other was))
    (λ (this : Contains (c.in-Some.other ∷ []) (record { 0 = other })).
    inr (subst (IsSomeLine other) (sym c.in-Some.is) (ap (λ (l : LineId). l.0) (only_one c.in-Some.other (record { 0 = other }) this))))
    ((c.add-in-Some.ensures.exactly other).0 has)

pub returns-in_default-clause-only : goal.returns-in_default-clause-only
returns-in_default-clause-only c = λ other has.
    inl (first_only c.args.line c.clear.new.self c.add.new.self (ap (λ (f : FoundSet). f.lines) c.clear.ensures) c.add.ensures other has)
