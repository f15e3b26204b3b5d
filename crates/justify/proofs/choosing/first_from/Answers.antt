-- Where there is none from the place on, and none before, all of these sources were passed over for their one state.
use Rattle.std.proofs.Common.{ℕ, ◌-◌, List, length, take, drop, subst, arith, length-drop}
use Rattle.std.specs.List.{All}
use Rattle.std.proofs.lemmas.List.{take_all, take-append-drop}
use Rattle.std.proofs.lemmas.List.Elements.{All-append}
use Rattle.pd_base.specs.declared.ids.LineId.{LineId}
use Rattle.implication.specs.Scopes.{standing}
use Rattle.implication.specs.Standing.{IsTold}
use Rattle.justify.specs.Choices.{AreSingleAmong, IsSingleAt}
use Rattle.justify.proofs.Visits.{none_after}
use Rattle.justify.proofs.choosing.first_from.Goals as goal

-- what holds of the first items and of the others holds of all
all_of_both : {X : Type 0} (P : X → Type 0) (n : ℕ) (xs : List X) → All P (take n xs) → All P (take (length xs - n) (drop n xs)) → All P xs
all_of_both {X = X} P n xs first rest =
    let Q : List X → Type 0 = λ ys. All P ys in
    subst Q (take-append-drop n xs)
    (All-append P (take n xs) (drop n xs) first (subst Q (take_all (length xs - n) (drop n xs) (omega (arith, length-drop n xs))) rest))

pub returns-in-None-clause-none : goal.returns-in-None-clause-none
returns-in-None-clause-none g c =
    let a = g.A.Algebra.algebra in let now = standing c.args.scope.now in
    let sources = c.args.sources.now in let from = c.min-from.result in
    let Single : LineId → Type 0 = λ source. IsTold now source.0 → IsSingleAt a now source.0 in
    none_after (AreSingleAmong a now (take from sources)) (AreSingleAmong a now sources) c.first_split-in-None.result
    (λ before. all_of_both Single from sources before c.in-None.ensures.none) c.first_split-in-None.ensures.none
