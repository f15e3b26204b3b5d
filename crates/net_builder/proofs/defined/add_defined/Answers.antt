-- A name that is not among those of the statements before is new, and one that is is defined twice.
use Rattle.std.proofs.Common.{List, ℕ, sym, subst, arith}
use Rattle.std.proofs.lemmas.Grind.{common_steps}
use Rattle.std.specs.List.{Contains}
use Rattle.net_builder.specs.Refusals.{RefusesTwice, mention_of}
use Rattle.net_builder.proofs.Defining.{distinct_more, twice_here}
use Rattle.net_builder.proofs.defined.add_defined.Goals as goal

pub returns-then-has_name-clause-refused : goal.returns-then-has_name-clause-refused
returns-then-has_name-clause-refused c =
    let raw = c.args.raw.now in
    let again = subst (λ (names : List (List ℕ)). Contains names c.in-Some.name.now) c.requires.names c.if-has_name.ensures in
    let twice = twice_here raw c.args.place c.requires.within c.in-Some.name.now c.requires.limits c.requires.distinct c.in-Some.ensures again in
    subst (RefusesTwice raw) (λ i. mention_of (sym c.line.ensures i) (sym c.in_ok-copied.ensures i)) twice

pub returns-clause-distinct : goal.returns-clause-distinct
returns-clause-distinct c =
    distinct_more c.args.raw.now c.args.place c.requires.within c.in-Some.name.now c.requires.distinct c.in-Some.ensures
    (subst (λ (names : List (List ℕ)). Contains names c.in-Some.name.now → ⊥) c.requires.names c.if-has_name.ensures)

pub returns-clause-names : goal.returns-clause-names
returns-clause-names c = grind (arith, common_steps)

pub returns-in_default-clause-names : goal.returns-in_default-clause-names
returns-in_default-clause-names c = grind (arith, common_steps)
