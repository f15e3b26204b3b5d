-- The last entry is the new one, where there is one.
use Rattle.std.proofs.Common.{⊎_elim, inl, inr, refl, sym, subst, ◌∙◌, arith}
use Rattle.std.proofs.lemmas.Bool.{false≢true}
use Rattle.path_laws.specs.Listed.{HasNext}
use Rattle.path_lister.proofs.listing.next_place.Goals as goal

pub grow-requires-clause-node : goal.grow-requires-clause-node
grow-requires-clause-node c = c.requires.graph.some_node

pub last-requires : goal.last-requires
last-requires c = omega (arith, c.in_ok-grow.ensures.going.linked.last_each, c.requires.graph.some_node)

pub returns-then-branch-clause-grown : goal.returns-then-branch-clause-grown
returns-then-branch-clause-grown c =
    let grown = c.in_ok-grow.ensures.grown in
    let one = grown.one_more c.if-branch.true in
    subst (HasNext c.args.graph.now c.args.lists.now c.grow.new.self) (sym c.last.ensures) (record {
      extends = grown.extends;
      only = λ place is. ⊎_elim (λ old. inl old) (λ own. inr own.1) (grown.only place is);
      next_one = λ some. one.0;
      behind = one.1;
      none_left = λ none. absurd (omega (arith, none, one.0.within, c.in_ok-grow.ensures.going.linked.few));
    })

pub returns-else-branch-clause-grown : goal.returns-else-branch-clause-grown
returns-else-branch-clause-grown c =
    let grown = c.in_ok-grow.ensures.grown in record {
      extends = grown.extends;
      only = λ place is. ⊎_elim (λ old. inl old) (λ own. absurd (false≢true (sym c.if-branch.false ∙ own.0))) (grown.only place is);
      next_one = λ some. absurd (some refl);
      behind = c.requires.going.linked.few;
      none_left = λ none. grown.all_listed c.if-branch.false;
    }
