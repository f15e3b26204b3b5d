-- What the label tells of the source holds in all labels of the node: each half has a state, or there are less than two.
use Rattle.std.proofs.Common.{Option, Some, None, refl, sym, ◌∙◌, subst, arith}
use Rattle.std.proofs.lemmas.Bool.{false≢true}
use Rattle.std.specs.Prelude.{IfNone}
use Rattle.state_sets.specs.declared.state.StateSet.{StateSet}
use Rattle.trees.specs.Spent.{HasInHalf}
use Rattle.implication.specs.Scopes.{standing}
use Rattle.implication.specs.Standing.{IsTold}
use Rattle.implication.specs.NodeScopes.{beginning_of}
use Rattle.justify.specs.Choices.{IsSingleAt}
use Rattle.pair_judging.specs.Targets.{seen_target}
use Rattle.justify.specs.Trying.{IsSingle}
use Rattle.justify.proofs.HalfStates.{in_both}
use Rattle.justify.proofs.Resting.{label_is}
use Rattle.justify.proofs.Suiting.{label_of_sources}
use Rattle.justify.proofs.choosing.split_at.Goals as goal

-- what holds anyway holds where there is no value
if_none : {T : Type 0} (X : Type 0) (value : Option T) → X → IfNone value X
if_none X None holds = holds
if_none X (Some found) holds = tt

pub returns-clause-some : goal.returns-clause-some
returns-clause-some g c =
    let told = c.tells.ensures.0 c.if-not-tells.false in
    record {
      source = record { in_support = c.requires.source; told = told };
      splits = record {
        at_source = refl;
        kind = c.in_ok-kind.ensures.source_kind;
        in_half = λ labels is second.
            let P : StateSet → Type 0 = λ set. HasInHalf g.A.Algebra.algebra set c.in_ok-kind.kind second in
            subst P (label_is g.A.Algebra.algebra (standing c.args.scope.now) (beginning_of (seen_target c.args.target.now)) c.requires.node.beginning
            c.args.source.0 c.label.result told (c.label.ensures.told c.requires.node.free) labels is)
            (in_both g.A.Algebra.algebra c.label.result c.in_ok-kind.kind c.in_ok-kind.ensures.some second);
      };
    }

pub returns-then-not-tells-clause-none : goal.returns-then-not-tells-clause-none
returns-then-not-tells-clause-none g c = λ told. absurd (false≢true (sym c.if-not-tells.true ∙ c.tells.ensures.1 told))

pub tells-requires : goal.tells-requires
tells-requires g c = let within = c.requires.source.is_source in omega (arith, within)

pub kind_to_split-requires-clause-sources : goal.kind_to_split-requires-clause-sources
kind_to_split-requires-clause-sources g c =
    label_of_sources g.A.Algebra.algebra (seen_target c.args.target.now) (standing c.args.scope.now) c.requires.node c.args.source.0
    (record { in_support = c.requires.source; told = c.tells.ensures.0 c.if-not-tells.false }) c.label.result
    (c.label.ensures.told c.requires.node.free)

pub label-requires : goal.label-requires
label-requires g c = let within = c.requires.source.is_source in omega (arith, within)

pub returns-in_err-kind-clause-none : goal.returns-in_err-kind-clause-none
returns-in_err-kind-clause-none g c =
    if_none (IsTold (standing c.args.scope.now) c.args.source.0 → IsSingleAt g.A.Algebra.algebra (standing c.args.scope.now) c.args.source.0)
    c.from_residual.result (λ told labels is.
    subst (IsSingle g.A.Algebra.algebra.count)
    (label_is g.A.Algebra.algebra (standing c.args.scope.now) (beginning_of (seen_target c.args.target.now)) c.requires.node.beginning
    c.args.source.0 c.label.result told (c.label.ensures.told c.requires.node.free) labels is)
    c.in_err-kind.ensures.none)
