-- Judging leaves the desk the path's, with the same states at the sources; the pair that is judged a test is one, and the sources to
-- blame are of the support.
use Rattle.std.proofs.Common.{◌<◌, refl, sym, ap, ◌∙◌, subst, length, List}
use Rattle.std.proofs.lemmas.List.{with_items_is}
use Rattle.netlist.specs.Circuit.{Circuit, line_count, source_count}
use Rattle.netlist.specs.Paths.{IsPrefix, end_of}
use Rattle.state_sets.specs.declared.state.State.{State}
use Rattle.implication.specs.Scopes.{standing}
use Rattle.netlist.specs.LinkedPairs.{AreLinksOf}
use Rattle.cones.specs.KeptCones.{IsConeFor, IsConeAt}
use Rattle.pair_judging.specs.ConeStates.{AreStates, AreSourceStates, state_in}
use Rattle.justify.specs.Desks.{AreInSupport}
use Rattle.pair_judging.specs.Targets.{seen_target}
use Rattle.justify.proofs.TriedSources.{blamed_in_support, in_cone_within, side_within, desk_again, kept_desk, read_at, sources_within}
use Rattle.justify.proofs.TriedSources.{judged_fits, kept_sources}
use Rattle.justify.proofs.judging.judge_states.Goals as goal

pub set_failure-requires-clause-line : goal.set_failure-requires-clause-line
set_failure-requires-clause-line g c =
    let P : Circuit → Type 0 = λ n. IsPrefix n c.args.target.now.path.now in
    in_cone_within c.net-net.result.now c.sources.ensures.circuit c.args.desk.now.cone.links
    (subst (λ (n : Circuit). AreLinksOf n c.args.desk.now.cone.links) (sym c.net-net.ensures) c.requires.desk.made.cone.fit)
    c.args.target.now.path.now (subst P (sym c.net-net.ensures) c.requires.prefix) c.in-FailsAt.line.0 c.in-FailsAt.ensures.within.0

pub set_failure-requires-clause-side : goal.set_failure-requires-clause-side
set_failure-requires-clause-side g c =
    let P : Circuit → Type 0 = λ n. IsPrefix n c.args.target.now.path.now in
    side_within c.net-net.result.now c.sources.ensures.circuit c.args.desk.now.cone.links
    (subst (λ (n : Circuit). AreLinksOf n c.args.desk.now.cone.links) (sym c.net-net.ensures) c.requires.desk.made.cone.fit)
    c.args.target.now.path.now (subst P (sym c.net-net.ensures) c.requires.prefix)
    c.in-FailsAt.side c.in-FailsAt.ensures.within.1

pub read_test-requires-clause-sources : goal.read_test-requires-clause-sources
read_test-requires-clause-sources g c =
    sources_within g.A.Algebra.algebra c.net-net.result.now (standing c.args.scope.now).net c.net-net.ensures
    (standing c.args.scope.now).rules c.args.target.now.path.now c.args.desk.now c.requires.desk

pub returns-in_ok-pair-in-IsTest-clause-desk : goal.returns-in_ok-pair-in-IsTest-clause-desk
returns-in_ok-pair-in-IsTest-clause-desk g c =
    let long = c.judge-judgement.ensures.kept.places ∙ ap length c.as_mut_slice.ensures.value in
    kept_desk g.A.Algebra.algebra (standing c.args.scope.now).net (standing c.args.scope.now).rules c.args.target.now.path.now _ c.keep.new.self c.keep.ensures
    (desk_again g.A.Algebra.algebra (standing c.args.scope.now).net (standing c.args.scope.now).rules c.args.target.now.path.now c.args.desk.now _ c.judge-judgement.new.states c.requires.desk
    refl refl refl refl
    (with_items_is c.args.desk.now.states c.judge-judgement.new.states (long ∙ sym c.args.desk.now.states.ok.0))
    c.judge-judgement.ensures.kept.states long c.requires.desk.made.justifier)

pub returns-in_ok-pair-in-IsTest-clause-kept : goal.returns-in_ok-pair-in-IsTest-clause-kept
returns-in_ok-pair-in-IsTest-clause-kept g c =
    let long = c.judge-judgement.ensures.kept.places ∙ ap length c.as_mut_slice.ensures.value ∙ sym c.args.desk.now.states.ok.0 in
    record {
      cone = c.keep.ensures.cone;
      states = λ source within.
          ap (λ (xs : List State). state_in xs source)
          (c.keep.ensures.states ∙ with_items_is c.args.desk.now.states c.judge-judgement.new.states long)
          ∙ c.judge-judgement.ensures.kept.sources source (subst (λ (n : Circuit). source < source_count n) (sym c.net-net.ensures) within)
          ∙ ap (λ (xs : List State). state_in xs source) c.as_mut_slice.ensures.value;
    }

pub returns-in_ok-pair-in-IsTest-clause-test : goal.returns-in_ok-pair-in-IsTest-clause-test
returns-in_ok-pair-in-IsTest-clause-test g c =
    let long = c.judge-judgement.ensures.kept.places ∙ ap length c.as_mut_slice.ensures.value ∙ sym c.args.desk.now.states.ok.0 in
    let net = (standing c.args.scope.now).net in let target = seen_target c.args.target.now in
    judged_fits g.A.Algebra.algebra c.net-net.result.now net c.net-net.ensures (standing c.args.scope.now).rules target c.args.desk.now
    c.requires.desk c.judge-judgement.new.states c.in_ok-pair-in-IsTest.pair
    (read_at g.A.Algebra.algebra c.net-net.result.now net c.net-net.ensures (standing c.args.scope.now).rules target.path c.args.desk.now
    c.requires.desk c.as_slice.result.now c.judge-judgement.new.states
    (c.as_slice.ensures.value ∙ with_items_is c.args.desk.now.states c.judge-judgement.new.states long)
    c.in_ok-pair-in-IsTest.pair c.in_ok-pair-in-IsTest.ensures)
    c.in-IsTest.ensures.judged

pub returns-in_err-pair-in-IsTest-clause-desk : goal.returns-in_err-pair-in-IsTest-clause-desk
returns-in_err-pair-in-IsTest-clause-desk g c =
    let long = c.judge-judgement.ensures.kept.places ∙ ap length c.as_mut_slice.ensures.value in
    desk_again g.A.Algebra.algebra (standing c.args.scope.now).net (standing c.args.scope.now).rules c.args.target.now.path.now c.args.desk.now _ c.judge-judgement.new.states c.requires.desk
    refl refl refl refl
    (with_items_is c.args.desk.now.states c.judge-judgement.new.states (long ∙ sym c.args.desk.now.states.ok.0))
    c.judge-judgement.ensures.kept.states long c.requires.desk.made.justifier

pub returns-in_err-pair-in-IsTest-clause-kept : goal.returns-in_err-pair-in-IsTest-clause-kept
returns-in_err-pair-in-IsTest-clause-kept g c =
    let long = c.judge-judgement.ensures.kept.places ∙ ap length c.as_mut_slice.ensures.value ∙ sym c.args.desk.now.states.ok.0 in
    record {
      cone = refl;
      states = λ source within.
          ap (λ (xs : List State). state_in xs source) (with_items_is c.args.desk.now.states c.judge-judgement.new.states long)
          ∙ c.judge-judgement.ensures.kept.sources source (subst (λ (n : Circuit). source < source_count n) (sym c.net-net.ensures) within)
          ∙ ap (λ (xs : List State). state_in xs source) c.as_mut_slice.ensures.value;
    }

pub returns-in-FailsAt-clause-desk : goal.returns-in-FailsAt-clause-desk
returns-in-FailsAt-clause-desk g c =
    let long = c.judge-judgement.ensures.kept.places ∙ ap length c.as_mut_slice.ensures.value in
    desk_again g.A.Algebra.algebra (standing c.args.scope.now).net (standing c.args.scope.now).rules c.args.target.now.path.now c.args.desk.now _ c.judge-judgement.new.states c.requires.desk
    refl refl c.set_failure.ensures.room refl
    (with_items_is c.args.desk.now.states c.judge-judgement.new.states (long ∙ sym c.args.desk.now.states.ok.0))
    c.judge-judgement.ensures.kept.states long c.requires.desk.made.justifier

pub returns-in-FailsAt-clause-kept : goal.returns-in-FailsAt-clause-kept
returns-in-FailsAt-clause-kept g c =
    let long = c.judge-judgement.ensures.kept.places ∙ ap length c.as_mut_slice.ensures.value ∙ sym c.args.desk.now.states.ok.0 in
    record {
      cone = refl;
      states = λ source within.
          ap (λ (xs : List State). state_in xs source) (with_items_is c.args.desk.now.states c.judge-judgement.new.states long)
          ∙ c.judge-judgement.ensures.kept.sources source (subst (λ (n : Circuit). source < source_count n) (sym c.net-net.ensures) within)
          ∙ ap (λ (xs : List State). state_in xs source) c.as_mut_slice.ensures.value;
    }

pub judge-judgement-requires-clause-prefix : goal.judge-judgement-requires-clause-prefix
judge-judgement-requires-clause-prefix g c =
    let P : Circuit → Type 0 = λ n. IsPrefix n c.args.target.now.path.now in subst P (sym c.net-net.ensures) c.requires.prefix

pub judge-judgement-requires-clause-made : goal.judge-judgement-requires-clause-made
judge-judgement-requires-clause-made g c =
    let P : Circuit → Type 0 = λ n. IsConeFor n c.args.desk.now.cone in subst P (sym c.net-net.ensures) c.requires.desk.made.cone

pub judge-judgement-requires-clause-cone : goal.judge-judgement-requires-clause-cone
judge-judgement-requires-clause-cone g c =
    let P : Circuit → Type 0 = λ n. IsConeAt n (end_of n c.args.target.now.path.now) c.args.desk.now.cone in
    subst P (sym c.net-net.ensures) c.requires.desk.cone

pub judge-judgement-requires-clause-labels : goal.judge-judgement-requires-clause-labels
judge-judgement-requires-clause-labels g c = c.labels.ensures.one_each ∙ sym (ap line_count c.net-net.ensures)

pub judge-judgement-requires-clause-states : goal.judge-judgement-requires-clause-states
judge-judgement-requires-clause-states g c = record {
  places = ap length c.as_mut_slice.ensures.value ∙ c.requires.desk.made.states ∙ sym (ap line_count c.net-net.ensures);
  below = subst (AreStates g.A.Algebra.algebra.count) (sym c.as_mut_slice.ensures.value) c.requires.desk.made.within;
}

pub read_test-requires-clause-places : goal.read_test-requires-clause-places
read_test-requires-clause-places g c =
    let long = c.judge-judgement.ensures.kept.places ∙ ap length c.as_mut_slice.ensures.value in
    let here = with_items_is c.args.desk.now.states c.judge-judgement.new.states (long ∙ sym c.args.desk.now.states.ok.0) in
    ap length (c.as_slice.ensures.value ∙ here) ∙ long ∙ c.requires.desk.made.states ∙ sym (ap line_count c.net-net.ensures)

pub read_test-requires-clause-states : goal.read_test-requires-clause-states
read_test-requires-clause-states g c =
    let long = c.judge-judgement.ensures.kept.places ∙ ap length c.as_mut_slice.ensures.value in
    let here = with_items_is c.args.desk.now.states c.judge-judgement.new.states (long ∙ sym c.args.desk.now.states.ok.0) in
    let Q : List State → Type 0 = λ xs. AreSourceStates g.A.Algebra.algebra c.args.desk.now.cone.sources xs in
    subst Q (sym (c.as_slice.ensures.value ∙ here))
    (kept_sources g.A.Algebra.algebra (standing c.args.scope.now).net (standing c.args.scope.now).rules c.args.target.now.path.now
    c.args.desk.now c.requires.desk c.args.desk.now.states.items c.judge-judgement.new.states
    (λ source within.
    c.judge-judgement.ensures.kept.sources source (subst (λ (n : Circuit). source < source_count n) (sym c.net-net.ensures) within)
    ∙ ap (λ (xs : List State). state_in xs source) c.as_mut_slice.ensures.value) c.requires.sources)

pub set_failure-requires-clause-room : goal.set_failure-requires-clause-room
set_failure-requires-clause-room g c = c.requires.desk.made.blame ∙ sym (ap line_count c.net-net.ensures)

pub set_failure-requires-clause-labels : goal.set_failure-requires-clause-labels
set_failure-requires-clause-labels g c = c.labels-in-FailsAt.ensures.one_each ∙ sym (ap line_count c.net-net.ensures)

pub returns-in-FailsAt-clause-blamed : goal.returns-in-FailsAt-clause-blamed
returns-in-FailsAt-clause-blamed g c =
    let P : Circuit → Type 0 = λ n. AreInSupport n (standing c.args.scope.now).rules c.args.target.now.path.now c.set_failure.new.self.sources in
    subst P c.net-net.ensures
    (blamed_in_support c.net-net.result.now (standing c.args.scope.now).rules c.args.target.now.path.now c.args.desk.now.cone.links
    c.requires.desk.made.links c.in-FailsAt.line c.in-FailsAt.side c.set_failure.new.self.sources
    c.set_failure.ensures.blamed c.in-FailsAt.ensures.within.0 c.in-FailsAt.ensures.within.1)

pub read_test-requires-clause-made : goal.read_test-requires-clause-made
read_test-requires-clause-made g c =
    let P : Circuit → Type 0 = λ n. IsConeFor n c.args.desk.now.cone in subst P (sym c.net-net.ensures) c.requires.desk.made.cone
