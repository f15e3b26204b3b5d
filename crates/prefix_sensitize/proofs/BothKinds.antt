-- The searches for the robust and then the nonrobust tests of a transition, and then for those of the other transition: what the first
-- found stays as it is promised while more proofs are found.
use Rattle.std.proofs.Common.{◌≡◌, ℕ, ◌+◌, ◌<◌, Bool, true, false, not, List, [], ◌++◌, length, map, replicate, Some, refl, sym, ap, subst, ◌∙◌, append_assoc, arith}
use Rattle.std.specs.Prelude.{slice_get, slice_index_or}
use Rattle.std.proofs.lemmas.List.{get_or-map, get_or-replicate, length-map}
use Rattle.std.proofs.lemmas.List.Elements.{All-append, All-nil}
use Rattle.std.proofs.lemmas.Option.{none-some, slice_get_within}
use Rattle.pd_base.specs.Route.{Route}
use Rattle.pd_base.specs.Target.{Target, target_of}
use Rattle.pd_base.specs.declared.fault.Direction.{Direction}
use Rattle.pd_base.specs.declared.fault.Direction.TheVariants.{Rise, Fall}
use Rattle.pd_base.specs.declared.fault.Kind.{Kind}
use Rattle.pd_base.specs.declared.fault.Kind.TheVariants.{Robust, Nonrobust}
use Rattle.pd_base.specs.declared.rules.Rules.{Rules}
use Rattle.netlist.specs.Circuit.{Circuit}
use Rattle.path_laws.proofs.NonrobustPath.{robust_is_nonrobust}
use Rattle.runs.specs.declared.run.Proof.{Proof}
use Rattle.good_runs.specs.Faults.{IsAbout, NoneApplies}
use Rattle.good_runs.specs.Truth.{HasSomeTest}
use Rattle.good_runs.proofs.Growing.{proof_kept}
use Rattle.good_runs.proofs.Numbers.{all_at_number}
use Rattle.prefix_sensitize.specs.declared.outcome.Aim.{Aim}
use Rattle.prefix_sensitize.specs.declared.outcome.RowOutcome.{RowOutcome}
use Rattle.prefix_sensitize.specs.declared.outcome.RowOutcome.TheVariants.{Unsearched, Tested, Proved}
use Rattle.prefix_sensitize.specs.declared.all_outcomes.BothOutcomes.{BothOutcomes}
use Rattle.prefix_sensitize.specs.Outcomes.{AddsProofs, AreFoundProofs, AreOutcomes, IsFoundProof, IsNeeded, IsOutcome, NoneIsAbout, outcome_at}
use Rattle.prefix_sensitize.specs.Readiness.{AddsProofsFor, NoneIsFor}
use Rattle.prefix_sensitize.specs.Searches.{AreBothOutcomesFrom, is_test}
use Rattle.prefix_sensitize.specs.Walks.{AreExcused}

-- an outcome stays as it is promised while proofs are added that do not apply
outcome_kept : (c : Circuit) (rules : Rules) (routes : List Route) (old more new : List Proof) → new ≡ old ++ more → (row : ℕ) (target : Target)
    → NoneApplies routes more target → (outcome : RowOutcome) → IsOutcome c rules routes old row target outcome
    → IsOutcome c rules routes new row target outcome
outcome_kept c rules routes old more new grown row target none Unsearched is = is
outcome_kept c rules routes old more new grown row target none (Tested pair) is = is
outcome_kept c rules routes old more new grown row target none (Proved index) is =
    subst (λ (proofs : List Proof). IsOutcome c rules routes proofs row target (Proved index)) (sym grown)
    (proof_kept routes old more target none (row + 1) (index + 1) is)

-- the two kinds and the two transitions differ
kinds_differ : Robust ≡ Nonrobust → ⊥
kinds_differ same = cc

directions_differ : Rise ≡ Fall → ⊥
directions_differ same = cc

-- before all searches no proof was found
pub none_found : (c : Circuit) (rules : Rules) (budget : ℕ) (routes : List Route) (proofs : List Proof) → proofs ≡ []
    → AreFoundProofs c rules budget routes proofs
none_found c rules budget routes proofs none =
    subst (AreFoundProofs c rules budget routes) (sym none) (record {
      each = All-nil (IsFoundProof c rules budget routes);
      apart = λ number other proof other_proof target is its listed one two. absurd (none-some proof is.found);
    })

pub none_is_for : (direction : Direction) (proofs : List Proof) → proofs ≡ [] → NoneIsFor direction proofs
none_is_for direction proofs none =
    subst (NoneIsFor direction) (sym none) (All-nil (λ (proof : Proof). ¬ (proof.dir ≡ direction)))

-- after those for the rising transition there is none for the falling one
pub fall_is_new : (old new : List Proof) → old ≡ [] → AddsProofsFor Rise old new → NoneIsFor Fall new
fall_is_new old new none adds =
    let all : new ≡ adds.more = adds.adds ∙ ap (λ (list : List Proof). list ++ adds.more) none in
    subst (NoneIsFor Fall) (sym all) (λ place d within falls. directions_differ (sym (adds.aimed place d within) ∙ falls))

module _ (c : Circuit) (rules : Rules) (routes : List Route) (direction : Direction) (budget : ℕ) where
  -- what is searched for
  abbrev aim_for : Kind → Aim
  aim_for kind = record { kind = kind; direction = direction; budget = budget }

  -- where all outcomes are needed
  module _ (needed : List Bool) (all : needed ≡ replicate (length routes) true) where
    pub is_needed : (row : ℕ) → row < length routes → IsNeeded needed row
    is_needed row within =
        ap (λ (list : List Bool). slice_index_or list row false) all ∙ get_or-replicate (length routes) row true false within

    -- none is left out
    pub all_excused : (kind : Kind) → AreExcused c rules (aim_for kind) routes needed
    all_excused kind row route there not_needed = absurd (not_needed (is_needed row (slice_get_within routes row route there)))

    -- and each is told
    pub each_outcome : (kind : Kind) (proofs : List Proof) (outcomes : List RowOutcome)
        → AreOutcomes c rules routes proofs needed (aim_for kind) outcomes → (row : ℕ) (route : Route) → slice_get routes row ≡ Some route
        → IsOutcome c rules routes proofs row (target_of route direction kind) (outcome_at outcomes row)
    each_outcome kind proofs outcomes are row route there =
        are.each row route there (is_needed row (slice_get_within routes row route there))

    module _ (middle : List Proof) (robust : List RowOutcome) (are : AreOutcomes c rules routes middle needed (aim_for Robust) robust)
        (some : List Bool) (untested : some ≡ map (λ outcome. not (is_test outcome)) robust) where
      -- whether the nonrobust outcome is needed
      need_of : (row : ℕ) → row < length routes → slice_index_or some row false ≡ not (is_test (outcome_at robust row))
      need_of row within =
          let same = are.one_each in
          ap (λ (list : List Bool). slice_index_or list row false) untested
          ∙ get_or-map (λ (outcome : RowOutcome). not (is_test outcome)) robust row Unsearched false (omega arith)

      -- a path that has a robust test has a nonrobust one
      pub untested_excused : AreExcused c rules (aim_for Nonrobust) routes some
      untested_excused row route there not_needed =
          by (outcome_at robust row) (each_outcome Robust middle robust are row route there)
          (λ clear. not_needed (need_of row (slice_get_within routes row route there) ∙ ap not clear))
        where
          by : (outcome : RowOutcome) → IsOutcome c rules routes middle row (target_of route direction Robust) outcome
              → (is_test outcome ≡ false → ⊥) → HasSomeTest c rules (target_of route direction Nonrobust)
          by Unsearched is tested = absurd is
          by (Tested pair) is tested = record {
            pair = pair;
            first_fits = is.first_fits;
            second_fits = is.second_fits;
            of_rules = is.of_rules;
            meets = robust_is_nonrobust c route direction pair is.meets;
          }
          by (Proved index) is tested = absurd (tested refl)

      pub some_each : length some ≡ length routes
      some_each =
          ap length untested ∙ length-map robust (λ (outcome : RowOutcome). not (is_test outcome)) ∙ are.one_each

      -- the outcomes of both searches are those of the faults
      pub both_are : (new : List Proof) (nonrobust : List RowOutcome) → AddsProofs (aim_for Nonrobust) middle new
          → AreOutcomes c rules routes new some (aim_for Nonrobust) nonrobust → (both : BothOutcomes) → both.robust.items ≡ robust
          → both.nonrobust.items ≡ nonrobust → AreBothOutcomesFrom c rules routes new direction 0 both
      both_are new nonrobust adds are_too both is_robust is_nonrobust = record {
        robust = ap length is_robust ∙ are.one_each;
        nonrobust = ap length is_nonrobust ∙ are_too.one_each;
        each = λ row route from there.
            (let within = slice_get_within routes row route there in
            let R : List RowOutcome → Type 0 = λ list. IsOutcome c rules routes new row (target_of route direction Robust) (outcome_at list row) in
            let N : List RowOutcome → Type 0 =
            λ list. IsOutcome c rules routes new row (target_of route direction Nonrobust) (outcome_at list row) in
            record {
              robust = subst R (sym is_robust)
                  (outcome_kept c rules routes middle adds.more new adds.adds row (target_of route direction Robust) (none_more route)
                  (outcome_at robust row) (each_outcome Robust middle robust are row route there));
              nonrobust = λ clear. subst N (sym is_nonrobust)
                  (are_too.each row route there
                  (need_of row within
                  ∙ ap not (sym (ap (λ (list : List RowOutcome). is_test (outcome_at list row)) is_robust) ∙ clear)));
            });
      }
        where
          none_more : (route : Route) → NoneApplies routes adds.more (target_of route direction Robust)
          none_more route number proof numbered applies =
              let about = all_at_number (IsAbout Nonrobust direction) adds.more number proof adds.aimed numbered in
              kinds_differ (sym applies.is_about.of_kind ∙ about.of_kind)

  -- no proof is about a kind while none is for the transition
  pub none_about : (kind : Kind) (proofs : List Proof) → NoneIsFor direction proofs → NoneIsAbout (aim_for kind) proofs
  none_about kind proofs none place d within about = none place d within about.of_direction

  -- none is about the nonrobust kind after the robust search
  pub nonrobust_is_new : (old middle : List Proof) → NoneIsFor direction old → AddsProofs (aim_for Robust) old middle
      → NoneIsAbout (aim_for Nonrobust) middle
  nonrobust_is_new old middle none adds =
      subst (NoneIsAbout (aim_for Nonrobust)) (sym adds.adds)
      (All-append (λ (proof : Proof). ¬ IsAbout Nonrobust direction proof) old adds.more (none_about Nonrobust old none)
      (λ place d within about. kinds_differ (sym (adds.aimed place d within).of_kind ∙ about.of_kind)))

  -- all that both searches add is for the transition
  pub both_add : (old middle new : List Proof) → AddsProofs (aim_for Robust) old middle → AddsProofs (aim_for Nonrobust) middle new
      → AddsProofsFor direction old new
  both_add old middle new one two = record {
    more = one.more ++ two.more;
    adds = two.adds ∙ ap (λ (list : List Proof). list ++ two.more) one.adds ∙ append_assoc old one.more two.more;
    aimed = All-append (λ (proof : Proof). proof.dir ≡ direction) one.more two.more
        (λ place d within. (one.aimed place d within).of_direction) (λ place d within. (two.aimed place d within).of_direction);
  }

-- what was found for the rising transition stays while the falling one is searched for
pub rises_stay : (c : Circuit) (rules : Rules) (routes : List Route) (middle new : List Proof) (rises : BothOutcomes) → AddsProofsFor Fall middle new
    → AreBothOutcomesFrom c rules routes middle Rise 0 rises → AreBothOutcomesFrom c rules routes new Rise 0 rises
rises_stay c rules routes middle new rises adds are = record {
  robust = are.robust;
  nonrobust = are.nonrobust;
  each = λ row route from there.
      (let told = are.each row route from there in
      record {
        robust = outcome_kept c rules routes middle adds.more new adds.adds row (target_of route Rise Robust) (none_more route Robust)
            (outcome_at rises.robust.items row) told.robust;
        nonrobust = λ clear. outcome_kept c rules routes middle adds.more new adds.adds row (target_of route Rise Nonrobust)
            (none_more route Nonrobust) (outcome_at rises.nonrobust.items row) (told.nonrobust clear);
      });
}
  where
    none_more : (route : Route) (kind : Kind) → NoneApplies routes adds.more (target_of route Rise kind)
    none_more route kind number proof numbered applies =
        let falls = all_at_number (λ (p : Proof). p.dir ≡ Fall) adds.more number proof adds.aimed numbered in
        directions_differ (sym applies.is_about.of_direction ∙ falls)
