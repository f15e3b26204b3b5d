-- What is told of the pairs that have the states which are kept at the sources of a cone, once no gate of the cone is stale.
use Rattle.std.proofs.Common.{◌≡◌, ◌<◌, false, List, [], Option, refl, sym, subst, subst₂, arith}
use Rattle.std.specs.List.{All}
use Rattle.pd_base.specs.Links.{LinkList}
use Rattle.pd_base.specs.Target.{Target}
use Rattle.pd_base.specs.declared.ids.GateId.{GateId}
use Rattle.pd_base.specs.declared.ids.LineId.{LineId}
use Rattle.netlist.specs.Circuit.{Circuit, line_count}
use Rattle.netlist.specs.Lawful.{IsCircuit}
use Rattle.netlist.specs.LinkedPairs.{AreLinksOf}
use Rattle.netlist.specs.Paths.{IsPrefix, end_of}
use Rattle.state_sets.specs.declared.state.State.{State}
use Rattle.state_sets.specs.StateAlgebra.{StateAlgebra, HasLaws}
use Rattle.pair_judging.specs.Judged.{IsJudgedBy, AreComputed, LinksPass, IsFailingLink}
use Rattle.cones.specs.KeptCones.{AreConeSources, AreConeGates}
use Rattle.pair_judging.specs.declared.judging.Judgement.TheVariants.{IsTest, FailsAt}
use Rattle.pair_judging.proofs.Judged.{judged_at, link_fails}
use Rattle.refutation_check.specs.declared.trial_states.TrialStates.{TrialStates}
use Rattle.refutation_check.specs.TrialStates.{is_stale, AreTrialStates}
use Rattle.refutation_check.specs.Blames.{IsFailure}
use Rattle.refutation_check.specs.Trials.{EachIsTest, EachFails}
use Rattle.path_laws.proofs.StepCounts.{line_after_in_circuit}
use Rattle.state_laws.specs.FailedTrials.FailsTrial.{at_link}
use Rattle.state_laws.proofs.Supports.{linked_supported, supported_in_circuit}
use Rattle.refutation_check.proofs.TrialStates.{are_computed}

-- what is told of links, sources and states is told of the same ones
pub told_of_same : (P : LinkList → List LineId → List State → Type 0) (links more : LinkList) (sources others : List LineId)
    (states same : List State) → links ≡ more → sources ≡ others → states ≡ same → P links sources states → P more others same
told_of_same P links more sources others states same one two three told =
    let Q : LinkList → Type 0 = λ ls. P ls sources states in
    let R : List LineId → Type 0 = λ ss. P more ss states in
    subst (P more others) three (subst R two (subst Q one told))

module _ (a : StateAlgebra) (laws : HasLaws a) (c : Circuit) (circuit : IsCircuit c) (links : LinkList) (fit : AreLinksOf c links)
    (target : Target) (is : IsPrefix c target.path) (gates : List GateId) (gates_are : AreConeGates c links (end_of c target.path) gates)
    (sources : List LineId) (sources_are : AreConeSources c links (end_of c target.path) sources) (kept : TrialStates)
    (are : AreTrialStates a c kept) (fresh : All (λ gate. is_stale kept gate.0 ≡ false) gates) where
  abbrev states : List State
  states = kept.states.items

  computed : AreComputed a c gates states states
  computed = are_computed a laws c circuit gates kept are fresh

  -- where the states along links may be linked and those of the path meet the conditions, each such pair is a test
  pub each_is_test : LinksPass a links sources states → IsJudgedBy a c target states IsTest → EachIsTest a c links target states
  each_is_test pass judged pair has =
      let told = judged_at a c circuit links fit target is gates gates_are states states (λ source within. refl) computed sources sources_are pass
      [] IsTest judged pair has in
      (told.1, told.2)

  -- where those of the path do not, each fails
  pub each_fails : LinksPass a links sources states → (line : LineId) (side : Option LineId) → IsJudgedBy a c target states (FailsAt line side)
      → EachFails a c links target states
  each_fails pass line side judged labels pair has =
      judged_at a c circuit links fit target is gates gates_are states states (λ source within. refl) computed sources sources_are pass labels
      (FailsAt line side) judged pair has

  -- and where some along a link may not be linked
  pub each_breaks_link : (source line : LineId) → IsFailingLink a links sources states source line → EachFails a c links target states
  each_breaks_link source line broken labels pair has =
      link_fails a c circuit links fit target is gates gates_are states states (λ source within. refl) computed pair has sources sources_are labels
      source line broken

-- where the states along a link may not be linked, each pair with these two fails
pub link_failure : (a : StateAlgebra) (c : Circuit) → IsCircuit c → (links : LinkList) → AreLinksOf c links → (target : Target)
    → IsPrefix c target.path → (sources : List LineId) → AreConeSources c links (end_of c target.path) sources → (states : List State)
    → (source line : LineId) → IsFailingLink a links sources states source line
    → IsFailure a c links target states (record { first = source; second = line })
link_failure a c circuit links fit target is sources are states source line broken =
    let own = (are.exactly source.0).0 broken.among in
    let there = linked_supported c links (end_of c target.path) source.0 line.0 own.1 broken.link in
    let within : end_of c target.path < line_count c =
    line_after_in_circuit c circuit target.path.source.0 target.path.steps (let s = is.source in omega (arith, s)) is.connects in
    record {
      first = supported_in_circuit c links (end_of c target.path) circuit.reads_lines fit within source.0 own.1;
      second = supported_in_circuit c links (end_of c target.path) circuit.reads_lines fit within line.0 there;
      fails = λ labels pair here behind.
          at_link source.0 line.0 own.1 broken.link
          (subst₂ (λ s l. a.link s l ≡ false) (sym here) (sym behind) broken.fails);
    }
