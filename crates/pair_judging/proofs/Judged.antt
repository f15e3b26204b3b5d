-- What is told of the pairs with given states at the sources of a cone, put together of the pass over its gates and of the steps of the
-- path.
use Rattle.std.proofs.Common.{◌≡◌, ℕ, ◌<◌, List, ap₂, ◌∙◌, arith}
use Rattle.pd_base.specs.Pair.{Vectors}
use Rattle.pd_base.specs.Links.{LinkList}
use Rattle.pd_base.specs.Target.{Target}
use Rattle.pd_base.specs.declared.ids.LineId.{LineId}
use Rattle.pd_base.specs.declared.ids.GateId.{GateId}
use Rattle.netlist.specs.Circuit.{Circuit, source_count, line_count}
use Rattle.netlist.specs.LinkedPairs.{AreLinksOf}
use Rattle.netlist.specs.LinkedPairs.IsSupported.{in_fan_in}
use Rattle.netlist.specs.Lawful.{IsCircuit}
use Rattle.netlist.specs.Paths.{IsPrefix, end_of}
use Rattle.path_laws.proofs.StepCounts.{line_after_in_circuit}
use Rattle.state_sets.specs.declared.state.State.{State}
use Rattle.state_sets.specs.declared.state.StateSet.{StateSet}
use Rattle.state_sets.specs.StateAlgebra.{StateAlgebra}
use Rattle.state_laws.proofs.Linked.{linked_source}
use Rattle.state_laws.proofs.Supports.{supported_in_circuit, linked_supported}
use Rattle.cones.specs.KeptCones.{AreConeSources, AreConeGates}
use Rattle.pair_judging.specs.ConeStates.{state_in, HasSourceStates, HasSupportStates, HasLinkedStates, HasConeStates}
use Rattle.pair_judging.specs.Judged.{IsJudgedBy, IsJudgedAt, AreComputed, RulesOut, LinksPass, IsFailingLink}
use Rattle.state_laws.specs.FailedTrials.{FailsTrial}
use Rattle.state_laws.specs.FailedTrials.FailsTrial.{at_label, at_link, at_conditions}
use Rattle.pair_judging.specs.declared.judging.Judgement.{Judgement}
use Rattle.pair_judging.specs.declared.judging.Judgement.TheVariants.{IsTest, FailsAt}

module _ (a : StateAlgebra) (c : Circuit) (circuit : IsCircuit c) (links : LinkList) (fit : AreLinksOf c links)
    (target : Target) (is : IsPrefix c target.path) (gates : List GateId) (are : AreConeGates c links (end_of c target.path) gates)
    (old new : List State) (same : (source : ℕ) → source < source_count c → state_in new source ≡ state_in old source) where
  abbrev end : ℕ
  end = end_of c target.path

  end_within : end < line_count c
  end_within = line_after_in_circuit c circuit target.path.source.0 target.path.steps (let s = is.source in omega arith) is.connects

  -- the states of the sources are those that they were
  had_before : (pair : Vectors) → HasSourceStates a c links end new pair → HasSourceStates a c links end old pair
  had_before pair has source within supported = has source within supported ∙ same source within

  module _ (computed : AreComputed a c gates old new) (pair : Vectors) (has : HasSourceStates a c links end new pair) where
    -- under such a pair all lines of the support are in their states
    pub has_support : HasSupportStates a c links end new pair
    has_support line supported =
        computed links end are pair (had_before pair has) line
        (supported_in_circuit c links end circuit.reads_lines fit end_within line supported) supported

    has_cone : HasConeStates a c end new pair
    has_cone line further = has_support line (in_fan_in line further)

    module _ (sources : List LineId) (cone : AreConeSources c links end sources) where
      -- where those of sources and of the lines to which they are linked may be linked, they may under the pair
      links_pass : LinksPass a links sources new → HasLinkedStates a c links end pair
      links_pass pass source line supported link =
          ap₂ a.link (has_support source supported) (has_support line (linked_supported c links end source line supported link))
          ∙ pass source line ((cone.exactly source).1 (linked_source c links fit source line link, supported)) link

      -- and where they may not, it fails
      pub link_fails : (labels : List StateSet) (source line : LineId) → IsFailingLink a links sources new source line
          → FailsTrial a c links target labels pair
      link_fails labels source line broken =
          let supported = ((cone.exactly source.0).0 broken.among).1 in
          at_link source.0 line.0 supported broken.link
          (ap₂ a.link (has_support source.0 supported) (has_support line.0 (linked_supported c links end source.0 line.0 supported broken.link))
          ∙ broken.fails)

  -- what is told of the pairs with these states at the lines of the cone is told of those with these states at the sources
  pub judged_at : AreComputed a c gates old new → (sources : List LineId) → AreConeSources c links end sources
      → LinksPass a links sources new → (labels : List StateSet) → (judgement : Judgement) → IsJudgedBy a c target new judgement
      → IsJudgedAt a c links target labels new judgement
  judged_at computed sources cone pass labels IsTest judged = λ pair has. (
    has_support computed pair has,
    links_pass computed pair has sources cone pass,
    judged pair (has_cone computed pair has),
  )
  judged_at computed sources cone pass labels (FailsAt line side) judged = λ pair has. at_conditions (judged pair (has_cone computed pair has))

  -- a line that its label rules out shows that each such pair fails
  pub ruled_out : (labels : List StateSet) (line : LineId) → RulesOut a c gates labels old line.0
      → (pair : Vectors) → HasSourceStates a c links end new pair → FailsTrial a c links target labels pair
  ruled_out labels line rules pair has =
      let out = rules links end are in at_label line.0 out.0 (out.1 pair (had_before pair has))
