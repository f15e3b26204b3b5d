-- The sources have the states of the pair, and the lines of the gates those that are computed of them.
use Rattle.std.proofs.Common.{◌≡◌, ◌<◌, List, length, sym, ap, subst, ◌∙◌, arith}
use Rattle.std.specs.List.{All}
use Rattle.std.proofs.lemmas.List.{with_items_is}
use Rattle.pd_base.specs.Links.{LinkList}
use Rattle.pd_base.specs.declared.ids.LineId.{LineId}
use Rattle.pd_base.specs.declared.ids.GateId.{GateId}
use Rattle.netlist.specs.Circuit.{HasGates, line_count}
use Rattle.netlist.specs.Paths.{end_of}
use Rattle.state_sets.specs.declared.state.State.{State}
use Rattle.pair_judging.specs.ConeStates.{AreStates, AreLineStates, HasConeStates}
use Rattle.pair_judging.specs.Judged.{AreComputed}
use Rattle.pair_judging.specs.Judges.{KeptJudge}
use Rattle.pair_judging.specs.LineValues.{AreLineValues}
use Rattle.cones.specs.KeptCones.{IsConeAt, IsConeFor, AreConeSources, AreConeGates}
use Rattle.pair_judging.specs.SourceBits.{AreTakenOf}
use Rattle.pair_judging.proofs.ConeJudging.{gates_inside, sources_below, under_pair}
use Rattle.pair_judging.proofs.cone_judge.ConeJudge.take_states.Goals as goal

pub set_end-requires-clause-made : goal.set_end-requires-clause-made
set_end-requires-clause-made g c = subst (λ (j : KeptJudge). IsConeFor c.args.net.now j.cone) (sym c.self.view_is) c.requires.judge.cone

pub set_end-requires-clause-end : goal.set_end-requires-clause-end
set_end-requires-clause-end g c = c.end_of-end.ensures.line

pub take_pair-requires-clause-states : goal.take_pair-requires-clause-states
take_pair-requires-clause-states g c =
    subst (AreStates g.A.Algebra.algebra.count) (sym c.as_mut_slice-states.ensures.value)
    (subst (λ (j : KeptJudge). AreStates g.A.Algebra.algebra.count j.states) (sym c.self.view_is) c.requires.judge.states.below)

pub compute_all-requires-clause-states : goal.compute_all-requires-clause-states
compute_all-requires-clause-states g c = record {
  places = c.take_pair.ensures.places ∙ ap length c.as_mut_slice-states.ensures.value
      ∙ ap (λ (j : KeptJudge). length j.states) c.self.view_is ∙ c.requires.judge.states.places;
  below = c.take_pair.ensures.states;
}

pub returns-clause-judge : goal.returns-clause-judge
returns-clause-judge g c =
    let long : length c.self.inside.states.items ≡ line_count c.args.net.now =
    ap (λ (j : KeptJudge). length j.states) c.self.view_is ∙ c.requires.judge.states.places in
    record {
      cone = c.set_end.ensures.made;
      no_links = c.set_end.ensures.links ∙ ap (λ (j : KeptJudge). j.cone.links) c.self.view_is ∙ c.requires.judge.no_links;
      states = subst (AreLineStates g.A.Algebra.algebra.count c.args.net.now)
          (sym (with_items_is c.self.inside.states c.compute_all.new.states
          (c.compute_all.ensures.states.places ∙ sym long ∙ sym c.self.inside.states.ok.0)))
          c.compute_all.ensures.states;
      values = subst (λ (j : KeptJudge). AreLineValues c.args.net.now j.values) (sym c.self.view_is) c.requires.judge.values;
    }

pub take_pair-requires-clause-bits : goal.take_pair-requires-clause-bits
take_pair-requires-clause-bits g c =
    let first = c.args.pair.now.first in
    subst (λ (ls : List LineId). All (λ (source : LineId). source.0 < length first) ls) (sym c.sources.ensures)
    (sources_below c.args.net.now c.set_end.new.self.links c.end_of-end.result.0 c.set_end.new.self.sources c.set_end.ensures.cone.sources (length first)
    (omega (arith, c.requires.bits)))

pub take_pair-requires-clause-places : goal.take_pair-requires-clause-places
take_pair-requires-clause-places g c =
    let states = c.as_mut_slice-states.result.now in
    let long : length c.self.inside.states.items ≡ line_count c.args.net.now =
    ap (λ (j : KeptJudge). length j.states) c.self.view_is ∙ c.requires.judge.states.places in
    subst (λ (ls : List LineId). All (λ (source : LineId). source.0 < length states) ls) (sym c.sources.ensures)
    (sources_below c.args.net.now c.set_end.new.self.links c.end_of-end.result.0 c.set_end.new.self.sources c.set_end.ensures.cone.sources (length states)
    (omega (arith, ap length c.as_mut_slice-states.ensures.value, long)))

pub compute_all-requires-clause-gates : goal.compute_all-requires-clause-gates
compute_all-requires-clause-gates g c =
    subst (HasGates c.args.net.now) (sym c.gates.ensures)
    (gates_inside c.args.net.now c.set_end.new.self.links c.end_of-end.result.0 c.set_end.new.self.gates c.set_end.ensures.cone.gates)

pub returns-clause-states : goal.returns-clause-states
returns-clause-states g c =
    let net = c.args.net.now in
    let path = c.args.path.now in
    let pair = c.args.pair.now in
    let computed = c.compute_all.new.states in
    let long : length c.self.inside.states.items ≡ line_count net =
    ap (λ (j : KeptJudge). length j.states) c.self.view_is ∙ c.requires.judge.states.places in
    let cone : IsConeAt net (end_of net path) c.set_end.new.self =
    subst (λ (l : LineId). IsConeAt net l.0 c.set_end.new.self) c.end_of-end.ensures.end c.set_end.ensures.cone in
    subst (λ (states : List State). HasConeStates g.A.Algebra.algebra net (end_of net path) states pair)
    (sym (with_items_is c.self.inside.states computed (c.compute_all.ensures.states.places ∙ sym long ∙ sym c.self.inside.states.ok.0)))
    (under_pair g.A.Algebra.algebra net c.compute_all.ensures.circuit path c.requires.prefix pair c.set_end.new.self.sources
    (subst (λ (links : LinkList). AreConeSources net links (end_of net path) c.set_end.new.self.sources) (c.set_end.ensures.links ∙ ap (λ (j : KeptJudge). j.cone.links) c.self.view_is ∙ c.requires.judge.no_links) cone.sources)
    c.set_end.new.self.gates (subst (λ (links : LinkList). AreConeGates net links (end_of net path) c.set_end.new.self.gates) (c.set_end.ensures.links ∙ ap (λ (j : KeptJudge). j.cone.links) c.self.view_is ∙ c.requires.judge.no_links) cone.gates)
    c.take_pair.new.states computed
    (subst (λ (ls : List LineId). AreTakenOf g.A.Algebra.algebra pair ls c.take_pair.new.states) c.sources.ensures c.take_pair.ensures.taken)
    (subst (λ (gs : List GateId). AreComputed g.A.Algebra.algebra net gs c.take_pair.new.states computed) c.gates.ensures c.compute_all.ensures.computed))
