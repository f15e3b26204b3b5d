-- No gate of the cone is stale at the end.
use Rattle.std.proofs.Common.{◌≡◌, false, List, length, take_all, ◌∙◌, sym, subst, arith}
use Rattle.std.specs.List.{All}
use Rattle.pd_base.specs.declared.ids.GateId.{GateId}
use Rattle.netlist.specs.Paths.{end_of}
use Rattle.cones.specs.KeptCones.{AreConeGates}
use Rattle.refutation_check.specs.TrialStates.{is_stale}
use Rattle.refutation_check.proofs.Trying.{are_sources}
use Rattle.refutation_check.proofs.trial.fails_anew.Goals as goal

pub take_least-requires-clause-sources : goal.take_least-requires-clause-sources
take_least-requires-clause-sources g c =
    are_sources c.args.net.now c.args.cone.now.links (end_of c.args.net.now c.args.target.now.path.now) c.args.cone.now.sources c.sources.result.now
    c.sources.ensures c.requires.cone.sources

pub refresh-requires-clause-gates : goal.refresh-requires-clause-gates
refresh-requires-clause-gates g c =
    let net = c.args.net.now in let links = c.args.cone.now.links in let end = end_of net c.args.target.now.path.now in
    (links, end, subst (AreConeGates net links end) (sym c.gates-gates.ensures) c.requires.cone.gates)

pub fails_late-requires-clause-fresh : goal.fails_late-requires-clause-fresh
fails_late-requires-clause-fresh g c =
    subst (λ (gates : List GateId). All (λ (gate : GateId). is_stale c.refresh.new.self gate.0 ≡ false) gates)
    (take_all (length c.gates-gates.result.now) c.gates-gates.result.now (omega arith) ∙ c.gates-gates.ensures) c.refresh.ensures.fresh
