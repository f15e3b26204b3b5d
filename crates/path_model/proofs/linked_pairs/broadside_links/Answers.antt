-- The links are the flip-flops, which are links of the circuit.
use Rattle.std.proofs.Common.{◌≡◌, IfOk, sym, subst}
use Rattle.std.proofs.lemmas.Result.{IfOk-weaker}
use Rattle.pd_base.specs.declared.links.Links.{Links}
use Rattle.netlist.specs.LinkedPairs.{AreLinksOf}
use Rattle.path_model.proofs.LinkedPairs.{flops_are_links}
use Rattle.path_model.proofs.linked_pairs.broadside_links.Goals as goal

pub returns-clause-fit : goal.returns-clause-fit
returns-clause-fit c =
    let net = c.args.net.now in
    IfOk-weaker c.new.result (λ (links : Links). links.pairs ≡ net.flops) (λ (links : Links). AreLinksOf net links.pairs)
    (λ links is. subst (AreLinksOf net) (sym is) (flops_are_links net c.sources.ensures.circuit))
    (subst (λ pairs. IfOk c.new.result (λ (links : Links). links.pairs ≡ pairs)) c.flops-flops.ensures.flops c.new.ensures)
