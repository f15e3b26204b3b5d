-- All gates are inside, and all links.
use Rattle.std.proofs.Common.{◌≡◌, ◌-◌, None, replicate, true, sym, ap, ◌∙◌, subst, arith, ℕ}
use Rattle.std.proofs.lemmas.Grind.{common_steps}
use Rattle.pd_base.specs.Links.{LinkList, links_of}
use Rattle.netlist.specs.Circuit.{gate_count}
use Rattle.implication.specs.Kept.{AreToldGates}
use Rattle.implication.proofs.Wholes.{cone_of_all}
use Rattle.implication.proofs.Inside.{all_flagged}
use Rattle.implication.proofs.engine_cone.all_of.Goals as goal

pub returns-clause-told : goal.returns-clause-told
returns-clause-told c =
    let inside = c.in_ok-inside.inside.items in
    let flags : inside ≡ replicate (c.lines.result - c.sources.result) true = grind (arith, common_steps) in
    let gates : c.lines.result - c.sources.result ≡ gate_count c.args.net.now = omega (arith, c.lines.ensures.count, c.sources.ensures.count) in
    subst (λ (ls : LinkList). AreToldGates c.args.net.now (links_of c.args.rules.now) None inside ls)
    (sym (c.in_ok-links.ensures.items ∙ c.links.ensures))
    (cone_of_all c.args.net.now c.lines.ensures.circuit (links_of c.args.rules.now) c.requires inside
    (flags ∙ ap (λ (n : ℕ). replicate n true) gates))

pub returns-clause-lines : goal.returns-clause-lines
returns-clause-lines c =
    let told = c.in_ok-told.told.items in
    let flags : told ≡ replicate c.lines-2.result true = grind (arith, common_steps) in
    all_flagged c.args.net.now (links_of c.args.rules.now) told
    (flags ∙ ap (λ (n : ℕ). replicate n true) c.lines-2.ensures.count)
