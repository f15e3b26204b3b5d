-- Either a step alone, or the node behind the arc grows first.
use Rattle.std.proofs.Common.{Bool, ℕ, subst}
use Rattle.std.proofs.lemmas.Result.{IfOk-weaker}
use Rattle.path_laws.specs.Lists.{IsGoing}
use Rattle.path_laws.specs.Growth.{HasGrown, TakesNext}
use Rattle.path_laws.proofs.Arcs.{arc_in_graph}
use Rattle.path_laws.proofs.Stepping.{going_on}
use Rattle.path_laws.proofs.Growing.{fed, grown_by_both, grown_by_step}
use Rattle.path_lister.proofs.lists.NodeLists.+grow.Goals as goal

pub returns-in_default-clause-going : goal.returns-in_default-clause-going
returns-in_default-clause-going t c =
    IfOk-weaker c.take.result
    (λ (took : Bool). TakesNext c.args.graph.now c.args.self.now c.take.new.self c.args.node took)
    (λ (took : Bool). IsGoing c.args.graph.now c.take.new.self 0)
    (λ took next. going_on c.args.graph.now c.args.self.now c.take.new.self c.args.node took c.requires.going next)
    c.take.ensures

pub returns-in_default-clause-grown : goal.returns-in_default-clause-grown
returns-in_default-clause-grown t c =
    IfOk-weaker c.take.result
    (λ (took : Bool). TakesNext c.args.graph.now c.args.self.now c.take.new.self c.args.node took)
    (λ (took : Bool). HasGrown c.args.graph.now c.args.self.now c.take.new.self c.args.node took)
    (λ took next. grown_by_step c.args.graph.now c.args.self.now c.take.new.self c.args.node took next)
    c.take.ensures

pub end-requires : goal.end-requires
end-requires t c = arc_in_graph c.args.graph.now c.requires.graph c.args.node c.in-Some.arc c.in-Some.ensures.taken.own

pub take-requires-2-clause-fed : goal.take-requires-2-clause-fed
take-requires-2-clause-fed t c =
    fed c.args.graph.now c.requires.graph c.args.self.now c.grow.new.self c.args.node c.in-Some.arc c.in-Some.ensures
    c.in_ok-grow.field-0
    (subst (λ (n : ℕ). HasGrown c.args.graph.now c.args.self.now c.grow.new.self n c.in_ok-grow.field-0) c.end.ensures
    c.in_ok-grow.ensures.grown)
    c.in_ok-grow.ensures.going

pub returns-clause-going : goal.returns-clause-going
returns-clause-going t c =
    IfOk-weaker c.take-2.result
    (λ (took : Bool). TakesNext c.args.graph.now c.grow.new.self c.take-2.new.self c.args.node took)
    (λ (took : Bool). IsGoing c.args.graph.now c.take-2.new.self 0)
    (λ took next. going_on c.args.graph.now c.grow.new.self c.take-2.new.self c.args.node took c.in_ok-grow.ensures.going next)
    c.take-2.ensures

pub returns-clause-grown : goal.returns-clause-grown
returns-clause-grown t c =
    let first = subst (λ (n : ℕ). HasGrown c.args.graph.now c.args.self.now c.grow.new.self n c.in_ok-grow.field-0)
    c.end.ensures
    c.in_ok-grow.ensures.grown in
    IfOk-weaker c.take-2.result
    (λ (took : Bool). TakesNext c.args.graph.now c.grow.new.self c.take-2.new.self c.args.node took)
    (λ (took : Bool). HasGrown c.args.graph.now c.args.self.now c.take-2.new.self c.args.node took)
    (λ took next. grown_by_both c.args.graph.now c.requires.graph c.args.self.now c.grow.new.self c.args.node c.in-Some.arc
    c.in-Some.ensures c.in_ok-grow.field-0 first c.take-2.new.self took next)
    c.take-2.ensures

pub take-requires-clause-fed : goal.take-requires-clause-fed
take-requires-clause-fed t c = c.in_default.ensures
