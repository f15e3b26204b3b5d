-- What stays of an engine while its scopes go on, from one standing to the next; and what it tells then.
use Rattle.std.proofs.Common.{ℕ, Option, refl, sym, subst, subst₂, ◌∙◌}
use Rattle.pd_base.specs.Links.{links_of}
use Rattle.pd_base.specs.Route.{Route}
use Rattle.pd_base.specs.declared.rules.Rules.{Rules}
use Rattle.netlist.specs.Circuit.{Circuit}
use Rattle.netlist.specs.Paths.{IsPrefix, end_of}
use Rattle.state_laws.proofs.FanIns.{leads_in_fan_in}
use Rattle.implication.specs.Clients.{ExtendsStanding}
use Rattle.implication.specs.Standing.{Standing, ToldEnds, IsTold, IsToldBy}
use Rattle.implication.specs.Settings.{IsSameSetting}
use Rattle.implication.proofs.Told.{told_in_fan_in}

pub same_itself : (standing : Standing) → IsSameSetting standing standing
same_itself standing = record { net = refl; rules = refl; ends = refl }

pub same_twice : (first middle last : Standing) → IsSameSetting first middle → IsSameSetting middle last → IsSameSetting first last
same_twice first middle last one two = record { net = two.net ∙ one.net; rules = two.rules ∙ one.rules; ends = two.ends ∙ one.ends }

-- it stays while the innermost scope goes on
pub same_of_extended : (old new : Standing) → ExtendsStanding old new → IsSameSetting old new
same_of_extended old new on = record { net = on.net; rules = on.rules; ends = on.ends }

-- what an engine tells it tells under the same setting
module _ (before now : Standing) (same : IsSameSetting before now) where
  pub told_there : (line : ℕ) → IsTold before line → IsTold now line
  told_there line told =
      let P : Circuit → Type 0 = λ c. IsToldBy c (links_of now.rules) now.ends line in
      let Q : Rules → Option ToldEnds → Type 0 = λ rules ends. IsToldBy before.net (links_of rules) ends line in
      subst P (sym same.net) (subst₂ Q (sym same.rules) (sym same.ends) told)

  pub end_told_there : (path : Route) → IsTold before (end_of before.net path) → IsTold now (end_of now.net path)
  end_told_there path told =
      let P : Circuit → Type 0 = λ c. IsTold now (end_of c path) in
      subst P (sym same.net) (told_there (end_of before.net path) told)

-- the source of a path is told where its end is
pub own_told : (standing : Standing) (path : Route) → IsPrefix standing.net path → IsTold standing (end_of standing.net path)
    → IsTold standing path.source.0
own_told standing path is told =
    told_in_fan_in standing.net (links_of standing.rules) standing.ends (end_of standing.net path) path.source.0 told
    (leads_in_fan_in standing.net path.source.0 path.steps is.connects)
