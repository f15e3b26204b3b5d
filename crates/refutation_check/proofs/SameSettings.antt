-- What an engine tells of lines and supports it tells under the same setting; and without ends it tells all lines.
use Rattle.std.proofs.Common.{◌≡◌, ℕ, ◌<◌, Option, None, sym, subst, subst₂}
use Rattle.pd_base.specs.Links.{links_of}
use Rattle.pd_base.specs.Route.{Route}
use Rattle.pd_base.specs.declared.rules.Rules.{Rules}
use Rattle.netlist.specs.Circuit.{Circuit, line_count}
use Rattle.netlist.specs.LinkedPairs.{IsSupported}
use Rattle.netlist.specs.Paths.{end_of}
use Rattle.trees.specs.declared.tree.Node.{Node}
use Rattle.trees.specs.declared.tree.Node.TheVariants.{Closed, Waiting, Split}
use Rattle.implication.specs.Settings.{IsSameSetting}
use Rattle.implication.specs.Standing.{Standing, ToldEnds, IsSupportTold, IsTold, IsToldBy}
use Rattle.implication.proofs.Settings.{told_there}
use Rattle.refutation_check.specs.Walks.{IsToldAt}

module _ (before now : Standing) (same : IsSameSetting before now) where
  pub line_there : (line : ℕ) → line < line_count before.net → line < line_count now.net
  line_there line within = let P : Circuit → Type 0 = λ c. line < line_count c in subst P (sym same.net) within

  -- the whole support of an end is told there
  pub support_told_there : (path : Route) → IsSupportTold before (end_of before.net path) → IsSupportTold now (end_of now.net path)
  support_told_there path told line supported =
      let P : Circuit → Rules → Type 0 = λ c rules. IsSupported c (links_of rules) (end_of c path) line in
      told_there before now same line (told line (subst₂ P same.net same.rules supported))

  -- so is the line of each split that is
  line_back : (line : ℕ) → line < line_count now.net → line < line_count before.net
  line_back line within = let P : Circuit → Type 0 = λ c. line < line_count c in subst P same.net within

  pub told_at_there : (node : Node) → IsToldAt before node → IsToldAt now node
  told_at_there Closed told = tt
  told_at_there Waiting told = tt
  told_at_there (Split split) told = λ within. told_there before now same split.line.0 (told (line_back split.line.0 within))

-- where no ends are given, all lines are told
pub all_are_told : (standing : Standing) → standing.ends ≡ None → (line : ℕ) → IsTold standing line
all_are_told standing all line =
    let P : Option ToldEnds → Type 0 = λ ends. IsToldBy standing.net (links_of standing.rules) ends line in subst P (sym all) tt
