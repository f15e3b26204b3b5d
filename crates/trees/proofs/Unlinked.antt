-- Rules without links: they fit every circuit, every pair of vectors is one of theirs, and the support of an end is its fan-in.
use Rattle.std.proofs.Common.{◌≡◌, ℕ, [], refl, sym, subst, arith}
use Rattle.pd_base.specs.Links.{IsLink, links_of}
use Rattle.pd_base.specs.Pair.{Vectors}
use Rattle.pd_base.specs.declared.rules.Rules.{Rules}
use Rattle.pd_base.specs.declared.rules.Rules.TheVariants.{One, Two, Linked}
use Rattle.netlist.specs.Circuit.{Circuit}
use Rattle.netlist.specs.LinkedPairs.{AreLinksOf, FitRules, IsOfRules, IsSupported, KeepsLinks}
use Rattle.netlist.specs.LinkedPairs.IsSupported.{behind_link, in_fan_in}
use Rattle.netlist.specs.Pins.{IsInFanIn}
use Rattle.state_laws.proofs.Linked.{none_linked}
use Rattle.trees.specs.Unlinked.{IsUnlinked}

module _ (c : Circuit) (rules : Rules) (unlinked : links_of rules ≡ []) where
  pub unlinked_fit : FitRules c rules
  unlinked_fit = subst (AreLinksOf c) (sym unlinked) (record {
    sources = λ k d inside. absurd (omega (arith, inside));
    lines = λ k d inside. absurd (omega (arith, inside));
    once = λ i j d before inside. absurd (omega (arith, inside));
  })

  pub every_pair_is_of_rules : (pair : Vectors) → IsOfRules c rules pair
  every_pair_is_of_rules pair =
      subst (λ links. KeepsLinks c links pair) (sym unlinked) (λ source line link. absurd (none_linked source line link))

  -- the support of an end is the transitive fan-in of it
  pub supported_in_fan_in : (end : ℕ) {line : ℕ} → IsSupported c (links_of rules) end line → IsInFanIn c end line
  supported_in_fan_in end (in_fan_in line inside) = inside
  supported_in_fan_in end (behind_link source line other supported link inside) =
      absurd (none_linked source line (subst (λ links. IsLink links source line) unlinked link))

-- rules that are not linked ones have no links
pub no_links : (rules : Rules) → IsUnlinked rules → links_of rules ≡ []
no_links One unlinked = refl
no_links Two unlinked = refl
no_links (Linked links) unlinked = absurd unlinked
