-- Of the links of a circuit some are inner: the line to which a source is linked by a link that is not.
use Rattle.std.proofs.Common.{◌≡◌, ℕ, ◌⊎◌, inl, inr, ⊎_elim, Option, Some, None, refl, subst}
use Rattle.pd_base.specs.Links.{LinkList, IsLink}
use Rattle.netlist.specs.Circuit.{Circuit}
use Rattle.netlist.specs.LinkedPairs.{AreLinksOf}
use Rattle.state_laws.proofs.LinkedSets.{line_of, found_is_link, none_found, linked_once}

-- an option is none, or some value
pub option_cases : (option : Option ℕ) → (option ≡ None) ⊎ ((value : ℕ) × (option ≡ Some value))
option_cases None = inl refl
option_cases (Some value) = inr (value, refl)

-- the line to which a source is linked, if its link is outside
abbrev outer_or : Option ℕ → Option ℕ → Option ℕ
outer_or None outer = outer
outer_or (Some line) outer = None

-- the same of a source, where these are the links and these the inner ones
abbrev pub outer_line : LinkList → LinkList → ℕ → Option ℕ
outer_line links inner source = outer_or (line_of inner source) (line_of links source)

module _ (c : Circuit) (links inner : LinkList) (linked : AreLinksOf c links)
    (among : (source line : ℕ) → IsLink inner source line → IsLink links source line) where
  abbrev outer : ℕ → Option ℕ
  outer = outer_line links inner

  pub outer_is : (source line : ℕ) → outer source ≡ Some line → IsLink links source line × (¬ IsLink inner source line)
  outer_is source line e = ⊎_elim
      (λ (none : line_of inner source ≡ None). (
        found_is_link links source line (subst (λ o. outer_or o (line_of links source) ≡ Some line) none e),
        none_found inner source none line,
      ))
      (λ (found : (l : ℕ) × (line_of inner source ≡ Some l)).
      absurd (let none : None ≡ Some line = subst (λ o. outer_or o (line_of links source) ≡ Some line) found.1 e in cc))
      (option_cases (line_of inner source))

  -- a source without a link outside has its links inside
  pub inner_of : (source : ℕ) → outer source ≡ None → (line : ℕ) → IsLink links source line → IsLink inner source line
  inner_of source e line link = ⊎_elim
      (λ (none : line_of inner source ≡ None).
      absurd (none_found links source (subst (λ o. outer_or o (line_of links source) ≡ None) none e) line link))
      (λ (found : (l : ℕ) × (line_of inner source ≡ Some l)).
      let at = found_is_link inner source found.0 found.1 in
      subst (λ (l : ℕ). IsLink inner source l)
      (linked_once c links linked source found.0 line (among source found.0 at) link) at)
      (option_cases (line_of inner source))

  -- and one with its links inside has none outside
  pub not_outer : (source : ℕ) → ((line : ℕ) → IsLink links source line → IsLink inner source line) → outer source ≡ None
  not_outer source all = ⊎_elim (λ (none : outer source ≡ None). none)
      (λ (found : (l : ℕ) × (outer source ≡ Some l)).
      let link = outer_is source found.0 found.1 in absurd (link.1 (all found.0 link.0)))
      (option_cases (outer source))
