-- How far along a path a search has come, from what it ended with.
use Rattle.std.proofs.Common.{◌≡◌, ◌⊎◌, inl, inr, ℕ, ◌+◌, ◌<◌, ◌≤◌, List, length, sym, ap, ◌∙◌, subst, arith}
use Rattle.pd_base.specs.declared.rules.Rules.{Rules}
use Rattle.pd_base.specs.Route.{Route}
use Rattle.netlist.specs.Circuit.{Circuit}
use Rattle.trees.specs.declared.tree.Node.{Node}
use Rattle.prefix_sensitize.specs.declared.descent.FoundAlong.{FoundAlong}
use Rattle.prefix_sensitize.specs.declared.outcome.Aim.{Aim}
use Rattle.prefix_sensitize.specs.Entering.{IsFoundAlong, ReachesPins, RefutesPrefix, refuted_at}
use Rattle.prefix_sensitize.specs.Entering.ReachesPins.{whole, closed}

-- all pins that were kept were tried, and no more than the path has; a refuted prefix ends at the last one that was tried; where a pin was
-- left again, there is such a prefix; and where none is, all pins were tried
pub record HasReached (path : Route) (ended : FoundAlong) (shared kept tried : ℕ) : Type 0 where
  pub few : kept ≤ tried
  pub within : tried ≤ length path.steps
  pub at_refuted : (count : ℕ) (tree : List Node) → ended ≡ refuted_at count tree → count ≡ tried
  pub left : kept < tried → (tree : List Node) × (ended ≡ refuted_at tried tree)
  pub last : tried ≤ kept + 1
  pub whole : ((count : ℕ) (tree : List Node) → ¬ (ended ≡ refuted_at count tree)) → tried ≡ length path.steps

pub reached : (c : Circuit) (rules : Rules) (aim : Aim) (path : Route) (ended : FoundAlong) (shared kept tried : ℕ) → shared ≤ kept
    → IsFoundAlong c rules aim path ended → ReachesPins path ended kept tried → HasReached path ended shared kept tried
reached c rules aim path ended shared kept tried stays is_found (whole all tries refuted) = record {
  few = omega (arith, all, tries);
  within = omega (arith, tries);
  at_refuted = λ count tree is. (let its = refuted count tree is in omega (arith, its, tries));
  left = λ fewer. absurd (omega (arith, all, tries, fewer));
  last = omega (arith, all, tries);
  whole = λ none. tries;
}
reached c rules aim path ended shared kept tried stays is_found (closed tree is tries) =
    let P : FoundAlong → Type 0 = λ e. IsFoundAlong c rules aim path e in
    let refutes : RefutesPrefix c rules aim path (kept + 1) tree = subst P is is_found in
    let has = refutes.has_steps in
    record {
      few = omega (arith, tries);
      within = omega (arith, tries, has);
      at_refuted = λ count other also. (let its : count ≡ kept + 1 = sym (ap (λ (e : FoundAlong). e.steps) also) ∙ ap (λ (e : FoundAlong). e.steps) is in omega (arith, its, tries));
      left =
          λ fewer.
          (let E : ℕ → Type 0 = λ n. ended ≡ refuted_at n tree in
          let same : kept + 1 ≡ tried = omega (arith, tries) in
          (tree, subst E same is));
      last = omega (arith, tries);
      whole = λ none. absurd (none (kept + 1) tree is);
    }

-- what was tried goes on behind what is shared, or up to the end of the path
pub tried_on : (path : Route) (ended : FoundAlong) (shared kept tried : ℕ) → shared ≤ kept → ReachesPins path ended kept tried
    → (shared < tried) ⊎ (tried ≡ length path.steps)
tried_on path ended shared kept tried stays (whole all tries refuted) = inr tries
tried_on path ended shared kept tried stays (closed tree is tries) = inl (omega (arith, stays, tries))
