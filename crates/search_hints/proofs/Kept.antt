-- What is kept beside the labels, where a decision is made or taken back.
use Rattle.std.proofs.Common.{◌≡◌, ℕ, ◌<◌, List, [], ◌∷◌, ◌++◌, Some, sym, subst₂}
use Rattle.std.proofs.lemmas.List.Elements.{All-pop, All-push}
use Rattle.pd_base.specs.declared.ids.GateId.{GateId}
use Rattle.search_hints.specs.Drafts.{Sizes, AreKept}
use Rattle.search_hints.specs.declared.decisions.Decision.{Decision}

module _ (sizes : Sizes) (made : List Decision) (marks : ℕ) (gates : List GateId) (kept : AreKept sizes made marks gates) where
  -- one decision more is made, and the sizes stay
  pub one_decided : (decision : Decision) → decision.line.0 < sizes.lines → (more : List Decision) → more ≡ made ++ decision ∷ []
      → (after : Sizes) → after ≡ sizes → AreKept after more marks gates
  one_decided decision within more last after same =
      subst₂ (λ (s : Sizes) (list : List Decision). AreKept s list marks gates) (sym same) (sym last) (record {
        made_on_lines = All-push (λ (d : Decision). d.line.0 < sizes.lines) made decision kept.made_on_lines within;
        one_each = kept.one_each;
        open_gates = kept.open_gates;
      })

  module _ (less : List Decision) (decision : Decision) (last : made ≡ less ++ decision ∷ []) where
    -- the last one was on a line that has a label
    pub last_within : decision.line.0 < sizes.lines
    last_within = (All-pop (λ (d : Decision). d.line.0 < sizes.lines) made less (Some decision) last kept.made_on_lines).1

    -- it is taken back, and the sizes and the marks stay
    pub one_taken : (after : Sizes) → after ≡ sizes → (left : ℕ) → left ≡ marks → AreKept after less left gates
    one_taken after same left as_many =
        subst₂ (λ (s : Sizes) (n : ℕ). AreKept s less n gates) (sym same) (sym as_many) (record {
          made_on_lines = (All-pop (λ (d : Decision). d.line.0 < sizes.lines) made less (Some decision) last kept.made_on_lines).0;
          one_each = kept.one_each;
          open_gates = kept.open_gates;
        })
