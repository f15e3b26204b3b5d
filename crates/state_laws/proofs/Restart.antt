-- A hull can start from a hull: what lines may be in, cut further, has the hull of the states that they have in the hull before,
-- cut so.
use Rattle.std.proofs.Common.{ℕ, ◌<◌, ◌↔◌, List, [], ◌∷◌, ◌++◌, Some, refl}
use Rattle.std.proofs.lemmas.List.Elements.{All-pop, All-push}
use Rattle.pd_base.specs.Links.{links_of}
use Rattle.pd_base.specs.Target.{Target}
use Rattle.pd_base.specs.declared.rules.Rules.{Rules}
use Rattle.netlist.specs.Circuit.{Circuit, line_count}
use Rattle.state_sets.specs.declared.state.State.{State}
use Rattle.state_sets.specs.declared.state.StateSet.{StateSet}
use Rattle.state_sets.specs.StateAlgebra.{StateAlgebra}
use Rattle.state_sets.specs.Hulls.{Narrowing, IsNarrowingOf, IsHull, IsEmptied, HasAt}
use Rattle.state_laws.specs.declared.split.Half.{Half}
use Rattle.state_laws.specs.Nodes.{MayBe, IsCut, IsNodeHull, IsEmptiedAtNode}
use Rattle.state_laws.proofs.Hulls.{Widens, Allows, widens_by_states, hull_of_same, emptied_if_wider}

-- what lines may be in, cut
abbrev pub cut_by : (ℕ → State → Type 0) → (ℕ → State → Type 0) → ℕ → State → Type 0
cut_by May Cut line state = May line state × Cut line state

module _ (a : StateAlgebra) (c : Circuit) (Narrowings : Narrowing → Type 0) (May Cut : ℕ → State → Type 0) (before : List StateSet)
    (is : IsHull a c Narrowings May before) where
  -- what rests in the cut states rests in those of the hull before, cut
  into_hull : Widens a c Narrowings (cut_by May Cut) Narrowings (cut_by (HasAt a.count before) Cut)
  into_hull labels among = record {
    labelling = among.labelling;
    rest = among.rest;
    among = λ line state has. (
      is.greatest labels (record {
        labelling = among.labelling;
        rest = among.rest;
        among = λ l s h. (among.among l s h).0;
      }) line state has,
      (among.among line state has).1,
    );
  }

  -- and the other way
  out_of_hull : Widens a c Narrowings (cut_by (HasAt a.count before) Cut) Narrowings (cut_by May Cut)
  out_of_hull labels among = record {
    labelling = among.labelling;
    rest = among.rest;
    among = λ line state has. let both = among.among line state has in (is.rest.among line state both.0, both.1);
  }

  -- the hull from the hull before is that from the start
  pub hull_restarts : (hull : List StateSet) → IsHull a c Narrowings (cut_by (HasAt a.count before) Cut) hull
      → IsHull a c Narrowings (cut_by May Cut) hull
  hull_restarts hull hull_is = record {
    rest = out_of_hull hull hull_is.rest;
    greatest = λ other among. hull_is.greatest other (into_hull other among);
  }

  -- and so are the emptied lines
  pub emptied_restarts : (line : ℕ) → IsEmptied a c Narrowings (cut_by (HasAt a.count before) Cut) line
      → IsEmptied a c Narrowings (cut_by May Cut) line
  emptied_restarts line emptied labels among = emptied labels (into_hull labels among)

module _ (a : StateAlgebra) (c : Circuit) (rules : Rules) (target : Target) (halves : List Half) (half : Half) where
  -- a half more is a cut more
  pub may_be_below : Allows a c (cut_by (MayBe a c rules target halves) (λ line state. IsCut a line state half))
      (MayBe a c rules target (halves ++ half ∷ []))
  may_be_below line state in_circuit in_range both = record { start = both.0.start; cut = All-push (IsCut a line state) halves half both.0.cut both.1 }

  pub may_be_above : Allows a c (MayBe a c rules target (halves ++ half ∷ []))
      (cut_by (MayBe a c rules target halves) (λ line state. IsCut a line state half))
  may_be_above line state in_circuit in_range may =
      let parts = All-pop (IsCut a line state) (halves ++ half ∷ []) halves (Some half) refl may.cut in
      (record { start = may.start; cut = parts.0 }, parts.1)

module _ (a : StateAlgebra) (c : Circuit) (rules : Rules) (target : Target) (halves : List Half) (half : Half)
    (before start : List StateSet) (is : IsNodeHull a c rules target halves before)
    (cut : (line : ℕ) (state : State) → line < line_count c → state.0 < a.count
    → HasAt a.count start line state ↔ (HasAt a.count before line state × IsCut a line state half)) where
  abbrev Narrowings : Narrowing → Type 0
  Narrowings = IsNarrowingOf c (links_of rules) target.kind target.path.steps

  abbrev May : ℕ → State → Type 0
  May = MayBe a c rules target halves

  abbrev Cut : ℕ → State → Type 0
  Cut line state = IsCut a line state half

  -- the hull of a node's labels, cut by a half, is the hull at the child
  pub child_hull : (hull : List StateSet) → IsHull a c Narrowings (HasAt a.count start) hull
      → IsNodeHull a c rules target (halves ++ half ∷ []) hull
  child_hull hull hull_is =
      hull_of_same a c Narrowings (cut_by May Cut) (MayBe a c rules target (halves ++ half ∷ []))
      (may_be_below a c rules target halves half) (may_be_above a c rules target halves half) hull
      (hull_restarts a c Narrowings May Cut before is hull
      (hull_of_same a c Narrowings (HasAt a.count start) (cut_by (HasAt a.count before) Cut)
      (λ line state in_circuit in_range. (cut line state in_circuit in_range).0)
      (λ line state in_circuit in_range. (cut line state in_circuit in_range).1) hull hull_is))

  -- and a line that it empties is emptied there
  pub child_emptied : (line : ℕ) → IsEmptied a c Narrowings (HasAt a.count start) line
      → IsEmptiedAtNode a c rules target (halves ++ half ∷ []) line
  child_emptied line emptied =
      emptied_if_wider a c Narrowings Narrowings (MayBe a c rules target (halves ++ half ∷ [])) (cut_by May Cut)
      (widens_by_states a c Narrowings (MayBe a c rules target (halves ++ half ∷ [])) (cut_by May Cut)
      (may_be_above a c rules target halves half)) line
      (emptied_restarts a c Narrowings May Cut before is line
      (emptied_if_wider a c Narrowings Narrowings (cut_by (HasAt a.count before) Cut) (HasAt a.count start)
      (widens_by_states a c Narrowings (cut_by (HasAt a.count before) Cut) (HasAt a.count start)
      (λ line state in_circuit in_range. (cut line state in_circuit in_range).1)) line emptied))
