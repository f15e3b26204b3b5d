-- Labels that are narrowed again and again keep each labelling at rest, and where nothing changes any more they are the hull.
use Rattle.std.proofs.Common.{◌≡◌, ℕ, List, ◌∙◌, subst}
use Rattle.netlist.specs.Circuit.{Circuit}
use Rattle.state_sets.specs.declared.state.StateSet.{StateSet}
use Rattle.state_sets.specs.States.{Has, no_states, AreWithin}
use Rattle.state_sets.specs.StateAlgebra.{StateAlgebra}
use Rattle.state_sets.specs.Labellings.{label_at, IsLabelling}
use Rattle.state_sets.specs.Hulls.{Narrowing, Narrows, IsAtRest, IsHull, IsEmptied, HasAt}
use Rattle.state_laws.specs.Sweeps.{KeepsRests}
use Rattle.state_laws.proofs.Sets.{none_has, no_state_at}
use Rattle.state_laws.proofs.Steps.{narrows_shrinks, narrows_monotone, narrows_lines}

module _ (a : StateAlgebra) (c : Circuit) (Narrowings : Narrowing → Type 0) where
  -- nothing was narrowed yet
  pub keeps_none : (labels : List StateSet) → IsLabelling a.count c labels → KeepsRests a c Narrowings labels labels
  keeps_none labels is = record {
    labelling = is;
    inside = λ line state has. has;
    keeps = λ other is_labelling rest lies. lies;
  }

  -- one stretch of narrowings after another
  pub keeps_on : (old mid new : List StateSet) → KeepsRests a c Narrowings old mid → KeepsRests a c Narrowings mid new
      → KeepsRests a c Narrowings old new
  keeps_on old mid new first second = record {
    labelling = second.labelling;
    inside = λ line state has. first.inside line state (second.inside line state has);
    keeps = λ other is_labelling rest lies. second.keeps other is_labelling rest (first.keeps other is_labelling rest lies);
  }

  -- one narrowing
  pub keeps_one : (narrowing : Narrowing) → Narrowings narrowing → (old new : List StateSet) → IsLabelling a.count c old
      → Narrows a c narrowing old new → AreWithin a.count new → KeepsRests a c Narrowings old new
  keeps_one narrowing is_one old new is narrows within = record {
    labelling = record { one_each = narrows_lines a c narrowing old new narrows ∙ is.one_each; within = within };
    inside = narrows_shrinks a c narrowing old new narrows;
    keeps = λ other is_labelling rest lies.
        narrows_monotone a c narrowing other old other new lies (rest narrowing is_one) narrows;
  }

  -- where nothing changes any more, the labels are the hull
  pub hull_of_rest : (old new : List StateSet) → KeepsRests a c Narrowings old new → IsAtRest a c Narrowings new
      → IsHull a c Narrowings (HasAt a.count old) new
  hull_of_rest old new keeps rest = record {
    rest = record { labelling = keeps.labelling; rest = rest; among = keeps.inside };
    greatest = λ other is. keeps.keeps other is.labelling is.rest is.among;
  }

  -- a line that lost its last state is emptied
  pub emptied_of_kept : (old new : List StateSet) → KeepsRests a c Narrowings old new → (line : ℕ) → label_at new line ≡ no_states
      → IsEmptied a c Narrowings (HasAt a.count old) line
  emptied_of_kept old new keeps line none labels is =
      no_state_at a.count c labels is.labelling line
      (λ state has. none_has a.count state (subst (λ s. Has a.count s state) none
      (keeps.keeps labels is.labelling is.rest is.among line state has)))
