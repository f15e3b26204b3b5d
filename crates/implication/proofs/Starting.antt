-- Under rules without links a start never closes: some pair of vectors launches the transition and holds all other sources steady, and
-- no pair is lost.
use Rattle.std.proofs.Common.{arith}
use Rattle.std.proofs.Common.{ℕ}
use Rattle.std.proofs.Common.{sym}
use Rattle.std.proofs.Common.{◌≡◌, ◌<◌, not, List, [], replicate, Option, Some, None, refl, subst}
use Rattle.std.proofs.lemmas.List.{get_or-replicate}
use Rattle.std.proofs.lemmas.List.Elements.{All-nil}
use Rattle.pd_base.specs.Pair.{Vectors}
use Rattle.pd_base.specs.Target.{Target, target_of}
use Rattle.pd_base.specs.declared.ids.LineId.{LineId}
use Rattle.pd_base.specs.declared.rules.Rules.{Rules}
use Rattle.netlist.specs.Circuit.{Circuit, source_count}
use Rattle.netlist.specs.Lawful.{IsCircuit}
use Rattle.netlist.specs.Conditions.{Meets, final_bit}
use Rattle.netlist.specs.Paths.{IsPrefix}
use Rattle.state_sets.specs.declared.state.StateSet.{StateSet}
use Rattle.state_sets.specs.StateAlgebra.{StateAlgebra, HasLaws}
use Rattle.state_laws.specs.Steadied.{steadied}
use Rattle.state_laws.proofs.Pairs.{never_closes, pair_may_start}
use Rattle.state_laws.proofs.Steadied.{steadied_keeps, steadied_meets}
use Rattle.pd_base.specs.Links.{LinkList, links_of, IsLink}
use Rattle.netlist.specs.LinkedPairs.{AreLinksOf, FitRules, IsOfRules}
use Rattle.state_laws.proofs.Linked.{none_linked}
use Rattle.implication.specs.declared.assumption.Beginning.{Beginning}
use Rattle.implication.specs.Assumptions.{MayUnder, IsLetBy, ClosesUnder}
use Rattle.implication.specs.Kept.{Outset, AreLabelsUnder}
use Rattle.implication.proofs.Wholes.{emptied_under}

module _ (a : StateAlgebra) (laws : HasLaws a) (c : Circuit) (circuit : IsCircuit c) (rules : Rules) (unlinked : links_of rules ≡ [])
    (begun : Beginning) (within : begun.source.0 < source_count c) where
  -- all sources change as the transition has it
  abbrev launching : Vectors
  launching = record {
    first = replicate (source_count c) (not (final_bit begun.direction));
    second = replicate (source_count c) (final_bit begun.direction);
  }

  -- the target of a path of the source alone
  abbrev start : Target
  start = target_of (record { source = begun.source; steps = [] }) begun.direction begun.kind

  starts : IsPrefix c start.path
  starts = record { source = within; connects = tt }

  meets : Meets c start launching
  meets = record {
    launches = record {
      first = get_or-replicate (source_count c) begun.source.0 (not (final_bit begun.direction)) _ within;
      second = get_or-replicate (source_count c) begun.source.0 (final_bit begun.direction) _ within;
    };
    sides = tt;
  }

  -- the other sources are held steady
  abbrev held : Vectors
  held = steadied c begun.source.0 launching

  held_meets : Meets c start held
  held_meets = steadied_meets c circuit start starts launching meets

  -- there is no link to keep
  none_stands : (source line : ℕ) → ¬ IsLink (links_of rules) source line
  none_stands source line link = none_linked source line (subst (λ (ls : LinkList). IsLink ls source line) unlinked link)

  keeps : IsOfRules c rules held
  keeps source line link = absurd (none_stands source line link)

  fit : FitRules c rules
  fit = subst (AreLinksOf c) (sym unlinked) (record {
    sources = λ k d inside. absurd (omega (arith, inside));
    lines = λ k d inside. absurd (omega (arith, inside));
    once = λ i j d before inside. absurd (omega (arith, inside));
  })

  -- so no line is emptied at the start
  pub start_never_closes : ClosesUnder a c rules begun [] → ⊥
  start_never_closes =
      never_closes a laws c circuit held start.kind start.path starts (links_of rules) fit keeps held_meets.sides
      (MayUnder a c rules begun [])
      (λ line in_circuit. record {
        start = pair_may_start a laws c circuit rules fit start starts held keeps held_meets
            (steadied_keeps c begun.source.0 launching a laws rules) line;
        assumed = All-nil (IsLetBy a.count line _);
      })

-- and no conflict stands there
pub free_at_start : (a : StateAlgebra) (laws : HasLaws a) (from : Outset) (labels : List StateSet) (answer : Option LineId) → IsCircuit from.net
    → ((source line : ℕ) → IsLink from.inner source line → IsLink (links_of from.rules) source line) → from.begun.source.0 < source_count from.net
    → AreLabelsUnder a from [] labels answer → links_of from.rules ≡ [] → answer ≡ None
free_at_start a laws from labels None circuit among within under unlinked = refl
free_at_start a laws from labels (Some line) circuit among within under unlinked =
    let emptied = emptied_under a from [] among line.0 under in
    absurd (start_never_closes a laws from.net circuit from.rules unlinked from.begun within (record {
      line = line.0;
      in_circuit = emptied.0;
      emptied = emptied.1;
    }))
