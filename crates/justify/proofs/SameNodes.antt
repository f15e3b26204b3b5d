-- A scope that is restored stands at the same node: what holds of the one standing holds of the other.
use Rattle.std.proofs.Common.{◌≡◌, List, Option, Some, None, Result, Ok, Err, refl, sym, ap, ◌∙◌, subst}
use Rattle.std.specs.Prelude.{IfOk, IfSome}
use Rattle.pd_base.specs.Pair.{Vectors}
use Rattle.pd_base.specs.Target.{Target}
use Rattle.pd_base.specs.declared.rules.Rules.{Rules}
use Rattle.netlist.specs.Circuit.{Circuit}
use Rattle.state_sets.specs.declared.state.State.{State}
use Rattle.state_sets.specs.declared.state.StateSet.{StateSet}
use Rattle.state_sets.specs.StateAlgebra.{StateAlgebra}
use Rattle.state_laws.specs.declared.split.Split.{Split}
use Rattle.state_laws.specs.declared.split.Half.{Half}
use Rattle.trees.specs.Spent.{IsOpen}
use Rattle.implication.specs.declared.assumption.Beginning.{Beginning}
use Rattle.implication.specs.declared.assumption.Assumption.{Assumption}
use Rattle.implication.specs.Assumptions.{entered_pins}
use Rattle.implication.specs.Clients.{IsRestored}
use Rattle.implication.specs.Standing.{Standing, IsHullFrom, IsLabels, IsOpenFrom, IsOpenIn}
use Rattle.implication.specs.NodeScopes.{StandsAtNode, AllowAsNode}
use Rattle.justify.specs.Scoping.{IsStart}
use Rattle.justify.specs.declared.visiting.NextSplit.{NextSplit}
use Rattle.justify.specs.Choices.{IsUsefulSplit}
use Rattle.justify.specs.Tests.{IsFitTest}
use Rattle.justify.specs.declared.closers.Closers.{Closers}
use Rattle.justify.specs.Closers.{ClosesByKept}
use Rattle.justify.specs.Trying.{HasFailed, IsTrialOf, HasLeast}
use Rattle.implication.proofs.ScopeLabels.{there_too}
use Rattle.implication.specs.Settings.{IsSameSetting}
use Rattle.justify.proofs.Suiting.{told_in_support_after}
use Rattle.justify.proofs.Orders.{at_least, no_less}
use Rattle.justify.proofs.Resting.{counted_before}

-- the same circuit, rules, ends, beginning, assumptions and conflict
pub record IsSameNode (first last : Standing) : Type 0 where
  pub net : last.net ≡ first.net
  pub rules : last.rules ≡ first.rules
  pub beginning : last.beginning ≡ first.beginning
  pub assumptions : last.assumptions ≡ first.assumptions
  pub conflict : last.conflict ≡ first.conflict
  pub ends : last.ends ≡ first.ends

-- so the setting is the same
pub same_setting : (first last : Standing) → IsSameNode first last → IsSameSetting first last
same_setting first last same = record { net = same.net; rules = same.rules; ends = same.ends }

pub same_restored : (first last : Standing) → IsRestored first last → IsSameNode first last
same_restored first last restored = record {
  net = restored.net;
  rules = restored.rules;
  beginning = restored.beginning;
  assumptions = restored.assumptions;
  conflict = restored.conflict;
  ends = restored.ends;
}

pub same_back : (first last : Standing) → IsSameNode first last → IsSameNode last first
same_back first last same = record {
  net = sym same.net;
  rules = sym same.rules;
  beginning = sym same.beginning;
  assumptions = sym same.assumptions;
  conflict = sym same.conflict;
  ends = sym same.ends;
}

pub restored_trans : (first middle last : Standing) → IsRestored first middle → IsRestored middle last → IsRestored first last
restored_trans first middle last one two = record {
  net = two.net ∙ one.net;
  rules = two.rules ∙ one.rules;
  ends = two.ends ∙ one.ends;
  beginning = two.beginning ∙ one.beginning;
  assumptions = two.assumptions ∙ one.assumptions;
  conflict = two.conflict ∙ one.conflict;
  later = no_less first.closings middle.closings last.closings one.later two.later;
}

-- what nothing was done to is restored
pub restored_itself : (standing : Standing) → IsRestored standing standing
restored_itself standing = record {
  net = refl;
  rules = refl;
  ends = refl;
  beginning = refl;
  assumptions = refl;
  conflict = refl;
  later = at_least standing.closings standing.closings refl;
}

-- a search can start again where the scope was restored
pub start_restored : (target : Target) (first last : Standing) → IsRestored first last → IsStart target first → IsStart target last
start_restored target first last restored start = record {
  beginning = restored.beginning ∙ start.beginning;
  entered = restored.assumptions ∙ start.entered;
  free = restored.conflict ∙ start.free;
}

-- and no line is left without a state there
pub open_stays : (a : StateAlgebra) (first last : Standing) → IsSameNode first last → IsOpenIn a first → IsOpenIn a last
open_stays a first last same left_open =
    let P : Circuit → Rules → Type 0 = λ c rules. IsOpenFrom a c rules first.beginning first.assumptions in
    let Q : Option Beginning → Type 0 = λ o. IsOpenFrom a last.net last.rules o first.assumptions in
    let R : List Assumption → Type 0 = λ list. IsOpenFrom a last.net last.rules last.beginning list in
    subst R (sym same.assumptions) (subst Q (sym same.beginning)
    (there_too P first.net last.net first.rules last.rules (sym same.net) (sym same.rules) left_open))

module _ (a : StateAlgebra) (target : Target) (first last : Standing) (same : IsSameNode first last) where
  -- the labels are the same
  pub same_labels : (labels : List StateSet) → IsLabels a first labels → IsLabels a last labels
  same_labels labels is =
      let P : Circuit → Rules → Type 0 = λ c rules. IsHullFrom a c rules first.beginning first.assumptions labels in
      let Q : Option Beginning → Type 0 = λ o. IsHullFrom a last.net last.rules o first.assumptions labels in
      let R : List Assumption → Type 0 = λ list. IsHullFrom a last.net last.rules last.beginning list labels in
      subst R (sym same.assumptions) (subst Q (sym same.beginning)
      (there_too P first.net last.net first.rules last.rules (sym same.net) (sym same.rules) is))

  same_node : (list : List Half) → AllowAsNode a last.net last.rules target last.assumptions list → AllowAsNode a first.net first.rules target first.assumptions list
  same_node list at =
      let P : Circuit → Rules → Type 0 = λ c rules. AllowAsNode a c rules target first.assumptions list in
      let Q : List Assumption → Type 0 = λ xs. AllowAsNode a last.net last.rules target xs list in
      there_too P last.net first.net last.rules first.rules same.net same.rules (subst Q same.assumptions at)

  -- what failed has failed
  pub failed_stays : HasFailed a target first → HasFailed a target last
  failed_stays failed = record {
    hull = failed.hull;
    labels = same_labels failed.hull failed.labels;
    is_open = λ halves at.
        let P : Circuit → Rules → Type 0 = λ c rules. IsOpen c rules target halves failed.hull in
        there_too P first.net last.net first.rules last.rules (sym same.net) (sym same.rules) (failed.is_open halves (same_node halves at));
    two = λ single. failed.two (λ source told.
        single source (told_in_support_after target first last (same_setting first last same) source told));
  }

  -- what closes with the sources that are kept still does
  pub kept_stays : (closers : Option Closers) → ClosesByKept a first.net first.rules target first.assumptions closers
      → ClosesByKept a last.net last.rules target last.assumptions closers
  kept_stays closers closes =
      let P : Circuit → Rules → Type 0 = λ c rules. ClosesByKept a c rules target first.assumptions closers in
      let R : List Assumption → Type 0 = λ list. ClosesByKept a last.net last.rules target list closers in
      subst R (sym same.assumptions) (there_too P first.net last.net first.rules last.rules (sym same.net) (sym same.rules) closes)

  -- and the scope stands at the node
  pub stays_at_node : StandsAtNode a target first → StandsAtNode a target last
  stays_at_node node = record {
    beginning = same.beginning ∙ node.beginning;
    entered = ap entered_pins same.assumptions ∙ node.entered;
    free = same.conflict ∙ node.free;
    left_open = open_stays a first last same node.left_open;
  }

-- least states stay the least ones
pub least_stays : (a : StateAlgebra) (target : Target) (first last : Standing) → IsSameNode first last → (states : List State) → HasLeast a target first states
    → HasLeast a target last states
least_stays a target first last same states least source told labels is =
    let back = same_setting last first (same_back first last same) in
    least source (told_in_support_after target last first back source told) labels (same_labels a target last first (same_back first last same) labels is)

-- what is found after a scope was restored is found of what stood before
pub answer_before : (a : StateAlgebra) (target : Target) (first middle last : Standing) → IsRestored first middle
    → (closers : Option Closers) (answer : Option Vectors) → IsTrialOf a target middle last closers answer → IsTrialOf a target first last closers answer
answer_before a target first middle last restored closers (Some pair) fit =
    let P : Circuit → Rules → Type 0 = λ c rules. IsFitTest c rules target pair in
    there_too P middle.net first.net middle.rules first.rules restored.net restored.rules fit
answer_before a target first middle last restored closers None fails = record {
  failed = failed_stays a target middle first (same_back first middle (same_restored first middle restored)) fails.failed;
  counted = counted_before first.closings middle.closings last.closings restored.later fails.counted;
  closes = kept_stays a target middle first (same_back first middle (same_restored first middle restored)) closers fails.closes;
}

pub ok_answer : {E : Type 0} (a : StateAlgebra) (target : Target) (first middle last : Standing) → IsRestored first middle
    → (closers : Option Closers) (answer : Result (Option Vectors) E) → IfOk answer (IsTrialOf a target middle last closers)
    → IfOk answer (IsTrialOf a target first last closers)
ok_answer a target first middle last restored closers (Ok answer) is = answer_before a target first middle last restored closers answer is
ok_answer a target first middle last restored closers (Err error) is = tt

-- a split that may be chosen still may be
pub useful_stays : (a : StateAlgebra) (target : Target) (first last : Standing) → IsRestored first last → (split : Split)
    → IsUsefulSplit a target first split → IsUsefulSplit a target last split
useful_stays a target first last restored split useful =
    let same = same_restored first last restored in
    record {
      source = told_in_support_after target first last (same_setting first last same) split.line.0 useful.source;
      splits = record {
        at_source = useful.splits.at_source;
        kind = useful.splits.kind;
        in_half = λ labels is second. useful.splits.in_half labels (same_labels a target last first (same_back first last same) labels is) second;
      };
    }

pub next_stays : (a : StateAlgebra) (target : Target) (first last : Standing) → IsRestored first last → (next : Option NextSplit)
    → IfSome next (λ chosen. IsUsefulSplit a target first chosen.split) → IfSome next (λ chosen. IsUsefulSplit a target last chosen.split)
next_stays a target first last restored None useful = tt
next_stays a target first last restored (Some next) useful = useful_stays a target first last restored next.split useful
