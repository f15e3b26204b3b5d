-- A visit of a place: how the search goes on where the place is shut out, and where a trial has failed there.
use Rattle.std.proofs.Common.{◌≡◌, ℕ, suc, ◌<◌, ◌≤◌, List, [], ◌∷◌, ◌++◌, length, take, get_or, reverse, Option, Some, None, Result, Ok, Err, refl, sym}
use Rattle.std.proofs.Common.{ap, ◌∙◌, subst, arith}
use Rattle.std.specs.Prelude.{IfOk, IsSome, is_some}
use Rattle.std.proofs.lemmas.List.{length_push, length-take}
use Rattle.pd_base.specs.Pair.{Vectors}
use Rattle.pd_base.specs.Target.{Target}
use Rattle.netlist.specs.Circuit.{Circuit, source_count}
use Rattle.pd_base.specs.declared.rules.Rules.{Rules}
use Rattle.state_sets.specs.StateAlgebra.{StateAlgebra}
use Rattle.state_sets.specs.States.{IsWithin}
use Rattle.trees.specs.declared.tree.Node.TheVariants.{Closed}
use Rattle.implication.specs.Clients.{IsRestored}
use Rattle.implication.specs.declared.assumption.Beginning.{Beginning}
use Rattle.implication.specs.Moves.{risen, back_at}
use Rattle.implication.specs.Standing.{Standing, IsOpenIn, IsOpenFrom, IsTold}
use Rattle.implication.proofs.ScopeLabels.{there_too}
use Rattle.justify.specs.declared.desk.Desk.{Desk}
use Rattle.justify.specs.declared.growing.Growth.{Growth}
use Rattle.justify.specs.declared.growing.Place.{Place}
use Rattle.justify.specs.declared.task.Task.{Task}
use Rattle.justify.specs.Choices.{AreSingle}
use Rattle.justify.specs.Desks.{IsDesk}
use Rattle.justify.specs.Growths.{IsKeptAtMark, IsEntered, IsShut, IsExtended, StandsAtPlace, AreToldPlaces}
use Rattle.justify.specs.Searches.{IsSearching, SearchGoesOn, AddsNode, AddsClosed, IsNodeVisit, IsVisit, IsGrowthOf}
use Rattle.pair_judging.specs.Targets.{seen_target}
use Rattle.justify.specs.Tests.{IsFitTest}
use Rattle.justify.specs.Trying.{HasFailed}
use Rattle.implication.specs.Settings.{IsSameSetting}
use Rattle.implication.proofs.Settings.{same_twice}
use Rattle.justify.proofs.Orders.{late_enough, at_least, no_less, up_from, as_much_left}
use Rattle.justify.proofs.SameNodes.{same_restored, failed_stays}
use Rattle.justify.specs.Scoping.{SuitsSearch}
use Rattle.justify.proofs.Suiting.{told_after, setting_restored, suits_after}
use Rattle.justify.proofs.Placing.{IsNext, next_place}
use Rattle.justify.proofs.Visits.{reverse_push, growing_same, shut_under_way, shut_growing, entered_at_place, last_under_way, extended_growing}
use Rattle.justify.proofs.Visits.{extended_by_one, extended_left, extended_told}

-- the search goes on with another desk that serves
pub other_desk : (a : StateAlgebra) (task : Task) (standing : Standing) (desk later : Desk) (places : List Place) (growth : Growth)
    → IsSearching a task standing desk places growth → IsDesk a standing.net standing.rules task.target.path.now later
    → IsSearching a task standing later places growth
other_desk a task standing desk later places growth searching serves = record {
  suits = searching.suits;
  under_way = searching.under_way;
  serves = serves;
  growing = searching.growing;
  told = searching.told;
}

-- places at sources that are told are so as long as the setting stays
places_told : (old new : Standing) → IsSameSetting old new → (places : List Place) → AreToldPlaces old places → AreToldPlaces new places
places_told old new same places told k d inside = told_after old new same (get_or places k d).source.0 (told k d inside)

module _ (a : StateAlgebra) (task : Task) (old : Standing) (desk : Desk) (growth : Growth) (place : Place)
    (searching : IsSearching a task old desk (place ∷ reverse growth.places.items) growth) where
  abbrev target : Target
  target = seen_target task.target

  next : IsNext a old.net old.rules target task.budget old.assumptions place (reverse growth.places.items) growth.nodes.items growth.splits
  next =
      next_place a old.net old.rules target task.budget old.assumptions place (reverse growth.places.items) growth.nodes.items growth.splits
      searching.growing

  -- the scope can go back to the mark of the place, and its set can be assumed there
  pub next_late : (n : ℕ) → n ≤ length task.target.path.now.steps → n ≤ place.mark.at
  next_late n few =
      late_enough n (length task.target.path.now.steps) place.mark.at (length old.assumptions) (length (take place.mark.at old.assumptions))
      (length-take place.mark.at old.assumptions) next.here.longer few

  pub next_at_mark : place.mark.at ≤ length old.assumptions
  next_at_mark = next.at_mark

  pub next_at_source : place.source.0 < source_count old.net
  next_at_source = next.here.in_support.is_source

  pub next_told : IsTold old place.source.0
  next_told = searching.told 0 place (omega arith)

  others_told : AreToldPlaces old (reverse growth.places.items)
  others_told k d inside = searching.told (suc k) d (omega (arith, inside))

  pub next_within : IsWithin a.count place.set
  next_within = next.here.within

  pub next_begun : IsSome old.beginning
  next_begun = ap is_some searching.under_way.beginning

  pub next_open : IsOpenIn a (back_at old place.mark.at)
  next_open =
      let P : Option Beginning → Type 0 = λ b. IsOpenFrom a old.net old.rules b (take place.mark.at old.assumptions) in
      subst P (sym searching.under_way.beginning) next.here.left_open

  -- and what is kept closes the trial of the node there
  pub next_kept : IsKeptAtMark a target place old
  next_kept = record {
    beginning = searching.under_way.beginning;
    entered = next.here.entered;
    closes = next.here.closes;
  }

  module _ (new : Standing) (shut : IsShut a place old new) (later : old.closings ≤ new.closings) where
    shut_setting : IsSameSetting old new
    shut_setting = record {
      net = ap (λ (s : Standing). s.net) shut.now;
      rules = ap (λ (s : Standing). s.rules) shut.now;
      ends = ap (λ (s : Standing). s.ends) shut.now;
    }

    pub shut_goes_on : SearchGoesOn a task old new desk
    shut_goes_on = record {
      setting = shut_setting;
      under_way =
          shut_under_way a target task.budget old searching.suits.of_rules searching.under_way place (reverse growth.places.items) growth.nodes.items growth.splits
          next new shut;
      serves =
          let P : Circuit → Rules → Type 0 = λ c rules. IsDesk a c rules task.target.path.now desk in
          there_too P old.net new.net old.rules new.rules (sym (ap (λ (s : Standing). s.net) shut.now))
          (sym (ap (λ (s : Standing). s.rules) shut.now)) searching.serves;
      later = later;
    }

    pub shut_adds : (after : Growth) → after.nodes.items ≡ growth.nodes.items ++ Closed ∷ [] → after.places.items ≡ growth.places.items
        → after.splits ≡ growth.splits → AddsNode a task old new growth after
    shut_adds after nodes places splits = record {
      counted = at_least (risen old.closings) new.closings (ap (λ (s : Standing). s.closings) shut.now);
      one_more = ap length nodes ∙ length_push growth.nodes.items Closed;
      left =
          as_much_left task.budget growth.splits after.splits (length growth.places.items) (length after.places.items) splits
          (ap length places);
      growing =
          growing_same a new.net new.net new.rules new.rules target task.budget new.assumptions new.assumptions (reverse growth.places.items)
          (reverse after.places.items) after.nodes.items after.nodes.items growth.splits after.splits refl refl refl
          (sym (ap reverse places)) refl (sym splits)
          (shut_growing a target task.budget old searching.suits.of_rules searching.under_way place (reverse growth.places.items) growth.nodes.items growth.splits
          next new shut after.nodes.items nodes);
      told =
          let P : List Place → Type 0 = λ ps. AreToldPlaces new (reverse ps) in
          subst P (sym places) (places_told old new shut_setting (reverse growth.places.items) others_told);
    }

    -- a visit that added a closed leaf
    pub shut_visited : (after : Growth) (test : Option Vectors) → AddsClosed growth after test → IsVisit a task old new growth after test
    shut_visited after test closed =
        let P : Option Vectors → Type 0 = λ t. IsVisit a task old new growth after t in
        subst P (sym closed.none) (shut_adds after closed.nodes closed.places closed.splits)

  module _ (new : Standing) (entered : IsEntered a place old new) where
    same_net : new.net ≡ old.net
    same_net = ap (λ (s : Standing). s.net) entered.now

    pub entered_place : StandsAtPlace a target new place
    entered_place =
        entered_at_place a target task.budget old searching.suits.of_rules searching.under_way place (reverse growth.places.items) growth.nodes.items growth.splits
        next new entered

    same_rules : new.rules ≡ old.rules
    same_rules = ap (λ (s : Standing). s.rules) entered.now

    pub entered_setting : IsSameSetting old new
    entered_setting = record { net = same_net; rules = same_rules; ends = ap (λ (s : Standing). s.ends) entered.now }

    pub entered_suits : SuitsSearch a target new
    entered_suits = suits_after a target old new entered_setting searching.suits

    pub entered_desk : IsDesk a new.net new.rules task.target.path.now desk
    entered_desk =
        let P : Circuit → Rules → Type 0 = λ c rules. IsDesk a c rules task.target.path.now desk in
        there_too P old.net new.net old.rules new.rules (sym same_net) (sym same_rules) searching.serves

    module _ (last : Standing) (restored : IsRestored new last) where
      last_setting : IsSameSetting old last
      last_setting = same_twice old new last entered_setting (setting_restored new last restored)

      pub entered_goes_on : (later : Desk) → IsDesk a new.net new.rules task.target.path.now later → SearchGoesOn a task old last later
      entered_goes_on later made = record {
        setting = last_setting;
        under_way =
            last_under_way a target task.budget old searching.suits.of_rules searching.under_way place (reverse growth.places.items) growth.nodes.items growth.splits
            next new entered last restored;
        serves =
            let P : Circuit → Rules → Type 0 = λ c rules. IsDesk a c rules task.target.path.now later in
            there_too P new.net last.net new.rules last.rules (sym restored.net) (sym restored.rules) made;
        later = up_from old.closings new.closings last.closings (ap (λ (s : Standing). s.closings) entered.now) restored.later;
      }

      pub failed_adds : HasFailed a target last → risen new.closings ≤ last.closings → (after : Growth)
          → IsExtended a target last task.budget growth after → AddsNode a task old last growth after
      failed_adds failed counted after extended = record {
        counted =
            up_from (risen old.closings) (risen new.closings) last.closings (ap (λ (s : Standing). risen s.closings) entered.now) counted;
        one_more = extended_by_one a target last task.budget growth after extended;
        left = extended_left a target last task.budget growth after extended;
        growing =
            extended_growing a target task.budget old searching.suits.of_rules searching.under_way place growth after next new entered last restored failed extended;
        told =
            extended_told a target last task.budget growth after extended
            (places_told old last last_setting (reverse growth.places.items) others_told);
      }

      -- a visit of the open node there
      pub node_visited : {E : Type 0} (after : Growth) (result : Result (Option Vectors) E)
          → IfOk result (IsNodeVisit a task new last growth after) → IfOk result (IsVisit a task old last growth after)
      node_visited after (Err error) visited = tt
      node_visited after (Ok (Some pair)) fit =
          let P : Circuit → Rules → Type 0 = λ c rules. IsFitTest c rules target pair in
          there_too P new.net old.net new.rules old.rules same_net same_rules fit
      node_visited after (Ok None) adds =
          failed_adds (failed_stays a target new last (same_restored new last restored) adds.failed) adds.counted after
          adds.extended

-- a visit that added a node goes on with the search
pub searching_on : (a : StateAlgebra) (task : Task) (old new : Standing) (desk later : Desk) (places : List Place) (growth before after : Growth)
    → IsSearching a task old desk places growth → SearchGoesOn a task old new later → AddsNode a task old new before after
    → IsSearching a task new later (reverse after.places.items) after
searching_on a task old new desk later places growth before after searching goes adds = record {
  suits = suits_after a (seen_target task.target) old new goes.setting searching.suits;
  under_way = goes.under_way;
  serves = goes.serves;
  growing = adds.growing;
  told = adds.told;
}

-- the last place is the next one
pub searching_popped : (a : StateAlgebra) (task : Task) (standing : Standing) (desk : Desk) (before after : Growth) (place : Place)
    → after.nodes.items ≡ before.nodes.items → after.splits ≡ before.splits → before.places.items ≡ after.places.items ++ place ∷ []
    → IsSearching a task standing desk (reverse before.places.items) before
    → IsSearching a task standing desk (place ∷ reverse after.places.items) after
searching_popped a task standing desk before after place nodes splits is searching =
    let turned = reverse_push after.places.items before.places.items place is in
    record {
      suits = searching.suits;
      under_way = searching.under_way;
      serves = searching.serves;
      growing =
          growing_same a standing.net standing.net standing.rules standing.rules (seen_target task.target) task.budget standing.assumptions
          standing.assumptions (reverse before.places.items) (place ∷ reverse after.places.items) before.nodes.items after.nodes.items
          before.splits after.splits refl refl refl turned (sym nodes) (sym splits) searching.growing;
      told = let P : List Place → Type 0 = λ places. AreToldPlaces standing places in subst P turned searching.told;
    }

-- a visit that found no test added a node
pub visit_none : (a : StateAlgebra) (task : Task) (old new : Standing) (before after : Growth) (answer : Option Vectors) → answer ≡ None
    → IsVisit a task old new before after answer → AddsNode a task old new before after
visit_none a task old new before after answer none visited =
    let P : Option Vectors → Type 0 = λ found. IsVisit a task old new before after found in subst P none visited

-- a test that a visit found is what comes of all visits
pub grown_some : (a : StateAlgebra) (task : Task) (first old new : Standing) (before after growth : Growth) (answer : Option Vectors) (pair : Vectors)
    → answer ≡ Some pair → old.net ≡ first.net → old.rules ≡ first.rules → IsVisit a task old new before after answer
    → IsGrowthOf a task first new growth (Some pair)
grown_some a task first old new before after growth answer pair some same_net same_rules visited =
    let P : Option Vectors → Type 0 = λ found. IsVisit a task old new before after found in
    let Q : Circuit → Rules → Type 0 = λ c rules. IsFitTest c rules (seen_target task.target) pair in
    there_too Q old.net first.net old.rules first.rules same_net same_rules (subst P some visited)

-- where a trial has failed, some source of the support that is told has two states
pub two_where_failed : (a : StateAlgebra) (target : Target) (standing : Standing) → HasFailed a target standing
    → ¬ AreSingle a target standing
two_where_failed a _ standing failed single =
    failed.two (λ source told. single source told failed.hull failed.labels)

-- what goes on from where the setting was the same, and no count has fallen, goes on from there
pub goes_further : (a : StateAlgebra) (task : Task) (first middle last : Standing) (desk : Desk) → IsSameSetting first middle
    → first.closings ≤ middle.closings → SearchGoesOn a task middle last desk → SearchGoesOn a task first last desk
goes_further a task first middle last desk setting rising goes = record {
  setting = same_twice first middle last setting goes.setting;
  under_way = goes.under_way;
  serves = goes.serves;
  later = no_less first.closings middle.closings last.closings rising goes.later;
}
