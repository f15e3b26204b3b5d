-- A visit of the next place on a scope: how the scope stands there, and how the tree grows by what was found.
use Rattle.std.proofs.Common.{◌≡◌, ℕ, ◌+◌, ◌*◌, ◌-◌, ◌<◌, ◌≤◌, Bool, true, false, List, [], ◌∷◌, ◌++◌, length, take, reverse, Option, Some}
use Rattle.std.proofs.Common.{None, nat_lt, if◌then◌else◌, refl, sym, ap, ◌∙◌, subst, arith}
use Rattle.std.specs.Prelude.{IfNone}
use Rattle.std.proofs.lemmas.List.{take-take, length-take, length_push, reverse-append}
use Rattle.std.proofs.lemmas.List.Elements.{All-cons}
use Rattle.pd_base.specs.Target.{Target}
use Rattle.pd_base.specs.declared.ids.LineId.{LineId}
use Rattle.pd_base.specs.declared.rules.Rules.{Rules}
use Rattle.netlist.specs.Circuit.{Circuit}
use Rattle.state_sets.specs.StateAlgebra.{StateAlgebra}
use Rattle.state_laws.specs.declared.split.Split.{Split as CaseSplit}
use Rattle.trees.specs.Algebras.{algebra_of}
use Rattle.trees.specs.declared.tree.Node.{Node}
use Rattle.trees.specs.declared.tree.Node.TheVariants.{Closed, Waiting, Split}
use Rattle.trees.specs.Spent.{IsInSupport, IsOpen}
use Rattle.implication.specs.declared.assumption.Beginning.{Beginning}
use Rattle.implication.specs.declared.assumption.Assumption.{Assumption}
use Rattle.implication.specs.declared.scope.ScopeMark.{ScopeMark}
use Rattle.implication.specs.Assumptions.{entered_pins, ClosesUnder}
use Rattle.implication.specs.Clients.{IsRestored}
use Rattle.implication.specs.Standing.{Standing, IsEmptiedFrom, IsOpenIn, IsTold}
use Rattle.implication.specs.Moves.{with_assumed, grown, back_at, conflict_at}
use Rattle.implication.specs.NodeScopes.{beginning_of, StandsAtNode, AllowAsNode}
use Rattle.implication.proofs.NodeScopes.{closes_at_node}
use Rattle.implication.proofs.ScopeLabels.{there_too, open_under}
use Rattle.justify.specs.declared.closers.Closers.{Closers}
use Rattle.justify.specs.declared.growing.Growth.{Growth}
use Rattle.justify.specs.declared.growing.Place.{Place}
use Rattle.justify.specs.Growths.{IsEntered, IsShut, IsGrowing, IsExtended, IsSplitAt, StandsAtPlace, AreToldPlaces}
use Rattle.justify.specs.Growths.IsExtended.{waits, splits}
use Rattle.justify.specs.Choices.{IsUsefulSplit}
use Rattle.justify.specs.Closers.{ClosesByKept}
use Rattle.justify.specs.Trying.{HasFailed}
use Rattle.justify.specs.UnderWay.{entered_steps, IsUnderWay}
use Rattle.justify.proofs.Placing.{IsNext, next_entered, next_node, next_closes, assumed_front, assumed_longer, growing_closed, growing_waiting}
use Rattle.justify.proofs.Placing.{growing_split}

-- no conflict stands either where the scope goes back
pub free_at : (standing : Standing) (mark : ℕ) → standing.conflict ≡ None → conflict_at standing mark ≡ None
free_at standing mark free = by (nat_lt mark (length standing.assumptions))
  where
    by : (b : Bool) → (if b then None else standing.conflict) ≡ None
    by true = refl
    by false = free

-- what follows from what holds where there is no value
pub none_after : {T : Type 0} (X Y : Type 0) (value : Option T) → (X → Y) → IfNone value X → IfNone value Y
none_after X Y None gives holds = gives holds
none_after X Y (Some value) gives holds = tt

-- the places, the last one first
pub reverse_push : {X : Type 0} (xs ys : List X) (x : X) → ys ≡ xs ++ x ∷ [] → reverse ys ≡ x ∷ reverse xs
reverse_push xs ys x is = ap reverse is ∙ reverse-append xs (x ∷ [])

-- after a split the places of its halves are the next ones
places_split : (a : StateAlgebra) (split : CaseSplit) (mark : ScopeMark) (closers : Option Closers) (before_it after_it : Growth)
    (at : IsSplitAt a split mark closers before_it after_it)
    → reverse after_it.places.items ≡ at.first_place ∷ at.second_place ∷ reverse before_it.places.items
places_split a split mark closers before_it after_it at =
    let first = at.first_place in let second = at.second_place in
    reverse_push (before_it.places.items ++ second ∷ []) after_it.places.items first at.places
    ∙ ap (λ (ps : List Place). first ∷ ps) (reverse_push before_it.places.items (before_it.places.items ++ second ∷ []) second refl)

-- the same growth, seen otherwise
pub growing_same : (a : StateAlgebra) (c d : Circuit) (r s : Rules) (target : Target) (budget : ℕ) (list others : List Assumption)
    (places rest : List Place) (nodes more : List Node) (m n : ℕ) → c ≡ d → r ≡ s → list ≡ others → places ≡ rest → nodes ≡ more
    → m ≡ n → IsGrowing a c r target budget list places nodes m → IsGrowing a d s target budget others rest more n
growing_same a c d r s target budget list others places rest nodes more m n same_c same_r same_list same_places same_nodes same_count is =
    let A : Circuit → Rules → Type 0 = λ x r. IsGrowing a x r target budget list places nodes m in
    let B : List Assumption → Type 0 = λ x. IsGrowing a d s target budget x places nodes m in
    let C : List Place → Type 0 = λ x. IsGrowing a d s target budget others x nodes m in
    let D : List Node → Type 0 = λ x. IsGrowing a d s target budget others rest x m in
    let E : ℕ → Type 0 = λ x. IsGrowing a d s target budget others rest more x in
    subst E same_count (subst D same_nodes (subst C same_places (subst B same_list (there_too A c d r s same_c same_r is))))

module _ (a : StateAlgebra) (target : Target) (budget : ℕ) (old : Standing) (same_states : a ≡ algebra_of old.rules) (way : IsUnderWay target old)
    (place : Place) (places : List Place) (nodes : List Node) (splits_before : ℕ)
    (next : IsNext a old.net old.rules target budget old.assumptions place places nodes splits_before) where
  abbrev begun : Beginning
  begun = beginning_of target

  abbrev before : List Assumption
  before = take place.mark.at old.assumptions

  abbrev at_node : List Assumption
  at_node = with_assumed a.count before place.source place.set

  early : length target.path.steps ≤ place.mark.at
  early = let e = next.here.longer in let f = length-take place.mark.at old.assumptions in omega arith

  front_before : take (length target.path.steps) before ≡ entered_steps target.path
  front_before = take-take (length target.path.steps) place.mark.at old.assumptions early ∙ way.front

  front_at_node : take (length target.path.steps) at_node ≡ entered_steps target.path
  front_at_node =
      sym (take-take (length target.path.steps) (length before) at_node next.here.longer)
      ∙ ap (take (length target.path.steps)) (assumed_front a.count before place.source place.set) ∙ front_before

  -- where the place's set leaves some line no state, the scope is at the mark, and a closed leaf is due
  module _ (new : Standing) (shut : IsShut a place old new) where
    pub shut_under_way : IsUnderWay target new
    shut_under_way =
        let P : Standing → Type 0 = λ s. IsUnderWay target s in
        subst P (sym shut.now) (record {
          beginning = way.beginning;
          longer = next.here.longer;
          front = front_before;
          free = free_at old place.mark.at way.free;
        })

    shut_closes : ClosesUnder a old.net old.rules begun at_node
    shut_closes =
        let P : Option Beginning → Type 0 = λ o. IsEmptiedFrom a old.net old.rules o at_node shut.line in
        let emptied = subst P way.beginning shut.emptied in
        record { line = shut.line; in_circuit = emptied.0; emptied = emptied.1 }

    pub shut_growing : (more : List Node) → more ≡ nodes ++ Closed ∷ []
        → IsGrowing a new.net new.rules target budget new.assumptions places more splits_before
    shut_growing more is =
        growing_same a old.net new.net old.rules new.rules target budget before new.assumptions places places (nodes ++ Closed ∷ []) more
        splits_before splits_before (sym (ap (λ (s : Standing). s.net) shut.now)) (sym (ap (λ (s : Standing). s.rules) shut.now))
        (sym (ap (λ (s : Standing). s.assumptions) shut.now)) refl (sym is) refl
        (growing_closed a old.net old.rules target budget old.assumptions place places nodes splits_before next same_states
        (closes_at_node a old.net old.rules target at_node
        (next_entered a old.net old.rules target budget old.assumptions place places nodes splits_before next) next.halves
        (next_node a old.net old.rules target budget old.assumptions place places nodes splits_before next) shut_closes))

  -- else the scope is at the node
  module _ (new : Standing) (entered : IsEntered a place old new) where
    pub entered_at_node : StandsAtNode a target new
    entered_at_node = record {
      beginning = ap (λ (s : Standing). s.beginning) entered.now ∙ way.beginning;
      entered = ap (λ (s : Standing). entered_pins s.assumptions) entered.now
          ∙ next_entered a old.net old.rules target budget old.assumptions place places nodes splits_before next;
      free = ap (λ (s : Standing). s.conflict) entered.now ∙ free_at old place.mark.at way.free;
      left_open = entered.left_open;
    }

    pub entered_at_place : StandsAtPlace a target new place
    entered_at_place = record {
      node = entered_at_node;
      closes =
          let P : Standing → Type 0 = λ s. ClosesByKept a s.net s.rules target s.assumptions place.closers in
          subst P (sym entered.now)
          (next_closes a old.net old.rules target budget old.assumptions place places nodes splits_before next);
    }

    pub entered_under_way : IsUnderWay target new
    entered_under_way =
        let P : Standing → Type 0 = λ s. IsUnderWay target s in
        let one = next.here.longer in let two = assumed_longer a.count before place.source place.set in
        subst P (sym entered.now) (record {
          beginning = way.beginning;
          longer = omega (arith, one, two);
          front = front_at_node;
          free = free_at old place.mark.at way.free;
        })

    -- and after a trial it still is
    module _ (last : Standing) (restored : IsRestored new last) where
      pub last_under_way : IsUnderWay target last
      last_under_way = record {
        beginning = restored.beginning ∙ entered_under_way.beginning;
        longer = let e = ap length restored.assumptions in let f = entered_under_way.longer in omega (arith, e, f);
        front = ap (take (length target.path.steps)) restored.assumptions ∙ entered_under_way.front;
        free = restored.conflict ∙ entered_under_way.free;
      }

      same_list : last.assumptions ≡ at_node
      same_list = restored.assumptions ∙ ap (λ (s : Standing). s.assumptions) entered.now

      same_net : new.net ≡ old.net
      same_net = ap (λ (s : Standing). s.net) entered.now

      pub last_net : old.net ≡ last.net
      last_net = sym (restored.net ∙ same_net)

      same_rules : new.rules ≡ old.rules
      same_rules = ap (λ (s : Standing). s.rules) entered.now

      pub last_rules : old.rules ≡ last.rules
      last_rules = sym (restored.rules ∙ same_rules)

      node_left_open : ClosesUnder a old.net old.rules begun at_node → ⊥
      node_left_open = open_under a (grown (back_at old place.mark.at) at_node) begun way.beginning
          (subst (IsOpenIn a) entered.now entered.left_open)

      -- where the trial has failed, the tree grows by a leaf that waits or a split
      module _ (failed : HasFailed a target last) where
        last_below : AllowAsNode a last.net last.rules target last.assumptions next.halves
        last_below =
            let P : Circuit → Rules → Type 0 = λ c rules. AllowAsNode a c rules target at_node next.halves in
            let Q : List Assumption → Type 0 = λ list. AllowAsNode a last.net last.rules target list next.halves in
            subst Q (sym same_list) (there_too P old.net last.net old.rules last.rules last_net last_rules
            (next_node a old.net old.rules target budget old.assumptions place places nodes splits_before next))

        open_there : IsOpen old.net old.rules target next.halves failed.hull
        open_there =
            let P : Circuit → Rules → Type 0 = λ c rules. IsOpen c rules target next.halves failed.hull in
            there_too P last.net old.net last.rules old.rules (sym last_net) (sym last_rules) (failed.is_open next.halves last_below)

        waiting_growing : (more : List Node) (rest : List Place) (n : ℕ) → more ≡ nodes ++ Waiting ∷ [] → rest ≡ places → n ≡ splits_before
            → splits_before ≡ budget → IsGrowing a last.net last.rules target budget last.assumptions rest more n
        waiting_growing more rest n same_nodes same_places same_count spent =
            growing_same a old.net last.net old.rules last.rules target budget at_node last.assumptions places rest
            (nodes ++ Waiting ∷ []) more splits_before n last_net last_rules (sym same_list) (sym same_places) (sym same_nodes)
            (sym same_count)
            (growing_waiting a old.net old.rules target budget old.assumptions place places nodes splits_before next failed.hull open_there
            spent)

        split_growing : (split : CaseSplit) (mark : ScopeMark) (closers : Option Closers) → mark.at ≡ length last.assumptions
            → IsUsefulSplit a target last split → ClosesByKept a last.net last.rules target last.assumptions closers → splits_before < budget
            → (before_it after_it : Growth) → IsSplitAt a split mark closers before_it after_it → reverse before_it.places.items ≡ places
            → before_it.nodes.items ≡ nodes → before_it.splits ≡ splits_before
            → IsGrowing a last.net last.rules target budget last.assumptions (reverse after_it.places.items) after_it.nodes.items
            after_it.splits
        split_growing split mark closers at_end choice closes less before_it after_it at same_places same_nodes same_count =
            let first = at.first_place in let second = at.second_place in
            let P : Circuit → Rules → Type 0 = λ c rules. IsInSupport c rules target.path split.line.0 in
            let Q : List Assumption → Type 0 = λ list. ClosesByKept a old.net old.rules target list closers in
            let R : Circuit → Rules → Type 0 = λ c rules. ClosesByKept a c rules target last.assumptions closers in
            let turned : reverse after_it.places.items ≡ first ∷ second ∷ places =
            places_split a split mark closers before_it after_it at ∙ ap (λ (ps : List Place). first ∷ second ∷ ps) same_places in
            growing_same a old.net last.net old.rules last.rules target budget at_node last.assumptions (first ∷ second ∷ places)
            (reverse after_it.places.items) (nodes ++ Split split ∷ []) after_it.nodes.items
            (splits_before + 1) after_it.splits last_net last_rules (sym same_list) (sym turned)
            (sym (at.nodes ∙ ap (λ (ns : List Node). ns ++ Split split ∷ []) same_nodes))
            (sym (at.counted ∙ ap (λ k. k + 1) same_count))
            (growing_split a old.net old.rules target budget old.assumptions place places nodes splits_before next failed.hull open_there
            node_left_open split same_states
            (there_too P last.net old.net last.rules old.rules (sym last_net) (sym last_rules) choice.source.in_support) choice.splits.kind (choice.splits.in_half failed.hull failed.labels)
            mark (at_end ∙ ap length same_list) closers
            (subst Q same_list (there_too R last.net old.net last.rules old.rules (sym last_net) (sym last_rules) closes)) first second at.in_first at.in_second less)

-- so it does after a trial that failed
pub extended_growing : (a : StateAlgebra) (target : Target) (budget : ℕ) (old : Standing) (same_states : a ≡ algebra_of old.rules) (way : IsUnderWay target old)
    (place : Place) (first after : Growth)
    (next : IsNext a old.net old.rules target budget old.assumptions place (reverse first.places.items) first.nodes.items first.splits)
    (new : Standing) (entered : IsEntered a place old new) (last : Standing) (restored : IsRestored new last) (failed : HasFailed a target last)
    → IsExtended a target last budget first after
    → IsGrowing a last.net last.rules target budget last.assumptions (reverse after.places.items) after.nodes.items after.splits
extended_growing a target budget old same_states way place first after next new entered last restored failed (waits spent at) =
    waiting_growing a target budget old same_states way place (reverse first.places.items) first.nodes.items first.splits next new entered
    last restored failed after.nodes.items (reverse after.places.items) after.splits at.nodes
    (ap reverse at.places) at.counted spent
extended_growing a target budget old same_states way place first after next new entered last restored failed (splits split mark closers at_end choice closes less at) =
    split_growing a target budget old same_states way place (reverse first.places.items) first.nodes.items first.splits next new entered
    last restored failed split mark closers at_end choice closes less first after at refl refl refl

-- and its places are at sources that are told
pub extended_told : (a : StateAlgebra) (target : Target) (last : Standing) (budget : ℕ) (before_it after_it : Growth)
    → IsExtended a target last budget before_it after_it → AreToldPlaces last (reverse before_it.places.items)
    → AreToldPlaces last (reverse after_it.places.items)
extended_told a target last budget before_it after_it (waits spent at) told =
    let P : List Place → Type 0 = λ places. AreToldPlaces last (reverse places) in subst P (sym at.places) told
extended_told a target last budget before_it after_it (splits split mark closers at_end choice closes less at) told =
    let Told : Place → Type 0 = λ place. IsTold last place.source.0 in
    let At : LineId → Type 0 = λ source. IsTold last source.0 in
    let P : List Place → Type 0 = λ places. AreToldPlaces last places in
    let rest = reverse before_it.places.items in
    subst P (sym (places_split a split mark closers before_it after_it at))
    (All-cons Told at.first_place (at.second_place ∷ rest) (subst At (sym at.in_first.at_source) choice.source.told)
    (All-cons Told at.second_place rest (subst At (sym at.in_second.at_source) choice.source.told) told))

-- by one node, and less is left to do
pub extended_by_one : (a : StateAlgebra) (target : Target) (last : Standing) (budget : ℕ) (before_it after_it : Growth)
    → IsExtended a target last budget before_it after_it → length after_it.nodes.items ≡ length before_it.nodes.items + 1
extended_by_one a target last budget before_it after_it (waits spent at) =
    ap length at.nodes ∙ length_push before_it.nodes.items Waiting
extended_by_one a target last budget before_it after_it (splits split mark closers at_end choice closes less at) =
    ap length at.nodes ∙ length_push before_it.nodes.items (Split split)

pub extended_left : (a : StateAlgebra) (target : Target) (last : Standing) (budget : ℕ) (before_it after_it : Growth)
    → IsExtended a target last budget before_it after_it
    → 2 * (budget - after_it.splits) + length after_it.places.items ≤ 2 * (budget - before_it.splits) + length before_it.places.items
extended_left a target last budget before_it after_it (waits spent at) =
    let e = at.counted in let f = ap length at.places in omega (arith, e, f)
extended_left a target last budget before_it after_it (splits split mark closers at_end choice closes less at) =
    let e = at.counted in let f = ap length at.places in
    let one = length_push (before_it.places.items ++ at.second_place ∷ []) at.first_place in
    let two = length_push before_it.places.items at.second_place in omega (arith, e, f, one, two, less)
