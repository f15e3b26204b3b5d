-- What follows where sources of the support are assumed to be in the least states of their labels: a conflict shows that the trial of
-- the node closes, and where none comes of all of them, the pair of these states is a test.
use Rattle.std.proofs.Common.{◌≡◌, ℕ, ◌+◌, ◌<◌, ◌≤◌, ◌^◌, List, [], ◌∷◌, ◌++◌, length, take, get_or}
use Rattle.std.proofs.Common.{Option, Some, None, Bool, true, false, refl, sym, ap, ◌∙◌, subst, arith}
use Rattle.std.specs.Prelude.{IfSome, IfNone, is_some}
use Rattle.std.specs.List.{All}
use Rattle.std.proofs.lemmas.Bool.{false≢true}
use Rattle.std.proofs.lemmas.List.{take_more}
use Rattle.std.proofs.lemmas.List.Elements.{All-more, All-pop, All-take, All-weaker, All-contains}
use Rattle.pd_base.specs.Links.{links_of}
use Rattle.pd_base.specs.Pair.{Vectors}
use Rattle.pd_base.specs.Target.{Target}
use Rattle.pd_base.specs.declared.ids.PinRef.{PinRef}
use Rattle.pd_base.specs.declared.rules.Rules.{Rules}
use Rattle.netlist.specs.Circuit.{Circuit, source_count}
use Rattle.netlist.specs.Conditions.{Meets}
use Rattle.netlist.specs.Lawful.{IsCircuit}
use Rattle.netlist.specs.LinkedPairs.{FitRules, IsSupported}
use Rattle.netlist.specs.LinkedPairs.IsSupported.{in_fan_in}
use Rattle.netlist.specs.Paths.{IsPrefix, end_of}
use Rattle.state_sets.specs.declared.state.State.{State}
use Rattle.state_sets.specs.declared.state.StateSet.{StateSet}
use Rattle.state_sets.specs.States.{Has}
use Rattle.state_sets.specs.StateAlgebra.{StateAlgebra, HasLaws}
use Rattle.state_sets.specs.Labellings.{label_at}
use Rattle.state_sets.specs.LineStates.{state_under}
use Rattle.state_sets.specs.Starts.{IsLeast}
use Rattle.state_sets.specs.Hulls.{IsNarrowingOf, IsRestAmong, HasNoEmptySet, Closes}
use Rattle.state_laws.specs.declared.split.Half.{Half}
use Rattle.state_laws.proofs.Deciding.{rest_decides}
use Rattle.state_laws.proofs.LinkedTrials.{closes_unless_linked}
use Rattle.state_laws.proofs.Hulls.{closes_if_wider, widens_by_states, emptied_if_empty}
use Rattle.hulls.proofs.Sets.{only_has, only_this}
use Rattle.trees.specs.Algebras.{algebra_of}
use Rattle.trees.specs.Spent.{IsInSupport, IsOpen, MayTry}
use Rattle.implication.specs.declared.assumption.Beginning.{Beginning}
use Rattle.implication.specs.declared.assumption.Assumption.{Assumption}
use Rattle.implication.specs.Assumptions.{entered_pins, MayUnder, IsHullUnder, ClosesUnder}
use Rattle.implication.specs.Clients.{ExtendsStanding}
use Rattle.implication.specs.Moves.{with_assumed, risen}
use Rattle.implication.specs.Standing.{Standing, IsLabels}
use Rattle.justify.specs.declared.trial.Tried.{Tried}
use Rattle.implication.specs.NodeScopes.{beginning_of, StandsAtNode, AllowAsNode}
use Rattle.pair_judging.specs.ConeStates.{HasLinkedStates}
use Rattle.pair_judging.proofs.Taking.{least_is_taken}
use Rattle.justify.specs.Scoping.{IsToldInSupport}
use Rattle.justify.specs.declared.closers.Closers.{Closers}
use Rattle.justify.specs.Closers.{kept_of, IsAsTried, ClosesBy}
use Rattle.justify.specs.Trying.{CanTry, IsWithinTrial, IsHeldIn, EndsTrial, HasFailed, IsSingle, IsTriedAs, GivesTest}
use Rattle.justify.specs.Trying.{tried_until, EndsAtNode, FailsAtNode, FailsByKept}
use Rattle.implication.proofs.MoreAssumed.{may_assumed, entered_assumed}
use Rattle.implication.proofs.NodeScopes.{hull_at_node}
use Rattle.implication.proofs.ScopeLabels.{there_too, labels_under, open_under}

-- the line is in the state of an entry, if it is its source
abbrev IsInStateOf : ℕ → State → Tried → Type 0
IsInStateOf line state entry = line ≡ entry.source.0 → state ≡ entry.state

-- what is true unless it is false
linked_unless : (bit : Bool) → (bit ≡ false → ⊥) → bit ≡ true
linked_unless true never = refl
linked_unless false never = absurd (never refl)

module _ (a : StateAlgebra) (target : Target) (first : Standing) where
  abbrev begun : Beginning
  begun = beginning_of target

  -- before anything is assumed
  pub within_itself : (tried : List Tried) → IsWithinTrial a target first first tried
  within_itself tried = record { entered = refl; lets = λ line state in_range may as_tried. may }

  -- one source more
  module _ (now new : Standing) (tried : List Tried) (place : ℕ) (d : Tried) (inside : place < length tried)
      (is : CanTry a target first (get_or tried place d)) (set : StateSet) (only : set.0 ≡ 2 ^ (get_or tried place d).state.0)
      (more : new.assumptions ≡ with_assumed a.count now.assumptions (get_or tried place d).source set) where
    abbrev entry : Tried
    entry = get_or tried place d

    abbrev later : List Assumption
    later = with_assumed a.count now.assumptions entry.source set

    entry_in : (state : State) → state ≡ entry.state → Has a.count set state
    entry_in state same = subst (λ s. Has a.count set s) (sym same) (only_has a.count set entry.state only is.in_range)

    more_lets : IsWithinTrial a target first now (take place tried) → (line : ℕ) (state : State) → state.0 < a.count
        → MayUnder a first.net first.rules begun first.assumptions line state → IsAsTried (take place tried ++ entry ∷ []) line state
        → MayUnder a first.net first.rules begun new.assumptions line state
    more_lets before line state in_range may as_tried =
        let P : List Assumption → Type 0 = λ list. MayUnder a first.net first.rules begun list line state in
        let front = take place tried in
        let parts = All-pop (IsInStateOf line state) (front ++ entry ∷ []) front (Some entry) refl as_tried in
        subst P (sym more)
        ((may_assumed a first.net first.rules begun now.assumptions entry.source set line state in_range).1
        (before.lets line state in_range may parts.0, λ here. entry_in state (parts.1 here)))

    pub within_more : IsWithinTrial a target first now (take place tried) → IsWithinTrial a target first new (take (place + 1) tried)
    within_more before = record {
      entered = ap entered_pins more ∙ entered_assumed a.count now.assumptions entry.source set ∙ before.entered;
      lets = λ line state in_range may as_tried.
          let P : List Tried → Type 0 = λ list. IsAsTried list line state in
          more_lets before line state in_range may (subst P (take_more tried place d inside) as_tried);
    }

    may_before : (line : ℕ) (state : State) → state.0 < a.count → MayUnder a first.net first.rules begun new.assumptions line state
        → MayUnder a first.net first.rules begun now.assumptions line state × (line ≡ entry.source.0 → Has a.count set state)
    may_before line state in_range may =
        let P : List Assumption → Type 0 = λ list. MayUnder a first.net first.rules begun list line state in
        (may_assumed a first.net first.rules begun now.assumptions entry.source set line state in_range).0 (subst P more may)

    -- it is held, and those before still are
    held_here : IsHeldIn a target first new entry
    held_here state in_range may = only_this a.count set entry.state state only ((may_before entry.source.0 state in_range may).1 refl)

    pub held_more : All (IsHeldIn a target first now) (take place tried) → All (IsHeldIn a target first new) (take (place + 1) tried)
    held_more held =
        All-more (IsHeldIn a target first new) tried place d inside
        (All-weaker (IsHeldIn a target first now) (IsHeldIn a target first new)
        (λ before holds state in_range may. holds state in_range (may_before before.source.0 state in_range may).0) (take place tried) held)
        held_here

module _ (a : StateAlgebra) (target : Target) (first : Standing) (node : StandsAtNode a target first) where
  abbrev start : Beginning
  start = beginning_of target

  -- a conflict of what was assumed is one of the states tried
  pub closes_by : (last : Standing) (tried : List Tried) → IsWithinTrial a target first last tried
      → ClosesUnder a first.net first.rules start last.assumptions
      → ClosesBy a first.net first.rules target first.assumptions tried
  closes_by last tried trial closes =
      let Narrowings = IsNarrowingOf first.net (links_of first.rules) target.kind target.path.steps in
      let Might = MayUnder a first.net first.rules start last.assumptions in
      let May : ℕ → State → Type 0 = λ line state. MayUnder a first.net first.rules start first.assumptions line state
      × IsAsTried tried line state in
      let P : List PinRef → Type 0 = λ steps. Closes a first.net (IsNarrowingOf first.net (links_of first.rules) target.kind steps) Might in
      closes_if_wider a first.net Narrowings Narrowings May Might
      (widens_by_states a first.net Narrowings May Might (λ line state in_circuit in_range may. trial.lets line state in_range may.0 may.1))
      (subst P (trial.entered ∙ node.entered) closes)

  module _ (hull : List StateSet) (labels : IsLabels a first hull) where
    under : IsHullUnder a first.net first.rules start first.assumptions hull
    under = labels_under a first start hull node.beginning labels

    none_empty : HasNoEmptySet first.net hull
    none_empty line within empty =
        open_under a first start node.beginning node.left_open (record {
          line = line;
          in_circuit = within;
          emptied =
              emptied_if_empty a first.net (IsNarrowingOf first.net (links_of first.rules) start.kind (entered_pins first.assumptions))
              (MayUnder a first.net first.rules start first.assumptions) hull under line empty;
        })

    module _ (tried : List Tried) (can : All (CanTry a target first) tried) where
      -- a line that is in the least state of its label, where it is a source of the support that is told, is in the state tried
      least_as_tried : (line : ℕ) (state : State) → (IsToldInSupport target first line → IsLeast a.count (label_at hull line) state)
          → IsAsTried tried line state
      least_as_tried line state least k d inside = λ here.
          let entry = get_or tried k d in
          let is = can k d inside in
          let Q : ℕ → Type 0 = λ l. IsToldInSupport target first l → IsLeast a.count (label_at hull l) state in
          least_is_taken a.count (label_at hull entry.source.0) state entry.state (subst Q here least is.source) (is.least hull labels)

      -- where each source of the support that is told had one state only, the hull would lie within what was assumed
      two : ClosesBy a first.net first.rules target first.assumptions tried
          → ¬ ((source : ℕ) → IsToldInSupport target first source → IsSingle a.count (label_at hull source))
      two closes singles =
          let Might : ℕ → State → Type 0 = λ line state. MayUnder a first.net first.rules start first.assumptions line state
          × IsAsTried tried line state in
          let P : List PinRef → Type 0 = λ steps.
          IsRestAmong a first.net (IsNarrowingOf first.net (links_of first.rules) start.kind steps) Might hull in
          let among : P (entered_pins first.assumptions) = record {
            labelling = under.rest.labelling;
            rest = under.rest.rest;
            among = λ line state has. (
              under.rest.among line state has,
              least_as_tried line state (λ told. record {
                has = has;
                least = λ other in_other.
                    let same = ap (λ (s : State). s.0) (singles line told state other has in_other) in omega (arith, same);
              }),
            );
          } in
          none_empty closes.line closes.in_circuit (closes.emptied hull (subst P node.entered among))

  -- where no conflict came of all sources of the support, the pair with their states keeps links there, and meets the conditions
  module _ (laws : HasLaws a) (circuit : IsCircuit first.net) (fit : FitRules first.net first.rules) (is : IsPrefix first.net target.path)
      (last : Standing) (tried : List Tried) (trial : IsWithinTrial a target first last tried)
      (held : All (IsHeldIn a target first last) tried)
      (left_open : ClosesUnder a first.net first.rules start last.assumptions → ⊥) (rest : List StateSet)
      (at_rest : IsHullUnder a first.net first.rules start last.assumptions rest) where
    abbrev Might : ℕ → State → Type 0
    Might = MayUnder a first.net first.rules start last.assumptions

    rest_some : HasNoEmptySet first.net rest
    rest_some line within empty = left_open (record {
      line = line;
      in_circuit = within;
      emptied = emptied_if_empty a first.net (IsNarrowingOf first.net (links_of first.rules) start.kind (entered_pins last.assumptions))
          Might rest at_rest line empty;
    })

    module _ (pair : Vectors) (all : (source : ℕ) → IsInSupport first.net first.rules target.path source → IsTriedAs a first.net pair tried source) where
      only_tried : (source : ℕ) → source < source_count first.net
          → IsSupported first.net (links_of first.rules) (end_of first.net target.path) source
          → (state : State) → state.0 < a.count → Might source state → state ≡ state_under a first.net pair source
      only_tried source within supported state in_range may =
          let found = all source (record { is_source = within; supported = supported }) in
          let Q : ℕ → Type 0 = λ l. Might l state in
          All-contains (IsHeldIn a target first last) tried found.entry held found.among state in_range
          (subst Q (sym found.here) may) ∙ found.same

      tried_meets : Meets first.net target pair
      tried_meets =
          let P : List PinRef → Type 0 = λ steps.
          IsRestAmong a first.net (IsNarrowingOf first.net (links_of first.rules) target.kind steps) Might rest in
          let among = subst P (trial.entered ∙ node.entered) at_rest.rest in
          rest_decides a laws first.net circuit (links_of first.rules) target.kind target.path is Might rest among rest_some pair
          (λ source within further state has.
          only_tried source within (in_fan_in source further) state has.in_range (among.among source state has))
          target.direction (λ state may. may.start.own refl)

      -- what lines may be in, in states below the count
      abbrev MayWithin : ℕ → State → Type 0
      MayWithin line state = (state.0 < a.count) × Might line state

      tried_linked : HasLinkedStates a first.net (links_of first.rules) (end_of first.net target.path) pair
      tried_linked source line supported link =
          linked_unless (a.link (state_under a first.net pair source) (state_under a first.net pair line))
          (λ breaks.
          let closes = closes_unless_linked a laws first.net circuit (links_of first.rules) fit (end_of first.net target.path) target.kind
          target.path.steps pair MayWithin
          (λ source within supported state may. only_tried source within supported state may.0 may.1)
          source line supported link breaks in
          let P : List PinRef → Type 0 = λ steps.
          IsRestAmong a first.net (IsNarrowingOf first.net (links_of first.rules) target.kind steps) Might rest in
          let among = subst P (trial.entered ∙ node.entered) at_rest.rest in
          rest_some closes.line closes.in_circuit (closes.emptied rest (record {
            labelling = among.labelling;
            rest = among.rest;
            among = λ other state has. (has.in_range, among.among other state has);
          })))

    pub held_gives_test : GivesTest a first.net first.rules target tried
    held_gives_test pair all = (tried_linked pair all, tried_meets pair all)

-- a trial that closes is that of an open node; the states are those of the rules
module _ (target : Target) (first : Standing) where
  abbrev own : StateAlgebra
  own = algebra_of first.rules

  module _ (node : StandsAtNode own target first) (hull : List StateSet) (labels : IsLabels own first hull) (tried : List Tried)
      (can : All (CanTry own target first) tried) (closes : ClosesBy own first.net first.rules target first.assumptions tried) where
    own_open : (halves : List Half) → AllowAsNode own first.net first.rules target first.assumptions halves
        → IsOpen first.net first.rules target halves hull
    own_open halves at = record {
      is_hull = hull_at_node own first.net first.rules target first.assumptions node.entered halves at hull
          (labels_under own first (beginning_of target) hull node.beginning labels);
      none_empty = none_empty own target first node hull labels;
      trial =
          let Narrowings = IsNarrowingOf first.net (links_of first.rules) target.kind target.path.steps in
          let Might : ℕ → State → Type 0 = λ line state.
          MayUnder own first.net first.rules (beginning_of target) first.assumptions line state × IsAsTried tried line state in
          let May = MayTry first.net first.rules target halves hull in
          closes_if_wider own first.net Narrowings Narrowings May Might
          (widens_by_states own first.net Narrowings May Might
          (λ line state in_circuit in_range may. (
            (at line state in_circuit in_range).1 may.at_node,
            least_as_tried own target first node hull labels tried can line state (λ told. may.least told.in_support),
          )))
          closes;
    }

    own_failed : HasFailed own target first
    own_failed = record {
      hull = hull;
      labels = labels;
      is_open = own_open;
      two = two own target first node hull labels tried can closes;
    }

  pub trial_failed : (a : StateAlgebra) → a ≡ own → StandsAtNode a target first → (hull : List StateSet) → IsLabels a first hull
      → (tried : List Tried) → All (CanTry a target first) tried → ClosesBy a first.net first.rules target first.assumptions tried
      → HasFailed a target first
  trial_failed a same =
      let P : StateAlgebra → Type 0 = λ x. StandsAtNode x target first → (hull : List StateSet) → IsLabels x first hull
      → (tried : List Tried) → All (CanTry x target first) tried → ClosesBy x first.net first.rules target first.assumptions tried
      → HasFailed x target first in
      subst P (sym same) own_failed

-- a trial that closes by sources fails at the node, once a conflict is counted
pub fails_once_counted : (a : StateAlgebra) (target : Target) (first : Standing) → a ≡ algebra_of first.rules → StandsAtNode a target first
    → (hull : List StateSet) → IsLabels a first hull → (tried : List Tried) → All (CanTry a target first) tried
    → ClosesBy a first.net first.rules target first.assumptions tried → (new : Standing) → risen first.closings ≤ new.closings
    → FailsAtNode a target first new tried
fails_once_counted a target first same node hull labels tried can closes new counted = record {
  failed = trial_failed target first a same node hull labels tried can closes;
  counted = counted;
  closes = closes;
}

-- what comes of trying sources where a conflict came, and the scope has gone back
pub ends_failed : (a : StateAlgebra) (target : Target) (first : Standing) → a ≡ algebra_of first.rules → StandsAtNode a target first
    → (hull : List StateSet) → IsLabels a first hull → (tried : List Tried) → All (CanTry a target first) tried → (last new : Standing)
    → new.closings ≡ last.closings → (place : Option ℕ) → is_some place ≡ true
    → IsWithinTrial a target first last (tried_until tried place) → EndsTrial a target first last tried (is_some place)
    → EndsAtNode a target first new tried place
ends_failed a target first same node hull labels tried can last new counted None some trial ends = absurd (false≢true some)
ends_failed a target first same node hull labels tried can last new counted (Some place) some trial ends =
    let P : ℕ → Type 0 = λ n. risen first.closings ≤ n in
    let front = take (place + 1) tried in
    fails_once_counted a target first same node hull labels front (All-take (CanTry a target first) (place + 1) tried can)
    (closes_by a target first node last front trial ends.closes) new (subst P (sym counted) ends.counted)

-- and where none came
pub ends_open : (a : StateAlgebra) → HasLaws a → (target : Target) (first : Standing) → StandsAtNode a target first → IsCircuit first.net
    → FitRules first.net first.rules → IsPrefix first.net target.path → (last : Standing) → ExtendsStanding first last → (rest : List StateSet)
    → IsLabels a last rest → (tried : List Tried) (place : Option ℕ) → is_some place ≡ false
    → IsWithinTrial a target first last (tried_until tried place) → EndsTrial a target first last tried (is_some place)
    → GivesTest a first.net first.rules target tried
ends_open a laws target first node circuit fit is last extends rest rest_is tried None none trial held =
    let begun = beginning_of target in
    let Q : Circuit → Rules → Type 0 = λ c rules. ¬ ClosesUnder a c rules begun last.assumptions in
    let R : Circuit → Rules → Type 0 = λ c rules. IsHullUnder a c rules begun last.assumptions rest in
    held_gives_test a target first node laws circuit fit is last tried trial held.held
    (there_too Q last.net first.net last.rules first.rules extends.net extends.rules
    (open_under a last begun (extends.beginning ∙ node.beginning) held.left_open))
    rest
    (there_too R last.net first.net last.rules first.rules extends.net extends.rules
    (labels_under a last begun rest (extends.beginning ∙ node.beginning) rest_is))
ends_open a laws target first node circuit fit is last extends rest rest_is tried (Some place) none trial held =
    absurd (false≢true (sym none))

pub ends_free : (a : StateAlgebra) (target : Target) (first last : Standing) (tried : List Tried) (b : Bool) → b ≡ false
    → EndsTrial a target first last tried b → last.conflict ≡ None
ends_free a target first last tried b none ends =
    let P : Bool → Type 0 = λ x. EndsTrial a target first last tried x in (subst P none ends).free

-- what holds if there is a value, where there is one
pub if_there : {X P : Type 0} (found : Option X) → IfSome found (λ _. P) → is_some found ≡ true → P
if_there None holds there = absurd (false≢true there)
if_there (Some x) holds there = holds

-- what holds if there is none, where there is none
pub if_none : {X P : Type 0} (found : Option X) → IfNone found P → is_some found ≡ false → P
if_none None holds none = holds
if_none (Some x) holds none = absurd (false≢true (sym none))

-- a trial that fails by the first of some sources fails by those that are kept, which are these, if any are
pub fails_by_kept : (a : StateAlgebra) (target : Target) (old new : Standing) (tried read : List Tried) → tried ≡ read → (count : ℕ)
    → FailsAtNode a target old new (take count tried) → (closers : Option Closers) → IfSome closers (λ kept. kept_of kept ≡ take count read)
    → FailsByKept a target old new closers
fails_by_kept a target old new tried read same count fails None kept = record {
  failed = fails.failed;
  counted = fails.counted;
  closes = tt;
}
fails_by_kept a target old new tried read same count fails (Some closers) kept =
    let P : List Tried → Type 0 = λ list. ClosesBy a old.net old.rules target old.assumptions list in
    record {
      failed = fails.failed;
      counted = fails.counted;
      closes = subst P (ap (take count) same ∙ sym kept) fails.closes;
    }
