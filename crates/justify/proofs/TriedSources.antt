-- Sources that are tried in the states of a desk: they are such as a trial assumes; and a pair that is read off these states is a test
-- where it meets the conditions.
use Rattle.std.proofs.Common.{◌≡◌, ◌≢◌, ℕ, ◌+◌, ◌<◌, ◌≤◌, ◌^◌, ⊎_elim, Bool, Option, Some, None, List, [], ◌∷◌, ◌++◌, length, take, get_or, refl, sym}
use Rattle.std.proofs.Common.{ap, ◌∙◌, subst, arith}
use Rattle.std.specs.Prelude.{IfSome}
use Rattle.std.specs.List.{All, Contains}
use Rattle.std.proofs.lemmas.List.{take_more}
use Rattle.std.proofs.lemmas.Bool.{cases_lt}
use Rattle.std.proofs.lemmas.List.Elements.{All-contains, All-push, Contains-get_or, Contains-push, Contains-push_cases, Contains-append_left}
use Rattle.pd_base.specs.Links.{LinkList, links_of}
use Rattle.pd_base.specs.Pair.{Vectors}
use Rattle.pd_base.specs.Route.{Route}
use Rattle.pd_base.specs.Target.{Target}
use Rattle.pd_base.specs.declared.ids.LineId.{LineId}
use Rattle.pd_base.specs.declared.rules.Rules.{Rules}
use Rattle.pd_base.specs.declared.rules.Rules.TheVariants.{One, Two, Linked}
use Rattle.netlist.specs.Circuit.{Circuit, source_count, line_count}
use Rattle.netlist.specs.Conditions.{Meets}
use Rattle.netlist.specs.Lawful.{IsCircuit}
use Rattle.netlist.specs.Paths.{IsPrefix, end_of}
use Rattle.netlist.specs.LinkedPairs.{AreLinksOf, FitRules, IsOfRules, IsSupported}
use Rattle.path_laws.proofs.StepCounts.{line_after_in_circuit}
use Rattle.state_sets.specs.declared.state.State.{State}
use Rattle.state_sets.specs.declared.state.StateSet.{StateSet}
use Rattle.state_sets.specs.StateAlgebra.{StateAlgebra}
use Rattle.state_sets.specs.SixLaws.{six_laws}
use Rattle.state_sets.specs.States.{Has, no_states}
use Rattle.state_sets.proofs.SixFirst.{six_tells_first}
use Rattle.state_sets.specs.Labellings.{label_at}
use Rattle.state_sets.specs.Hulls.{IsNarrowingOf}
use Rattle.state_laws.proofs.Hulls.{emptied_if_empty}
use Rattle.state_laws.proofs.Images.{has_some}
use Rattle.state_laws.proofs.Linked.{none_linked}
use Rattle.state_laws.proofs.Supports.{supported_in_circuit}
use Rattle.trees.specs.Algebras.{algebra_of}
use Rattle.trees.specs.Spent.{IsInSupport}
use Rattle.implication.specs.Assumptions.{entered_pins, MayUnder}
use Rattle.implication.proofs.ScopeLabels.{labels_under, open_under}
use Rattle.implication.specs.Standing.{Standing, IsLabels, IsTold, TellsLabels}
use Rattle.justify.specs.declared.trial.Tried.{Tried}
use Rattle.search_hints.specs.Blamed.{AreBlamed}
use Rattle.pair_judging.specs.ConeStates.{state_in, AreStates, AreSourceStates, HasSourceStates, HasSupportStates, HasLinkedStates, IsReadFrom, IsLinkedFrom}
use Rattle.pair_judging.specs.Judges.{KeptJudge, IsJudgeOf}
use Rattle.justify.specs.declared.desk.Desk.{Desk}
use Rattle.justify.specs.Desks.{IsDesk, IsSameDesk, AreInSupport}
use Rattle.search_hints.specs.Drafts.{Prepared, IsJustifierOf}
use Rattle.cones.specs.FoundLines.{HasMark}
use Rattle.cones.specs.KeptCones.{KeptCone, IsConeFor, IsConeAt}
use Rattle.pair_judging.proofs.LinkedStates.{read_keeps_links}
use Rattle.pair_judging.specs.LeastStates.{IsTakenOf}
use Rattle.implication.specs.NodeScopes.{beginning_of, StandsAtNode}
use Rattle.pair_judging.specs.Taken.{AreLeast}
use Rattle.justify.specs.Tests.{IsFitTest}
use Rattle.justify.proofs.Resting.{label_is}
use Rattle.justify.specs.Scoping.{IsToldInSupport, TellsSupport}
use Rattle.justify.specs.Trying.{CanTry, HasLeastLabel, IsTriedIn, AreTriedIn, HasLeast, GivesTest}

-- the sources of the cone are those of the support
pub cone_in_support : (c : Circuit) (rules : Rules) (path : Route) (cone : KeptCone) → cone.links ≡ links_of rules
    → IsConeAt c (end_of c path) cone → AreInSupport c rules path cone.sources
cone_in_support c rules path cone linked at k d inside =
    let source = (get_or cone.sources k d).0 in
    let found = (at.sources.exactly source).0 (Contains-get_or cone.sources k d inside) in
    let P : LinkList → Type 0 = λ links. IsSupported c links (end_of c path) source in
    record { is_source = found.0; supported = subst P linked found.1 }

-- and the other way round
pub support_in_cone : (c : Circuit) (rules : Rules) (path : Route) (cone : KeptCone) → cone.links ≡ links_of rules
    → IsConeAt c (end_of c path) cone → (source : ℕ) → IsInSupport c rules path source → Contains cone.sources (record { 0 = source })
support_in_cone c rules path cone linked at source support =
    let P : LinkList → Type 0 = λ links. IsSupported c links (end_of c path) source in
    (at.sources.exactly source).1 (support.is_source, subst P (sym linked) support.supported)

-- so are they as they are read
pub read_in_support : (a : StateAlgebra) (c : Circuit) (rules : Rules) (path : Route) (desk : Desk) → IsDesk a c rules path desk
    → (sources : List LineId) → sources ≡ desk.cone.sources → AreInSupport c rules path sources
read_in_support a c rules path desk is sources same =
    let P : List LineId → Type 0 = λ xs. AreInSupport c rules path xs in
    subst P (sym same) (cone_in_support c rules path desk.cone is.made.links is.cone)

-- sources of the support are lines
pub support_within : (c : Circuit) (rules : Rules) (path : Route) (sources : List LineId) (n : ℕ) → n ≡ line_count c
    → AreInSupport c rules path sources → All (λ source. source.0 < n) sources
support_within c rules path sources n is support k d inside = let within = (support k d inside).is_source in omega (arith, within, is)

-- and so are those of the cone, as they are read
pub read_within : (a : StateAlgebra) (c : Circuit) (rules : Rules) (path : Route) (desk : Desk) → IsDesk a c rules path desk
    → (sources : List LineId) → sources ≡ desk.cone.sources → (n : ℕ) → n ≡ line_count c → All (λ source. source.0 < n) sources
read_within a c rules path desk is sources same n long =
    support_within c rules path sources n long (read_in_support a c rules path desk is sources same)

-- the sources to blame are of the support, where the lines of the failure are
pub blamed_in_support : (c : Circuit) (rules : Rules) (path : Route) (links : LinkList) → links ≡ links_of rules
    → (line : LineId) (side : Option LineId) (sources : List LineId)
    → AreBlamed c line side sources → IsSupported c links (end_of c path) line.0
    → IfSome side (λ other. IsSupported c links (end_of c path) other.0) → AreInSupport c rules path sources
blamed_in_support c rules path links linked line side sources blamed at_line at_side k d inside =
    let P : LinkList → Type 0 = λ ls. IsSupported c ls (end_of c path) (get_or sources k d).0 in
    record {
      is_source = blamed.are_sources k d inside;
      supported = subst P linked (blamed.supported links (end_of c path) at_line at_side k d inside);
    }

-- a line in the support of the path's end is one of the circuit
pub in_cone_within : (c : Circuit) → IsCircuit c → (links : LinkList) → AreLinksOf c links → (path : Route) → IsPrefix c path
    → (line : ℕ) → IsSupported c links (end_of c path) line → line < line_count c
in_cone_within c circuit links fit path is line supported =
    let within = is.source in
    supported_in_circuit c links (end_of c path) circuit.reads_lines fit
    (line_after_in_circuit c circuit path.source.0 path.steps (omega (arith, within)) is.connects) line supported

-- what was tried of sources of the support, in states that are the least of their labels
pub all_tried : (a : StateAlgebra) (target : Target) (standing : Standing) (sources : List LineId) (states : List State) (tried : List Tried)
    → AreTriedIn standing sources states tried → AreInSupport standing.net standing.rules target.path sources → HasLeast a target standing states
    → AreStates a.count states → length states ≡ line_count standing.net → All (CanTry a target standing) tried
all_tried a target standing sources states tried are support least four long k d inside =
    let entry = get_or tried k d in
    let each = are.each k d inside in
    let P : LineId → Type 0 = λ source. IsInSupport standing.net standing.rules target.path source.0 in
    let at = each.among in
    let here : IsInSupport standing.net standing.rules target.path entry.source.0 = subst P at.2 (support at.0 entry.source at.1) in
    let source : IsToldInSupport target standing entry.source.0 = record { in_support = here; told = each.told } in
    let within = here.is_source in
    let Q : State → Type 0 = λ state. state.0 < a.count in
    record {
      source = source;
      in_range = subst Q (sym each.state) (four entry.source.0 (record { 0 = 0 }) (omega (arith, within, long)));
      least = λ labels is.
          let T : State → Type 0 = λ state. IsTakenOf a.count (label_at labels entry.source.0) state in
          subst T (sym each.state) (least entry.source.0 source labels is);
    }

-- so are sources that still have these as their least states
pub tried_again : (a : StateAlgebra) (target : Target) (standing : Standing) (marks : List Bool) (tried : Tried)
    → ((line : ℕ) → HasMark marks line → IsSupported standing.net (links_of standing.rules) (end_of standing.net target.path) line)
    → HasLeastLabel a standing marks tried → CanTry a target standing tried
tried_again a target standing marks tried marked has = record {
  source = record {
    in_support = record { is_source = has.is_source; supported = marked tried.source.0 has.marked };
    told = has.told;
  };
  in_range = has.in_range;
  least = has.least;
}

-- the list of what is tried, as it grows
module _ (standing : Standing) (sources : List LineId) (states : List State) where
  pub tried_more : (place : ℕ) (d : LineId) (tried more : List Tried) → place < length sources
      → IsTold standing (get_or sources place d).0 → AreTriedIn standing (take place sources) states tried
      → more ≡ tried ++ (record { source = get_or sources place d; state = state_in states (get_or sources place d).0 }) ∷ []
      → AreTriedIn standing (take (place + 1) sources) states more
  tried_more place d tried more inside told before is =
      let source = get_or sources place d in
      let entry : Tried = record { source = source; state = state_in states source.0 } in
      let front = take place sources in
      let P : List LineId → Type 0 = λ xs. AreTriedIn standing xs states (tried ++ entry ∷ []) in
      let Q : List Tried → Type 0 = λ xs. AreTriedIn standing (take (place + 1) sources) states xs in
      let Each : List LineId → Tried → Type 0 = λ xs e. IsTriedIn standing xs states e in
      subst Q (sym is) (subst P (sym (take_more sources place d inside)) (record {
        each = All-push (Each (front ++ source ∷ [])) tried entry
            (λ k e within.
            let each = before.each k e within in
            record {
              among = Contains-append_left front (source ∷ []) (get_or tried k e).source each.among;
              told = each.told;
              state = each.state;
            })
            (record { among = Contains-push front source; told = told; state = refl });
        whole = λ other has is_told. ⊎_elim
            (λ (earlier : Contains front other). Contains-append_left tried (entry ∷ []) _ (before.whole other earlier is_told))
            (λ (same : source ≡ other).
            let R : LineId → Type 0 = λ l. Contains (tried ++ entry ∷ []) (record { source = l; state = state_in states l.0 }) in
            subst R same (Contains-push tried entry))
            (Contains-push_cases front source other has);
      }))

  -- and where a source is passed over that is not told
  pub tried_as_before : (place : ℕ) (d : LineId) (tried : List Tried) → place < length sources
      → ¬ IsTold standing (get_or sources place d).0 → AreTriedIn standing (take place sources) states tried
      → AreTriedIn standing (take (place + 1) sources) states tried
  tried_as_before place d tried inside untold before =
      let source = get_or sources place d in
      let front = take place sources in
      let P : List LineId → Type 0 = λ xs. AreTriedIn standing xs states tried in
      subst P (sym (take_more sources place d inside)) (record {
        each = λ k e within.
            let each = before.each k e within in
            record {
              among = Contains-append_left front (source ∷ []) (get_or tried k e).source each.among;
              told = each.told;
              state = each.state;
            };
        whole = λ other has is_told. ⊎_elim
            (λ (earlier : Contains front other). before.whole other earlier is_told)
            (λ (same : source ≡ other). let R : LineId → Type 0 = λ l. IsTold standing l.0 in absurd (untold (subst R (sym same) is_told)))
            (Contains-push_cases front source other has);
      })

-- a pair that is read off states is one of the rules, where the states along links of the support may be linked
own_of_rules : (c : Circuit) → IsCircuit c → (rules : Rules) → FitRules c rules → (end : ℕ) (states : List State) (pair : Vectors)
    → IsReadFrom (algebra_of rules) c (links_of rules) end states pair → HasLinkedStates (algebra_of rules) c (links_of rules) end pair
    → IsOfRules c rules pair
own_of_rules c circuit One fit end states pair read linked = λ source line link. absurd (none_linked source line link)
own_of_rules c circuit Two fit end states pair read linked = λ source line link. absurd (none_linked source line link)
own_of_rules c circuit (Linked links) fit end states pair read linked =
    read_keeps_links (algebra_of (Linked links)) six_tells_first c circuit six_laws (links_of (Linked links)) fit end states pair read linked

read_of_rules : (a : StateAlgebra) (c : Circuit) → IsCircuit c → (rules : Rules) → a ≡ algebra_of rules → FitRules c rules
    → (end : ℕ) (states : List State) (pair : Vectors)
    → IsReadFrom a c (links_of rules) end states pair → HasLinkedStates a c (links_of rules) end pair → IsOfRules c rules pair
read_of_rules a c circuit rules same fit end states pair =
    let P : StateAlgebra → Type 0 = λ x. IsReadFrom x c (links_of rules) end states pair → HasLinkedStates x c (links_of rules) end pair
    → IsOfRules c rules pair in
    subst P (sym same) (own_of_rules c circuit rules fit end states pair)

-- a pair that is read off the states of the cone's sources, keeps the links there and meets the conditions is a test
pub read_fits : (a : StateAlgebra) (c : Circuit) → IsCircuit c → (rules : Rules) → a ≡ algebra_of rules → FitRules c rules
    → (target : Target) (states : List State) (pair : Vectors) → IsReadFrom a c (links_of rules) (end_of c target.path) states pair
    → HasLinkedStates a c (links_of rules) (end_of c target.path) pair → Meets c target pair → IsFitTest c rules target pair
read_fits a c circuit rules same fit target states pair read linked meets = record {
  first_fits = read.first_fits;
  second_fits = read.second_fits;
  of_rules = read_of_rules a c circuit rules same fit (end_of c target.path) states pair read linked;
  meets = meets;
  zero_outside = λ source within outside. record {
    first = read.first_zero source within (λ supported. outside (record { is_source = within; supported = supported }));
    second = read.second_zero source within (λ supported. outside (record { is_source = within; supported = supported }));
  };
}

-- and where all sources of the cone were tried without a conflict, it is one
pub tried_fits : (a : StateAlgebra) (target : Target) (standing : Standing) (desk : Desk)
    → IsDesk a standing.net standing.rules target.path desk → TellsSupport target standing
    → (sources : List LineId) → sources ≡ desk.cone.sources
    → (states : List State) (tried : List Tried) (pair : Vectors) → AreTriedIn standing sources states tried
    → IsReadFrom a standing.net (links_of standing.rules) (end_of standing.net target.path) states pair
    → GivesTest a standing.net standing.rules target tried → IsFitTest standing.net standing.rules target pair
tried_fits a target standing desk is tells sources same states tried pair are read gives =
    let c = standing.net in let rules = standing.rules in
    let P : List LineId → Type 0 = λ xs. AreTriedIn standing xs states tried in
    let given = gives pair (λ source support. record {
      entry = record { source = record { 0 = source }; state = state_in states source };
      among = (subst P same are).whole (record { 0 = source })
          (support_in_cone c rules target.path desk.cone is.made.links is.cone source support) (tells source support);
      here = refl;
      same = sym (read.has source support.is_source support.supported);
    }) in
    read_fits a c is.made.justifier.circuit rules is.made.of_rules is.made.fit target states pair read given.0 given.1

-- likewise of the other line of a failure
pub side_within : (c : Circuit) → IsCircuit c → (links : LinkList) → AreLinksOf c links → (path : Route) → IsPrefix c path
    → (side : Option LineId) → IfSome side (λ other. IsSupported c links (end_of c path) other.0) → IfSome side (λ other. other.0 < line_count c)
side_within c circuit links fit path is None supported = tt
side_within c circuit links fit path is (Some other) supported = in_cone_within c circuit links fit path is other.0 supported

-- what is read at the sources of the cone
pub read_at : (a : StateAlgebra) (n c : Circuit) → n ≡ c → (rules : Rules) (path : Route) (desk : Desk) → IsDesk a c rules path desk
    → (read states : List State) → read ≡ states → (pair : Vectors)
    → ((end : ℕ) → IsConeAt n end desk.cone → IsReadFrom a n desk.cone.links end read pair)
    → IsReadFrom a c (links_of rules) (end_of c path) states pair
read_at a n c same rules path desk is read states same_states pair reads =
    let P : Circuit → Type 0 = λ m. (end : ℕ) → IsConeAt m end desk.cone → IsReadFrom a m desk.cone.links end read pair in
    let Q : List State → Type 0 = λ xs. IsReadFrom a c (links_of rules) (end_of c path) xs pair in
    let R : LinkList → Type 0 = λ links. IsReadFrom a c links (end_of c path) read pair in
    subst Q same_states (subst R is.made.links (subst P same reads (end_of c path) is.cone))

-- the sources of the cone are sources
pub sources_within : (a : StateAlgebra) (n c : Circuit) → n ≡ c → (rules : Rules) (path : Route) (desk : Desk) → IsDesk a c rules path desk
    → All (λ source. source.0 < source_count n) desk.cone.sources
sources_within a n c same rules path desk is =
    let P : Circuit → Type 0 = λ m. All (λ source. source.0 < source_count m) desk.cone.sources in
    subst P (sym same) (λ k d inside. (cone_in_support c rules path desk.cone is.made.links is.cone k d inside).is_source)

-- a pair that is judged a test is one
pub judged_fits : (a : StateAlgebra) (n c : Circuit) → n ≡ c → (rules : Rules) (target : Target) (desk : Desk)
    → IsDesk a c rules target.path desk → (states : List State) (pair : Vectors)
    → IsReadFrom a c (links_of rules) (end_of c target.path) states pair
    → ((other : Vectors) → HasSourceStates a n desk.cone.links (end_of n target.path) states other
    → HasSupportStates a n desk.cone.links (end_of n target.path) states other
    × HasLinkedStates a n desk.cone.links (end_of n target.path) other × Meets n target other)
    → IsFitTest c rules target pair
judged_fits a n c same rules target desk is states pair read judged =
    let P : Circuit → LinkList → Type 0 = λ m links. (other : Vectors) → HasSourceStates a m links (end_of m target.path) states other
    → HasSupportStates a m links (end_of m target.path) states other
    × HasLinkedStates a m links (end_of m target.path) other × Meets m target other in
    let Q : Circuit → Type 0 = λ m. P m desk.cone.links in
    let given = subst (P c) is.made.links (subst Q same judged) pair read.has in
    read_fits a c is.made.justifier.circuit rules is.made.of_rules is.made.fit target states pair read given.1 given.2

-- a desk with other states
pub desk_again : (a : StateAlgebra) (c : Circuit) (rules : Rules) (path : Route) (desk after : Desk) (states : List State)
    → IsDesk a c rules path desk → after.cone ≡ desk.cone → after.judge ≡ desk.judge
    → after.blame.room ≡ desk.blame.room → length after.liked.items ≡ length desk.liked.items → after.states.items ≡ states
    → AreStates a.count states → length states ≡ length desk.states.items → IsJustifierOf c after.justifier → IsDesk a c rules path after
desk_again a c rules path desk after states is cone judge room liked same within long justifier =
    let P : KeptCone → Type 0 = λ k. IsConeFor c k in
    let Q : KeptCone → Type 0 = λ k. IsConeAt c (end_of c path) k in
    let R : List State → Type 0 = λ xs. AreStates a.count xs in
    record {
      made = record {
        of_rules = is.made.of_rules;
        fit = is.made.fit;
        cone = subst P (sym cone) is.made.cone;
        links = ap (λ (k : KeptCone). k.links) cone ∙ is.made.links;
        states = ap length same ∙ long ∙ is.made.states;
        within = subst R (sym same) within;
        blame = room ∙ is.made.blame;
        liked = liked ∙ is.made.liked;
        justifier = justifier;
        judge = subst (IsJudgeOf 4 c) (sym judge) is.made.judge;
      };
      cone = subst Q (sym cone) is.cone;
    }

-- a desk whose justifier was asked for a proposal
pub desk_asked : (a : StateAlgebra) (n c : Circuit) → n ≡ c → (rules : Rules) (path : Route) (desk : Desk) → IsDesk a c rules path desk
    → (justifier : Prepared) → IsJustifierOf n justifier → IsDesk a c rules path (record desk { justifier = justifier })
desk_asked a n c same rules path desk is justifier asked =
    let P : Circuit → Type 0 = λ m. IsJustifierOf m justifier in
    desk_again a c rules path desk (record desk { justifier = justifier }) desk.states.items is refl refl refl refl refl is.made.within refl
    (subst P same asked)

-- where all sources of the cone are told, so are those of the support; and the other way round
pub cone_tells_support : (a : StateAlgebra) (target : Target) (standing : Standing) (desk : Desk)
    → IsDesk a standing.net standing.rules target.path desk → (sources : List LineId) → sources ≡ desk.cone.sources
    → All (λ (source : LineId). IsTold standing source.0) sources → TellsSupport target standing
cone_tells_support a target standing desk is sources same told source support =
    let Told : LineId → Type 0 = λ l. IsTold standing l.0 in
    let P : List LineId → Type 0 = λ xs. All Told xs in
    All-contains Told desk.cone.sources (record { 0 = source }) (subst P same told)
    (support_in_cone standing.net standing.rules target.path desk.cone is.made.links is.cone source support)

pub support_tells_cone : (a : StateAlgebra) (target : Target) (standing : Standing) (desk : Desk)
    → IsDesk a standing.net standing.rules target.path desk → (sources : List LineId) → sources ≡ desk.cone.sources
    → TellsSupport target standing → All (λ (source : LineId). IsTold standing source.0) sources
support_tells_cone a target standing desk is sources same tells k d inside =
    tells (get_or sources k d).0 (read_in_support a standing.net standing.rules target.path desk is sources same k d inside)

-- what was taken of the labels are the least states
pub taken_least : (a : StateAlgebra) (target : Target) (standing : Standing) → StandsAtNode a target standing
    → (desk : Desk) → IsDesk a standing.net standing.rules target.path desk → (sources : List LineId) → sources ≡ desk.cone.sources
    → (answers : List StateSet)
    → (labels : List StateSet) × IsLabels a standing labels × TellsLabels a.count standing labels answers
    → (states : List State) → AreLeast a.count sources answers states → HasLeast a target standing states
taken_least a target standing node desk is sources same answers tells states taken source told labels labelled =
    let P : List LineId → Type 0 = λ xs. Contains xs (record { 0 = source }) in
    let there = subst P (sym same)
    (support_in_cone standing.net standing.rules target.path desk.cone is.made.links is.cone source told.in_support) in
    let within = told.in_support.is_source in
    let line : source < line_count standing.net = omega (arith, within) in
    let T : StateSet → Type 0 = λ set. IsTakenOf a.count set (state_in states source) in
    subst T (label_is a standing (beginning_of target) node.beginning source (label_at answers source) told.told (tells.0, tells.1, tells.2 source line) labels labelled) (taken source there)

-- the state that is taken of a set with some states is in it
taken_has : (count : ℕ) (set : StateSet) (state : State) → IsTakenOf count set state → set.0 < 2 ^ count → set ≢ no_states
    → Has count set state
taken_has count set state taken within some =
    let found = has_some count set within some in
    let few = taken.in_range in
    ⊎_elim (λ (early : state.0 + 1 < count). taken.among early)
    (λ (last : count ≤ state.0 + 1).
    let inside = found.1.in_range in
    ⊎_elim (λ (lower : found.0.0 < state.0). absurd (taken.none_below found.0 lower found.1))
    (λ (upper : state.0 ≤ found.0.0).
    let same : found.0.0 ≡ state.0 = omega (arith, few, last, inside, upper) in
    let P : State → Type 0 = λ s. Has count set s in
    subst P (ap (λ n. record { 0 = n }) same) found.1)
    (cases_lt found.0.0 state.0))
    (cases_lt (state.0 + 1) count)

-- the least states of the sources of the support are such as sources may be in, where all are told
pub least_of_sources : (a : StateAlgebra) (target : Target) (standing : Standing) → StandsAtNode a target standing → TellsSupport target standing
    → (desk : Desk) → IsDesk a standing.net standing.rules target.path desk
    → (labels : List StateSet) → IsLabels a standing labels
    → (states : List State) → HasLeast a target standing states → AreSourceStates a desk.cone.sources states
least_of_sources a target standing node tells desk is labels labelled states least source among =
    let begun = beginning_of target in
    let P : LineId → Type 0 = λ l. IsInSupport standing.net standing.rules target.path l.0 in
    let support = All-contains P desk.cone.sources (record { 0 = source })
    (cone_in_support standing.net standing.rules target.path desk.cone is.made.links is.cone) among in
    let within = support.is_source in
    let under = labels_under a standing begun labels node.beginning labelled in
    let none_empty : label_at labels source ≢ no_states = λ empty.
    open_under a standing begun node.beginning node.left_open (record {
      line = source;
      in_circuit = omega (arith, within);
      emptied = emptied_if_empty a standing.net (IsNarrowingOf standing.net (links_of standing.rules) begun.kind (entered_pins standing.assumptions))
          (MayUnder a standing.net standing.rules begun standing.assumptions) labels under source empty;
    }) in
    let small = under.rest.labelling.within source no_states (omega (arith, within, under.rest.labelling.one_each)) in
    let has = taken_has a.count (label_at labels source) (state_in states source)
    (least source (record { in_support = support; told = tells source support }) labels labelled) small none_empty in
    (under.rest.among source (state_in states source) has).start.is_source within

-- and they stay so where the states of sources are kept
pub kept_least : (a : StateAlgebra) (target : Target) (standing : Standing) (first later : List State)
    → ((source : ℕ) → source < source_count standing.net → state_in later source ≡ state_in first source)
    → HasLeast a target standing first → HasLeast a target standing later
kept_least a target standing first later kept least source told labels is =
    let T : State → Type 0 = λ state. IsTakenOf a.count (label_at labels source) state in
    subst T (sym (kept source told.in_support.is_source)) (least source told labels is)

-- so do states that sources may be in
pub kept_sources : (a : StateAlgebra) (c : Circuit) (rules : Rules) (path : Route) (desk : Desk) → IsDesk a c rules path desk
    → (first later : List State) → ((source : ℕ) → source < source_count c → state_in later source ≡ state_in first source)
    → AreSourceStates a desk.cone.sources first → AreSourceStates a desk.cone.sources later
kept_sources a c rules path desk is first later kept are source among =
    let P : LineId → Type 0 = λ l. l.0 < source_count c in
    let within = All-contains P desk.cone.sources (record { 0 = source }) (sources_within a c c refl rules path desk is) among in
    let T : State → Type 0 = λ state. Has a.count a.sources state in
    subst T (sym (kept source within)) (are source among)

-- a desk whose judge kept other states
pub desk_judged : (a : StateAlgebra) (n c : Circuit) → n ≡ c → (rules : Rules) (path : Route) (desk : Desk) → IsDesk a c rules path desk
    → (judge : KeptJudge) → IsJudgeOf 4 n judge → IsDesk a c rules path (record desk { judge = judge })
desk_judged a n c same rules path desk is judge judged =
    let P : Circuit → Type 0 = λ m. IsJudgeOf 4 m judge in
    record {
      made = record {
        of_rules = is.made.of_rules;
        fit = is.made.fit;
        cone = is.made.cone;
        links = is.made.links;
        states = is.made.states;
        within = is.made.within;
        blame = is.made.blame;
        liked = is.made.liked;
        justifier = is.made.justifier;
        judge = subst P same judged;
      };
      cone = is.cone;
    }

-- a pair that keeps the links of the desk's cone and meets the conditions is a test
pub linked_fits : (a : StateAlgebra) (n c : Circuit) → n ≡ c → (rules : Rules) (target : Target) (desk : Desk)
    → IsDesk a c rules target.path desk → (pair : Vectors)
    → ((end : ℕ) → IsConeAt n end desk.cone → IsLinkedFrom n desk.cone.links end pair) → Meets n target pair → IsFitTest c rules target pair
linked_fits a n c same rules target desk is pair reads meets =
    let P : Circuit → Type 0 = λ m. (end : ℕ) → IsConeAt m end desk.cone → IsLinkedFrom m desk.cone.links end pair in
    let Q : Circuit → Type 0 = λ m. Meets m target pair in
    let R : LinkList → Type 0 = λ links. IsLinkedFrom c links (end_of c target.path) pair in
    let linked : IsLinkedFrom c (links_of rules) (end_of c target.path) pair =
    subst R is.made.links (subst P same reads (end_of c target.path) is.cone) in
    record {
      first_fits = linked.first_fits;
      second_fits = linked.second_fits;
      of_rules = linked.keeps;
      meets = subst Q same meets;
      zero_outside = λ source within outside. record {
        first = linked.first_zero source within (λ supported. outside (record { is_source = within; supported = supported }));
        second = linked.second_zero source within (λ supported. outside (record { is_source = within; supported = supported }));
      };
    }

-- a desk that is the same but for what is liked
pub kept_desk : (a : StateAlgebra) (c : Circuit) (rules : Rules) (path : Route) (old new : Desk) → IsSameDesk old new
    → IsDesk a c rules path old → IsDesk a c rules path new
kept_desk a c rules path old new same is =
    let P : Prepared → Type 0 = λ j. IsJustifierOf c j in
    desk_again a c rules path old new old.states.items is same.cone same.judge same.blame same.liked same.states is.made.within refl
    (subst P (sym same.justifier) is.made.justifier)
