-- The pair of vectors that takes the least states of labels at the sources, as far as the rules allow: each source has the first bit of
-- its least state, and the last bit too, but where it is linked; there it has the value that its line has under the first vector. So it is
-- always a pair of the rules, and it takes the least states wherever states that may be linked stand there, and so where any pair of the
-- rules takes them.
use Rattle.std.proofs.Common.{◌≡◌, ◌≢◌, ◌⊎◌, ⊎_elim, inl, inr, ℕ, zero, suc, ◌<◌, ◌≤◌, ◌^◌, Bool, true, false, not, cond, Option, Some, None, List, [], map, refl, sym, ap, ap₂, subst, ◌∙◌, arith}
use Rattle.std.specs.Int.{bit_at}
use Rattle.std.specs.List.{range_with_len}
use Rattle.std.proofs.lemmas.Bool.{cases_eq}
use Rattle.std.proofs.lemmas.List.FromFn.{get_or-map-range_with_len}
use Rattle.pd_base.specs.Links.{LinkList, IsLink, links_of}
use Rattle.pd_base.specs.Pair.{Vectors}
use Rattle.pd_base.specs.Route.{Route}
use Rattle.pd_base.specs.Target.{Target}
use Rattle.pd_base.specs.declared.rules.Rules.{Rules}
use Rattle.pd_base.specs.declared.rules.Rules.TheVariants.{One, Two, Linked}
use Rattle.netlist.specs.Circuit.{Circuit, kind_at, line_count, pins_at, source_count}
use Rattle.netlist.specs.Lawful.{IsCircuit}
use Rattle.netlist.specs.LinkedPairs.{AreLinksOf, FitRules, IsOfRules, IsSupported}
use Rattle.netlist.specs.Paths.{end_of}
use Rattle.netlist.specs.Steadiness.{is_steady}
use Rattle.netlist.specs.Values.{bit_of, value}
use Rattle.netlist.proofs.Evaluation.{line_induction, map_agree}
use Rattle.path_laws.proofs.GateValues.{value_of_source}
use Rattle.state_sets.specs.declared.state.State.{State}
use Rattle.state_sets.specs.declared.state.StateSet.{StateSet}
use Rattle.state_sets.specs.FirstValues.{TellsFirst}
use Rattle.state_sets.specs.Hulls.{HasNoEmptySet}
use Rattle.state_sets.specs.Labellings.{label_at}
use Rattle.state_sets.specs.LineStates.{state_under}
use Rattle.state_sets.specs.Narrowing.{gate_state}
use Rattle.state_sets.specs.StateAlgebra.{StateAlgebra, same_bit}
use Rattle.state_sets.specs.Starts.{IsLeast}
use Rattle.state_sets.specs.States.{Has, no_states}
use Rattle.state_sets.proofs.SixFirst.{six_tells_first}
use Rattle.state_laws.specs.declared.split.Half.{Half}
use Rattle.state_laws.specs.Nodes.{IsNodeHull}
use Rattle.state_laws.proofs.Linked.{linked_line, linked_source, none_linked}
use Rattle.state_laws.proofs.LinkedSets.{found_is_link, line_of, linked_once, none_found}
use Rattle.state_laws.proofs.Pairs.{pair_linked}
use Rattle.state_laws.proofs.PairStates.{gate_state_under, line_may}
use Rattle.state_laws.proofs.Sets.{label_within, no_state_left}
use Rattle.state_laws.proofs.SourceStates.{source_state, state_read_off}
use Rattle.state_laws.proofs.Supports.{linked_supported, pin_supported}
use Rattle.trees.specs.Algebras.{algebra_of}
use Rattle.trees.specs.Spent.{IsInSupport}
use Rattle.trees.specs.Tried.{TakesLeast, TakesLeastOfRules}
use Rattle.trees.proofs.Refuting.{laws_of}
use Rattle.trees.proofs.Trials.{least_is_one}

module _ (count : ℕ) where
  -- the least state of a set among the first ones, or none of these is in the set
  pub least_below : (set : StateSet) (n : ℕ) → n ≤ count
      → ((state : State) × IsLeast count set state) ⊎ ((other : State) → Has count set other → n ≤ other.0)
  least_below set zero within = inr (λ other has. omega arith)
  least_below set (suc n) within =
      ⊎_elim (λ found. inl found)
      (λ none. ⊎_elim
      (λ yes. inl (record { 0 = n }, record { has = record { in_range = omega arith; bit = yes }; least = none }))
      (λ absent. inr (λ other has. above other has none absent))
      (cases_eq (bit_at set.0 n) 1))
      (least_below set n (omega arith))
    where
      above : (other : State) → Has count set other → ((o : State) → Has count set o → n ≤ o.0) → (bit_at set.0 n ≡ 1 → ⊥) → suc n ≤ other.0
      above other has none absent =
          ⊎_elim (λ (same : other.0 ≡ n). absurd (absent (ap (bit_at set.0) (sym same) ∙ has.bit)))
          (λ (differs : other.0 ≡ n → ⊥). let past = none other has in omega arith)
          (cases_eq other.0 n)

-- the state that was found, or the first one
pub found_state : {P : State → Type 0} {Q : Type 0} → (((state : State) × P state) ⊎ Q) → State
found_state (inl found) = found.0
found_state (inr none) = record { 0 = 0 }

-- all states are looked at
pub all_of_them : (count : ℕ) → count ≤ count
all_of_them count = omega arith

-- the least state of a set that has one
abbrev pub least_of : ℕ → StateSet → State
least_of count set = found_state (least_below count set count (all_of_them count))

is_least : (count : ℕ) (set : StateSet) → set.0 < 2 ^ count → set ≢ no_states → IsLeast count set (least_of count set)
unfolding found_state
is_least count set within some = by (least_below count set count (all_of_them count))
  where
    by : (which : ((state : State) × IsLeast count set state) ⊎ ((other : State) → Has count set other → count ≤ other.0))
        → IsLeast count set (found_state which)
    by (inl found) = found.1
    by (inr none) =
        absurd (some (no_state_left count set within
        (λ state has. let past = none state has in let below = has.in_range in omega arith)))

-- the bit of a source before the transition, in this state
abbrev pub bit_before : StateAlgebra → State → Bool
bit_before a state = cond (a.steady state) (a.last state) (not (a.last state))

-- the bit of a source after it: its own, or, where it is linked, the value of its line
abbrev pub bit_after : (ℕ → Bool) → Bool → Option ℕ → Bool
bit_after at own None = own
bit_after at own (Some line) = at line

module _ (a : StateAlgebra) (c : Circuit) (links : LinkList) (labels : List StateSet) where
  abbrev pub least_at : ℕ → State
  least_at source = least_of a.count (label_at labels source)

  abbrev pub first_bits : List Bool
  first_bits = map (λ (source : ℕ). bit_before a (least_at source)) (range_with_len 0 (source_count c))

  -- the pair that takes the least states as far as these links allow
  abbrev pub least_pair : Vectors
  least_pair = record {
    first = first_bits;
    second = map (λ (source : ℕ). bit_after (value c first_bits) (a.last (least_at source)) (line_of links source))
        (range_with_len 0 (source_count c));
  }

  module _ (source : ℕ) (within : source < source_count c) where
    least_first : bit_of least_pair.first source ≡ bit_before a (least_at source)
    least_first =
        get_or-map-range_with_len (λ (s : ℕ). bit_before a (least_at s)) 0 (source_count c) source source false within (omega arith)

    least_second : bit_of least_pair.second source
        ≡ bit_after (value c first_bits) (a.last (least_at source)) (line_of links source)
    least_second =
        get_or-map-range_with_len (λ (s : ℕ). bit_after (value c first_bits) (a.last (least_at s)) (line_of links s)) 0 (source_count c)
        source source false within (omega arith)

  -- it keeps the links
  pub least_keeps_links : AreLinksOf c links → (source line : ℕ) → IsLink links source line
      → bit_of least_pair.second source ≡ value c least_pair.first line
  least_keeps_links fit source line link = by (line_of links source) refl
    where
      by : (found : Option ℕ) → line_of links source ≡ found → bit_of least_pair.second source ≡ value c least_pair.first line
      by None none = absurd (none_found links source none line link)
      by (Some other) is =
          least_second source (linked_source c links fit source line link)
          ∙ ap (bit_after (value c first_bits) (a.last (least_at source))) is
          ∙ ap (value c first_bits) (linked_once c links fit source other line (found_is_link links source other is) link)

-- kinds of states under links tell first values
pub tells_if_linked : (rules : Rules) (source line : ℕ) → IsLink (links_of rules) source line → TellsFirst (algebra_of rules)
tells_if_linked One source line link = absurd (none_linked source line link)
tells_if_linked Two source line link = absurd (none_linked source line link)
tells_if_linked (Linked links) source line link = six_tells_first

module _ (c : Circuit) (rules : Rules) (hull : List StateSet) where
  -- the pair that takes the least states of a hull at all sources, whatever the links
  abbrev pub unlinked_pair : Vectors
  unlinked_pair = least_pair (algebra_of rules) c [] hull

  -- and the one that does so as far as the rules allow
  abbrev pub pair_of_rules : Vectors
  pair_of_rules = least_pair (algebra_of rules) c (links_of rules) hull

  pub is_of_rules : FitRules c rules → IsOfRules c rules pair_of_rules
  is_of_rules fit = least_keeps_links (algebra_of rules) c (links_of rules) hull fit

-- pairs that have the same states at the sources of the support have the same ones at all of its lines
module _ (c : Circuit) (circuit : IsCircuit c) (rules : Rules) (path : Route) (x y : Vectors)
    (same : (source : ℕ) → IsInSupport c rules path source → state_under (algebra_of rules) c x source ≡ state_under (algebra_of rules) c y source) where
  abbrev IsSame : ℕ → Type 0
  IsSame line = IsSupported c (links_of rules) (end_of c path) line
      → state_under (algebra_of rules) c x line ≡ state_under (algebra_of rules) c y line

  same_in_support : (line : ℕ) → line < line_count c → IsSame line
  same_in_support =
      line_induction c circuit.reads_lines IsSame
      (λ source within supported. same source (record { is_source = within; supported = supported }))
      (λ gate within pins supported.
      gate_state_under (algebra_of rules) (laws_of rules) c circuit x gate within
      ∙ ap (gate_state (algebra_of rules) (kind_at c gate))
      (map_agree (λ pin. state_under (algebra_of rules) c x pin.0) (λ pin. state_under (algebra_of rules) c y pin.0) (pins_at c gate)
      (λ k d inside. pins k d inside (pin_supported c (links_of rules) (end_of c path) gate within supported k d inside)))
      ∙ sym (gate_state_under (algebra_of rules) (laws_of rules) c circuit y gate within))
      circuit.loop_free

module _ (c : Circuit) (rules : Rules) (target : Target) (halves : List Half) (hull : List StateSet)
    (is_hull : IsNodeHull (algebra_of rules) c rules target halves hull) (none_empty : HasNoEmptySet c hull) where
  abbrev a : StateAlgebra
  a = algebra_of rules

  -- as they are called here
  abbrev free : Vectors
  free = unlinked_pair c rules hull

  abbrev bound : Vectors
  bound = pair_of_rules c rules hull

  module _ (source : ℕ) (within : source < source_count c) where
    least_here : IsLeast a.count (label_at hull source) (least_at a c [] hull source)
    least_here =
        is_least a.count (label_at hull source) (label_within a.count c hull is_hull.rest.labelling source)
        (none_empty source (omega (arith, within)))

    pub unlinked_state : state_under a c free source ≡ least_at a c [] hull source
    unlinked_state =
        state_read_off a (laws_of rules) c free source within (least_at a c [] hull source)
        ((is_hull.rest.among source _ least_here.has).start.is_source within)
        (least_first a c [] hull source within) (least_second a c [] hull source within)

  pub unlinked_takes : TakesLeast c rules target.path hull free
  unlinked_takes source support =
      subst (IsLeast a.count (label_at hull source)) (sym (unlinked_state source support.is_source)) (least_here source support.is_source)

  -- where the states of linked sources of the support may be linked to those of their lines, the pair of the rules takes the least states
  -- there too
  module _ (circuit : IsCircuit c) (linked : (source line : ℕ) → IsSupported c (links_of rules) (end_of c target.path) source → IsLink (links_of rules) source line
      → a.link (state_under a c free source) (state_under a c free line) ≡ true) where
    same_second : (source : ℕ) → IsInSupport c rules target.path source
        → bit_of bound.second source ≡ bit_of free.second source
    same_second source support =
        least_second a c (links_of rules) hull source support.is_source
        ∙ by (line_of (links_of rules) source) refl
      where
        by : (found : Option ℕ) → line_of (links_of rules) source ≡ found
            → bit_after (value c (first_bits a c (links_of rules) hull)) (a.last (least_at a c [] hull source)) (line_of (links_of rules) source)
            ≡ bit_of free.second source
        by None none =
            ap (bit_after (value c free.first) (a.last (least_at a c [] hull source))) none
            ∙ sym (least_second a c [] hull source support.is_source)
        by (Some line) is =
            let link = found_is_link (links_of rules) source line is in
            ap (bit_after (value c free.first) (a.last (least_at a c [] hull source))) is
            ∙ sym (tells_if_linked rules source line link (is_steady c free source) (value c free.first source)
            (value c free.second source) (is_steady c free line) (value c free.first line)
            (value c free.second line) (line_may a (laws_of rules) c circuit free line)
            (linked source line support.supported link))
            ∙ value_of_source c free.second source support.is_source

    same_state : (source : ℕ) → IsInSupport c rules target.path source
        → state_under a c bound source ≡ state_under a c free source
    same_state source support =
        source_state a (laws_of rules) c bound source support.is_source
        ∙ ap (λ second. a.of (same_bit (bit_of free.first source) second) (bit_of free.first source) second)
        (same_second source support)
        ∙ sym (source_state a (laws_of rules) c free source support.is_source)

    pub of_rules_takes : TakesLeast c rules target.path hull bound
    of_rules_takes source support =
        subst (IsLeast a.count (label_at hull source)) (sym (same_state source support)) (unlinked_takes source support)

  -- it takes them where any pair of the rules does
  module _ (circuit : IsCircuit c) (fit : FitRules c rules) (other : Vectors) (of : IsOfRules c rules other)
      (other_takes : TakesLeast c rules target.path hull other) where
    as_other : (source : ℕ) → IsInSupport c rules target.path source → state_under a c other source ≡ state_under a c free source
    as_other source support =
        least_is_one a.count (label_at hull source) (state_under a c other source) (state_under a c free source) (other_takes source support)
        (unlinked_takes source support)

    may_be_linked : (source line : ℕ) → IsSupported c (links_of rules) (end_of c target.path) source → IsLink (links_of rules) source line
        → a.link (state_under a c free source) (state_under a c free line) ≡ true
    may_be_linked source line supported link =
        let at_source = as_other source (record { is_source = linked_source c (links_of rules) fit source line link; supported = supported }) in
        let at_line = same_in_support c circuit rules target.path other free as_other line (linked_line c (links_of rules) fit source line link)
        (linked_supported c (links_of rules) (end_of c target.path) source line supported link) in
        sym (ap₂ a.link at_source at_line)
        ∙ (pair_linked a (laws_of rules) c circuit other target.kind (links_of rules) fit of source line link).2

    takes_as_other : TakesLeast c rules target.path hull bound
    takes_as_other = of_rules_takes circuit may_be_linked

  pub takes_least_of_rules : IsCircuit c → FitRules c rules → TakesLeastOfRules c rules target.path hull bound
  takes_least_of_rules circuit fit = record {
    of_rules = is_of_rules c rules hull fit;
    takes = takes_as_other circuit fit;
  }
