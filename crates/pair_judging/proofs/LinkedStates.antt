-- Sources whose states and those of the lines to which they are linked may be linked, one after another; and what that tells of a pair.
use Rattle.std.proofs.Common.{◌≡◌, ⊎_elim, ℕ, ◌+◌, ◌<◌, ◌≤◌, Bool, true, false, List, [], take, take_all, length, get_or, refl, sym, subst, ◌∙◌, arith}
use Rattle.std.specs.List.{Contains}
use Rattle.std.proofs.lemmas.List.{take_more}
use Rattle.std.proofs.lemmas.List.Elements.{Contains-push_cases}
use Rattle.pd_base.specs.Links.{LinkList, IsLink}
use Rattle.pd_base.specs.declared.ids.LineId.{LineId}
use Rattle.pd_base.specs.Pair.{Vectors}
use Rattle.netlist.specs.Circuit.{Circuit}
use Rattle.netlist.specs.Lawful.{IsCircuit}
use Rattle.netlist.specs.LinkedPairs.{AreLinksOf, KeepsLinks, IsSupported}
use Rattle.netlist.specs.Steadiness.{is_steady}
use Rattle.netlist.specs.Values.{bit_of, value}
use Rattle.path_laws.proofs.GateValues.{value_of_source}
use Rattle.state_sets.specs.FirstValues.{TellsFirst}
use Rattle.state_laws.proofs.Linked.{linked_source}
use Rattle.state_laws.proofs.PairStates.{line_may}
use Rattle.state_sets.specs.declared.state.State.{State}
use Rattle.state_sets.specs.StateAlgebra.{StateAlgebra, HasLaws}
use Rattle.pair_judging.specs.ConeStates.{state_in, IsReadFrom, HasLinkedStates}
use Rattle.pair_judging.specs.Judged.{LinksPass}
use Rattle.cones.proofs.Spreading.{no_line}

module _ (a : StateAlgebra) (links : LinkList) (states : List State) where
  pub pass_none : LinksPass a links [] states
  pass_none source line among link = absurd (omega (arith, among.1))

  pub pass_more : (sources : List LineId) (place : ℕ) → place < length sources → LinksPass a links (take place sources) states
      → ((line : ℕ) → IsLink links (get_or sources place no_line).0 line
      → a.link (state_in states (get_or sources place no_line).0) (state_in states line) ≡ true)
      → LinksPass a links (take (place + 1) sources) states
  pass_more sources place inside before own source line among link = ⊎_elim
      (λ (earlier : Contains (take place sources) (record { 0 = source })). before source line earlier link)
      (λ (this : get_or sources place no_line ≡ record { 0 = source }).
      let P : LineId → Type 0 = λ l. IsLink links l.0 line → a.link (state_in states l.0) (state_in states line) ≡ true in
      subst P this (own line) link)
      (Contains-push_cases (take place sources) (get_or sources place no_line) (record { 0 = source })
      (subst (λ ls. Contains ls (record { 0 = source })) (take_more sources place no_line inside) among))

  pub pass_all : (sources : List LineId) (place : ℕ) → length sources ≤ place → LinksPass a links (take place sources) states
      → LinksPass a links sources states
  pass_all sources place past pass = subst (λ ls. LinksPass a links ls states) (take_all place sources past) pass

-- two bits that can't but be one are one
stable : (x y : Bool) → ((x ≡ y → ⊥) → ⊥) → x ≡ y
stable true true never = refl
stable true false never = absurd (never (λ same. absurd cc))
stable false true never = absurd (never (λ same. absurd cc))
stable false false never = refl

-- A pair that is read from states that may be linked keeps the links, where the kind of states tells first values.
pub read_keeps_links : (a : StateAlgebra) → TellsFirst a → (c : Circuit) → IsCircuit c → HasLaws a → (links : LinkList) → AreLinksOf c links
    → (end : ℕ) (states : List State) (pair : Vectors) → IsReadFrom a c links end states pair → HasLinkedStates a c links end pair
    → KeepsLinks c links pair
read_keeps_links a tells c circuit laws links fit end states pair read linked source line link =
    let is_source = linked_source c links fit source line link in
    let inside : IsSupported c links end source → bit_of pair.second source ≡ value c pair.first line = λ supported.
    sym (value_of_source c pair.second source is_source)
    ∙ tells (is_steady c pair source) (value c pair.first source) (value c pair.second source)
    (is_steady c pair line) (value c pair.first line) (value c pair.second line) (line_may a laws c circuit pair line)
    (linked source line supported link) in
    stable (bit_of pair.second source) (value c pair.first line)
    (λ differ. differ (read.second_linked source line is_source (λ supported. differ (inside supported)) link))
