-- The states in which a source may be linked to a line with some states, as a set; and the line to which a list links a source.
use Rattle.std.proofs.Common.{◌≡◌, ◌≢◌, ℕ, suc, ◌<◌, ◌≤◌, ◌^◌, ◌==◌, ◌&&◌, ⊎_elim, Bool, true, false, [], ◌∷◌, slice_index_or, Option, Some, None, refl, sym, ap, ◌∙◌, subst, arith}
use Rattle.std.specs.Bool.{Decides}
use Rattle.std.specs.List.{All}
use Rattle.std.specs.Int.{bit_at}
use Rattle.std.proofs.lemmas.Bool.{cases_Bool, cases_lt, cases_eq, eqb-true, eq-eqb, false≢true}
use Rattle.std.proofs.lemmas.List.{get_or_default}
use Rattle.std.proofs.lemmas.Bool.Decides.{Decides-and, Decides-eqb}
use Rattle.std.proofs.lemmas.List.Elements.{All-cons, All-contains}
use Rattle.std.proofs.lemmas.Option.{same_Some}
use Rattle.pd_base.specs.Links.{LinkList, IsLink}
use Rattle.pd_base.specs.declared.ids.LineId.{LineId}
use Rattle.netlist.specs.Circuit.{Circuit}
use Rattle.netlist.specs.LinkedPairs.{AreLinksOf}
use Rattle.state_sets.specs.declared.state.State.{State}
use Rattle.state_sets.specs.declared.state.StateSet.{StateSet}
use Rattle.state_sets.specs.States.{Has}
use Rattle.state_sets.specs.StateAlgebra.{StateAlgebra, HasLaws}
use Rattle.state_laws.proofs.Images.{state_of, any_below, any_decides, gathered, gathers, gathered_within}

module _ (a : StateAlgebra) (line_set : StateSet) where
  -- a state of a source in which it may be linked to the line in this one
  abbrev LinksTo : ℕ → ℕ → Type 0
  LinksTo n k = (bit_at line_set.0 k ≡ 1) × (a.link (state_of n) (state_of k) ≡ true)

  abbrev may_link : ℕ → Bool
  may_link n = (bit_at a.sources.0 n == 1) && any_below a.count (λ k. (bit_at line_set.0 k == 1) && a.link (state_of n) (state_of k))

  links_is : (n : ℕ) → Decides (may_link n) ((bit_at a.sources.0 n ≡ 1) × ((k : ℕ) × (k < a.count) × LinksTo n k))
  links_is n =
      Decides-and (bit_at a.sources.0 n == 1) (any_below a.count (λ k. (bit_at line_set.0 k == 1) && a.link (state_of n) (state_of k)))
      (Decides-eqb (bit_at a.sources.0 n) 1)
      (any_decides (LinksTo n) (λ k. (bit_at line_set.0 k == 1) && a.link (state_of n) (state_of k))
      (λ k. Decides-and (bit_at line_set.0 k == 1) (a.link (state_of n) (state_of k)) (Decides-eqb (bit_at line_set.0 k) 1)
      ((λ e. e), (λ e. e))) a.count)

  -- the states of a source in which it may be linked to a line in one of these states
  abbrev pub linked_set : StateSet
  linked_set = record { 0 = gathered a.count may_link }

  -- such a state, with that of the line
  pub record IsLinked (state : State) : Type 0 where
    pub source : Has a.count a.sources state
    pub other : State
    pub has : Has a.count line_set other
    pub link : a.link state other ≡ true

  pub linked_has : (state : State) → Has a.count linked_set state → IsLinked state
  linked_has state has =
      let found = (links_is state.0).0 ((gathers may_link a.count state.0).0 has.bit).1 in record {
        source = record { in_range = has.in_range; bit = found.0 };
        other = state_of found.1.0;
        has = record { in_range = found.1.1; bit = found.1.2.0 };
        link = found.1.2.1;
      }

  pub has_linked : (state : State) → IsLinked state → Has a.count linked_set state
  has_linked state is = record {
    in_range = is.source.in_range;
    bit = (gathers may_link a.count state.0).1
        (is.source.in_range, (links_is state.0).1 (is.source.bit, (is.other.0, is.has.in_range, (is.has.bit, is.link))));
  }

  pub linked_within : linked_set.0 < 2 ^ a.count
  linked_within = gathered_within may_link a.count

  -- to each state of the line some of them may be linked
  pub some_linked : HasLaws a → (other : State) → Has a.count line_set other
      → (state : State) × Has a.count linked_set state × (a.link state other ≡ true)
  some_linked laws other has =
      let bit = laws.some_linked other has.in_range in
      let state = a.of true bit.0 bit.0 in (
        state,
        has_linked state (record {
          source = source_steady bit.0;
          other = other;
          has = has;
          link = bit.1;
        }),
        bit.1,
      )
    where
      source_steady : (bit : Bool) → Has a.count a.sources (a.of true bit bit)
      source_steady true = laws.of_source true true
      source_steady false = laws.of_source false false

-- a line, if the source is the one that is looked for
abbrev here_or : Bool → ℕ → Option ℕ → Option ℕ
here_or true line rest = Some line
here_or false line rest = rest

-- the line to which this list links a source, the first one
abbrev pub line_of : LinkList → ℕ → Option ℕ
line_of [] source = None
line_of (link ∷ links) source = here_or (link.0.0 == source) link.1.0 (line_of links source)

behind_first : (link : LineId × LineId) (links : LinkList) (source line : ℕ) → IsLink links source line → IsLink (link ∷ links) source line
behind_first link links source line is = (suc is.0, omega (arith, is.1), is.2)

-- what is found is a link
pub found_is_link : (links : LinkList) (source line : ℕ) → line_of links source ≡ Some line → IsLink links source line
found_is_link [] source line e = absurd cc
found_is_link (link ∷ links) source line e = ⊎_elim
    (λ (same : (link.0.0 == source) ≡ true).
    let here : link.1.0 ≡ line = same_Some link.1.0 line
    (subst (λ b. here_or b link.1.0 (line_of links source) ≡ Some line) same e) in
    let at : link.0.0 ≡ source = eqb-true link.0.0 source same in
    subst (λ (s : ℕ). IsLink (link ∷ links) s line) at (subst (λ (l : ℕ). IsLink (link ∷ links) link.0.0 l) here (0, omega arith, refl)))
    (λ (not : (link.0.0 == source) ≡ false).
    behind_first link links source line
    (found_is_link links source line (subst (λ b. here_or b link.1.0 (line_of links source) ≡ Some line) not e)))
    (cases_Bool (link.0.0 == source))

-- where none is found, no link is of this source
none_of_source : (links : LinkList) (source : ℕ) → line_of links source ≡ None → All (λ (link : LineId × LineId). link.0.0 ≢ source) links
none_of_source [] source e = λ i d in_none. absurd (omega (arith, in_none))
none_of_source (link ∷ links) source e = ⊎_elim
    (λ (same : (link.0.0 == source) ≡ true).
    absurd (let none : Some link.1.0 ≡ None = subst (λ b. here_or b link.1.0 (line_of links source) ≡ None) same e in cc))
    (λ (not : (link.0.0 == source) ≡ false).
    All-cons (λ (l : LineId × LineId). l.0.0 ≢ source) link links
    (λ is. false≢true (sym not ∙ eq_tells is))
    (none_of_source links source (subst (λ b. here_or b link.1.0 (line_of links source) ≡ None) not e)))
    (cases_Bool (link.0.0 == source))
  where
    eq_tells : link.0.0 ≡ source → (link.0.0 == source) ≡ true
    eq_tells is = eq-eqb link.0.0 source is

pub none_found : (links : LinkList) (source : ℕ) → line_of links source ≡ None → (line : ℕ) → ¬ IsLink links source line
none_found links source e line link =
    All-contains (λ (l : LineId × LineId). l.0.0 ≢ source) links (record { 0 = source }, record { 0 = line }) (none_of_source links source e) link refl

module _ (c : Circuit) (links : LinkList) (of : AreLinksOf c links) (source : ℕ) where
  abbrev link_to : ℕ → LineId × LineId
  link_to line = (record { 0 = source }, record { 0 = line })

  -- the link of a later place is not of the source of an earlier one
  not_before : (line other : ℕ) (first : IsLink links source line) (second : IsLink links source other) → first.0 < second.0 → ⊥
  not_before line other first second before =
      of.once first.0 second.0 (link_to line) before second.1
      (ap (λ (l : LineId × LineId). l.0) first.2
      ∙ sym (ap (λ (l : LineId × LineId). l.0)
      (get_or_default links second.0 (link_to line) (link_to other) second.1 ∙ second.2)))

  -- a source has one link
  pub linked_once : (line other : ℕ) → IsLink links source line → IsLink links source other → line ≡ other
  linked_once line other first second = ⊎_elim
      (λ (same : first.0 ≡ second.0).
      ap (λ (l : LineId × LineId). l.1.0)
      (sym first.2 ∙ ap (λ (k : ℕ). slice_index_or links k (link_to line)) same
      ∙ get_or_default links second.0 (link_to line) (link_to other) second.1 ∙ second.2))
      (λ (differ : first.0 ≡ second.0 → ⊥). ⊎_elim
      (λ (before : first.0 < second.0). absurd (not_before line other first second before))
      (λ (after : second.0 ≤ first.0). absurd (not_before other line second first (omega (arith, after, differ))))
      (cases_lt first.0 second.0))
      (cases_eq first.0 second.0)
