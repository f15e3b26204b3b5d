-- States and bits that are written at sources one after another, and the pair that is read off states.
use Rattle.std.proofs.Common.{◌≡◌, ◌≢◌, ℕ, ◌+◌, ◌<◌, ◌≤◌, ⊎_elim, Bool, false, List, [], ◌∷◌, ◌++◌, take, take_all, length, get_or, set, replicate, get_or-set_same, get_or-set_other, refl, sym, ap, subst, ◌∙◌, arith}
use Rattle.std.specs.Int.{bit_at}
use Rattle.std.specs.List.{Contains}
use Rattle.std.proofs.lemmas.Bool.{cases_eq, cases_lt, false≢true}
use Rattle.std.proofs.lemmas.List.{take_more, length-set, length-replicate, get_or-replicate}
use Rattle.std.proofs.lemmas.List.Elements.{Contains-append_left, Contains-push, Contains-push_cases}
use Rattle.pd_base.specs.Pair.{Vectors}
use Rattle.pd_base.specs.declared.ids.LineId.{LineId}
use Rattle.netlist.specs.Circuit.{Circuit, source_count}
use Rattle.netlist.specs.Values.{value}
use Rattle.state_sets.specs.declared.state.State.{State}
use Rattle.state_sets.specs.declared.state.StateSet.{StateSet}
use Rattle.state_sets.specs.States.{Has}
use Rattle.state_sets.specs.StateAlgebra.{StateAlgebra, HasLaws}
use Rattle.state_sets.specs.Starts.{IsLeast}
use Rattle.state_laws.proofs.SourceStates.{state_read_off}
use Rattle.pair_judging.specs.ConeStates.{state_in, IsReadFrom, IsLinkedFrom}
use Rattle.pair_judging.specs.LeastStates.{IsTakenOf}
use Rattle.pair_judging.specs.SourceBits.{first_bit, HasBitsAt, HasStateBits, AreLinkBits}
use Rattle.cones.specs.FoundLines.{HasMark}
use Rattle.cones.specs.KeptCones.{KeptCone, IsConeAt}
use Rattle.cones.proofs.Spreading.{no_line}

-- no state
abbrev pub no_state : State
no_state = record { 0 = 0 }

-- where one bit is 1 and another is not, they are two
pub apart : (n k j : ℕ) → bit_at n k ≡ 1 → bit_at n j ≢ 1 → k ≢ j
apart n k j is not same = not (ap (bit_at n) (sym same) ∙ is)

-- the least state of a set that has some is the one that is taken of it
pub least_is_taken : (count : ℕ) (set : StateSet) (least taken : State) → IsLeast count set least → IsTakenOf count set taken → least ≡ taken
least_is_taken count set least taken is of =
    let few = is.has.in_range in
    let same : least.0 ≡ taken.0 =
    ⊎_elim (λ (lower : least.0 < taken.0). absurd (of.none_below least lower is.has))
    (λ (upper : taken.0 ≤ least.0). ⊎_elim
    (λ (above : taken.0 < least.0). let back = is.least taken (of.among (omega (arith, above, few))) in absurd (omega (arith, back, above)))
    (λ (lower : least.0 ≤ taken.0). omega (arith, upper, lower))
    (cases_lt taken.0 least.0))
    (cases_lt least.0 taken.0) in
    ap (λ n. record { 0 = n }) same

module _ {A : Type 0} (nothing : A) (Due : ℕ → A → Type 0) where
  -- each of these sources has something that is due there
  abbrev pub AreDue : List LineId → List A → Type 0
  AreDue sources has = (source : ℕ) → Contains sources (record { 0 = source }) → Due source (get_or has source nothing)

  pub due_none : (has : List A) → AreDue [] has
  due_none has source among = absurd (omega (arith, among.1))

  -- one source more
  pub due_more : (sources : List LineId) (place : ℕ) (has : List A) (x : A) → place < length sources
      → (get_or sources place no_line).0 < length has → Due (get_or sources place no_line).0 x → AreDue (take place sources) has
      → AreDue (take (place + 1) sources) (set has (get_or sources place no_line).0 x)
  due_more sources place has x inside within is due source among =
      let next = get_or sources place no_line in
      let here : source ≡ next.0 → Due source (get_or (set has next.0 x) source nothing) =
      λ same.
      let P : ℕ → Type 0 = λ n. Due n (get_or (set has next.0 x) n nothing) in
      subst P (sym same) (subst (Due next.0) (sym (get_or-set_same has next.0 x nothing within)) is) in
      ⊎_elim here
      (λ (away : source ≢ next.0). ⊎_elim
      (λ (before : Contains (take place sources) (record { 0 = source })).
      subst (Due source) (sym (get_or-set_other has next.0 source x nothing away)) (due source before))
      (λ (this : next ≡ record { 0 = source }). absurd (away (ap (λ (l : LineId). l.0) (sym this))))
      (Contains-push_cases (take place sources) next (record { 0 = source })
      (subst (λ ls. Contains ls (record { 0 = source })) (take_more sources place no_line inside) among)))
      (cases_eq source next.0)

  pub due_all : (sources : List LineId) (place : ℕ) (has : List A) → length sources ≤ place → AreDue (take place sources) has
      → AreDue sources has
  due_all sources place has past due = subst (λ ls. AreDue ls has) (take_all place sources past) due

-- The bits that are due at the sources before a place are written, and no others.
pub bits_none : (due : ℕ → Bool) (sources : List LineId) (bits : List Bool) → HasBitsAt due (take 0 sources) bits bits
bits_none due sources bits = record {
  places = refl;
  here = due_none false (λ source bit. bit ≡ due source) bits;
  elsewhere = λ source outside. refl;
}

-- one source more
pub bits_more : (due : ℕ → Bool) (sources : List LineId) (place : ℕ) (old now : List Bool) → place < length sources
    → (get_or sources place no_line).0 < length old → HasBitsAt due (take place sources) old now
    → HasBitsAt due (take (place + 1) sources) old (set now (get_or sources place no_line).0 (due (get_or sources place no_line).0))
bits_more due sources place old now inside within are =
    let next = get_or sources place no_line in
    let front = take place sources in
    let whole = take_more sources place no_line inside in
    record {
      places = length-set now next.0 (due next.0) ∙ are.places;
      here =
          due_more false (λ source bit. bit ≡ due source) sources place now (due next.0) inside (omega (arith, within, are.places)) refl are.here;
      elsewhere = λ source outside.
          let Has : List LineId → Type 0 = λ ls. Contains ls (record { 0 = source }) in
          get_or-set_other now next.0 source (due next.0) false
          (λ (same : source ≡ next.0).
          let P : ℕ → Type 0 = λ n. Contains (front ++ next ∷ []) (record { 0 = n }) in
          outside (subst Has (sym whole) (subst P (sym same) (Contains-push front next))))
          ∙ are.elsewhere source
          (λ before. outside (subst Has (sym whole) (Contains-append_left front (next ∷ []) (record { 0 = source }) before)));
    }

pub bits_all : (due : ℕ → Bool) (sources : List LineId) (place : ℕ) (old now : List Bool) → length sources ≤ place
    → HasBitsAt due (take place sources) old now → HasBitsAt due sources old now
bits_all due sources place old now past are = subst (λ ls. HasBitsAt due ls old now) (take_all place sources past) are

-- The pair with the bits of the states at these sources, and at the others none and those of links, is read from the states where they are
-- those of a cone.
pub read_is : (a : StateAlgebra) → HasLaws a → (c : Circuit) (states : List State) (cone : KeptCone) (pair : Vectors) (bits : List Bool)
    → ((source : ℕ) → Contains cone.sources (record { 0 = source }) → Has a.count a.sources (state_in states source))
    → HasBitsAt (λ source. first_bit a (state_in states source)) cone.sources (replicate (source_count c) false) pair.first
    → HasBitsAt (λ source. a.last (state_in states source)) cone.sources (replicate (source_count c) false) bits
    → length pair.second ≡ length bits
    → AreLinkBits (value c pair.first) cone.links (λ source. Contains cone.found.lines (record { 0 = source })) bits pair.second
    → (end : ℕ) → IsConeAt c end cone → IsReadFrom a c cone.links end states pair
read_is a laws c states cone pair bits below first second fits linked end is = record {
  first_fits = first.places ∙ length-replicate (source_count c) false;
  second_fits = fits ∙ second.places ∙ length-replicate (source_count c) false;
  has = λ source within supported.
      let there = (is.sources.exactly source).1 (within, supported) in
      state_read_off a laws c pair source within (state_in states source) (below source there) (first.here source there)
      (linked.kept source ((is.lines source).1 supported) ∙ second.here source there);
  first_zero = λ source within outside.
      first.elsewhere source (λ there. outside ((is.sources.exactly source).0 there).1) ∙ get_or-replicate (source_count c) source false false within;
  second_linked = λ source line within outside link. linked.linked source line (λ there. outside ((is.lines source).0 there)) link;
  second_zero = λ source within outside none.
      linked.free source none ∙ second.elsewhere source (λ there. outside ((is.sources.exactly source).0 there).1)
      ∙ get_or-replicate (source_count c) source false false within;
}

-- The pair with the bits of the states at these sources, and at the others none, where each linked source has the bit of its link: it keeps
-- the links, and has the bits of the states, where the sources are those of a cone.
pub read_linked_is : (a : StateAlgebra) (c : Circuit) (states : List State) (cone : KeptCone) (pair : Vectors) (bits : List Bool)
    → HasBitsAt (λ source. first_bit a (state_in states source)) cone.sources (replicate (source_count c) false) pair.first
    → HasBitsAt (λ source. a.last (state_in states source)) cone.sources (replicate (source_count c) false) bits
    → length pair.second ≡ length bits
    → AreLinkBits (value c pair.first) cone.links (HasMark []) bits pair.second
    → (end : ℕ) → IsConeAt c end cone → IsLinkedFrom c cone.links end pair × HasStateBits a c cone.links end states pair
read_linked_is a c states cone pair bits first second fits linked end is = (
  record {
    first_fits = first.places ∙ length-replicate (source_count c) false;
    second_fits = fits ∙ second.places ∙ length-replicate (source_count c) false;
    keeps = λ source line link. linked.linked source line (λ marked. false≢true marked) link;
    first_zero = λ source within outside.
        first.elsewhere source (λ there. outside ((is.sources.exactly source).0 there).1) ∙ get_or-replicate (source_count c) source false false within;
    second_zero = λ source within outside none.
        linked.free source none ∙ second.elsewhere source (λ there. outside ((is.sources.exactly source).0 there).1)
        ∙ get_or-replicate (source_count c) source false false within;
  },
  record {
    first = λ source within supported. first.here source ((is.sources.exactly source).1 (within, supported));
    last = λ source within supported none.
        linked.free source none ∙ second.here source ((is.sources.exactly source).1 (within, supported));
  },
)
