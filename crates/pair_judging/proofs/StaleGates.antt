-- The value of one line changes, and the gates that read it become stale: all others still make the values that stand at their lines.
use Rattle.std.proofs.Common.{◌≡◌, ◌≢◌, ⊎_elim, ℕ, zero, suc, ◌+◌, ◌-◌, ◌<◌, ◌≤◌, Bool, true, false, not, List, [], Some, take, take_all, drop, length, get_or, set, get_or-set_same, get_or-set_other, refl, sym, ap, subst, ◌∙◌, arith}
use Rattle.std.specs.Bool.{beq}
use Rattle.std.specs.List.{AllWithin, Contains}
use Rattle.std.proofs.lemmas.Bool.{cases_eq, false≢true}
use Rattle.std.proofs.lemmas.List.{length-set, length-take, length-drop, get_or-take, get_or-drop, take_more}
use Rattle.std.proofs.lemmas.List.Elements.{Contains-push_cases}
use Rattle.std.proofs.lemmas.Option.{slice_get-get_or}
use Rattle.pd_base.specs.declared.ids.PinRef.{PinRef}
use Rattle.netlist.specs.Circuit.{Circuit, source_count, gate_count, gate_line, kind_at, pins_at}
use Rattle.netlist.specs.Lawful.{IsCircuit}
use Rattle.netlist.specs.Pins.{IsFanout}
use Rattle.netlist.specs.Values.{gate_value}
use Rattle.netlist.proofs.Evaluation.{map_agree}
use Rattle.logic_values.specs.Known.{bit_at}
use Rattle.logic_values.proofs.RankPass.{HasValues, one_more}
use Rattle.pair_judging.specs.RankedGates.{RankedGates, gate_ranked}
use Rattle.pair_judging.specs.LineValues.{value_made, AreFresh, AreLineValues, MakesReadersStale}

-- a bit that is not 1 is 0
zero_bit : (bit : Bool) → (bit ≡ true → ⊥) → bit ≡ false
zero_bit true not_one = absurd (not_one refl)
zero_bit false not_one = refl

-- two bits that do not differ are one
pub equal_bits : (a b : Bool) → not (beq a b) ≡ false → a ≡ b
equal_bits true true same = refl
equal_bits true false same = absurd (false≢true (sym same))
equal_bits false true same = absurd (false≢true (sym same))
equal_bits false false same = refl

-- the gates of a run without a mark are fresh
pub run_fresh : (stale : List Bool) (from run : ℕ) → from + run ≤ length stale
    → AllWithin (λ mark. beq mark true ≡ false) (take (from + run - from) (drop from stale)) 0 (length (take (from + run - from) (drop from stale)))
    → AreFresh stale from (from + run)
run_fresh stale from run within none place behind below =
    let k = place - from in
    let inside : k < length (take (from + run - from) (drop from stale)) =
    omega (arith, length-take (from + run - from) (drop from stale), length-drop from stale, within, behind, below) in
    ap (bit_at stale) (omega (arith, behind))
    ∙ sym (get_or-drop from stale k false)
    ∙ sym (get_or-take (from + run - from) (drop from stale) k false (omega (arith, behind, below)))
    ∙ not_one _ (none k false (omega arith) inside)
  where
    not_one : (bit : Bool) → beq bit true ≡ false → bit ≡ false
    not_one true is = absurd (false≢true (sym is))
    not_one false is = refl

-- Of these pins the gates are stale, and so are those that were.
pub record AddsGates (places : List ℕ) (pins : List PinRef) (old new : List Bool) : Type 0 where
  pub marks : length new ≡ length old
  pub readers : (pin : PinRef) → Contains pins pin → bit_at new (get_or places pin.gate.0 0) ≡ true
  pub stale : (place : ℕ) → bit_at old place ≡ true → bit_at new place ≡ true

-- before the first pin nothing is stale but what was
pub adds_none : (places : List ℕ) (old : List Bool) → AddsGates places [] old old
adds_none places old = record {
  marks = refl;
  readers = λ pin among. absurd (omega (arith, among.1));
  stale = λ gate was. was;
}

module _ (places : List ℕ) (pins : List PinRef) (place : ℕ) (inside : place < length pins) (old new : List Bool)
    (adds : AddsGates places (take place pins) old new) where
  -- what is read where there is no pin
  abbrev no_pin : PinRef
  no_pin = record { gate = record { 0 = 0 }; pin = 0 }

  -- the next pin, and the place of its gate
  abbrev next : PinRef
  next = get_or pins place no_pin

  abbrev here : ℕ
  here = get_or places next.gate.0 0

  -- one gate more
  pub adds_more : here < length new → AddsGates places (take (place + 1) pins) old (set new here true)
  adds_more within = record {
    marks = length-set new here true ∙ adds.marks;
    readers = λ pin among. ⊎_elim
        (λ before. still (get_or places pin.gate.0 0) (adds.readers pin before))
        (λ this. ap (bit_at (set new here true)) (sym (ap (λ (p : PinRef). get_or places p.gate.0 0) this))
        ∙ get_or-set_same new here true false within)
        (Contains-push_cases (take place pins) next pin (subst (λ ps. Contains ps pin) (take_more pins place no_pin inside) among));
    stale = λ other was. still other (adds.stale other was);
  }
    where
      still : (other : ℕ) → bit_at new other ≡ true → bit_at (set new here true) other ≡ true
      still other was = ⊎_elim
          (λ same. ap (bit_at (set new here true)) same ∙ get_or-set_same new here true false within)
          (λ differs. get_or-set_other new here other true false differs ∙ was)
          (cases_eq other here)

-- after the last pin of a fan-out the gates that read the line are added
pub adds_all : (c : Circuit) (places : List ℕ) (line : ℕ) (pins : List PinRef) → IsFanout c line pins → (place : ℕ) → length pins ≤ place
    → (old new : List Bool) → AddsGates places (take place pins) old new → MakesReadersStale c places line old new
adds_all c places line pins fanout place last old new adds = record {
  marks = adds.marks;
  readers = λ pin reads. adds.readers pin (subst (λ ps. Contains ps pin) (sym (take_all place pins last)) (fanout.whole pin reads));
  stale = adds.stale;
}

module _ (c : Circuit) (gates : RankedGates) (values stale : List Bool)
    (kept : AreLineValues c (record { values = values; gates = gates; stale = stale })) where
  gate_inside : (place : ℕ) → place < length gates.order → gate_ranked gates place < gate_count c
  gate_inside place within = kept.ranked.ordered.in_circuit place (record { 0 = 0 }) within

  module _ (line : ℕ) (value : Bool) (old new : List Bool) (adds : MakesReadersStale c gates.places line old new) where
    -- a gate that is not stale now was not stale before
    fresh_before : (place : ℕ) → bit_at new place ≡ false → bit_at old place ≡ false
    fresh_before place fresh = zero_bit (bit_at old place) (λ was. false≢true (sym fresh ∙ adds.stale place was))

    -- and does not read the line, so that it makes the same
    same_made : (place : ℕ) → place < length gates.order → bit_at new place ≡ false
        → value_made c (set values line value) (gate_ranked gates place) ≡ value_made c values (gate_ranked gates place)
    same_made place within fresh =
        ap (gate_value (kind_at c (gate_ranked gates place)))
        (map_agree (λ pin. bit_at (set values line value) pin.0) (λ pin. bit_at values pin.0) (pins_at c (gate_ranked gates place))
        (λ pin d inside. get_or-set_other values line (get_or (pins_at c (gate_ranked gates place)) pin d).0 value false (other pin d inside)))
      where
        other : (pin : ℕ) → (d : _) → pin < length (pins_at c (gate_ranked gates place)) → (get_or (pins_at c (gate_ranked gates place)) pin d).0 ≢ line
        other pin d inside same =
            false≢true (sym fresh ∙ ap (bit_at new) (sym (kept.ranked.ranks.each place within))
            ∙ adds.readers (record { gate = record { 0 = gate_ranked gates place }; pin = pin }) (record {
              in_circuit = gate_inside place within;
              reads = slice_get-get_or (pins_at c (gate_ranked gates place)) pin d inside ∙ ap (λ (n : ℕ). Some (record { 0 = n })) same;
            }))

  -- the value of a source changes
  pub source_changed : (source : ℕ) → source < source_count c → (value : Bool) (new : List Bool) → MakesReadersStale c gates.places source stale new
      → AreLineValues c (record { values = set values source value; gates = gates; stale = new })
  source_changed source is value new adds = record {
    lines = length-set values source value ∙ kept.lines;
    ranked = kept.ranked;
    marks = adds.marks ∙ kept.marks;
    made = λ place within fresh.
        get_or-set_other values source (gate_line c (gate_ranked gates place)) value false (omega arith)
        ∙ kept.made place within (fresh_before source value stale new adds place fresh)
        ∙ sym (same_made source value stale new adds place within fresh);
  }

  -- gates of two places are two
  apart : (place other : ℕ) → place < length gates.order → other < length gates.order → other ≢ place → gate_ranked gates other ≢ gate_ranked gates place
  apart place other within below differs same =
      differs (sym (kept.ranked.ranks.each other below) ∙ ap (λ (n : ℕ). get_or gates.places n 0) same ∙ kept.ranked.ranks.each place within)

  module _ (place : ℕ) (within : place < length gates.order) (value : Bool) (is : value ≡ value_made c values (gate_ranked gates place)) where
    -- a gate is stale no longer whose line has the value that it makes
    pub gate_unchanged : bit_at values (gate_line c (gate_ranked gates place)) ≡ value
        → AreLineValues c (record { values = values; gates = gates; stale = set stale place false })
    gate_unchanged has = record {
      lines = kept.lines;
      ranked = kept.ranked;
      marks = length-set stale place false ∙ kept.marks;
      made = λ other below fresh. ⊎_elim
          (λ same. ap (λ n. bit_at values (gate_line c (gate_ranked gates n))) same ∙ has ∙ is ∙ ap (λ n. value_made c values (gate_ranked gates n)) (sym same))
          (λ differs. kept.made other below (sym (get_or-set_other stale place other false false differs) ∙ fresh))
          (cases_eq other place);
    }

    -- or gets it
    pub gate_changed : (new : List Bool) → MakesReadersStale c gates.places (gate_line c (gate_ranked gates place)) (set stale place false) new
        → AreLineValues c (record { values = set values (gate_line c (gate_ranked gates place)) value; gates = gates; stale = new })
    gate_changed new adds = record {
      lines = length-set values (gate_line c (gate_ranked gates place)) value ∙ kept.lines;
      ranked = kept.ranked;
      marks = adds.marks ∙ length-set stale place false ∙ kept.marks;
      made = λ other below fresh. at other below fresh
          ∙ sym (same_made (gate_line c (gate_ranked gates place)) value (set stale place false) new adds other below fresh);
    }
      where
        own : gate_line c (gate_ranked gates place) < length values
        own = omega (arith, kept.lines, gate_inside place within)

        at : (other : ℕ) → other < length gates.order → bit_at new other ≡ false
            → bit_at (set values (gate_line c (gate_ranked gates place)) value) (gate_line c (gate_ranked gates other)) ≡ value_made c values (gate_ranked gates other)
        at other below fresh = ⊎_elim
            (λ same. ap (λ n. bit_at (set values (gate_line c (gate_ranked gates place)) value) (gate_line c (gate_ranked gates n))) same
            ∙ get_or-set_same values (gate_line c (gate_ranked gates place)) value false own
            ∙ is ∙ ap (λ n. value_made c values (gate_ranked gates n)) (sym same))
            (λ differs. get_or-set_other values (gate_line c (gate_ranked gates place)) (gate_line c (gate_ranked gates other)) value false
            (λ same. apart place other within below differs (omega (arith, same)))
            ∙ kept.made other below (sym (get_or-set_other stale place other false false differs)
            ∙ fresh_before (gate_line c (gate_ranked gates place)) value (set stale place false) new adds other fresh))
            (cases_eq other place)

-- Over fresh gates the values go on: each gate's line has what the gate makes, so that these gates have theirs too.
pub fresh_have : (c : Circuit) → IsCircuit c → (base : ℕ → Bool) (gates : RankedGates) (values stale : List Bool)
    → AreLineValues c (record { values = values; gates = gates; stale = stale })
    → (from count to : ℕ) → from + count ≡ to → to ≤ length gates.order → AreFresh stale from to
    → HasValues c base (λ gate bits. gate_value (kind_at c gate) bits) (take from gates.order) (bit_at values)
    → HasValues c base (λ gate bits. gate_value (kind_at c gate) bits) (take to gates.order) (bit_at values)
fresh_have c circuit base gates values stale kept from zero to is within fresh has =
    subst (λ (n : ℕ). HasValues c base (λ gate bits. gate_value (kind_at c gate) bits) (take n gates.order) (bit_at values)) (omega (arith, is)) has
fresh_have c circuit base gates values stale kept from (suc count) to is within fresh has =
    let place = from + count in
    let inside : place < length gates.order = omega (arith, is, within) in
    let before = fresh_have c circuit base gates values stale kept from count place refl (omega (arith, inside))
    (λ other behind below. fresh other behind (omega (arith, below, is))) has in
    subst (λ (n : ℕ). HasValues c base (λ gate bits. gate_value (kind_at c gate) bits) (take n gates.order) (bit_at values)) (omega (arith, is))
    (one_more c base (λ gate bits. gate_value (kind_at c gate) bits) circuit gates.order kept.ranked.ordered kept.ranked.earlier place inside
    (bit_at values) before (bit_at values) (kept.made place inside (fresh place (omega arith) (omega (arith, is)))) (λ line differs. refl))
