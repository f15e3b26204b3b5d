-- The lines behind some ends, found one after another: after the last one, they are those in the support of these under links.
use Rattle.std.proofs.Common.{◌≡◌, ⊎_elim, inl, inr, ℕ, ◌+◌, ◌-◌, ◌<◌, ◌≤◌, ◌↔◌, List, [], ◌∷◌, ◌++◌, length, get_or, Some, sym, ap, subst, ◌∙◌, arith}
use Rattle.std.specs.List.{All, Contains}
use Rattle.std.proofs.lemmas.Bool.{cases_lt, cond-true, cond-false, lt-ltb, le-ltb}
use Rattle.std.proofs.lemmas.List.{get_or_append_left, get_or_default, append_assoc}
use Rattle.std.proofs.lemmas.List.Elements.{All-contains, Contains-get_or}
use Rattle.std.proofs.lemmas.Option.{slice_get-get_or, get_or_from_slice_get, slice_get_within}
use Rattle.pd_base.specs.Links.{LinkList, IsLink}
use Rattle.pd_base.specs.declared.ids.LineId.{LineId}
use Rattle.netlist.specs.Circuit.{Circuit, source_count, gate_count, gate_line, line_count, pins_at}
use Rattle.netlist.specs.Lawful.{IsCircuit}
use Rattle.netlist.specs.LinkedPairs.{AreLinksOf, IsSupported}
use Rattle.netlist.specs.LinkedPairs.IsSupported.{in_fan_in, behind_link}
use Rattle.netlist.specs.Pins.{IsInFanIn}
use Rattle.netlist.specs.Pins.IsInFanIn.{end_itself, read_by_pin}
use Rattle.netlist.proofs.Evaluation.{gate_line_of}
use Rattle.cones.specs.Ends.{IsBehind}
use Rattle.cones.specs.FoundLines.{FoundSet, FindsMore, FindsBehind, IsNextBehind, reads_of}
use Rattle.cones.proofs.Finding.{only_one, one_there}
use Rattle.state_laws.proofs.Supports.{end_supported, linked_supported, read_supported, supported_in_circuit}

-- what is read where there is no line
abbrev pub no_line : LineId
no_line = record { 0 = 0 }

module _ (c : Circuit) where
  -- a source reads no line, and the line of a gate those of the gate's pins
  pub source_reads : (line : ℕ) → line < source_count c → reads_of c line ≡ []
  source_reads line source = cond-true _ _ _ (lt-ltb line (source_count c) source)

  pub gate_reads : (gate : ℕ) → reads_of c (gate_line c gate) ≡ pins_at c gate
  gate_reads gate =
      let past : source_count c ≤ gate_line c gate = omega arith in
      let same : gate_line c gate - source_count c ≡ gate = omega arith in
      cond-false _ _ _ (le-ltb (gate_line c gate) (source_count c) past) ∙ ap (pins_at c) same

  -- so what a line of the fan-in reads is in the fan-in
  pub reads_in_fan_in : (end line : ℕ) → line < line_count c → IsInFanIn c end line → (other : ℕ)
      → Contains (reads_of c line) (record { 0 = other }) → IsInFanIn c end other
  reads_in_fan_in end line within further other reads = ⊎_elim
      (λ (source : line < source_count c).
      let none : Contains [] (record { 0 = other }) = subst (λ ls. Contains ls (record { 0 = other })) (source_reads line source) reads in
      absurd (omega (arith, none.1)))
      (λ (above : source_count c ≤ line).
      let gate = line - source_count c in
      let own : gate_line c gate ≡ line = gate_line_of c line above in
      let at : Contains (pins_at c gate) (record { 0 = other }) =
      subst (λ ls. Contains ls (record { 0 = other })) (ap (reads_of c) (sym own) ∙ gate_reads gate) reads in
      let inside : gate < gate_count c = omega arith in
      read_by_pin (record { gate = record { 0 = gate }; pin = at.0 }) other
      (record { in_circuit = inside; reads = slice_get-get_or (pins_at c gate) at.0 (record { 0 = other }) at.1 ∙ ap Some at.2 })
      (subst (IsInFanIn c end) (sym own) further))
      (cases_lt line (source_count c))

  -- what stands next behind a line of the support is in it too
  pub next_supported : (links : LinkList) (end line : ℕ) → line < line_count c → IsSupported c links end line → (other : ℕ)
      → IsNextBehind c links line other → IsSupported c links end other
  next_supported links end line within supported other = ⊎_elim reads (linked_supported c links end line other supported)
    where
      reads : Contains (reads_of c line) (record { 0 = other }) → IsSupported c links end other
      reads among = ⊎_elim
          (λ (source : line < source_count c).
          let none : Contains [] (record { 0 = other }) = subst (λ ls. Contains ls (record { 0 = other })) (source_reads line source) among in
          absurd (omega (arith, none.1)))
          (λ (above : source_count c ≤ line).
          let gate = line - source_count c in
          let own : gate_line c gate ≡ line = gate_line_of c line above in
          let at : Contains (pins_at c gate) (record { 0 = other }) =
          subst (λ ls. Contains ls (record { 0 = other })) (ap (reads_of c) (sym own) ∙ gate_reads gate) among in
          read_supported c links end (record { gate = record { 0 = gate }; pin = at.0 }) other
          (record { in_circuit = omega arith; reads = slice_get-get_or (pins_at c gate) at.0 (record { 0 = other }) at.1 ∙ ap Some at.2 })
          line (sym own) supported)
          (cases_lt line (source_count c))

  -- a line and what its gate reads, and the line to which it is linked, are found one after the other
  pub finds_linked : (links : LinkList) (line : ℕ) (other : LineId) (old middle new : FoundSet) → IsLink links line other.0
      → ((next : ℕ) → IsLink links line next → next ≡ other.0) → FindsMore (reads_of c line) old middle → FindsMore (other ∷ []) middle new
      → FindsBehind c links line old new
  finds_linked links line other old middle new link alone first second = record {
    room = second.room ∙ first.room;
    more = first.more ++ second.more;
    behind = second.behind ∙ ap (λ (ls : List LineId). ls ++ second.more) first.behind ∙ append_assoc old.lines first.more second.more;
    exactly = λ next. (
      λ has. ⊎_elim
          (λ (before : Contains middle.lines (record { 0 = next })).
          ⊎_elim (λ was. inl was) (λ reads. inr (inl reads)) ((first.exactly next).0 before))
          (λ (this : Contains (other ∷ []) (record { 0 = next })).
          inr (inr (subst (IsLink links line) (ap (λ (l : LineId). l.0) (only_one other (record { 0 = next }) this)) link)))
          ((second.exactly next).0 has),
      λ either. ⊎_elim (λ was. (second.exactly next).1 (inl ((first.exactly next).1 (inl was))))
          (λ (behind : IsNextBehind c links line next). ⊎_elim
          (λ (reads : Contains (reads_of c line) (record { 0 = next })). (second.exactly next).1 (inl ((first.exactly next).1 (inr reads))))
          (λ (linked : IsLink links line next).
          (second.exactly next).1 (inr (0, omega arith, λ i. record { 0 = (sym (alone next linked)) i })))
          behind)
          either,
    );
  }

  pub finds_unlinked : (links : LinkList) (line : ℕ) (old new : FoundSet) → ((next : ℕ) → ¬ IsLink links line next)
      → FindsMore (reads_of c line) old new → FindsBehind c links line old new
  finds_unlinked links line old new none finds = record {
    room = finds.room;
    more = finds.more;
    behind = finds.behind;
    exactly = λ next. (
      λ has. ⊎_elim (λ was. inl was) (λ reads. inr (inl reads)) ((finds.exactly next).0 has),
      λ either. (finds.exactly next).1 (⊎_elim (λ was. inl was)
          (λ (behind : IsNextBehind c links line next). ⊎_elim (λ reads. inr reads) (λ linked. absurd (none next linked)) behind) either),
    );
  }

  module _ (links : LinkList) (ends : List LineId) where
    -- The ends were found, and only lines in their support were. What stands next behind the lines before this place was found too.
    pub record IsSpread (lines : List LineId) (place : ℕ) : Type 0 where
      pub sound : (line : ℕ) → Contains lines (record { 0 = line }) → IsBehind c links ends line
      pub has_ends : All (Contains lines) ends
      pub closed : (k : ℕ) → k < place → k < length lines → (line : ℕ)
          → IsNextBehind c links (get_or lines k no_line).0 line → Contains lines (record { 0 = line })

    -- so it is at first, where the ends alone were found
    pub begun : (old new : FoundSet) → old.lines ≡ [] → FindsMore ends old new → IsSpread new.lines 0
    begun old new none finds = record {
      sound = λ other has. ⊎_elim
          (λ (was : Contains old.lines (record { 0 = other })).
          let nothing : Contains [] (record { 0 = other }) = subst (λ ls. Contains ls (record { 0 = other })) none was in
          absurd (omega (arith, nothing.1)))
          (λ (among : Contains ends (record { 0 = other })). (record { 0 = other }, among, end_supported c links other))
          ((finds.exactly other).0 has);
      has_ends = λ k d inside. (finds.exactly (get_or ends k d).0).1 (inr (Contains-get_or ends k d inside));
      closed = λ k early inside. absurd (omega arith);
    }

    -- and so it stays, where what stands next behind the next line is found
    pub next : (line : LineId) (place : ℕ) (old new : FoundSet) → place < length old.lines → get_or old.lines place line ≡ line
        → line.0 < line_count c → FindsBehind c links line.0 old new → IsSpread old.lines place → IsSpread new.lines (place + 1)
    next line place old new inside at within finds spread = record {
      sound = λ other has. ⊎_elim (spread.sound other)
          (λ (behind : IsNextBehind c links line.0 other).
          let own : IsBehind c links ends line.0 = spread.sound line.0 (place, inside, at) in
          (own.0, own.1, next_supported links own.0.0 line.0 within own.2 other behind))
          ((finds.exactly other).0 has);
      has_ends = λ k d inside. (finds.exactly (get_or ends k d).0).1 (inl (spread.has_ends k d inside));
      closed = λ k early longer other reads.
          let before : k < length old.lines = omega arith in
          let same : get_or new.lines k no_line ≡ get_or old.lines k no_line =
          ap (λ (ls : List LineId). get_or ls k no_line) finds.behind ∙ get_or_append_left old.lines finds.more no_line k before in
          let was : IsNextBehind c links (get_or old.lines k no_line).0 other =
          subst (λ (l : LineId). IsNextBehind c links l.0 other) same reads in
          ⊎_elim
          (λ (earlier : k < place). (finds.exactly other).1 (inl (spread.closed k earlier before other was)))
          (λ (from : place ≤ k).
          let here : k ≡ place = omega arith in
          let own : get_or old.lines k no_line ≡ line =
          ap (λ j. get_or old.lines j no_line) here ∙ get_or_default old.lines place no_line line inside ∙ at in
          (finds.exactly other).1 (inr (subst (λ (l : LineId). IsNextBehind c links l.0 other) own was)))
          (cases_lt k place);
    }

    module _ (lines : List LineId) (place : ℕ) (last : length lines ≤ place) (spread : IsSpread lines place) where
      -- after the last line, what stands next behind a line that was found was found too
      found_next : (owner line : ℕ) → Contains lines (record { 0 = owner }) → IsNextBehind c links owner line → Contains lines (record { 0 = line })
      found_next owner line has behind =
          let at : get_or lines has.0 no_line ≡ record { 0 = owner } =
          get_or_default lines has.0 no_line (record { 0 = owner }) has.1 ∙ has.2 in
          spread.closed has.0 (let i = has.1 in omega arith) has.1 line
          (subst (λ (l : LineId). IsNextBehind c links l.0 line) (sym at) behind)

      -- so all that is in the fan-in of one
      found_back : (start : ℕ) → Contains lines (record { 0 = start }) → (line : ℕ) → IsInFanIn c start line → Contains lines (record { 0 = line })
      found_back start has _ end_itself = has
      found_back start has _ (read_by_pin pin line on further) =
          let gate = pin.gate.0 in
          let reads : Contains (pins_at c gate) (record { 0 = line }) = (
            pin.pin,
            slice_get_within (pins_at c gate) pin.pin (record { 0 = line }) on.reads,
            get_or_from_slice_get (pins_at c gate) pin.pin (record { 0 = line }) (record { 0 = line }) on.reads,
          ) in
          found_next (gate_line c gate) line (found_back start has (gate_line c gate) further)
          (inl (subst (λ ls. Contains ls (record { 0 = line })) (sym (gate_reads gate)) reads))

      -- and all of its support
      found_supported : (end : ℕ) → Contains lines (record { 0 = end }) → (line : ℕ) → IsSupported c links end line
          → Contains lines (record { 0 = line })
      found_supported end has _ (in_fan_in line further) = found_back end has line further
      found_supported end has _ (behind_link source other line supported link further) =
          found_back other (found_next source other (found_supported end has source supported) (inr link)) line further

      pub whole : (line : ℕ) → IsBehind c links ends line → Contains lines (record { 0 = line })
      whole line behind =
          found_supported behind.0.0 (All-contains (Contains lines) ends behind.0 spread.has_ends behind.1) line behind.2

    -- the lines that were found are lines of the circuit
    pub in_circuit : IsCircuit c → AreLinksOf c links → All (λ (end : LineId). end.0 < line_count c) ends → (lines read : List LineId)
        → read ≡ lines → (place : ℕ) → IsSpread lines place → place < length lines → (get_or read place no_line).0 < line_count c
    in_circuit circuit fit within lines read same place spread inside =
        let line = get_or read place no_line in
        let among : Contains lines line =
        subst (λ ls. Contains ls line) same (Contains-get_or read place no_line (subst (λ ls. place < length ls) (sym same) inside)) in
        let behind : IsBehind c links ends line.0 = spread.sound line.0 among in
        supported_in_circuit c links behind.0.0 circuit.reads_lines fit
        (All-contains (λ (end : LineId). end.0 < line_count c) ends behind.0 within behind.1) line.0 behind.2

  -- what stands behind one end is its support
  pub behind_one : (links : LinkList) (end : LineId) (line : ℕ) → IsBehind c links (end ∷ []) line ↔ IsSupported c links end.0 line
  behind_one links end line = (
    λ behind. subst (λ (l : LineId). IsSupported c links l.0 line) (sym (only_one end behind.0 behind.1)) behind.2,
    λ supported. (end, one_there end, supported),
  )
