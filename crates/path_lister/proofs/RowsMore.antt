-- The row of arcs grows by the fan-out of one line at a time, and never has more arcs than there are sources and pins.
use Rattle.std.proofs.Common.{◌≡◌, ◌≢◌, ⊎_elim, inl, ℕ, ◌+◌, ◌-◌, ◌<◌, ◌≤◌, List, [], ◌∷◌, ◌++◌, length, get_or, take, drop, refl, sym, ap, subst, subst₂, ◌∙◌, arith, length-append, length-drop}
use Rattle.std.specs.List.{All, AllPairs}
use Rattle.std.proofs.lemmas.Bool.{cases_lt}
use Rattle.std.proofs.lemmas.List.{drop-append-le, drop_at, get_or-take, get_or_append_left, get_or_default, get_or_push, length-take-le, length_push, take-append-le, take_all, take_more}
use Rattle.std.proofs.lemmas.List.Elements.{All-append, All-nil, All-weaker, Contains-append_left, Contains-push, All-contains}
use Rattle.std.proofs.lemmas.Option.{same_Some}
use Rattle.pd_base.specs.declared.ids.LineId.{LineId}
use Rattle.pd_base.specs.declared.ids.PinRef.{PinRef}
use Rattle.netlist.specs.Circuit.{Circuit, source_count}
use Rattle.netlist.specs.Pins.{IsFanout, IsPin, IsPinOn, pin_place_in, pin_total}
use Rattle.netlist.proofs.PinRow.{pin_on_line, place_within, places_differ}
use Rattle.path_laws.specs.CircuitGraph.{AreArcsOf, no_pin}
use Rattle.path_laws.proofs.Numbered.{few_by_number}
use Rattle.path_laws.proofs.WalkOrder.{no_pin_behind}
use Rattle.path_lister.specs.Ranking.{IsRanking, line_in}
use Rattle.path_lister.specs.Rows.{AreRows, ReadsOneOf}
use Rattle.path_lister.proofs.Pairs.{pairs_append}
use Rattle.path_lister.proofs.Ranked.{line_of, numbers_differ}

module _ (c : Circuit) where
  -- a pin reads one line alone
  one_line : (pin : PinRef) (a b : LineId) → IsPinOn c pin a.0 → IsPinOn c pin b.0 → a ≡ b
  one_line pin a b on_a on_b = same_Some a b (sym on_a.reads ∙ on_b.reads)

  -- pins of the circuit that differ are no more than its pins
  pub few_pins : (pins : List PinRef) → AllPairs (λ a b. a ≢ b) pins → All (IsPin c) pins → length pins ≤ pin_total c
  few_pins pins differ are_pins =
      few_by_number (pin_place_in c) no_pin pins (pin_total c)
      (λ i j d before within.
      places_differ c (get_or pins j d) (get_or pins i d) (are_pins j d within)
      (are_pins i d (omega arith)) (differ i j d before within))
      (λ k d within. place_within c (get_or pins k d) (are_pins k d within))

  -- pins that read some of these lines are pins of the circuit
  pub read_pins : (lines : List LineId) (pins : List PinRef) → All (ReadsOneOf c lines) pins → All (IsPin c) pins
  read_pins lines pins all =
      All-weaker (ReadsOneOf c lines) (IsPin c) (λ pin reads. pin_on_line c pin reads.line.0 reads.on) pins all

  -- the arcs of equal lines between equal numbers
  pub same_arcs : (pins : List PinRef) {a b from first to last : ℕ} → a ≡ b → from ≡ first → to ≡ last
      → AreArcsOf c pins a from to → AreArcsOf c pins b first last
  same_arcs pins {a} {b} {from} {first} {to} {last} one one_from one_to are =
      subst (λ line. AreArcsOf c pins line first last) one (subst₂ (AreArcsOf c pins a) one_from one_to are)

  -- arcs stay those of their line where pins are added behind
  arcs_stay : (pins fan : List PinRef) (line from to : ℕ) → AreArcsOf c pins line from to
      → AreArcsOf c (pins ++ fan) line from to
  arcs_stay pins fan line from to are = record {
    behind_sources = are.behind_sources;
    rises = are.rises;
    within = omega (arith, are.within, length-append pins fan);
    fanout = subst (IsFanout c line) (sym stays) are.fanout;
  }
    where
      first : ℕ
      first = from - source_count c

      count : ℕ
      count = to - source_count c - (from - source_count c)

      inside : first ≤ length pins
      inside = omega (arith, are.behind_sources, are.rises, are.within)

      enough : count ≤ length (drop first pins)
      enough = omega (arith, are.behind_sources, are.rises, are.within, length-drop first pins)

      stays : take count (drop first (pins ++ fan)) ≡ take count (drop first pins)
      stays = ap (take count) (drop-append-le first pins fan inside) ∙ take-append-le count (drop first pins) fan enough

  -- and the added pins are those of the arcs behind
  arcs_behind : (pins fan : List PinRef) (line : ℕ) → IsFanout c line fan
      → AreArcsOf c (pins ++ fan) line (source_count c + length pins) (source_count c + length (pins ++ fan))
  arcs_behind pins fan line fanout = record {
    behind_sources = omega arith;
    rises = omega (arith, length-append pins fan);
    within = omega arith;
    fanout = subst (IsFanout c line) (sym added) fanout;
  }
    where
      first : ℕ
      first = source_count c + length pins - source_count c

      count : ℕ
      count = source_count c + length (pins ++ fan) - source_count c - (source_count c + length pins - source_count c)

      added : take count (drop first (pins ++ fan)) ≡ fan
      added =
          ap (take count) (drop_at pins fan first (omega arith))
          ∙ take_all count fan (omega (arith, length-append pins fan))

  -- before the first line there are the arcs of the sources alone
  pub rows_begin : AreRows c [] (0 ∷ source_count c ∷ []) []
  rows_begin = record {
    one_each = refl;
    begins = refl;
    sources = refl;
    finishes = omega arith;
    rows = λ place within. absurd (omega arith);
    once = λ i j d before within. absurd (omega arith);
    on_lines = All-nil (ReadsOneOf c []);
  }

  module _ (done : List LineId) (next : LineId) (firsts : List ℕ) (pins fan : List PinRef) (fanout : IsFanout c next.0 fan)
      (fresh : All (λ line. line ≢ next) done) (are : AreRows c done firsts pins) where
    -- the lines, and the first arcs, with those of the next line
    abbrev lines : List LineId
    lines = done ++ next ∷ []

    abbrev new : List ℕ
    new = firsts ++ (source_count c + length (pins ++ fan)) ∷ []

    -- an earlier first arc stays
    earlier : (node : ℕ) → node < length done + 2 → get_or new node 0 ≡ get_or firsts node 0
    earlier node within = get_or_append_left firsts _ 0 node (omega (arith, are.one_each))

    -- the rows of earlier lines stay
    old_row : (place : ℕ) → place < length done
        → AreArcsOf c (pins ++ fan) (line_in lines place) (get_or new (place + 1) 0) (get_or new (place + 2) 0)
    old_row place within =
        same_arcs (pins ++ fan) (ap (λ (line : LineId). line.0) (sym (get_or_append_left done (next ∷ []) (line_of 0) place within)))
        (sym (earlier (place + 1) (omega arith))) (sym (earlier (place + 2) (omega arith)))
        (arcs_stay pins fan (line_in done place) (get_or firsts (place + 1) 0) (get_or firsts (place + 2) 0)
        (are.rows place within))

    -- the last first arc is that behind all pins
    last_first : (node : ℕ) → node ≡ length done + 2 → get_or new node 0 ≡ source_count c + length (pins ++ fan)
    last_first node last = get_or_push firsts (source_count c + length (pins ++ fan)) 0 node (omega (arith, are.one_each))

    -- the row of the next line is its fan-out
    new_row : (place : ℕ) → place ≡ length done
        → AreArcsOf c (pins ++ fan) (line_in lines place) (get_or new (place + 1) 0) (get_or new (place + 2) 0)
    new_row place last =
        let from : get_or firsts (place + 1) 0 ≡ source_count c + length pins =
        ap (λ n. get_or firsts (n + 1) 0) last ∙ are.finishes in
        same_arcs (pins ++ fan) (ap (λ (line : LineId). line.0) (sym (get_or_push done next (line_of 0) place (sym last))))
        (sym (earlier (place + 1) (omega arith) ∙ from)) (sym (last_first (place + 2) (omega arith)))
        (arcs_behind pins fan next.0 fanout)

    -- no pin of the next line is among those before
    none_again : All (λ a. All (λ b. a ≢ b) fan) pins
    none_again i a within j b inside same =
        let before = are.on_lines i a within in
        let on = subst (λ (pin : PinRef). IsPinOn c pin next.0) (sym same) (fanout.on_line j b inside) in
        All-contains (λ line. line ≢ next) done before.line fresh before.among
        (one_line (get_or pins i a) before.line next before.on on)

    -- so they are rows of one line more
    pub rows_push : AreRows c lines new (pins ++ fan)
    rows_push = record {
      one_each = omega (arith, are.one_each, length_push firsts (source_count c + length (pins ++ fan)), length_push done next);
      begins = earlier 0 (omega arith) ∙ are.begins;
      sources = earlier 1 (omega arith) ∙ are.sources;
      finishes = last_first (length lines + 1) (omega (arith, length_push done next));
      rows = λ place within. ⊎_elim (old_row place)
          (λ up. new_row place (omega (arith, length_push done next))) (cases_lt place (length done));
      once = pairs_append (λ a b. a ≢ b) pins fan are.once
          (λ i j d before within same. no_pin_behind (get_or fan i d) (get_or fan j d) (fanout.rising i j d before within) (inl same))
          none_again;
      on_lines = All-append (ReadsOneOf c lines) pins fan
          (All-weaker (ReadsOneOf c done) (ReadsOneOf c lines)
          (λ pin reads. record { line = reads.line; among = Contains-append_left done (next ∷ []) reads.line reads.among; on = reads.on })
          pins are.on_lines)
          (λ k d within. record { line = next; among = Contains-push done next; on = fanout.on_line k d within });
    }

  -- the pins of rows are no more than those of the circuit
  pub rows_few : (lines : List LineId) (firsts : List ℕ) (pins : List PinRef) → AreRows c lines firsts pins
      → length pins ≤ pin_total c
  rows_few lines firsts pins are = few_pins pins are.once (read_pins lines pins are.on_lines)

  -- the rows of the lines up to this place grow by the fan-out of the line there
  pub rows_next : (lines : List LineId) → IsRanking c lines → (place : ℕ) (firsts : List ℕ) (pins fan : List PinRef)
      → place < length lines → IsFanout c (line_in lines place) fan → AreRows c (take place lines) firsts pins
      → AreRows c (take (place + 1) lines) (firsts ++ (source_count c + length (pins ++ fan)) ∷ []) (pins ++ fan)
  rows_next lines ranking place firsts pins fan within fanout are =
      subst (λ done. AreRows c done (firsts ++ (source_count c + length (pins ++ fan)) ∷ []) (pins ++ fan))
      (sym (take_more lines place (line_of 0) within))
      (rows_push (take place lines) (get_or lines place (line_of 0)) firsts pins fan fanout fresh are)
    where
      fresh : All (λ line. line ≢ get_or lines place (line_of 0)) (take place lines)
      fresh k d inside same =
          let below : k < place = omega (arith, length-take-le place lines (omega arith)) in
          let own : get_or lines k (line_of 0) ≡ get_or (take place lines) k d =
          get_or_default lines k (line_of 0) d (omega arith) ∙ sym (get_or-take place lines k d below) in
          numbers_differ c lines ranking k place below within (ap (λ (line : LineId). line.0) (own ∙ same))
