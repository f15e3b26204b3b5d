-- Tests get the bits that they expect, or are told whether they expect the right ones, block by block, each out of its lane.
use Rattle.std.proofs.Common.{◌≡◌, ◌≢◌, ⊎_elim, ℕ, suc, ◌+◌, ◌-◌, ◌<◌, ◌≤◌, Bool, List, [], ◌∷◌, length, map, get_or, get_or-set_same, get_or-set_other, set, Some, refl, sym, ap, subst, ◌∙◌, arith, All}
use Rattle.std.specs.Prelude.{slice_get}
use Rattle.std.specs.Option.{option_map}
use Rattle.std.proofs.lemmas.Bool.{cases_eq, cases_lt}
use Rattle.std.proofs.lemmas.List.{length-set}
use Rattle.std.proofs.lemmas.Option.{get_or_from_slice_get, none-some, same_Some, slice_get-get_or, slice_get-map, slice_get_cases, slice_get_past, slice_get_within}
use Rattle.pd_base.specs.declared.ids.LineId.{LineId}
use Rattle.pd_base.specs.declared.test.Test.{Test}
use Rattle.netlist.specs.Circuit.{Circuit, HasLines, line_count, observed_lines, source_count}
use Rattle.netlist.specs.Values.{observed_values, value}
use Rattle.netlist.proofs.Evaluation.{map_agree}
use Rattle.logic_values.specs.Lanes.{lane_bit, lane_of}
use Rattle.logic_values.specs.Blocks.{AreValuesIn}
use Rattle.logic_values.specs.Expected.{AreFilled, AreObservedIn, expecting, word_of}
use Rattle.logic_values.specs.declared.blocks.PairVector.TheVariants.{Second}

module _ {T : Type 0} (items : List T) (place : ℕ) (item : T) where
  -- a place that is written has what was written
  get_set_same : place < length items → slice_get (set items place item) place ≡ Some item
  get_set_same within =
      slice_get-get_or (set items place item) place item (omega (arith, within, length-set items place item))
      ∙ ap Some (get_or-set_same items place item item within)

  -- each other place has what it had
  get_set_other : (other : ℕ) → other ≢ place → slice_get (set items place item) other ≡ slice_get items other
  get_set_other other differs =
      ⊎_elim
      (λ (within : other < length items).
      slice_get-get_or (set items place item) other item (omega (arith, within, length-set items place item))
      ∙ ap Some (get_or-set_other items place other item item differs)
      ∙ sym (slice_get-get_or items other item within))
      (λ (past : length items ≤ other).
      slice_get_past (set items place item) other (omega (arith, past, length-set items place item)) ∙ sym (slice_get_past items other past))
      (cases_lt other (length items))

-- the observed bits, out of the lane of a vector, are those of the circuit
pub bits_of_lane : (c : Circuit) (second : List Bool) (words : List ℕ) (lane : ℕ) (lines : List LineId) → lines ≡ observed_lines c
    → HasLines c lines → ((line : ℕ) → line < line_count c → lane_bit words lane line ≡ value c second line)
    → map (λ line. lane_bit words lane line.0) lines ≡ observed_values c second
bits_of_lane c second words lane lines are in_circuit each =
    map_agree (λ (line : LineId). lane_bit words lane line.0) (λ (line : LineId). value c second line.0) lines
    (λ k d within. each (get_or lines k d).0 (in_circuit k d within))
    ∙ ap (map (λ (line : LineId). value c second line.0)) are

-- the bits in a lane of the words that were taken are those of the lines that they were taken of
pub taken_bits : (words taken : List ℕ) (lane : ℕ) (lines : List LineId) → taken ≡ map (word_of words) lines
    → map (λ word. lane_of word lane) taken ≡ map (λ line. lane_bit words lane line.0) lines
taken_bits words taken lane lines are = ap (map (λ word. lane_of word lane)) are ∙ of_each lines
  where
    of_each : (lines : List LineId) → map (λ word. lane_of word lane) (map (word_of words) lines) ≡ map (λ line. lane_bit words lane line.0) lines
    of_each [] = refl
    of_each (line ∷ lines) = ap (λ bits. lane_bit words lane line.0 ∷ bits) (of_each lines)

module _ (c : Circuit) where
  -- the words of the observed lines have the observed bits of each vector in its lane
  pub observed_lanes : (begin end : ℕ) (tests : List Test) (words : List ℕ) → AreValuesIn c Second begin end tests words
      → (taken : List ℕ) (lines : List LineId) → taken ≡ map (word_of words) lines → lines ≡ observed_lines c → HasLines c lines
      → AreObservedIn c begin end tests taken
  observed_lanes begin end tests words values taken lines are are_lines in_circuit place test first last is =
      taken_bits words taken (place - begin) lines are
      ∙ bits_of_lane c test.pair.second words (place - begin) lines are_lines in_circuit (values place test first last is)

  -- no test was filled yet
  pub none_filled : (begin : ℕ) (tests : List Test) → AreFilled c begin begin tests tests
  none_filled begin tests = record {
    inside = λ place test first last is. absurd (omega arith);
    before = λ place within. refl;
    behind = λ place within. refl;
  }

  -- one test more
  pub one_filled : (begin place : ℕ) (old now new : List Test) (read filled : Test) → begin ≤ place → AreFilled c begin place old now
      → slice_get now place ≡ Some read → filled ≡ expecting c read → new ≡ set now place filled → AreFilled c begin (place + 1) old new
  one_filled begin place old now new read filled from are at fills writes =
      subst (AreFilled c begin (place + 1) old) (sym writes) (record {
        inside = λ other test first last is.
            ⊎_elim
            (λ (same : other ≡ place).
            let its : read ≡ test =
            same_Some read test (sym at ∙ are.behind place (omega arith) ∙ ap (slice_get old) (sym same) ∙ is) in
            ap (slice_get (set now place filled)) same ∙ get_set_same now place filled (slice_get_within now place read at)
            ∙ ap Some (fills ∙ ap (expecting c) its))
            (λ (differs : other ≢ place).
            get_set_other now place filled other differs ∙ are.inside other test first (let e = differs in omega arith) is)
            (cases_eq other place);
        before = λ other within.
            get_set_other now place filled other (λ same. let e : other ≡ place = same in omega arith) ∙ are.before other within;
        behind = λ other within.
            get_set_other now place filled other (λ same. let e : other ≡ place = same in omega arith)
            ∙ are.behind other (omega arith);
      })

  -- a test more got the bits of its lane
  pub filled_in_lane : (begin end place : ℕ) (old now : List Test) → begin ≤ place → place < end → end ≤ length old → (observed : List ℕ)
      → AreObservedIn c begin end old observed → AreFilled c begin place old now → (d : Test) (bits : List Bool)
      → bits ≡ map (λ word. lane_of word (place - begin)) observed
      → AreFilled c begin (place + 1) old (set now place (record (get_or now place d) { expected = bits }))
  filled_in_lane begin end place old now from last within observed lanes are d bits are_bits =
      let own = get_or old place d in
      let at_old : slice_get old place ≡ Some own = slice_get-get_or old place d (omega arith) in
      let at_now : slice_get now place ≡ Some own = are.behind place (omega arith) ∙ at_old in
      let same : get_or now place d ≡ own = get_or_from_slice_get now place own d at_now in
      one_filled begin place old now _ own (record (get_or now place d) { expected = bits }) from are at_now
      (ap (λ (test : Test). record test { expected = bits }) same
      ∙ ap (λ (b : List Bool). record own { expected = b }) (are_bits ∙ lanes place own from last at_old)) refl

  -- one block more
  pub one_block : (begin end : ℕ) (old now new : List Test) → begin ≤ end → AreFilled c 0 begin old now → AreFilled c begin end now new
      → AreFilled c 0 end old new
  one_block begin end old now new from are more = record {
    inside = λ place test first last is.
        ⊎_elim
        (λ (earlier : place < begin). more.before place earlier ∙ are.inside place test first earlier is)
        (λ (later : begin ≤ place). more.inside place test later last (are.behind place later ∙ is))
        (cases_lt place begin);
    before = λ place within. absurd (omega arith);
    behind = λ place within. more.behind place within ∙ are.behind place (omega arith);
  }

  -- each still has its vectors
  pub still_fit : (begin end : ℕ) (old new : List Test) → AreFilled c begin end old new → length new ≡ length old
      → All (λ test. length test.pair.second ≡ source_count c) old → All (λ test. length test.pair.second ≡ source_count c) new
  still_fit begin end old new are same all place d within =
      let Fits : Test → Type 0 = λ test. length test.pair.second ≡ source_count c in
      let inside : place < length old = omega arith in
      let at : slice_get old place ≡ Some (get_or old place d) = slice_get-get_or old place d inside in
      ⊎_elim
      (λ (early : place < begin).
      subst Fits (sym (get_or_from_slice_get new place (get_or old place d) d (are.before place early ∙ at))) (all place d inside))
      (λ (later : begin ≤ place).
      ⊎_elim
      (λ (here : place < end).
      subst Fits
      (sym (get_or_from_slice_get new place (expecting c (get_or old place d)) d (are.inside place (get_or old place d) later here at)))
      (all place d inside))
      (λ (behind : end ≤ place).
      subst Fits (sym (get_or_from_slice_get new place (get_or old place d) d (are.behind place behind ∙ at))) (all place d inside))
      (cases_lt place end))
      (cases_lt place begin)

  -- lists with the same items at all places are one
  same_items : (items others : List Test) → ((place : ℕ) → slice_get items place ≡ slice_get others place) → items ≡ others
  same_items [] [] each = refl
  same_items [] (other ∷ others) each = absurd (none-some other (each 0))
  same_items (item ∷ items) [] each = absurd (none-some item (sym (each 0)))
  same_items (item ∷ items) (other ∷ others) each =
      let first : item ≡ other = same_Some item other (each 0) in
      let rest : items ≡ others = same_items items others (λ place. each (suc place)) in
      λ i. first i ∷ rest i

  -- all are filled
  pub all_filled : (end : ℕ) (old new : List Test) → AreFilled c 0 end old new → end ≡ length old → new ≡ map (expecting c) old
  all_filled end old new are whole = same_items new (map (expecting c) old) at
    where
      at : (place : ℕ) → slice_get new place ≡ slice_get (map (expecting c) old) place
      at place =
          ⊎_elim
          (λ there.
          are.inside place there.0 (omega arith) (let w = there.1 in omega arith) there.2
          ∙ sym (slice_get-map (expecting c) old place ∙ ap (option_map (expecting c)) there.2))
          (λ past.
          are.behind place (let p = past.0 in omega arith)
          ∙ past.1 ∙ sym (slice_get-map (expecting c) old place ∙ ap (option_map (expecting c)) past.1))
          (slice_get_cases old place).1
