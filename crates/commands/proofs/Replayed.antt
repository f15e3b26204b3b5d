-- Tests of a replay, one by one, whichever waves the pair of a test gives the lines; and why tests whose lines change few times are refused for no line that changes too often.
use Rattle.std.proofs.Common.{◌≡◌, ℕ, ◌+◌, ◌<◌, List, ◌∷◌, ◌++◌, take, drop, length, map, get_or, refl, sym, ap, subst, ◌∙◌, arith}
use Rattle.std.specs.List.{All, range_with_len}
use Rattle.std.proofs.lemmas.List.{drop_more, get_or_at, length-append, length-take-le, take-append-drop, take_more}
use Rattle.std.proofs.lemmas.List.Elements.{All-append, All-map, All-push}
use Rattle.std.proofs.lemmas.List.FromFn.{length-range_with_len, get_or-range_with_len}
use Rattle.pd_base.specs.declared.ids.GateId.{GateId}
use Rattle.pd_base.specs.declared.test.Test.{Test}
use Rattle.pd_base.specs.Pair.{Vectors}
use Rattle.netlist.specs.Circuit.{Circuit, gate_line, line_count, source_count}
use Rattle.netlist.specs.Levels.{IsRankOrder}
use Rattle.delay_replay.specs.declared.line_waves.ReplayFault.{ReplayFault}
use Rattle.delay_replay.specs.declared.line_waves.ReplayFault.TheVariants.{TooManyChanges, NoMemory}
use Rattle.delay_replay.specs.ChangeLimits.{HasFewOf, IsFirstOf, RefusesWaves, ranked_lines}
use Rattle.commands.specs.TestChanges.{HaveFewOf, IsFirstTestOf, PairWaves, RefusesTestsOf, replay_text_fault}
use Rattle.commands.proofs.OneRankOrder.{one_rank_order}

-- what holds of each item holds of the one at this place
all_at : {X : Type 0} (P : X → Type 0) (items earlier later : List X) (item : X) → earlier ++ item ∷ later ≡ items → All P items → P item
all_at P items earlier later item place all =
    let long = length-append earlier (item ∷ later) in
    let holds = subst (All P) (sym place) all in
    subst P (get_or_at earlier item later item (length earlier) refl) (holds (length earlier) item (omega (arith, long)))

module _ (c : Circuit) (waves : PairWaves) where
  -- each line that is ranked is one of the circuit
  ranked_inside : (order : List GateId) → IsRankOrder c order → All (λ line. line < line_count c) (ranked_lines c order)
  ranked_inside order ranked =
      let IsLine : ℕ → Type 0 = λ line. line < line_count c in
      All-append IsLine (range_with_len 0 (source_count c)) (map (λ (g : GateId). gate_line c g.0) order)
      (λ k d within.
      let inside : k < source_count c = omega (arith, length-range_with_len 0 (source_count c)) in
      omega (arith, get_or-range_with_len 0 (source_count c) k d inside))
      (All-map IsLine (λ (g : GateId). gate_line c g.0) order (λ k d within. omega (arith, ranked.in_circuit k d within)))

  -- so is one that is too much
  pub over_inside : (pair : Vectors) (line : ℕ) → IsFirstOf c (waves pair) line → line < line_count c
  over_inside pair line first =
      all_at (λ l. l < line_count c) (ranked_lines c first.order) first.earlier first.later line first.place
      (ranked_inside first.order first.ranked)

  -- lines change few times or some line is too much, and not both
  pub few_or_over : (pair : Vectors) (line : ℕ) → HasFewOf c (waves pair) → ¬ IsFirstOf c (waves pair) line
  few_or_over pair line few first =
      few.none first.earlier line first.later
      (first.place ∙ ap (ranked_lines c) (one_rank_order c first.order few.order first.ranked few.ranked)) first.too_much

  -- nor is a test the first one over, where all tests have few changes
  pub few_tests_or_over : (tests : List Test) (number line : ℕ) → HaveFewOf c waves tests
      → ¬ IsFirstTestOf c waves tests number line
  few_tests_or_over tests number line few first =
      few_or_over first.test.pair line
      (all_at (λ (test : Test). HasFewOf c (waves test.pair)) tests first.earlier first.later first.test (sym first.place) few)
      first.too_much

  module _ (tests : List Test) (place : ℕ) (none : Test) (within : place < length tests) where
    -- the test at the place
    abbrev here : Test
    here = get_or tests place none

    module _ (few : HaveFewOf c waves (take place tests)) where
      -- with it one test more has few changes
      pub one_more_few : HasFewOf c (waves here.pair) → HaveFewOf c waves (take (place + 1) tests)
      one_more_few own =
          subst (HaveFewOf c waves) (sym (take_more tests place none within))
          (All-push (λ (test : Test). HasFewOf c (waves test.pair)) (take place tests) here few own)

      -- or it is the first one over
      pub refused_here : (fault : ReplayFault) → RefusesWaves c (waves here.pair) fault
          → RefusesTestsOf c waves tests (replay_text_fault (place + 1) fault)
      refused_here (NoMemory _) refuses = tt
      refused_here (TooManyChanges line) refuses = record {
        earlier = take place tests;
        test = here;
        later = drop (place + 1) tests;
        place = sym (ap (λ rest. take place tests ++ rest) (sym (drop_more tests place none within)) ∙ take-append-drop place tests);
        count = ap (λ n. n + 1) (sym (length-take-le place tests (omega arith)));
        few_before = few;
        too_much = refuses;
      }
