-- The stages of `scan` behind NET: what is passed up to its text, and how the call ends there.
use Rattle.std.proofs.Common.{◌≡◌, ℕ, List, [], ◌∷◌, ◌++◌, All, codes, get_or, take, ◌<◌, ◌↔◌, Result, Ok, Err, IfErr, IfOk, refl, sym, ap, subst, ◌∙◌}
use Rattle.std.specs.Prelude.{Vec}
use Rattle.std.specs.declared.alloc.Global.{Global}
use Rattle.pd_base.specs.declared.ids.LineId.{LineId}
use Rattle.pd_base.specs.declared.test.Test.{Test}
use Rattle.pd_io.specs.Seen.{FilesSeen}
use Rattle.netlist.specs.Circuit.{Circuit}
use Rattle.netlist.specs.Lawful.{IsCircuit}
use Rattle.bench_reader.proofs.LawfulCircuits.{is_circuit}
use Rattle.runs.specs.Lawful.{AreLawfulTests}
use Rattle.scan_order.specs.Chains.{AreChainsOf}
use Rattle.scan_order.proofs.CircuitChains.{sources_in_each}
use Rattle.scan_load.proofs.LaunchedPairs.{keeps_shifts, shifts_keep}
use Rattle.scan_load.proofs.Shifts.{loads_by_bits, shifting_is_loadable}
use Rattle.command_line.specs.Words.{ScanCall}
use Rattle.calls.specs.declared.role.Role.TheVariants as role
use Rattle.calls.specs.declared.ending.Ending.{Ending}
use Rattle.calls.specs.Work.{Stage, Require}
use Rattle.calls.specs.Passing.{HasPassed}
use Rattle.calls.specs.Stopping.{Stops}
use Rattle.calls.specs.Preparing.{IsPrepared, Prepares}
use Rattle.calls.proofs.Stages.{then_required}
use Rattle.commands.specs.Grading.{IsFirstWithout}
use Rattle.commands.specs.InputRequirements.{LacksForm, Requirement, WellFormed, net_stages, own, read_stages}
use Rattle.commands.specs.Inside.InputJudging.{FailsFor, FailsToGiveChains, FailsToGiveTests, GivesChains, GivesNet, GivesTests, ReadsWithin}
use Rattle.commands.specs.Inside.InputJudging as judging
use Rattle.commands.specs.Inside.ScanJudging.{HasBitsFor, HaveUnlaunchedPair, ShiftsInAll}
use Rattle.commands.specs.Printed.{printed_text}
use Rattle.commands.specs.Scan.{AreLoaded, AreScanned, CanBeLoaded, IsOfLastShift, LaunchesPairs, ScanRequirement, scan_front, scan_command, scan_work}
use Rattle.commands.specs.ScanText.{load_text}
use Rattle.commands.specs.SpelledTests.{IsMalformedTests}
use Rattle.commands.proofs.ChainStages.{chains_fail, chains_passed}
use Rattle.commands.proofs.InputStages.{net_passed}
use Rattle.commands.proofs.ScanAccepting.{accepts_pairs, accepts_tests, scanned_inputs}
use Rattle.commands.proofs.StageReads.{stops_judged, stops_unwhole, then_whole}

module _ (c : Circuit) (is : IsCircuit c) (chains : List (List LineId)) (are : AreChainsOf c chains) where
  -- lawful tests have bits for all flip-flops
  pub tests_have_bits : (tests : List Test) → AreLawfulTests c tests → All (λ test. HasBitsFor chains test.pair) tests
  tests_have_bits tests lawful place d within chain_place chain_d chain_within at line inside =
      subst (λ (n : ℕ). (get_or (get_or chains chain_place chain_d) at line).0 < n) (sym (lawful place d within).first)
      (sources_in_each c is chains are chain_place chain_d chain_within at line inside)

  -- the bits of a pair move on exactly where the last shift launches it
  shifts : (test : Test) → IsOfLastShift c chains test → ShiftsInAll chains test
  shifts test = keeps_shifts c is chains are test.pair

  launched : (test : Test) → ShiftsInAll chains test → IsOfLastShift c chains test
  launched test = shifts_keep c is chains are test.pair

  -- and exactly where some bits load it
  loaded : (test : Test) → ShiftsInAll chains test ↔ CanBeLoaded chains test
  loaded test = shifting_is_loadable chains are.are.some test.pair

  pub loadable : (test : Test) → CanBeLoaded chains test ↔ IsOfLastShift c chains test
  loadable test = (λ can. launched test ((loaded test).1 can), λ is_launched. (loaded test).0 (shifts test is_launched))

  -- so it is the first test that can't be loaded
  pub first_unloadable : (tests : List Test) (number : ℕ) → IsFirstWithout (ShiftsInAll chains) tests number
      → IsFirstWithout (CanBeLoaded chains) tests number
  first_unloadable tests number first = record {
    place = first.place;
    item = first.item;
    at = first.at;
    lacks = λ can. first.lacks ((loaded first.item).1 can);
    earlier = λ k d within. (loaded (get_or (take first.place tests) k d)).0 (first.earlier k d within);
    counted = first.counted;
  }

  pub all_loadable : (tests : List Test) → All (ShiftsInAll chains) tests → All (CanBeLoaded chains) tests
  all_loadable tests all k d within = (loaded (get_or tests k d)).0 (all k d within)

  pub all_launched : (tests : List Test) → All (ShiftsInAll chains) tests → All (IsOfLastShift c chains) tests
  all_launched tests all k d within = launched (get_or tests k d) (all k d within)

  -- the bits load the pairs
  pub all_loaded : (tests : List Test) → All (ShiftsInAll chains) tests → All (AreLoaded chains) tests
  all_loaded tests all k d within at chain inside =
      loads_by_bits (get_or tests k d).pair (get_or chains at chain) (are.are.some at chain inside) (all k d within at chain inside)

module _ (call : ScanCall) (c : Circuit) (old mid new : FilesSeen) (net : GivesNet call.net c old mid) where
  -- NET was judged
  before_scan : HasPassed (scan_work call) (net_stages call.net) (net.text.items ∷ []) old mid
  before_scan = net_passed (scan_command call) call.net c old mid net

  -- SCAN gives no chains
  pub no_chains : (ending : Ending) → FailsToGiveChains call.scan c ending mid new → Stops (scan_work call) ending old new
  no_chains ending fails =
      chains_fail (scan_command call) net.text.items [] c net.holds call.scan 1 refl (net_stages call.net) old mid new before_scan _ refl ending
      fails

  module _ (chains : List (List LineId)) (gives : GivesChains call.scan c chains mid new) (last : FilesSeen) where
    -- SCAN was judged
    before_tests : HasPassed (scan_work call) (scan_front call) (net.text.items ∷ gives.text.items ∷ []) old new
    before_tests =
        chains_passed (scan_command call) net.text.items [] c net.holds call.scan 1 refl (net_stages call.net) old mid new before_scan chains
        gives

    -- the inputs, with TESTS of these bytes
    abbrev inputs : List ℕ → List (List ℕ)
    inputs tests = scanned_inputs call net.text.items gives.text.items tests

    -- the stages up to the size of TESTS
    abbrev reads : List (Stage (Requirement ScanRequirement))
    reads = scan_front call ++ read_stages role.Tests call.tests

    -- TESTS was read, within its limit
    tests_within : (tests : Vec ℕ Global) → ReadsWithin role.Tests call.tests tests new last
        → HasPassed (scan_work call) reads (inputs tests.items) old last
    tests_within tests read = then_whole (scan_command call) role.Tests call.tests tests before_tests read

    -- TESTS gives no tests
    pub no_tests : (ending : Ending) → FailsToGiveTests (codes "scan") call.tests c ending new last → Stops (scan_work call) ending old last
    no_tests ending (judging.not_read fails) =
        stops_unwhole (scan_command call) role.Tests call.tests ending before_tests (_, refl) fails
    no_tests ending (judging.gives_none tests read fails) =
        stops_judged (scan_command call) (WellFormed role.Tests 2) (LacksForm (codes "scan") role.Tests (IsMalformedTests c tests.items)) ending
        (tests_within tests read) (_, refl)
        (λ refusal lacks. record {
          place = lacks.place;
          first = record { circuit = c; has = net.holds; malformed = lacks.first };
          is = lacks.is;
        }) fails

    module _ (listed : List Test) (tests : GivesTests call.tests c listed new last) where
      -- the circuit, its chains and the tests
      are_scanned : AreScanned net.text.items gives.text.items tests.text.items c chains listed
      are_scanned = record { has = net.holds; gives = gives.holds; spells = tests.holds }

      circuit : IsCircuit c
      circuit = is_circuit net.text.items c net.holds

      -- tests were required
      formed : HasPassed (scan_work call) (reads ++ Require (WellFormed role.Tests 2) ∷ []) (inputs tests.text.items) old last
      formed =
          then_required (scan_work call) (WellFormed role.Tests 2) (tests_within tests.text tests.read)
          (accepts_tests call net.text.items gives.text.items tests.text.items c net.holds listed tests.holds)

      -- some pair is not launched
      pub no_text : (ending : Ending) → FailsFor (HaveUnlaunchedPair chains listed) ending → Stops (scan_work call) ending old last
      no_text ending fails =
          stops_judged (scan_command call) (own LaunchesPairs) (HaveUnlaunchedPair chains listed) ending formed ([], refl)
          (λ refusal why. record {
            circuit = c;
            chains = chains;
            listed = listed;
            are = are_scanned;
            number = why.number;
            first = first_unloadable c circuit chains gives.holds.are listed why.number why.first;
            is = why.is;
          }) fails

      -- the text was made
      prepared : All (ShiftsInAll chains) listed → (text : Vec ℕ Global) → text.items ≡ load_text chains listed
          → IsPrepared (scan_work call) (printed_text text) old last
      prepared all text is = record {
        inputs = inputs tests.text.items;
        passed = then_required (scan_work call) (own LaunchesPairs) formed
            (accepts_pairs call net.text.items gives.text.items tests.text.items c chains listed are_scanned
            (all_loadable c circuit chains gives.holds.are listed all));
        gives = record {
          circuit = c;
          chains = chains;
          listed = listed;
          are = are_scanned;
          shifted = all_launched c circuit chains gives.holds.are listed all;
          loads = all_loaded c circuit chains gives.holds.are listed all;
          text = ap (λ (out : List ℕ). record { files = []; out = out }) is;
        };
      }

      -- the text was made of the tests that are lent, or there is none
      pub text_prepared : (lent : List Test) → lent ≡ listed → (result : Result (Vec ℕ Global) Ending)
          → IfOk result (λ text. All (ShiftsInAll chains) lent) → IfOk result (λ text. text.items ≡ load_text chains lent)
          → IfErr result (FailsFor (HaveUnlaunchedPair chains lent)) → Prepares printed_text (scan_work call) result old last
      text_prepared lent is (Ok text) all told fails =
          prepared (subst (All (ShiftsInAll chains)) is all) text (told ∙ ap (load_text chains) is)
      text_prepared lent is (Err ending) all told fails =
          no_text ending (subst (λ (l : List Test). FailsFor (HaveUnlaunchedPair chains l) ending) is fails)
