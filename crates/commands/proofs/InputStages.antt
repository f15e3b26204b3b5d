-- The stages that commands have alike: what is passed with NET and DELAYS, with short texts and with claim files, and how the call ends
-- there.
use Rattle.std.proofs.Common.{◌≡◌, ℕ, ◌≤◌, List, [], ◌∷◌, ◌++◌, length, Some, refl, sym, ap, subst, ◌∙◌, append_assoc}
use Rattle.pd_io.specs.Folder.{Folder, bytes_at}
use Rattle.pd_io.specs.Seen.{FilesSeen}
use Rattle.netlist.specs.Circuit.{Circuit}
use Rattle.netlist.specs.Waves.{Delays}
use Rattle.bench_reader.specs.Circuits.{HasCircuit}
use Rattle.delay_annotation.specs.DelayFile.{HasDelays, HasDelaysOn}
use Rattle.delay_annotation.specs.declared.setting.Columns.{Columns}
use Rattle.delay_annotation.specs.declared.setting.Columns.TheVariants as column
use Rattle.pd_base.specs.declared.fault.Direction.{Direction}
use Rattle.pd_base.specs.declared.fault.Direction.TheVariants.{Rise}
use Rattle.calls.specs.declared.ending.Ending.{Ending}
use Rattle.calls.specs.declared.role.Role.{Role}
use Rattle.calls.specs.declared.role.Role.TheVariants as role
use Rattle.calls.specs.Work.{Require, Stage}
use Rattle.calls.specs.Passing.{Accepts, HasPassed, Pass}
use Rattle.calls.specs.Stopping.{Stops}
use Rattle.calls.proofs.Stages.{begun, then_required, stops_refused}
use Rattle.commands.specs.declared.inputs.reading.TheConstants.{INPUT_LIMIT}
use Rattle.commands.specs.declared.inputs.sizes.TheConstants.{MOST_PATH_TEXT, MOST_TEST_TEXT}
use Rattle.commands.specs.Inside.InputJudging.{FailsToGive, FailsToGiveDelays, FailsToGiveNet, GivesDelays, GivesFrom, GivesNet}
use Rattle.commands.specs.Inside.InputJudging as judging
use Rattle.commands.specs.InputRefusals.{long_path_text, long_test_text}
use Rattle.commands.specs.InputRequirements.{HasMalformed, LacksCircuit, HasNoDelaysFor, InputCommand, Requirement, ShortPathText, ShortTestText, SpellsCircuit, SpellsDelays, WellFormed, delays_stages, input_at, input_stages, net_stages, short_stages, work_on_inputs}
use Rattle.commands.specs.Sizes.{HasLongTexts, HasShortTexts, long_paths, long_tests, path_text_product, test_text_product}
use Rattle.commands.proofs.StageReads.{accepts_size, stops_judged, stops_unwhole, then_whole}
use Rattle.commands.proofs.InputFaults.{has_a_circuit, has_delays, is_within}

module _ (command : InputCommand) where
  -- NET has a circuit
  pub accepts_net : (net : List ℕ) (later : List (List ℕ)) (c : Circuit) → HasCircuit net c
      → Accepts (work_on_inputs command) SpellsCircuit (net ∷ later)
  accepts_net net later c has refusal refuses = has_a_circuit net c refusal has refuses

  -- DELAYS gives it delays in these columns
  pub accepts_given : (columns : Columns) (direction : Direction) (net delays : List ℕ) (later : List (List ℕ)) (c : Circuit) (given : Delays)
      → HasCircuit net c → HasDelaysOn c columns direction delays given
      → Accepts (work_on_inputs command) (SpellsDelays columns) (net ∷ delays ∷ later)
  accepts_given columns direction net delays later c given has gives refusal refuses =
      has_delays net c has columns direction delays given refusal gives refuses

  -- a claim file none of whose lines lacks its form
  pub accepts_form : (input : Role) (place : ℕ) (net : List ℕ) (later : List (List ℕ))
      → ((line : ℕ) → ¬ HasMalformed input net (input_at (net ∷ later) place) line)
      → Accepts (work_on_inputs command) (WellFormed input place) (net ∷ later)
  accepts_form input place net later formed refusal lacks = formed lacks.place lacks.first

  module _ (net : List ℕ) (later : List (List ℕ)) (c : Circuit) (has : HasCircuit net c) (paths : ℕ) where
    -- the texts of the paths are short
    accepts_paths : path_text_product paths c ≤ MOST_PATH_TEXT → Accepts (work_on_inputs command) (ShortPathText paths) (net ∷ later)
    accepts_paths short refusal refuses =
        is_within net c has (path_text_product paths) MOST_PATH_TEXT long_path_text refusal short refuses

    -- and those of the tests
    accepts_tests : test_text_product paths c ≤ MOST_TEST_TEXT → Accepts (work_on_inputs command) (ShortTestText paths) (net ∷ later)
    accepts_tests short refusal refuses =
        is_within net c has (test_text_product paths) MOST_TEST_TEXT long_test_text refusal short refuses

  -- the command begins with NET
  module _ (net_name : List ℕ) (behind_net : List (Stage (Requirement command.Own)))
      (place : command.stages ≡ net_stages net_name ++ behind_net) where
    -- NET gives no circuit
    pub net_fails : (ending : Ending) (old new : FilesSeen) → FailsToGiveNet net_name ending old new → Stops (work_on_inputs command) ending old new
    net_fails ending old new (judging.not_read fails) =
        stops_unwhole command role.Net net_name ending (begun (work_on_inputs command) old) (_, place) fails
    net_fails ending old new (judging.gives_none text read fails) =
        stops_judged command SpellsCircuit (LacksCircuit text.items) ending
        (then_whole command role.Net net_name text (begun (work_on_inputs command) old) read) (_, place) (λ refusal why. why) fails

  -- NET was read and judged
  pub net_passed : (net_name : List ℕ) (c : Circuit) (old mid : FilesSeen) (net : GivesNet net_name c old mid)
      → HasPassed (work_on_inputs command) (net_stages net_name) (net.text.items ∷ []) old mid
  net_passed net_name c old mid net =
      then_required (work_on_inputs command) SpellsCircuit
      (then_whole command role.Net net_name net.text (begun (work_on_inputs command) old) net.read) (accepts_net net.text.items [] c net.holds)

  module _ (columns : Columns) (net_name delays_name : List ℕ) (c : Circuit) (old mid new : FilesSeen) (net : GivesNet net_name c old mid)
    where
      -- DELAYS gives no delays
      pub columns_fail : (behind : List (Stage (Requirement command.Own)))
          → command.stages ≡ delays_stages columns net_name delays_name ++ behind → (ending : Ending)
          → FailsToGive columns delays_name c ending mid new → Stops (work_on_inputs command) ending old new
      columns_fail behind place ending (judging.not_read fails) =
          stops_unwhole command role.Delays delays_name ending (net_passed net_name c old mid net) (_, place) fails
      columns_fail behind place ending (judging.gives_none file read fails) =
          stops_judged command (SpellsDelays columns) (HasNoDelaysFor c columns file.items) ending
          (then_whole command role.Delays delays_name file (net_passed net_name c old mid net) read) (_, place)
          (λ refusal why. record { circuit = c; has = net.holds; none = why }) fails

      -- both were read and judged
      pub columns_passed : (Holds : List ℕ → Type 0) (direction : Direction) (given : Delays)
          → ((text : List ℕ) → Holds text → HasDelaysOn c columns direction text given) → (delays : GivesFrom role.Delays delays_name Holds mid new)
          → HasPassed (work_on_inputs command) (delays_stages columns net_name delays_name) (net.text.items ∷ delays.text.items ∷ []) old new
      columns_passed Holds direction given has delays =
          then_required (work_on_inputs command) (SpellsDelays columns)
          (then_whole command role.Delays delays_name delays.text (net_passed net_name c old mid net) delays.read)
          (accepts_given columns direction net.text.items delays.text.items [] c given net.holds (has delays.text.items delays.holds))

  -- the same, where DELAYS is to have one delay for each pin
  module _ (net_name delays_name : List ℕ) (c : Circuit) (old mid new : FilesSeen) (net : GivesNet net_name c old mid) where
    pub delays_fail : (behind : List (Stage (Requirement command.Own))) → command.stages ≡ input_stages net_name delays_name ++ behind
        → (ending : Ending) → FailsToGiveDelays delays_name c ending mid new → Stops (work_on_inputs command) ending old new
    delays_fail = columns_fail column.Delay net_name delays_name c old mid new net

    pub inputs_passed : (given : Delays) (delays : GivesDelays delays_name c given mid new)
        → HasPassed (work_on_inputs command) (input_stages net_name delays_name) (net.text.items ∷ delays.text.items ∷ []) old new
    inputs_passed given delays =
        columns_passed column.Delay net_name delays_name c old mid new net (λ text. HasDelays c text given) Rise given
        (λ text has. has) delays

  -- what the files tell of NET and DELAYS is accepted, and what follows is passed
  pub delays_pass : (columns : Columns) (direction : Direction) (told : Folder) (net_name delays_name : List ℕ)
      (later : List (Stage (Requirement command.Own))) (c : Circuit) (given : Delays) (all : List (List ℕ))
      → length (bytes_at told.held net_name) ≤ INPUT_LIMIT → HasCircuit (bytes_at told.held net_name) c
      → length (bytes_at told.held delays_name) ≤ INPUT_LIMIT → HasDelaysOn c columns direction (bytes_at told.held delays_name) given
      → Pass (work_on_inputs command) (Some told) later (bytes_at told.held net_name ∷ bytes_at told.held delays_name ∷ []) all
      → Pass (work_on_inputs command) (Some told) (delays_stages columns net_name delays_name ++ later) [] all
  delays_pass columns direction told net_name delays_name later c given all net_within has delays_within gives rest =
      let net = bytes_at told.held net_name in
      let delays = bytes_at told.held delays_name in (
        net,
        refl,
        (
          accepts_size command role.Net [] net net_within,
          (
            accepts_net net [] c has,
            (
              delays,
              refl,
              (
                accepts_size command role.Delays (net ∷ []) delays delays_within,
                (accepts_given columns direction net delays [] c given has gives, rest),
              ),
            ),
          ),
        ),
      )

  -- the same of one delay for each pin
  pub inputs_pass : (told : Folder) (net_name delays_name : List ℕ) (later : List (Stage (Requirement command.Own))) (c : Circuit)
      (given : Delays) (all : List (List ℕ)) → length (bytes_at told.held net_name) ≤ INPUT_LIMIT → HasCircuit (bytes_at told.held net_name) c
      → length (bytes_at told.held delays_name) ≤ INPUT_LIMIT → HasDelays c (bytes_at told.held delays_name) given
      → Pass (work_on_inputs command) (Some told) later (bytes_at told.held net_name ∷ bytes_at told.held delays_name ∷ []) all
      → Pass (work_on_inputs command) (Some told) (input_stages net_name delays_name ++ later) [] all
  inputs_pass = delays_pass column.Delay Rise

  -- texts of so many paths, behind NET and what was read then
  module _ (paths : ℕ) (net : List ℕ) (later : List (List ℕ)) (c : Circuit) (has : HasCircuit net c) where
    module _ (stages : List (Stage (Requirement command.Own))) (old new : FilesSeen)
        (before : HasPassed (work_on_inputs command) stages (net ∷ later) old new) where
      -- the texts of the paths are short
      paths_passed : path_text_product paths c ≤ MOST_PATH_TEXT
          → HasPassed (work_on_inputs command) (stages ++ Require (ShortPathText paths) ∷ []) (net ∷ later) old new
      paths_passed short = then_required (work_on_inputs command) (ShortPathText paths) before (accepts_paths net later c has paths short)

      -- texts may be too long
      pub texts_fail : (behind : List (Stage (Requirement command.Own))) → command.stages ≡ stages ++ (short_stages paths ++ behind)
          → (ending : Ending) → HasLongTexts paths c ending → Stops (work_on_inputs command) ending old new
      texts_fail behind place ending (long_paths over is) =
          subst (λ (e : Ending). Stops (work_on_inputs command) e old new) (sym is)
          (stops_refused (work_on_inputs command) (ShortPathText paths) (long_path_text (path_text_product paths c)) before
          (_, place ∙ sym (append_assoc stages (Require (ShortPathText paths) ∷ []) (Require (ShortTestText paths) ∷ behind)))
          (record { circuit = c; has = has; over = over; is = refl }))
      texts_fail behind place ending (long_tests short over is) =
          subst (λ (e : Ending). Stops (work_on_inputs command) e old new) (sym is)
          (stops_refused (work_on_inputs command) (ShortTestText paths) (long_test_text (test_text_product paths c)) (paths_passed short) (
            _,
            place
                ∙ sym (append_assoc stages (short_stages paths) behind)
                ∙ ap (λ (front : List (Stage (Requirement command.Own))). front ++ behind)
                (sym (append_assoc stages (Require (ShortPathText paths) ∷ []) (Require (ShortTestText paths) ∷ []))),
          )
          (record { circuit = c; has = has; over = over; is = refl }))

      -- they are short
      pub texts_passed : HasShortTexts paths c
          → HasPassed (work_on_inputs command) (stages ++ short_stages paths) (net ∷ later) old new
      texts_passed short =
          subst (λ (front : List (Stage (Requirement command.Own))). HasPassed (work_on_inputs command) front (net ∷ later) old new)
          (append_assoc stages (Require (ShortPathText paths) ∷ []) (Require (ShortTestText paths) ∷ []))
          (then_required (work_on_inputs command) (ShortTestText paths) (paths_passed short.path_text)
          (accepts_tests net later c has paths short.test_text))

    -- what follows is passed behind short texts
    pub texts_pass : (told : Folder) (behind : List (Stage (Requirement command.Own))) (all : List (List ℕ)) → HasShortTexts paths c
        → Pass (work_on_inputs command) (Some told) behind (net ∷ later) all
        → Pass (work_on_inputs command) (Some told) (short_stages paths ++ behind) (net ∷ later) all
    texts_pass told behind all short rest =
        (accepts_paths net later c has paths short.path_text, (accepts_tests net later c has paths short.test_text, rest))
