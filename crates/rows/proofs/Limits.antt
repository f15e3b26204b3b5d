-- The limits as numbers (this project's own; docs/formats.md lists them).
use Rattle.std.proofs.Common.{◌≡◌, Some, codes, pos, refl}
use Rattle.pd_base.specs.declared.limits.TheConstants.{MOST_BUDGET, MOST_BYTES, MOST_PATHS, MOST_STAGES}
use Rattle.command_line.specs.declared.number.TheConstants.{MOST_DIGITS}
use Rattle.command_line.specs.Options.{option_entry}
use Rattle.command_line.specs.declared.forms.make.TheConstants.{MOST_STAGES_DIGITS}
use Rattle.command_line.specs.declared.forms.run.TheConstants.{MOST_PRODUCT}
use Rattle.command_line.specs.declared.option_name.OptionName.TheVariants.{Budget, Paths}
use Rattle.command_line.specs.declared.time.TheConstants.{MOST_TIME, MOST_TIME_DIGITS}
use Rattle.pd_io.specs.declared.named.TheConstants.{MOST_AT_ONCE}
use Rattle.netlist.specs.declared.limits.TheConstants.{MOST_LINES, MOST_PINS, MOST_FAN_IN, MOST_LEVELS, MOST_NAME_BYTES, MOST_STATEMENTS}
use Rattle.delay_annotation.specs.declared.delays.TheConstants.{MOST_DELAY, UNIT_DELAY}
use Rattle.delay_annotation.specs.declared.field.TheConstants.{MOST_PIN_DIGITS, MOST_NUMBER_DIGITS}
use Rattle.delay_replay.specs.declared.gate.TheConstants.{MOST_CHANGES}
use Rattle.delay_replay.specs.declared.line_waves.TheConstants.{MOST_CHANGES_OF_ALL}
use Rattle.delay_replay.specs.declared.wave.TheConstants.{LATEST_CHANGE}
use Rattle.delay_bounds.specs.declared.log_row.TheConstants.{MOST_TEST_DIGITS, MOST_TIME_DIGITS as MOST_LOG_TIME_DIGITS}
use Rattle.commands.specs.declared.inputs.graded.TheConstants.{MOST_GRADES}
use Rattle.commands.specs.declared.inputs.reading.TheConstants.{INPUT_LIMIT}
use Rattle.commands.specs.declared.making.TheConstants.{LADDER_BUDGET, LADDER_PATHS}
use Rattle.commands.specs.declared.inputs.sizes.TheConstants.{MOST_PATH_TEXT, MOST_TEST_TEXT, STEP_BYTES}

-- of texts that are read
most_bytes : MOST_BYTES ≡ 268435456
most_bytes = refl

-- of circuits
most_lines : MOST_LINES ≡ 262144
most_lines = refl

most_pins : MOST_PINS ≡ 1048576
most_pins = refl

most_fan_in : MOST_FAN_IN ≡ 1024
most_fan_in = refl

most_levels : MOST_LEVELS ≡ 4096
most_levels = refl

most_name_bytes : MOST_NAME_BYTES ≡ 255
most_name_bytes = refl

most_statements : MOST_STATEMENTS ≡ 2147483647
most_statements = refl

-- of delays
most_delay : MOST_DELAY ≡ 1000000
most_delay = refl

unit_delay : UNIT_DELAY ≡ 1
unit_delay = refl

most_pin_digits : MOST_PIN_DIGITS ≡ 4
most_pin_digits = refl

most_number_digits : MOST_NUMBER_DIGITS ≡ 7
most_number_digits = refl

-- of logs, and of tests beside faults
most_test_digits : MOST_TEST_DIGITS ≡ 5
most_test_digits = refl

most_log_time_digits : MOST_LOG_TIME_DIGITS ≡ 10
most_log_time_digits = refl

most_grades : MOST_GRADES ≡ 1000000
most_grades = refl

-- of replays
most_changes : MOST_CHANGES ≡ 65536
most_changes = refl

most_changes_of_all : MOST_CHANGES_OF_ALL ≡ 16777216
most_changes_of_all = refl

latest_change : LATEST_CHANGE ≡ pos 5000000000
latest_change = refl

-- of files in memory
most_at_once : MOST_AT_ONCE ≡ 4096
most_at_once = refl

-- of calls
most_paths : MOST_PATHS ≡ 10000
most_paths = refl

most_budget : MOST_BUDGET ≡ 1000000
most_budget = refl

most_product : MOST_PRODUCT ≡ 4000000
most_product = refl

most_digits : MOST_DIGITS ≡ 7
most_digits = refl

default_paths : (option_entry Paths).default ≡ Some (codes "100")
default_paths = refl

default_budget : (option_entry Budget).default ≡ Some (codes "1000")
default_budget = refl

most_time : MOST_TIME ≡ 9999999999
most_time = refl

most_time_digits : MOST_TIME_DIGITS ≡ 10
most_time_digits = refl

input_limit : INPUT_LIMIT ≡ 33554432
input_limit = refl

most_path_text : MOST_PATH_TEXT ≡ 67108864
most_path_text = refl

most_test_text : MOST_TEST_TEXT ≡ 40000000
most_test_text = refl

step_bytes : STEP_BYTES ≡ 6
step_bytes = refl

-- of ladders
most_stages : MOST_STAGES ≡ 1000
most_stages = refl

most_stages_digits : MOST_STAGES_DIGITS ≡ 4
most_stages_digits = refl

ladder_paths : LADDER_PATHS ≡ 100
ladder_paths = refl

ladder_budget : LADDER_BUDGET ≡ 1000
ladder_budget = refl
