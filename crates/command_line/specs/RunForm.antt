-- The words of `gen` and of `check`: the names of five files, how many paths and splits, and the mode, with a scan file where it needs one
-- (this project's own).
use Rattle.std.specs.Prelude.{ℕ, ◌*◌, ◌≤◌, leb, Bool, true, false, List, [], ◌∷◌, Option, None, Some, Result, is_some, option_and_then, slice_index_or, unwrap_or, if◌then◌else◌}
use Rattle.pd_base.specs.declared.limits.TheConstants.{MOST_BUDGET, MOST_PATHS}
use Rattle.command_line.specs.Modes.{RunMode, is_skewed, mode_of, run_mode_of}
use Rattle.command_line.specs.Reading.{Form, Texts, asked_by, value_asked}
use Rattle.command_line.specs.Values.{number_spelled}
use Rattle.command_line.specs.declared.forms.run.RunCommand.{RunCommand}
use Rattle.command_line.specs.declared.forms.run.TheConstants.{MOST_PRODUCT}
use Rattle.command_line.specs.declared.number.TheConstants.{MOST_DIGITS}
use Rattle.command_line.specs.declared.option_name.OptionName.{OptionName}
use Rattle.command_line.specs.declared.option_name.OptionName.TheVariants.{Paths, Budget, Scan}
use Rattle.command_line.specs.declared.option_name.OptionName.TheVariants as option
use Rattle.command_line.specs.declared.refusal.WordsRefusal.{WordsRefusal}
use Rattle.command_line.specs.declared.refusal.WordsRefusal.TheVariants.{Product}
use Rattle.command_line.specs.declared.refusal.WordsRefusal.TheVariants as refusal

-- What is asked for of a run: its files, how many paths are to be listed, the budget of splits for each search, and the mode, whose pairs
-- alone count. `gen` makes the run, and `check` judges the one that its files spell.
pub record RunCall : Type 0 where
  pub net : List ℕ
  pub delays : List ℕ
  pub tests : List ℕ
  pub report : List ℕ
  pub proofs : List ℕ
  pub paths : ℕ
  pub budget : ℕ
  pub mode : RunMode

-- the numbers that are asked for of a run are within their limits
pub record HasRunNumbers (call : RunCall) : Type 0 where
  pub some_paths : 1 ≤ call.paths
  pub few_paths : call.paths ≤ MOST_PATHS
  pub some_budget : 1 ≤ call.budget
  pub small_budget : call.budget ≤ MOST_BUDGET
  pub product : call.paths * call.budget ≤ MOST_PRODUCT

-- the number that a value spells
abbrev pub number_of : Option (List ℕ) → ℕ
number_of value = unwrap_or (option_and_then (number_spelled MOST_DIGITS) value) 0

-- the number that an option has
abbrev pub number_asked : OptionName → Texts → ℕ
number_asked option texts = number_of (value_asked option texts)

-- why this product of paths and budget is refused
abbrev pub product_reason : ℕ → Option WordsRefusal
product_reason product = if leb product MOST_PRODUCT then None else Some (Product product)

-- why words are refused that name a skewed load, or name none, and that give a scan file, or give none
abbrev pub scan_reason : Bool → Bool → Option WordsRefusal
scan_reason true true = None
scan_reason false false = None
scan_reason is_skewed has_scan = Some refusal.Scan

-- the form of the words: a scan file is given exactly for a skewed load, and, once the names are compared, the product is within its limit
abbrev pub run_form : Form
run_form = record {
  words = record { options = Paths ∷ Budget ∷ option.Mode ∷ Scan ∷ []; positional = 5; files = 5 };
  before_names = λ texts. scan_reason (is_skewed (value_asked option.Mode texts)) (is_some (value_asked Scan texts));
  after_names = λ texts. product_reason (number_asked Paths texts * number_asked Budget texts);
}

-- what is asked for of a run by words that say this
abbrev pub run_call : Texts → RunCall
run_call texts = record {
  net = slice_index_or texts.positional 0 [];
  delays = slice_index_or texts.positional 1 [];
  tests = slice_index_or texts.positional 2 [];
  report = slice_index_or texts.positional 3 [];
  proofs = slice_index_or texts.positional 4 [];
  paths = number_asked Paths texts;
  budget = number_asked Budget texts;
  mode = mode_of (value_asked option.Mode texts) (value_asked Scan texts);
}

-- what the words behind `gen` or `check` ask for, or why they are refused
abbrev pub asked_run : List (List ℕ) → Result RunCall WordsRefusal
asked_run words = asked_by run_form run_call words

-- what is asked for of a run, with the bytes of its names
abbrev pub run_call_of : RunCommand → RunCall
run_call_of command = record {
  net = command.net.now;
  delays = command.delays.now;
  tests = command.tests.now;
  report = command.report.now;
  proofs = command.proofs.now;
  paths = command.paths;
  budget = command.budget;
  mode = run_mode_of command.mode;
}
