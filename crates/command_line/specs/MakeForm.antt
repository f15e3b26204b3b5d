-- The words of `make`: the number of stages of a ladder (this project's own).
use Rattle.std.specs.Prelude.{ℕ, ◌≤◌, List, [], Option, None, Some, Result, slice_index_or, unwrap_or, if◌then◌else◌}
use Rattle.command_line.specs.Reading.{Form, Texts, asked_by}
use Rattle.command_line.specs.Values.{is_within, number_spelled}
use Rattle.command_line.specs.declared.forms.make.MakeCommand.{MakeCommand}
use Rattle.command_line.specs.declared.refusal.WordsRefusal.{WordsRefusal}
use Rattle.command_line.specs.declared.refusal.WordsRefusal.TheVariants.{Stages}
use Rattle.pd_base.specs.declared.limits.TheConstants.{MOST_STAGES}
use Rattle.command_line.specs.declared.forms.make.TheConstants.{MOST_STAGES_DIGITS}

-- a call of `make`: how many stages the ladder is to have
pub record MakeCall : Type 0 where
  pub stages : ℕ

-- the number of a call of `make` is within its limits
pub record HasMakeNumbers (call : MakeCall) : Type 0 where
  pub some_stages : 1 ≤ call.stages
  pub few_stages : call.stages ≤ MOST_STAGES

-- the number of stages that a text spells
abbrev pub stages_spelled : List ℕ → Option ℕ
stages_spelled text = number_spelled MOST_STAGES_DIGITS text

-- why a text is no number of stages, if it is none
abbrev pub stages_reason : List ℕ → Option WordsRefusal
stages_reason text = if is_within 1 MOST_STAGES (stages_spelled text) then None else Some Stages

-- the form of the words: the only one is a number of stages
abbrev pub make_form : Form
make_form = record {
  words = record { options = []; positional = 1; files = 0 };
  before_names = λ texts. stages_reason (slice_index_or texts.positional 0 []);
  after_names = λ texts. None;
}

-- the call of `make` by words that say this
abbrev pub make_call : Texts → MakeCall
make_call texts = record { stages = unwrap_or (stages_spelled (slice_index_or texts.positional 0 [])) 0 }

-- what the words behind `make` ask for, or why they are refused
abbrev pub asked_make : List (List ℕ) → Result MakeCall WordsRefusal
asked_make words = asked_by make_form make_call words

-- a call of `make`
abbrev pub make_call_of : MakeCommand → MakeCall
make_call_of command = record { stages = command.stages }
