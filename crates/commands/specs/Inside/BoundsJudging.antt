-- What was found of LOG, and what is told of it, as the functions of `bounds` say it (this project's own).
use Rattle.std.specs.Prelude.{◌≡◌, ℕ, List, Option}
use Rattle.pd_base.specs.declared.test.Test.{Test}
use Rattle.netlist.specs.Circuit.{Circuit}
use Rattle.runs.specs.declared.run.ListedPath.{ListedPath}
use Rattle.delay_bounds.specs.Bounds.{AreBounds}
use Rattle.delay_bounds.specs.declared.log_row.LogRow.{LogRow}
use Rattle.calls.specs.declared.ending.Ending.{Ending}
use Rattle.commands.specs.Bounds.{HasNoLogFor}
use Rattle.commands.specs.BoundsText.{bounds_text}
use Rattle.commands.specs.Inside.InputJudging.{FailsFor}

-- there is no log
abbrev pub FailsLog : ℕ → List ℕ → Ending → Type 0
FailsLog tests text ending = FailsFor (HasNoLogFor tests text) ending

-- the text tells the bounds that the rows show
pub record TellsBounds (c : Circuit) (listed : List Test) (paths : List ListedPath) (rows : List LogRow) (text : List ℕ) : Type 0 where
  pub bounds : List (Option ℕ)
  pub are_bounds : AreBounds c listed rows paths bounds
  pub is : text ≡ bounds_text paths bounds
