-- The cause and the text that a refusal's fields stand for: the text of the first `count` parts of its array, with its name behind them
-- (this project's own).
use Rattle.std.specs.Prelude.{ℕ, List, [], ◌++◌, take, Option, None, Some}
use Rattle.calls.specs.declared.refusal.Refusal.TheInside.{Inside}
use Rattle.calls.specs.CauseAndText.{CauseAndText, refusal_for}
use Rattle.calls.specs.Parts.{parts_text}

-- the name, if there is one
abbrev pub name_text : Option (List ℕ) → List ℕ
name_text None = []
name_text (Some name) = name

-- the cause and the text
abbrev pub cause_and_text : Inside → CauseAndText
cause_and_text r = refusal_for r.cause (parts_text (take r.count r.parts) ++ name_text r.name)
