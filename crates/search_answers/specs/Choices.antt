-- What the callers here choose from (this project's own).
use Rattle.std.specs.Prelude.{ℕ, ◌<◌, List, All}
use Rattle.search_answers.specs.declared.choice.Choice.{Choice}

-- each choice is one at a source of so many
abbrev pub AreAtSources : ℕ → List Choice → Type 0
AreAtSources sources choices = All (λ choice. choice.source.0 < sources) choices
