-- Rows of bare fields: no byte of a field is a comma or below it, so that csv takes each byte as it stands (this project's own).
use Rattle.std.specs.Prelude.{ℕ, ◌<◌, List, ◌∷◌, ◌++◌, All}
use Rattle.csv.specs.Machine.{line_feed}

-- the byte between fields
abbrev pub comma : ℕ
comma = 44

-- the bytes are all above this one
abbrev pub AreAbove : ℕ → List ℕ → Type 0
AreAbove byte text = All (λ own. byte < own) text

-- three fields as a row, and the text behind it
abbrev pub bare_text : List ℕ → List ℕ → List ℕ → List ℕ → List ℕ
bare_text test time result behind = test ++ comma ∷ (time ++ comma ∷ (result ++ line_feed ∷ behind))
