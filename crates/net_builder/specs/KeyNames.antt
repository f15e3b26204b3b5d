-- The names in a set of names (this project's own).
use Rattle.std.specs.Prelude.{ℕ, List, map}
use Rattle.std.specs.Global.{Vec}

-- the names that are the keys of a set, in the order in which they came
abbrev pub key_names : List (Vec ℕ) → List (List ℕ)
key_names keys = map (λ key. key.items) keys
