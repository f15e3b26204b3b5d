-- The tokens of the arguments of a gate, peeled off one by one.
use Rattle.std.proofs.Common.{ℕ, List, ◌++◌, Option, Some, None}

-- these names before the others, if those are names
abbrev pub behind : List (List ℕ) → Option (List (List ℕ)) → Option (List (List ℕ))
behind front None = None
behind front (Some others) = Some (front ++ others)
