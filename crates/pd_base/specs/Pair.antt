-- What a contract sees of a pair of vectors (this project's own).
use Rattle.std.specs.Prelude.{Bool, List}

-- one bit per source: before time 0, and from time 0 on
pub record Vectors : Type 0 where
  pub first : List Bool
  pub second : List Bool
