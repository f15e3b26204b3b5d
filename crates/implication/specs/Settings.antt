-- What stays of an engine whatever its scopes do (this project's own).
use Rattle.std.specs.Prelude.{◌≡◌}
use Rattle.implication.specs.Standing.{Standing}

-- the engine is made for the same circuit and rules, and tells the same lines
pub record IsSameSetting (old new : Standing) : Type 0 where
  pub net : new.net ≡ old.net
  pub rules : new.rules ≡ old.rules
  pub ends : new.ends ≡ old.ends
