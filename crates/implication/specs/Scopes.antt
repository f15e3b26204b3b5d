-- What contracts see of a scope: how its engine stands, and that it is the same scope (this project's own).
use Rattle.std.specs.Prelude.{◌≡◌}
use Rattle.state_sets.specs.declared.algebra.Algebra.{Ghosts as AlgebraGhosts}
use Rattle.implication.specs.declared.setting.Setting.{Ghosts as SettingGhosts}
use Rattle.implication.specs.declared.scope.Scope.{Scope}
use Rattle.implication.specs.Standing.{Standing}

-- how the engine of a scope stands
abbrev pub standing : {A S : Type 0} {a : AlgebraGhosts A} {s : SettingGhosts S} → Scope A S a s → Standing
standing scope = scope.engine.now

-- the same scope, on the same engine
pub record IsSameScope {A S : Type 0} {a : AlgebraGhosts A} {s : SettingGhosts S} (old new : Scope A S a s) : Type 0 where
  pub engine : new.engine.ghost_name ≡ old.engine.ghost_name
  pub origin : new.origin ≡ old.origin
