-- What a test is looked for: a path or prefix, the transition at its source, and how strict the test has to be (this project's own
-- record of a path delay fault and a kind of test).
use Rattle.pd_base.specs.Route.{Route}
use Rattle.pd_base.specs.declared.fault.Direction.{Direction}
use Rattle.pd_base.specs.declared.fault.Kind.{Kind}

pub record Target : Type 0 where
  pub path : Route
  pub direction : Direction
  pub kind : Kind

-- a target of these parts
abbrev pub target_of : Route → Direction → Kind → Target
target_of path direction kind = record { path = path; direction = direction; kind = kind }
