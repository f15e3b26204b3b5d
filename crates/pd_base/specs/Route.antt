-- What a contract sees of a path (this project's own).
use Rattle.std.specs.Prelude.{List}
use Rattle.pd_base.specs.declared.ids.LineId.{LineId}
use Rattle.pd_base.specs.declared.ids.PinRef.{PinRef}

-- where the path begins, and the pins that it goes through, one step each
pub record Route : Type 0 where
  pub source : LineId
  pub steps : List PinRef
