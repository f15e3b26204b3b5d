-- What a clause says of a failed call.
use Rattle.std.proofs.Common.{Ok, Err, Result, OnErr}

-- what holds anyway holds where a call failed
pub on_err : {T E P : Type 0} (result : Result T E) → P → OnErr result P
on_err (Ok value) holds = tt
on_err (Err fault) holds = holds
