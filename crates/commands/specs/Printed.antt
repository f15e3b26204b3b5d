-- What commands give that write no file (this project's own).
use Rattle.std.specs.Prelude.{ℕ, [], Vec}
use Rattle.std.specs.declared.alloc.Global.{Global}
use Rattle.calls.specs.Work.{Products}

-- no file, and a text on out
abbrev pub printed_text : Vec ℕ Global → Products
printed_text text = record { files = []; out = text.items }
