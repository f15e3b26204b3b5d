-- A file was not written; all files are whole, and out was written or not.
use Rattle.std.proofs.Common.{refl}
use Rattle.calls.proofs.Outputs.{unwritten}
use Rattle.commands.proofs.generating.write_products.Goals as goal

pub returns-in-Err : goal.returns-in-Err
returns-in-Err g c = unwritten _ _ _ _ c.in-Err.ensures.unwritten refl
