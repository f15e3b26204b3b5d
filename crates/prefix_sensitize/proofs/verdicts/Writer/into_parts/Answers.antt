-- The proofs that the numbering tells are those that the writer cites.
use Rattle.std.proofs.Common.{ℕ, List, sym, subst}
use Rattle.prefix_sensitize.specs.Numbering.{HaveOneNumber}
use Rattle.prefix_sensitize.proofs.verdicts.Writer.into_parts.Goals as goal

pub cited_proofs-requires-clause-once : goal.cited_proofs-requires-clause-once
cited_proofs-requires-clause-once c =
    let P : List ℕ → Type 0 = λ cited. HaveOneNumber cited in subst P (sym c.cited.ensures) c.requires.once
