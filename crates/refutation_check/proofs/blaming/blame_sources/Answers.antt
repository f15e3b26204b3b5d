-- What was found is what the cone has.
use Rattle.std.proofs.Common.{◌≡◌, ⊎_elim, inr, List, [], ap, sym, subst, arith}
use Rattle.std.specs.List.{Contains}
use Rattle.pd_base.specs.declared.ids.LineId.{LineId}
use Rattle.cones.specs.FoundLines.{FoundSet}
use Rattle.refutation_check.proofs.blaming.blame_sources.Goals as goal

pub returns-clause-sources : goal.returns-clause-sources
returns-clause-sources c = λ source.
    let P : List LineId → Type 0 = λ lines. Contains lines (record { 0 = source }) in
    let none : c.clear.new.self.lines ≡ [] = ap (λ (f : FoundSet). f.lines) c.clear.ensures in (
      λ has. ⊎_elim (λ was. let nothing : Contains [] (record { 0 = source }) = subst P none was in absurd (omega (arith, nothing.1)))
          (λ among. subst P c.sources.ensures among) ((c.add_all.ensures.exactly source).0 has),
      λ among. (c.add_all.ensures.exactly source).1 (inr (subst P (sym c.sources.ensures) among)),
    )
