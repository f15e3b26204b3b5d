-- The sizes stay, so that there is a label for each line of the cone, and room for its gates.
use Rattle.std.proofs.Common.{ℕ, ◌<◌, get_or, sym, ap, subst, ◌∙◌}
use Rattle.search_hints.specs.Drafts.{Sizes}
use Rattle.search_hints.proofs.justifier.begin.Goals as goal

pub write-requires : goal.write-requires
write-requires g c =
    subst (λ (n : ℕ). (get_or c.args.sources.now c.loop-source.source-index (record { 0 = 0 })).0 < n)
    (sym (ap (λ (s : Sizes). s.lines) (c.loop-source.invariant ∙ c.forget.ensures) ∙ c.requires.sizes.lines))
    (c.requires.sources c.loop-source.source-index (record { 0 = 0 }) c.loop-source-test.true)
