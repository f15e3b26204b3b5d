-- The bytes spell the number.
use Rattle.std.proofs.Common.{[], ◌∷◌, ◌∙◌}
use Rattle.std.specs.Int.{from_be_bytes, w64}
use Rattle.net_builder.proofs.FirstBytes.{first_spelled}
use Rattle.net_builder.proofs.by_name.first_bytes.Goals as goal

pub returns : goal.returns
returns c =
    c.from_be_bytes.ensures
    ∙ (λ i. from_be_bytes w64 (c.byte_at.ensures i ∷ c.byte_at-2.ensures i ∷ c.byte_at-3.ensures i ∷ c.byte_at-4.ensures i
    ∷ c.byte_at-5.ensures i ∷ c.byte_at-6.ensures i ∷ c.byte_at-7.ensures i ∷ c.byte_at-8.ensures i ∷ []))
    ∙ first_spelled c.args.name.now
