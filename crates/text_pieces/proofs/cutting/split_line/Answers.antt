use Rattle.std.proofs.Common.{ap, ◌∙◌, ◌∷◌, ◌≡◌, ◌++◌}
use Rattle.text_pieces.specs.Tokens.{line_feed}
use Rattle.text_pieces.specs.Cuts.{pieces_left}
use Rattle.text_pieces.proofs.Cuts.{first_line, no_line}
use Rattle.text_pieces.proofs.cutting.split_line.Goals as goal

pub returns-in_err-rest-clause-reads : goal.returns-in_err-rest-clause-reads
returns-in_err-rest-clause-reads c =
    rw c.from_residual.ensures
    (no_line c.args.text.now c.cut.result.0.now (c.cut.ensures.pieces ∙ ap (λ left. c.cut.result.0.now ∷ pieces_left line_feed left) c.in_err-rest.was))

pub returns-clause-reads : goal.returns-clause-reads
returns-clause-reads c =
    let whole : c.args.text.now ≡ c.cut.result.0.now ++ line_feed ∷ c.in_ok-rest.field-0.now = rw c.in_ok-rest.was at c.cut.ensures.whole in
    first_line c.args.text.now c.cut.result.0.now c.in_ok-rest.field-0.now whole c.cut.ensures.lacks
