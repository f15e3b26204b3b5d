-- The text is neither word.
use Rattle.std.proofs.Common.{codes, sym, ◌∙◌, true≢false}
use Rattle.std.proofs.lemmas.Slice.Eq.{bytes_eq-Decides}
use Rattle.delay_bounds.proofs.Results.{no_word}
use Rattle.delay_bounds.proofs.row.passed.Goals as goal

pub returns : goal.returns
returns c =
    let text = c.args.text.now in
    no_word text
    (λ same. true≢false (sym ((bytes_eq-Decides text (codes "pass")).1 same) ∙ sym c.eq.ensures ∙ c.if-eq.false))
    (λ same. true≢false (sym ((bytes_eq-Decides text (codes "fail")).1 same) ∙ sym c.eq-2.ensures ∙ c.if-eq-2.false))
