-- The text is that of the number, and calls for no quotes.
use Rattle.std.proofs.Common.{◌≡◌, decimal, subst, sym, ◌∙◌}
use Rattle.run_files.specs.PlainTexts.{IsPlain}
use Rattle.run_files.proofs.PlainTexts.{decimal_plain}
use Rattle.run_files.proofs.rows.digits_of.Goals as goal

pub returns : goal.returns
returns c =
    let text : c.as_bytes.result.now ≡ decimal c.args.number = c.as_bytes.ensures.value ∙ c.format.ensures.text in
    record { text = text; plain = subst IsPlain (sym text) (decimal_plain c.args.number) }
