use Rattle.std.proofs.Common.{◌≡◌, ◌∙◌, sym, ap, arith, decimal, true}
use Rattle.std.proofs.lemmas.Fmt.{parse-decimal, IsAscii-decimal}
use Rattle.std.proofs.lemmas.Slice.Eq.{bytes_eq-Decides}
use Rattle.std.proofs.lemmas.Str.{IsUtf8-from_ascii}
use Rattle.text_pieces.proofs.Spelled.{none_spelled, one_spelled}
use Rattle.text_pieces.proofs.number.read_long.Goals as goal

pub returns-in_default : goal.returns-in_default
returns-in_default c =
    none_spelled decimal _ c.args.word.now (λ v fits is. c.in_default.ensures.cases.0 (IsUtf8-from_ascii c.args.word.now (rw is (IsAscii-decimal v (omega arith)))))

pub returns-in_default-parse : goal.returns-in_default-parse
returns-in_default-parse c =
    none_spelled decimal _ c.args.word.now
    (λ v fits is.
    let parsed = parse-decimal 64 v c.in-Ok.text.now c.parse.result (omega arith) (omega arith) (c.in-Ok.ensures.cases.0 ∙ is) c.parse.ensures.value.0 in
    let failed = c.in_default-parse.is in
    cc)

pub returns-then-eq : goal.returns-then-eq
returns-then-eq c =
    let p = c.in-Ok-parse.ensures.value.0 in
    one_spelled decimal _ c.args.word.now c.in-Ok-parse.number (omega (arith, p.0.1, p.1))
    ((bytes_eq-Decides _ _).0 (sym c.eq.ensures ∙ c.if-eq.true) ∙ c.as_bytes.ensures.value ∙ c.format.ensures.text)
    (λ v fits is.
    let parsed = parse-decimal 64 v c.in-Ok.text.now c.parse.result (omega arith) (omega arith) (c.in-Ok.ensures.cases.0 ∙ is) c.parse.ensures.value.0 in
    cc c.in-Ok-parse.is)

pub returns-else-eq : goal.returns-else-eq
returns-else-eq c =
    none_spelled decimal _ c.args.word.now
    (λ v fits is.
    let parsed = parse-decimal 64 v c.in-Ok.text.now c.parse.result (omega arith) (omega arith) (c.in-Ok.ensures.cases.0 ∙ is) c.parse.ensures.value.0 in
    let same : c.in-Ok-parse.number ≡ v = cc c.in-Ok-parse.is in
    let told : c.eq.result ≡ true =
    c.eq.ensures ∙ (bytes_eq-Decides _ _).1 (is ∙ ap decimal (sym same) ∙ sym c.format.ensures.text ∙ sym c.as_bytes.ensures.value) in
    let no = c.if-eq.false in
    cc)
