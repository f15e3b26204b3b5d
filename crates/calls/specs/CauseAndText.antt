-- What is seen of a refusal: its cause, and the text of its line on err, without the end of the line (this project's own).
use Rattle.std.specs.Prelude.{ℕ, List}
use Rattle.calls.specs.declared.cause.Cause.{Cause}

pub record CauseAndText : Type 0 where
  pub cause : Cause
  pub text : List ℕ

-- the refusal for this cause, with this text
abbrev pub refusal_for : Cause → List ℕ → CauseAndText
refusal_for cause text = record { cause = cause; text = text }
