-- The words and the command of a call, as contracts see the values of the code (this project's own).
use Rattle.std.specs.Prelude.{ℕ, List, map}
use denote.Ref.{Bor}
pub use Rattle.command_line.specs.RunForm.{run_call_of}
pub use Rattle.command_line.specs.ReplayForm.{replay_call_of}
pub use Rattle.command_line.specs.MakeForm.{make_call_of}
pub use Rattle.command_line.specs.Words.{call_of}

-- the bytes of each word
abbrev pub bytes_of_words : List (Bor (List ℕ)) → List (List ℕ)
bytes_of_words words = map (λ word. word.now) words
