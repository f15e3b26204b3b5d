-- An input that was read, and what its text gives.
use Rattle.std.proofs.Common.{◌≡◌, ℕ, List, Result, Ok, Err, IfErr, IfOk, subst}
use Rattle.std.specs.Prelude.{Vec}
use Rattle.std.specs.declared.alloc.Global.{Global}
use Rattle.pd_io.specs.Seen.{FilesSeen}
use Rattle.calls.specs.declared.role.Role.{Role}
use Rattle.calls.specs.declared.ending.Ending.{Ending}
use Rattle.commands.specs.Inside.InputJudging.{FailsFrom, GivesFrom, ReadsWithin, gives_none}

module _ {A : Type 0} (input : Role) (name : List ℕ) where
  -- the text gives this
  pub gives_from : (Holds : List ℕ → A → Type 0) (text : Vec ℕ Global) (bytes : List ℕ) (old new : FilesSeen) → bytes ≡ text.items
      → ReadsWithin input name text old new → (result : Result A Ending) → IfOk result (Holds bytes)
      → IfOk result (λ value. GivesFrom input name (λ t. Holds t value) old new)
  gives_from Holds text bytes old new is read (Ok value) holds =
      record { text = text; read = read; holds = subst (λ (t : List ℕ). Holds t value) is holds }
  gives_from Holds text bytes old new is read (Err ending) holds = tt

  -- the text gives nothing
  pub fails_from : (Fails : List ℕ → Ending → Type 0) (text : Vec ℕ Global) (bytes : List ℕ) (old new : FilesSeen) → bytes ≡ text.items
      → ReadsWithin input name text old new → (result : Result A Ending) → IfErr result (Fails bytes)
      → IfErr result (λ ending. FailsFrom input name Fails ending old new)
  fails_from Fails text bytes old new is read (Ok value) fails = tt
  fails_from Fails text bytes old new is read (Err ending) fails =
      gives_none text read (subst (λ (t : List ℕ). Fails t ending) is fails)
