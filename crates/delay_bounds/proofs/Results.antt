-- A text that is no word for what was seen of a test.
use Rattle.std.proofs.Common.{◌≡◌, ℕ, Bool, true, false, List, codes}
use Rattle.delay_bounds.specs.LogRows.{result_word}

pub no_word : (text : List ℕ) → ¬ (text ≡ codes "pass") → ¬ (text ≡ codes "fail") → (pass : Bool) → ¬ (text ≡ result_word pass)
no_word text no_pass no_fail true same = no_pass same
no_word text no_pass no_fail false same = no_fail same
