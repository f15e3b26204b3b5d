-- The modes of a run, among words (this project's own). Which pairs of vectors are of a mode, the crates above say.
use Rattle.std.specs.Prelude.{ℕ, Bool, false, List, [], ◌∷◌, Option, None, Some, codes, nat_eq, unwrap_or, if◌then◌else◌}
use Rattle.std.specs.Cmp.Lexicographic.{pointwise}
use Rattle.command_line.specs.declared.mode.Mode.{Mode}
use Rattle.command_line.specs.declared.mode.Mode.TheVariants.{Enhanced, Broadside, Skewed}

-- the mode that is asked for of a run; that of a skewed load with the name of its scan file
pub data RunMode : Type 0 where
  enhanced : RunMode
  broadside : RunMode
  skewed : List ℕ → RunMode

-- a mode, with the bytes of the name of its scan file
abbrev pub run_mode_of : Mode → RunMode
run_mode_of Enhanced = enhanced
run_mode_of Broadside = broadside
run_mode_of (Skewed scan) = skewed scan.now

-- the words of the modes
abbrev pub enhanced_word : List ℕ
enhanced_word = codes "enhanced"

abbrev pub broadside_word : List ℕ
broadside_word = codes "broadside"

abbrev pub skewed_word : List ℕ
skewed_word = codes "skewed"

-- all of them
abbrev pub mode_words : List (List ℕ)
mode_words = enhanced_word ∷ broadside_word ∷ skewed_word ∷ []

-- the value of an option names a skewed load
abbrev pub is_skewed : Option (List ℕ) → Bool
is_skewed None = false
is_skewed (Some word) = pointwise nat_eq word skewed_word

-- the mode that the value of an option names, where a scan file was given this name: one that was taken is the word of a mode
abbrev pub mode_of : Option (List ℕ) → Option (List ℕ) → RunMode
mode_of None scan = enhanced
mode_of (Some word) scan =
    if pointwise nat_eq word broadside_word then broadside
    else if pointwise nat_eq word skewed_word then skewed (unwrap_or scan [])
    else enhanced
