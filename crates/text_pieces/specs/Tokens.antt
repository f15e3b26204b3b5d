-- Words and numbers of which the texts of the three files are made (this project's own formats).
use Rattle.std.specs.Prelude.{ℕ, Bool, if◌then◌else◌, List, [], ◌∷◌, ◌++◌, map, codes}
use Rattle.pd_base.specs.declared.fault.Direction.{Direction}
use Rattle.pd_base.specs.declared.fault.Direction.TheVariants.{Rise, Fall}
use Rattle.pd_base.specs.declared.fault.Kind.{Kind}
use Rattle.pd_base.specs.declared.fault.Kind.TheVariants.{Robust, Nonrobust}

-- the byte of a space
abbrev pub space : ℕ
space = 32

-- the byte of a comma
abbrev pub comma : ℕ
comma = 44

-- the byte LF
abbrev pub line_feed : ℕ
line_feed = 10

-- the byte of the digit 0
abbrev pub digit_zero : ℕ
digit_zero = 48

-- the byte of the digit 1
abbrev pub digit_one : ℕ
digit_one = 49

-- a text with a space before it
abbrev pub after_space : List ℕ → List ℕ
after_space text = space ∷ text

-- a line, ended by LF
abbrev pub line : List ℕ → List ℕ
line text = text ++ line_feed ∷ []

-- the word for a transition
abbrev pub direction_word : Direction → List ℕ
direction_word Rise = codes "rise"
direction_word Fall = codes "fall"

-- the word for a kind of test
abbrev pub kind_word : Kind → List ℕ
kind_word Robust = codes "robust"
kind_word Nonrobust = codes "nonrobust"

-- the digit of a bit
abbrev pub digit : Bool → ℕ
digit bit = if bit then digit_one else digit_zero

-- one digit per bit
abbrev pub digits : List Bool → List ℕ
digits bits = map digit bits
