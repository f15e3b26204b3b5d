-- A list of names as it is kept: one text, and the place in it where each name ends and the next begins (this project's own).
use Rattle.std.specs.Prelude.{◌≡◌, ℕ, ◌≤◌, List, [], ◌∷◌, ◌++◌, length, slice_range}
use Rattle.net_builder.specs.declared.name_list.NameList.TheInside.{Inside}

-- the second list is the first with more behind it, or the same
pub record HasMoreNames (before after : List (List ℕ)) : Type 0 where
  pub more : List (List ℕ)
  pub is : after ≡ before ++ more

-- the parts of a text from a place on that end at these places, each where the one before it ended
abbrev pub parts : List ℕ → ℕ → List ℕ → List (List ℕ)
parts text start [] = []
parts text start (end ∷ ends) = slice_range text start end ∷ parts text end ends

-- all names, in order
abbrev pub names_in : Inside → List (List ℕ)
names_in n = parts n.text.items 0 n.ends.items

-- the ends of parts that together reach from a place to another
abbrev pub Reach : ℕ → List ℕ → ℕ → Type 0
Reach start [] last = start ≡ last
Reach start (end ∷ ends) last = (start ≤ end) × Reach end ends last

-- the names together are the text
abbrev pub AreEnds : Inside → Type 0
AreEnds n = Reach 0 n.ends.items (length n.text.items)
