-- A text of numbered lines, an item more.
use Rattle.std.proofs.Common.{◌≡◌, ℕ, ◌+◌, ◌<◌, List, ◌++◌, drop, length, get_or, sym, ap, ◌∙◌, append_assoc}
use Rattle.std.proofs.lemmas.List.{drop_more}
use Rattle.commands.specs.ReplayText.{numbered_lines}

-- with the line of the item at the place the text goes on behind it
pub one_line_more : {X : Type 0} (items : List X) (place : ℕ) (none : X) → place < length items → (line_for : ℕ → X → List ℕ) (number : ℕ)
    (text whole : List ℕ) → text ++ numbered_lines line_for number (drop place items) ≡ whole
    → (text ++ line_for number (get_or items place none)) ++ numbered_lines line_for (number + 1) (drop (place + 1) items) ≡ whole
one_line_more items place none within line_for number text whole is =
    append_assoc text (line_for number (get_or items place none)) (numbered_lines line_for (number + 1) (drop (place + 1) items))
    ∙ ap (λ lines. text ++ lines) (sym (ap (numbered_lines line_for number) (drop_more items place none within)))
    ∙ is
