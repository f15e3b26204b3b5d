-- The gate behind so many others.
use Rattle.std.proofs.Common.{◌≡◌, ℕ, ◌+◌, ◌<◌, List, [], ◌∷◌, ◌++◌, length, map, take, drop, slice_get, Some, refl, sym, ap, ◌∙◌}
use Rattle.netlist.specs.Description.{gate_in, gate_mentions, mentions}
use Rattle.netlist.specs.Statements.{Numbered}
use Rattle.net_builder.specs.Reading.{line_at, no_statement, own_name, statement_at}
use Rattle.net_builder.specs.Refusals.{mention_of}
use Rattle.net_builder.proofs.Pieces.{flat_split}

-- the element behind the first part of a list
behind : {X : Type 0} (before later : List X) (x : X) → slice_get (before ++ x ∷ later) (length before) ≡ Some x
behind [] later x = refl
behind (first ∷ before) later x = behind before later x

-- the gate of a statement
pub gate_here : (st : List Numbered) (place : ℕ) → place < length st → (gate : ℕ) → length (gate_mentions (take place st)) ≡ gate
    → map (λ g. g.name) (gate_in (statement_at st place)) ≡ own_name (statement_at st place) ∷ []
    → slice_get (gate_mentions st) gate ≡ Some (mention_of (line_at st place) (own_name (statement_at st place)))
gate_here st place within gate many own =
    let before = gate_mentions (take place st) in
    let later = gate_mentions (drop (place + 1) st) in
    let here = mention_of (line_at st place) (own_name (statement_at st place)) in
    let split : gate_mentions st ≡ before ++ here ∷ later =
    flat_split (λ s. mentions s.line (map (λ g. g.name) (gate_in s.statement))) st place no_statement within
    ∙ ap (λ names. before ++ (mentions (line_at st place) names ++ later)) own in
    (λ i. slice_get (split i) (sym many i)) ∙ behind before later here
