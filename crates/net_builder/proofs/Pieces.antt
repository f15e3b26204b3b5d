-- What is read off one statement more.
use Rattle.std.proofs.Common.{◌≡◌, ℕ, ◌+◌, ◌<◌, List, [], ◌∷◌, ◌++◌, length, take, drop, get_or, sym, ap, ◌∙◌, append-nil, arith}
use Rattle.std.proofs.lemmas.List.{take_more, take-append-drop, drop_more, length-append, length-map}
use Rattle.std.proofs.lemmas.List.Sums.{sum_by-append, sum_by-cons}
use Rattle.std.proofs.lemmas.Grind.{flat_map-append}
use Rattle.std.specs.List.{flat_map, sum_by}
use Rattle.netlist.specs.Description.{definitions, mentions, pins_in, stated_pins}
use Rattle.netlist.specs.Statements.{Numbered, defined_by}
use Rattle.net_builder.specs.Reading.{no_statement, statement_at, line_at}

module _ {X A : Type 0} (f : X → List A) (xs : List X) (i : ℕ) (d : X) (within : i < length xs) where
  -- one more element of a list gives its own items last
  pub flat_more : flat_map f (take (i + 1) xs) ≡ flat_map f (take i xs) ++ f (get_or xs i d)
  flat_more =
      ap (flat_map f) (take_more xs i d within) ∙ flat_map-append f (take i xs) (get_or xs i d ∷ [])
      ∙ ap (λ l. flat_map f (take i xs) ++ l) (append-nil (f (get_or xs i d)))

  -- the items of all stand before, at and behind an element
  pub flat_split : flat_map f xs ≡ flat_map f (take i xs) ++ (f (get_or xs i d) ++ flat_map f (drop (i + 1) xs))
  flat_split =
      ap (flat_map f) (sym (take-append-drop i xs)) ∙ flat_map-append f (take i xs) (drop i xs)
      ∙ ap (λ l. flat_map f (take i xs) ++ flat_map f l) (drop_more xs i d within)

-- there are as many definitions more as the statement has
pub definitions_more : (statements : List Numbered) (place : ℕ) → place < length statements
    → length (definitions (take (place + 1) statements))
    ≡ length (definitions (take place statements)) + length (defined_by (statement_at statements place))
definitions_more statements place within =
    let f = λ (s : Numbered). mentions s.line (defined_by s.statement) in
    let own = defined_by (statement_at statements place) in
    ap length (flat_more f statements place no_statement within)
    ∙ length-append (definitions (take place statements)) (mentions (line_at statements place) own)
    ∙ ap (λ n. length (definitions (take place statements)) + n)
    (length-map own (λ name. record { line = line_at statements place; name = name }))

-- and as many pins
pub pins_more : (statements : List Numbered) (place : ℕ) → place < length statements
    → stated_pins (take (place + 1) statements) ≡ stated_pins (take place statements) + pins_in (statement_at statements place)
pins_more statements place within =
    let f = λ (s : Numbered). pins_in s.statement in
    let s = get_or statements place no_statement in
    let single : sum_by f (s ∷ []) ≡ pins_in s.statement = sum_by-cons f s [] ∙ (omega arith) in
    ap (sum_by f) (take_more statements place no_statement within)
    ∙ sum_by-append f (take place statements) (s ∷ [])
    ∙ ap (λ n. stated_pins (take place statements) + n) single
