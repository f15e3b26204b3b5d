-- What statements say group by group: of numbered ones, and of those that are made one from each of some parts.
use Rattle.std.proofs.Common.{◌≡◌, ℕ, ◌+◌, List, [], ◌∷◌, ◌++◌, length, map, refl, ap, sym, ◌∙◌, length-append}
use Rattle.std.proofs.lemmas.List.{length-map}
use Rattle.std.proofs.lemmas.List.Sums.{sum_by-cons}
use Rattle.std.specs.List.{flat_map, sum_by}
use Rattle.netlist.specs.declared.raw_net.RawStmt.{RawStmt}
use Rattle.netlist.specs.Description.{Mention, mentions}
use Rattle.netlist.specs.Statements.{Numbered, numbered}
use Rattle.bench_reader.proofs.StatementLines.{numbered_from}

-- what is read off the statements does not depend on their lines
pub of_numbered : {X : Type 0} (part : RawStmt → List X) (line : ℕ) (statements : List RawStmt)
    → flat_map (λ s. part s.statement) (numbered_from line statements) ≡ flat_map part statements
of_numbered part line [] = refl
of_numbered part line (statement ∷ statements) = ap (λ rest. part statement ++ rest) (of_numbered part (line + 1) statements)

-- nor does a sum over them
pub sum_of_numbered : (count : RawStmt → ℕ) (line : ℕ) (statements : List RawStmt)
    → sum_by (λ s. count s.statement) (numbered_from line statements) ≡ sum_by count statements
sum_of_numbered count line [] = refl
sum_of_numbered count line (statement ∷ statements) =
    sum_by-cons (λ s. count s.statement) (numbered line statement) (numbered_from (line + 1) statements)
    ∙ ap (λ rest. count statement + rest) (sum_of_numbered count (line + 1) statements)
    ∙ sym (sum_by-cons count statement statements)

-- there are as many mentions as names
pub length_mentions : (names : RawStmt → List (List ℕ)) (statements : List Numbered)
    → length (flat_map (λ s. mentions s.line (names s.statement)) statements) ≡ length (flat_map (λ s. names s.statement) statements)
length_mentions names [] = refl
length_mentions names (s ∷ statements) =
    length-append (mentions s.line (names s.statement)) (flat_map (λ s. mentions s.line (names s.statement)) statements)
    ∙ ap (λ n. n + length (flat_map (λ s. mentions s.line (names s.statement)) statements))
    (length-map {B = Mention} (names s.statement) (λ name. record { line = s.line; name = name }))
    ∙ ap (λ n. length (names s.statement) + n) (length_mentions names statements)
    ∙ sym (length-append (names s.statement) (flat_map (λ s. names s.statement) statements))

-- one statement of each part, from which one thing is read
pub one_of_each : {X Y : Type 0} (part : RawStmt → List Y) (made : X → RawStmt) (thing : X → Y) → ((x : X) → part (made x) ≡ thing x ∷ [])
    → (xs : List X) → flat_map part (map made xs) ≡ map thing xs
one_of_each part made thing is [] = refl
one_of_each part made thing is (x ∷ xs) =
    ap (λ first. first ++ flat_map part (map made xs)) (is x) ∙ ap (λ rest. thing x ∷ rest) (one_of_each part made thing is xs)

-- or from which nothing is read
pub none_of_each : {X Y : Type 0} (part : RawStmt → List Y) (made : X → RawStmt) → ((x : X) → part (made x) ≡ [])
    → (xs : List X) → flat_map part (map made xs) ≡ []
none_of_each part made is [] = refl
none_of_each part made is (x ∷ xs) = ap (λ first. first ++ flat_map part (map made xs)) (is x) ∙ none_of_each part made is xs

-- or which each count so much
pub sum_of_each : {X : Type 0} (count : RawStmt → ℕ) (made : X → RawStmt) (number : X → ℕ) → ((x : X) → count (made x) ≡ number x)
    → (xs : List X) → sum_by count (map made xs) ≡ sum_by number xs
sum_of_each count made number is [] = refl
sum_of_each count made number is (x ∷ xs) =
    sum_by-cons count (made x) (map made xs)
    ∙ ap (λ first. first + sum_by count (map made xs)) (is x)
    ∙ ap (λ rest. number x + rest) (sum_of_each count made number is xs)
    ∙ sym (sum_by-cons number x xs)
