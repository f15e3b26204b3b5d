-- The first name that is defined twice, and the first that is used with no definition, where the statements before are free of
-- both.
use Rattle.std.proofs.Common.{◌≡◌, ◌≢◌, ℕ, ◌+◌, ◌<◌, List, [], ◌∷◌, ◌++◌, length, map, take, drop, get_or, sym, ap, subst, ◌∙◌, append_assoc, arith}
use Rattle.std.specs.List.{All, AllPairs, Contains}
use Rattle.std.proofs.lemmas.List.{drop_more, get_or_default, get_or-map, length-map, map-append, take-append-drop}
use Rattle.std.proofs.lemmas.List.Elements.{All-append}
use Rattle.std.proofs.lemmas.List.Quantifiers.{all_pairs_push}
use Rattle.netlist.specs.Description.{AreDistinct, IsWithinLimits, Mention, defined_names, definitions, mentions, used_names, uses}
use Rattle.netlist.specs.Statements.{Numbered, defined_by, used_by}
use Rattle.net_builder.specs.Reading.{line_at, no_statement, statement_at}
use Rattle.net_builder.specs.Refusals.{RefusesTwice, RefusesUndefined, mention_of}
use Rattle.net_builder.proofs.Exclusive.{names_of_definitions, names_of_uses}
use Rattle.net_builder.proofs.Pieces.{flat_more, flat_split}

-- what holds of each image holds of each element's image
pub all_unmapped : {X Y : Type 0} (P : Y → Type 0) (f : X → Y) (xs : List X) → All P (map f xs) → All (λ x. P (f x)) xs
all_unmapped P f xs all k d within =
    subst P (get_or-map f xs k d (f d) within) (all k (f d) (omega (arith, length-map xs f)))

-- a name that a list has not, put last, differs from all of it
pub fresh_last : {X : Type 0} (names : List X) (name : X) → AllPairs (λ a b. a ≢ b) names → (Contains names name → ⊥)
    → AllPairs (λ a b. a ≢ b) (names ++ name ∷ [])
fresh_last names name distinct fresh =
    all_pairs_push (λ a b. a ≢ b) names name distinct
    (λ k d within same. fresh (k, within, get_or_default names k name d within ∙ same))

module _ (statements : List Numbered) (place : ℕ) (within : place < length statements) (name : List ℕ) where
  -- the place of a definition
  definition_place : defined_by (statement_at statements place) ≡ name ∷ []
      → definitions statements ≡ definitions (take place statements)
      ++ mention_of (line_at statements place) name ∷ definitions (drop (place + 1) statements)
  definition_place own =
      flat_split (λ s. mentions s.line (defined_by s.statement)) statements place no_statement within
      ∙ ap (λ names. definitions (take place statements)
      ++ (mentions (line_at statements place) names ++ definitions (drop (place + 1) statements))) own

  -- a name that is defined again
  pub twice_here : IsWithinLimits statements → AreDistinct (take place statements)
      → defined_by (statement_at statements place) ≡ name ∷ [] → Contains (defined_names (take place statements)) name
      → RefusesTwice statements (mention_of (line_at statements place) name)
  twice_here limits distinct own again = record {
    limits = limits;
    twice = record {
      before = definitions (take place statements);
      later = definitions (drop (place + 1) statements);
      place = definition_place own;
      again = subst (λ (names : List (List ℕ)). Contains names name) (sym (names_of_definitions (take place statements))) again;
      first = subst (AllPairs (λ a b. a ≢ b)) (sym (names_of_definitions (take place statements))) distinct;
    };
  }

  -- a name that is not
  pub distinct_more : AreDistinct (take place statements) → defined_by (statement_at statements place) ≡ name ∷ []
      → (Contains (defined_names (take place statements)) name → ⊥) → AreDistinct (take (place + 1) statements)
  distinct_more distinct own fresh =
      subst (AllPairs (λ a b. a ≢ b))
      (sym (flat_more (λ s. defined_by s.statement) statements place no_statement within
      ∙ ap (λ names. defined_names (take place statements) ++ names) own))
      (fresh_last (defined_names (take place statements)) name distinct fresh)

-- the place of an element between the parts of a list and those of the lists around it
around : {X : Type 0} (a b c d : List X) (x : X) → a ++ ((b ++ x ∷ c) ++ d) ≡ (a ++ b) ++ x ∷ (c ++ d)
around a b c d x = ap (λ l. a ++ l) (append_assoc b (x ∷ c) d) ∙ sym (append_assoc a b (x ∷ (c ++ d)))

-- the names that are used, with one statement more
pub all_used_more : (statements : List Numbered) (place : ℕ) → place < length statements → (P : List ℕ → Type 0)
    → All P (used_names (take place statements)) → All P (used_by (statement_at statements place))
    → All P (used_names (take (place + 1) statements))
all_used_more statements place within P before own =
    subst (All P) (sym (flat_more (λ s. used_by s.statement) statements place no_statement within))
    (All-append P (used_names (take place statements)) (used_by (statement_at statements place)) before own)

module _ (statements : List Numbered) (place : ℕ) (within : place < length statements) (argument : ℕ)
    (below : argument < length (used_by (statement_at statements place))) where
  -- the names that the statement uses, and where
  abbrev own : List (List ℕ)
  own = used_by (statement_at statements place)

  abbrev line : ℕ
  line = line_at statements place

  -- the place of a use
  use_place : uses statements ≡ (uses (take place statements) ++ mentions line (take argument own))
      ++ mention_of line (get_or own argument []) ∷ (mentions line (drop (argument + 1) own) ++ uses (drop (place + 1) statements))
  use_place =
      let first = uses (take place statements) in
      let rest = uses (drop (place + 1) statements) in
      flat_split (λ s. mentions s.line (used_by s.statement)) statements place no_statement within
      ∙ ap (λ names. first ++ (mentions line names ++ rest))
      (sym (take-append-drop argument own) ∙ ap (λ names. take argument own ++ names) (drop_more own argument [] below))
      ∙ ap (λ l. first ++ (l ++ rest))
      (map-append (mention_of line) (take argument own) (get_or own argument [] ∷ drop (argument + 1) own))
      ∙ around first (mentions line (take argument own)) (mentions line (drop (argument + 1) own)) rest
      (mention_of line (get_or own argument []))

  -- a use with no definition
  pub undefined_here : IsWithinLimits statements → AreDistinct statements
      → All (Contains (defined_names statements)) (used_names (take place statements))
      → All (Contains (defined_names statements)) (take argument own)
      → (Contains (defined_names statements) (get_or own argument []) → ⊥)
      → RefusesUndefined statements (mention_of line (get_or own argument []))
  undefined_here limits distinct before here missing =
      let HasName = λ (mention : Mention). Contains (defined_names statements) mention.name in
      let first = uses (take place statements) in
      record {
        limits = limits;
        distinct = distinct;
        undefined = record {
          before = first ++ mentions line (take argument own);
          later = mentions line (drop (argument + 1) own) ++ uses (drop (place + 1) statements);
          place = use_place;
          undefined = missing;
          first = All-append HasName first (mentions line (take argument own))
              (all_unmapped (Contains (defined_names statements)) (λ mention. mention.name) first
              (subst (All (Contains (defined_names statements))) (sym (names_of_uses (take place statements))) before))
              (λ k d less. subst (λ (m : Mention). HasName m)
              (sym (get_or-map (mention_of line) (take argument own) k d.name d (omega (arith, length-map (take argument own) (mention_of line)))))
              (here k d.name (omega (arith, length-map (take argument own) (mention_of line)))));
        };
      }
