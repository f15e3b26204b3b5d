-- The names of the lines by number are the names that are defined, in another order, so either differ where the others do.
use Rattle.std.proofs.Common.{◌≡◌, ◌≢◌, inl, inr, ℕ, ◌+◌, ◌<◌, List, [], ◌∷◌, ◌++◌, length, map, take, drop, get_or, refl, sym, ap, subst, ◌∙◌, append_assoc, arith}
use Rattle.std.specs.List.{AllPairs, Contains, flat_map, swap}
use Rattle.std.specs.List.Sorted.{IsPermutation}
use Rattle.std.proofs.lemmas.Bool.{cases_lt}
use Rattle.std.proofs.lemmas.List.{get_or_append_left, length-append, map-append}
use Rattle.std.proofs.lemmas.List.Edits.{length-swap}
use Rattle.std.proofs.lemmas.List.Sorted.{IsPermutation-append_comm, IsPermutation-append_left, IsPermutation-append_right, IsPermutation-keeps, IsPermutation-refl, IsPermutation-sym, IsPermutation-trans, Contains-permutation, length_permutation}
use Rattle.indexmap.proofs.ReorderLemmas.{exchange, exchange-twice, exchange-within, get_or-swap}
use Rattle.netlist.specs.declared.raw_net.RawStmt.{RawStmt}
use Rattle.netlist.specs.declared.raw_net.RawStmt.TheVariants.{Input, Output, Gate, Flop}
use Rattle.netlist.specs.Description.{AreDistinct, defined_names, flop_in, gate_in, names_by_line}
use Rattle.netlist.specs.Statements.{Numbered, defined_by}
use Rattle.net_builder.specs.declared.names.Group.TheVariants.{Inputs, Flops, Gates}
use Rattle.net_builder.specs.Groups.{group_in, group_names}
use Rattle.net_builder.proofs.Pieces.{flat_split}

-- the elements of a list are all different
abbrev pub Differ : {X : Type 0} → List X → Type 0
Differ xs = AllPairs (λ a b. a ≢ b) xs

module _ {X : Type 0} where
  -- any two of them differ
  pub two_differ : (xs : List X) → Differ xs → (i j : ℕ) (d : X) → (i ≡ j → ⊥) → i < length xs → j < length xs
      → get_or xs i d ≡ get_or xs j d → ⊥
  two_differ xs differ i j d apart within_i within_j same =
      elim (cases_lt i j) [
        | inl before ↦ differ i j d before within_j same
        | inr behind ↦ differ j i d (omega (arith, apart)) within_i (sym same)
      ]

  -- those of the front of such a list differ
  pub front_differs : (xs ys : List X) → Differ (xs ++ ys) → Differ xs
  front_differs xs ys differ i j d before within same =
      let long = length-append xs ys in
      differ i j d before (omega (arith, long))
      (get_or_append_left xs ys d i (omega arith) ∙ same ∙ sym (get_or_append_left xs ys d j within))

  -- two in each other's places
  swap_differ : (l : List X) (a b : ℕ) → a < length l → b < length l → Differ l → Differ (swap l a b)
  swap_differ l a b in_a in_b differ i j d before within same =
      let long = length-swap l a b in
      let at_i : i < length l = omega arith in
      let at_j : j < length l = omega arith in
      let moved = sym (get_or-swap l a b d in_a in_b i) ∙ same ∙ get_or-swap l a b d in_a in_b j in
      two_differ l differ (exchange a b i) (exchange a b j) d
      (λ one. let e = sym (exchange-twice a b i) ∙ ap (exchange a b) one ∙ exchange-twice a b j in absurd (omega (arith, e)))
      (exchange-within a b (length l) i in_a in_b at_i) (exchange-within a b (length l) j in_a in_b at_j) moved

  -- in another order
  pub order_differ : (xs ys : List X) → IsPermutation xs ys → Differ xs → Differ ys
  order_differ xs ys other differ =
      IsPermutation-keeps xs Differ differ (λ l i j p q h. swap_differ l i j p q h) ys other

-- two lists of each element, together and one behind the other
two_groups : {X A : Type 0} (f g : X → List A) (xs : List X)
    → IsPermutation (flat_map (λ x. f x ++ g x) xs) (flat_map f xs ++ flat_map g xs)
two_groups f g [] = IsPermutation-refl []
two_groups f g (x ∷ xs) =
    let fs = flat_map f xs in
    let gs = flat_map g xs in
    let all = flat_map (λ x. f x ++ g x) xs in
    let inner = IsPermutation-append_right (g x) all (fs ++ gs) (two_groups f g xs) in
    let moved = IsPermutation-append_left gs (g x ++ fs) (fs ++ g x) (IsPermutation-append_comm (g x) fs) in
    let both : IsPermutation (g x ++ all) (fs ++ (g x ++ gs)) =
    IsPermutation-trans (g x ++ all) (g x ++ (fs ++ gs)) (fs ++ (g x ++ gs)) inner
    (subst (IsPermutation (g x ++ (fs ++ gs))) (append_assoc fs (g x) gs)
    (subst (λ l. IsPermutation l ((fs ++ g x) ++ gs)) (append_assoc (g x) fs gs) moved)) in
    let outer = IsPermutation-append_right (f x) (g x ++ all) (fs ++ (g x ++ gs)) both in
    subst (IsPermutation ((f x ++ g x) ++ all)) (sym (append_assoc (f x) fs (g x ++ gs)))
    (subst (λ l. IsPermutation l (f x ++ (fs ++ (g x ++ gs)))) (sym (append_assoc (f x) (g x) all)) outer)

-- what is defined is an input, a flip-flop or a gate
own_group : (s : RawStmt) → defined_by s ≡ (group_in Inputs s ++ group_in Flops s) ++ group_in Gates s
own_group (Input name) = refl
own_group (Output name) = refl
own_group (Gate name kind arguments) = refl
own_group (Flop name data_line) = refl

-- functions that agree give the same pieces
flat_agree : {X A : Type 0} (f g : X → List A) → ((x : X) → f x ≡ g x) → (xs : List X) → flat_map f xs ≡ flat_map g xs
flat_agree f g same [] = refl
flat_agree f g same (x ∷ xs) = ap (λ l. l ++ flat_map f xs) (same x) ∙ ap (λ l. g x ++ l) (flat_agree f g same xs)

-- where two are the same in a list with pieces put behind it up to any, so are two with all pieces
pub pieces_repeated : {X A : Type 0} (f : X → List A) (xs : List X) (i : ℕ) (d : X) → i < length xs → (none some : List A)
    → some ≡ none ++ flat_map f (take i xs) → ¬ Differ (some ++ f (get_or xs i d)) → ¬ Differ (none ++ flat_map f xs)
pieces_repeated f xs i d within none some is repeated differ =
    let before = flat_map f (take i xs) in
    let own = f (get_or xs i d) in
    let behind = flat_map f (drop (i + 1) xs) in
    let cut = ap (λ l. none ++ l) (flat_split f xs i d within) ∙ sym (append_assoc none before (own ++ behind))
    ∙ ap (λ l. l ++ (own ++ behind)) (sym is) ∙ sym (append_assoc some own behind) in
    repeated (front_differs (some ++ own) behind (subst Differ cut differ))

-- images of pieces
pub map_flat : {X A B : Type 0} (h : A → B) (f : X → List A) (xs : List X)
    → map h (flat_map f xs) ≡ flat_map (λ x. map h (f x)) xs
map_flat h f [] = refl
map_flat h f (x ∷ xs) = map-append h (f x) (flat_map f xs) ∙ ap (λ l. map h (f x) ++ l) (map_flat h f xs)

module _ (statements : List Numbered) where
  abbrev first : List (List ℕ)
  first = group_names Inputs statements

  abbrev second : List (List ℕ)
  second = group_names Flops statements

  abbrev third : List (List ℕ)
  third = group_names Gates statements

  -- the groups one behind another are the names by line
  pub by_groups : (first ++ second) ++ third ≡ names_by_line statements
  by_groups =
      (λ i. (first ++ sym (map_flat (λ flop. flop.name) (λ (s : Numbered). flop_in s.statement) statements) i)
      ++ sym (map_flat (λ gate. gate.name) (λ (s : Numbered). gate_in s.statement) statements) i)

  -- and the defined names in another order
  pub reordered : IsPermutation (defined_names statements) (names_by_line statements)
  reordered =
      let both = λ (s : Numbered). group_in Inputs s.statement ++ group_in Flops s.statement in
      let gate = λ (s : Numbered). group_in Gates s.statement in
      let split = flat_agree (λ (s : Numbered). defined_by s.statement) (λ s. both s ++ gate s) (λ s. own_group s.statement) statements in
      let outer = two_groups both gate statements in
      let inner = IsPermutation-append_left third (flat_map both statements) (first ++ second)
      (two_groups (λ (s : Numbered). group_in Inputs s.statement) (λ s. group_in Flops s.statement) statements) in
      subst (λ l. IsPermutation l (names_by_line statements)) (sym split)
      (subst (IsPermutation (flat_map (λ s. both s ++ gate s) statements)) by_groups
      (IsPermutation-trans (flat_map (λ s. both s ++ gate s) statements) (flat_map both statements ++ third)
      ((first ++ second) ++ third) outer inner))

  -- there are as many
  pub as_many_lines : length (names_by_line statements) ≡ length (defined_names statements)
  as_many_lines = length_permutation (defined_names statements) (names_by_line statements) reordered

  -- a defined name is that of a line
  pub is_line : (name : List ℕ) → Contains (defined_names statements) name → Contains (names_by_line statements) name
  is_line name = Contains-permutation (defined_names statements) (names_by_line statements) name reordered

  -- and that of a line is defined
  pub is_defined : (name : List ℕ) → Contains (names_by_line statements) name → Contains (defined_names statements) name
  is_defined name =
      Contains-permutation (names_by_line statements) (defined_names statements) name
      (IsPermutation-sym (defined_names statements) (names_by_line statements) reordered)

  -- where each is defined once, the names of the lines differ
  pub lines_differ : AreDistinct statements → Differ (names_by_line statements)
  lines_differ = order_differ (defined_names statements) (names_by_line statements) reordered

  -- and where these differ, each is defined once
  pub lines_distinct : Differ (names_by_line statements) → AreDistinct statements
  lines_distinct =
      order_differ (names_by_line statements) (defined_names statements)
      (IsPermutation-sym (defined_names statements) (names_by_line statements) reordered)

  -- and those of the groups one behind another
  groups_differ : AreDistinct statements → Differ ((first ++ second) ++ third)
  groups_differ distinct = subst Differ (sym by_groups) (lines_differ distinct)

  module _ (none : List (List ℕ)) (empty : none ≡ []) where
    -- a name repeated in the first group is defined twice
    pub first_repeated : ¬ Differ (none ++ first) → ¬ AreDistinct statements
    first_repeated repeated distinct =
        repeated (subst Differ (ap (λ l. l ++ first) (sym empty))
        (front_differs first second (front_differs (first ++ second) third (groups_differ distinct))))

    module _ (one : List (List ℕ)) (is_one : one ≡ none ++ first) where
      one_is : one ≡ first
      one_is = is_one ∙ ap (λ l. l ++ first) empty

      -- and so is one repeated in the first two
      pub second_repeated : ¬ Differ (one ++ second) → ¬ AreDistinct statements
      second_repeated repeated distinct =
          repeated (subst Differ (ap (λ l. l ++ second) (sym one_is))
          (front_differs (first ++ second) third (groups_differ distinct)))

      -- and one in all three
      pub third_repeated : (two : List (List ℕ)) → two ≡ one ++ second → ¬ Differ (two ++ third) → ¬ AreDistinct statements
      third_repeated two is_two repeated distinct =
          repeated (subst Differ (ap (λ l. l ++ third) (sym (is_two ∙ ap (λ l. l ++ second) one_is))) (groups_differ distinct))

  module _ (none one two three : List (List ℕ)) (empty : none ≡ []) (is_one : one ≡ none ++ first)
      (is_two : two ≡ one ++ second) (is_three : three ≡ two ++ third) where
    -- the groups put one behind another are all lines
    pub all_lines : three ≡ names_by_line statements
    all_lines =
        is_three ∙ ap (λ l. l ++ third) (is_two ∙ ap (λ l. l ++ second)
        (is_one ∙ ap (λ l. l ++ first) empty)) ∙ by_groups
