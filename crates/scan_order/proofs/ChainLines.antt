-- Lines of chains: one more of them, which flip-flops they name, and that each is named once.
use Rattle.std.proofs.Common.{◌≡◌, ◌≢◌, ⊎_elim, ◌∙◌, ◌<◌, ◌≤◌, ℕ, zero, suc, cond, Bool, true, false, List, [], ◌∷◌, ◌++◌, length, get_or, map, flat_map, filter, Contains, refl, sym, ap, ap₂, subst, append_assoc, append-nil, arith}
use Rattle.std.specs.List.{AllByRecursion, AllPairs}
use Rattle.std.proofs.lemmas.Grind.{flat_map-append}
use Rattle.std.proofs.lemmas.List.{get_or_append_left, get_or_at, get_or-map, length-append, length-map, map-append}
use Rattle.std.proofs.lemmas.List.Elements.{filter-append, All-get_or, All-from_recursion, Contains-append_left, Contains-append_right, Contains-append_cases}

module _ {A : Type 0} (name : A → List ℕ) where
  abbrev pub parted : List (List A) → List (List ℕ)
  parted chains = flat_map (λ chain. [] ∷ map name chain) chains

  abbrev pub lines : List (List A) → List (List ℕ)
  lines [] = []
  lines (chain ∷ chains) = map name chain ++ parted chains

  -- one flip-flop more
  pub lines-place : (ended : List (List A)) (chain : List A) (flop : A)
      → lines (ended ++ (chain ++ flop ∷ []) ∷ []) ≡ lines (ended ++ chain ∷ []) ++ name flop ∷ []
  lines-place [] chain flop =
      append-nil (map name (chain ++ flop ∷ [])) ∙ map-append name chain (flop ∷ [])
      ∙ ap (λ (names : List (List ℕ)). names ++ name flop ∷ []) (sym (append-nil (map name chain)))
  lines-place (first ∷ ended) chain flop =
      ap (λ (more : List (List ℕ)). map name first ++ more)
      (flat_map-append (λ (one : List A). [] ∷ map name one) ended ((chain ++ flop ∷ []) ∷ [])
      ∙ ap (λ (names : List (List ℕ)). parted ended ++ ([] ∷ names)) (append-nil (map name (chain ++ flop ∷ [])) ∙ map-append name chain (flop ∷ []))
      ∙ sym (append_assoc (parted ended) ([] ∷ map name chain) (name flop ∷ []))
      ∙ ap (λ (names : List (List ℕ)). names ++ name flop ∷ [])
      (ap (λ (names : List (List ℕ)). parted ended ++ ([] ∷ names)) (sym (append-nil (map name chain)))
      ∙ sym (flat_map-append (λ (one : List A). [] ∷ map name one) ended (chain ∷ []))))
      ∙ sym (append_assoc (map name first) (parted (ended ++ chain ∷ [])) (name flop ∷ []))

  -- one chain more
  pub lines-begin : (first : List A) (more : List (List A)) → lines ((first ∷ more) ++ [] ∷ []) ≡ lines (first ∷ more) ++ [] ∷ []
  lines-begin first more =
      ap (λ (names : List (List ℕ)). map name first ++ names) (flat_map-append (λ (one : List A). [] ∷ map name one) more ([] ∷ []))
      ∙ sym (append_assoc (map name first) (parted more) ([] ∷ []))

  pub lines-part : (ended : List (List A)) (chain : List A) → lines ((ended ++ chain ∷ []) ++ [] ∷ []) ≡ lines (ended ++ chain ∷ []) ++ [] ∷ []
  lines-part [] chain = lines-begin chain []
  lines-part (first ∷ ended) chain = lines-begin first (ended ++ chain ∷ [])

-- all that stands in chains
abbrev pub inside : {A : Type 0} → List (List A) → List A
inside chains = flat_map (λ chain. chain) chains

pub inside-last : {A : Type 0} (ended : List (List A)) (chain : List A) → inside (ended ++ chain ∷ []) ≡ inside ended ++ chain
inside-last ended chain = flat_map-append (λ one. one) ended (chain ∷ []) ∙ ap (λ more. inside ended ++ more) (append-nil chain)

pub inside-place : {A : Type 0} (ended : List (List A)) (chain : List A) (flop : A) → inside (ended ++ (chain ++ flop ∷ []) ∷ []) ≡ inside (ended ++ chain ∷ []) ++ flop ∷ []
inside-place ended chain flop =
    inside-last ended (chain ++ flop ∷ []) ∙ sym (append_assoc (inside ended) chain (flop ∷ []))
    ∙ ap (λ more. more ++ flop ∷ []) (sym (inside-last ended chain))

pub inside-part : {A : Type 0} (chains : List (List A)) → inside (chains ++ [] ∷ []) ≡ inside chains
inside-part chains = inside-last chains [] ∙ append-nil (inside chains)

-- what holds of all that stands in chains holds in each
pub in_each : {A : Type 0} (P : A → Type 0) (chains : List (List A)) → AllByRecursion P (inside chains) → AllByRecursion (AllByRecursion P) chains
in_each {A} P [] all = tt
in_each {A} P (chain ∷ chains) all = (front chain all, in_each P chains (back chain all))
  where
    front : (one : List A) → AllByRecursion P (one ++ inside chains) → AllByRecursion P one
    front [] all = tt
    front (flop ∷ one) all = (all.0, front one all.1)

    back : (one : List A) → AllByRecursion P (one ++ inside chains) → AllByRecursion P (inside chains)
    back [] all = all
    back (flop ∷ one) all = back one all.1

-- the test of a line that is not empty
abbrev pub is_named : List ℕ → Bool
is_named [] = false
is_named (byte ∷ line) = true

pub named_is : (line : List ℕ) → line ≢ [] → is_named line ≡ true
named_is [] some = absurd (some refl)
named_is (byte ∷ line) some = refl

module _ {A : Type 0} (name : A → List ℕ) (Is : A → Type 0) (named : (flop : A) → Is flop → name flop ≢ []) where
  kept_names : (chain : List A) → AllByRecursion Is chain → filter is_named (map name chain) ≡ map name chain
  kept_names [] are = refl
  kept_names (flop ∷ chain) are = rw (named_is (name flop) (named flop are.0)) (ap (λ (names : List (List ℕ)). name flop ∷ names) (kept_names chain are.1))

  kept_parted : (chains : List (List A)) → AllByRecursion (AllByRecursion Is) chains → filter is_named (parted name chains) ≡ map name (inside chains)
  kept_parted [] are = refl
  kept_parted (chain ∷ chains) are =
      filter-append is_named (map name chain) (parted name chains)
      ∙ ap₂ (λ (a b : List (List ℕ)). a ++ b) (kept_names chain are.0) (kept_parted chains are.1)
      ∙ sym (map-append name chain (inside chains))

  -- the lines that are not empty are the names of all that stands in the chains
  pub kept_lines : (chains : List (List A)) → AllByRecursion (AllByRecursion Is) chains → filter is_named (lines name chains) ≡ map name (inside chains)
  kept_lines [] are = refl
  kept_lines (chain ∷ chains) are =
      filter-append is_named (map name chain) (parted name chains)
      ∙ ap₂ (λ (a b : List (List ℕ)). a ++ b) (kept_names chain are.0) (kept_parted chains are.1)
      ∙ sym (map-append name chain (inside chains))

-- what passes a test is still there when all else is left out
kept_has : {X : Type 0} (p : X → Bool) (xs : List X) (x : X) → Contains xs x → p x ≡ true → Contains (filter p xs) x
kept_has p [] x (k, within, found) passes = absurd (omega arith)
kept_has p (y ∷ ys) x (zero, within, found) passes =
    rw (ap p found ∙ passes) (zero, omega arith, found)
kept_has {X} p (y ∷ ys) x (suc k, within, found) passes =
    let rest : Contains (filter p ys) x = kept_has p ys x (k, omega arith, found) passes in
    elim (p y) as (λ (b : Bool). Contains (cond b (y ∷ filter p ys) (filter p ys)) x)
    [ true ↦ Contains-append_right (y ∷ []) (filter p ys) x rest | false ↦ rest ]

module _ {A : Type 0} (name : A → List ℕ) where
  in_names : (chain : List A) (flop : A) → Contains chain flop → Contains (map name chain) (name flop)
  in_names chain flop (k, within, found) =
      (k, omega (arith, within, length-map chain name), get_or-map name chain k flop (name flop) within ∙ ap name found)

  in_parted : (chains : List (List A)) (flop : A) → Contains (inside chains) flop → Contains (parted name chains) (name flop)
  in_parted [] flop (k, within, found) = absurd (omega arith)
  in_parted (chain ∷ chains) flop has =
      ⊎_elim
      (λ here. Contains-append_left ([] ∷ map name chain) (parted name chains) (name flop)
      (Contains-append_right ([] ∷ []) (map name chain) (name flop) (in_names chain flop here)))
      (λ later. Contains-append_right ([] ∷ map name chain) (parted name chains) (name flop) (in_parted chains flop later))
      (Contains-append_cases chain (inside chains) flop has)

  -- what stands in the chains is named by a line
  pub in_lines : (chains : List (List A)) (flop : A) → Contains (inside chains) flop → Contains (lines name chains) (name flop)
  in_lines [] flop (k, within, found) = absurd (omega arith)
  in_lines (chain ∷ chains) flop has =
      ⊎_elim
      (λ here. Contains-append_left (map name chain) (parted name chains) (name flop) (in_names chain flop here))
      (λ later. Contains-append_right (map name chain) (parted name chains) (name flop) (in_parted chains flop later))
      (Contains-append_cases chain (inside chains) flop has)

module _ {A : Type 0} (name : A → List ℕ) (Is : A → Type 0) (named : (flop : A) → Is flop → name flop ≢ [])
    (told : (a b : A) → Is a → Is b → name a ≡ name b → a ≡ b) where
  -- what a line names stands in the chains
  pub named_inside : (chains : List (List A)) (flop : A) → AllByRecursion Is (inside chains) → Is flop → Contains (lines name chains) (name flop)
      → Contains (inside chains) flop
  named_inside chains flop are is_flop has =
      let kept = kept_has is_named (lines name chains) (name flop) has (named_is (name flop) (named flop is_flop)) in
      let there = subst (λ (names : List (List ℕ)). Contains names (name flop)) (kept_lines name Is named chains (in_each Is chains are)) kept in
      at there
    where
      at : Contains (map name (inside chains)) (name flop) → Contains (inside chains) flop
      at (k, within, found) =
          let short : k < length (inside chains) = omega (arith, within, length-map (inside chains) name) in
          let is_here = All-get_or Is (inside chains) k flop short (All-from_recursion Is (inside chains) are) in
          (k, short, told (get_or (inside chains) k flop) flop is_here is_flop (sym (get_or-map name (inside chains) k flop (name flop) short) ∙ found))

  -- no line that is not empty stands behind one that says the same
  pub said_once : (chains : List (List A)) (d : A) (before : List (List ℕ)) (said : List ℕ) (others : List (List ℕ)) → AllByRecursion Is (inside chains)
      → AllPairs (λ a b. a ≢ b) (inside chains) → lines name chains ≡ before ++ said ∷ others → said ≢ [] → ¬ Contains before said
  said_once chains d before said others are once split some has = twice (kept_has is_named before said has (named_is said some))
    where
      front : List (List ℕ)
      front = filter is_named before

      names : map name (inside chains) ≡ front ++ said ∷ filter is_named others
      names =
          sym (kept_lines name Is named chains (in_each Is chains are)) ∙ ap (filter is_named) split ∙ filter-append is_named before (said ∷ others)
          ∙ ap (λ (test : Bool). front ++ cond test (said ∷ filter is_named others) (filter is_named others)) (named_is said some)

      twice : Contains front said → ⊥
      twice (k, within, found) =
          let long = ap length names ∙ length-append front (said ∷ filter is_named others) in
          let short : k < length (inside chains) = omega (arith, within, long, length-map (inside chains) name) in
          let short' : length front < length (inside chains) = omega (arith, long, length-map (inside chains) name) in
          let all = All-from_recursion Is (inside chains) are in
          let at_first : name (get_or (inside chains) k d) ≡ said =
          sym (get_or-map name (inside chains) k d said short) ∙ ap (λ (list : List (List ℕ)). get_or list k said) names
          ∙ get_or_append_left front (said ∷ filter is_named others) said k within ∙ found in
          let at_second : name (get_or (inside chains) (length front) d) ≡ said =
          sym (get_or-map name (inside chains) (length front) d said short') ∙ ap (λ (list : List (List ℕ)). get_or list (length front) said) names
          ∙ get_or_at front said (filter is_named others) said (length front) refl in
          once k (length front) d within short'
          (told (get_or (inside chains) k d) (get_or (inside chains) (length front) d) (All-get_or Is (inside chains) k d short all)
          (All-get_or Is (inside chains) (length front) d short' all) (at_first ∙ sym at_second))

  -- ---- lines tell their chains

  not_parted : (chains : List (List A)) (flop : A) (more : List (List ℕ)) → Is flop → parted name chains ≢ name flop ∷ more
  not_parted [] flop more is_flop same = cc
  not_parted (chain ∷ chains) flop more is_flop same =
      let none : [] ≡ name flop = cc in
      named flop is_flop (sym none)

  same_first : (a b : List A) (xs ys : List (List A)) → AllByRecursion Is a → AllByRecursion Is b
      → map name a ++ parted name xs ≡ map name b ++ parted name ys → (a ≡ b) × (parted name xs ≡ parted name ys)
  same_first [] [] xs ys are are' same = (refl, same)
  same_first [] (y ∷ b) xs ys are are' same = absurd (not_parted xs y (map name b ++ parted name ys) are'.0 same)
  same_first (x ∷ a) [] xs ys are are' same = absurd (not_parted ys x (map name a ++ parted name xs) are.0 (sym same))
  same_first (x ∷ a) (y ∷ b) xs ys are are' same =
      let head : name x ≡ name y = cc in
      let tail : map name a ++ parted name xs ≡ map name b ++ parted name ys = cc in
      let rest = same_first a b xs ys are.1 are'.1 tail in
      (ap₂ ◌∷◌ (told x y are.0 are'.0 head) rest.0, rest.1)

  same_parted : (xs ys : List (List A)) → AllByRecursion (AllByRecursion Is) xs → AllByRecursion (AllByRecursion Is) ys
      → parted name xs ≡ parted name ys → xs ≡ ys
  same_parted [] [] are are' same = refl
  same_parted [] (b ∷ ys) are are' same = cc
  same_parted (a ∷ xs) [] are are' same = cc
  same_parted (a ∷ xs) (b ∷ ys) are are' same =
      let tail : map name a ++ parted name xs ≡ map name b ++ parted name ys = cc in
      let rest = same_first a b xs ys are.0 are'.0 tail in
      ap₂ ◌∷◌ rest.0 (same_parted xs ys are.1 are'.1 rest.1)

  nothing_there : (b : List A) (ys : List (List A)) → 1 ≤ length b → [] ≢ map name b ++ parted name ys
  nothing_there [] ys some same = absurd (omega arith)
  nothing_there (y ∷ b) ys some same = cc

  pub lines_once : (xs ys : List (List A)) → AllByRecursion (λ chain. 1 ≤ length chain) xs → AllByRecursion (λ chain. 1 ≤ length chain) ys
      → AllByRecursion (AllByRecursion Is) xs → AllByRecursion (AllByRecursion Is) ys → lines name xs ≡ lines name ys → xs ≡ ys
  lines_once [] [] some some' are are' same = refl
  lines_once [] (b ∷ ys) some some' are are' same = absurd (nothing_there b ys some'.0 same)
  lines_once (a ∷ xs) [] some some' are are' same = absurd (nothing_there a xs some.0 (sym same))
  lines_once (a ∷ xs) (b ∷ ys) some some' are are' same =
      let rest = same_first a b xs ys are.0 are'.0 same in
      ap₂ ◌∷◌ rest.0 (same_parted xs ys are.1 are'.1 rest.1)
