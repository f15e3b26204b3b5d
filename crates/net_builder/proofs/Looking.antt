-- A name looked up among the names of a set.
use Rattle.std.proofs.Common.{◌≡◌, inl, inr, ℕ, ◌+◌, ◌<◌, ◌≤◌, Bool, List, [], ◌∷◌, length, get_or, position, Some, None, Contains, refl, sym, ap, ◌∙◌, true≢false, cond, ltb, not, arith}
use Rattle.std.proofs.lemmas.Bool.{cases_lt, lt-ltb}
use Rattle.std.proofs.lemmas.List.{get_or-map, length-map}
use Rattle.std.proofs.lemmas.List.Sums.{fails_before_first}
use Rattle.std.proofs.lemmas.List.Quantifiers.{position-Some}
use Rattle.std.proofs.lemmas.Option.{none-some}
use Rattle.std.proofs.lemmas.Slice.Eq.{bytes_eq-Decides}
use Rattle.std.specs.Str.{bytes_eq}
use Rattle.std.specs.List.{prefix_len, position_or_len}
use Rattle.std.specs.Global.{Vec}
use Rattle.net_builder.specs.KeyNames.{key_names}

-- there are as many names as keys
pub names_of_keys : (keys : List (Vec ℕ)) → length (key_names keys) ≡ length keys
names_of_keys keys = length-map keys (λ key. key.items)

-- the name of a key that stands at a place
pub name_at_key : (keys : List (Vec ℕ)) (at : ℕ) (key : Vec ℕ) → at < length keys → key ≡ get_or keys at key
    → get_or (key_names keys) at [] ≡ key.items
name_at_key keys at key within is = get_or-map (λ k. k.items) keys at key [] within ∙ ap (λ k. k.items) (sym is)

-- the first names that all pass are those of the first keys whose names pass
prefix_in_names : (p : List ℕ → Bool) (keys : List (Vec ℕ))
    → prefix_len p (key_names keys) ≡ prefix_len (λ key. p key.items) keys
prefix_in_names p [] = refl
prefix_in_names p (key ∷ keys) = ap (λ n. cond (p key.items) (1 + n) 0) (prefix_in_names p keys)

-- the place of the first name that passes is that of the first key whose name passes
pub position_in_names : (p : List ℕ → Bool) (keys : List (Vec ℕ))
    → position p (key_names keys) ≡ position (λ key. p key.items) keys
position_in_names p keys =
    (λ i. let n = prefix_in_names (λ x. not (p x)) keys i in cond (ltb n (names_of_keys keys i)) (Some n) None)

-- a name that is found stands there
pub found_at : (name : List ℕ) (names : List (List ℕ)) (i : ℕ) → position (bytes_eq name) names ≡ Some i
    → (i < length names) × (get_or names i [] ≡ name)
found_at name names i at =
    let found = position-Some (bytes_eq name) names i [] at in
    (found.0, sym ((bytes_eq-Decides name (get_or names i [])).0 found.1))

-- where nothing is found, the first place that passes is past the end
none_before : {X : Type 0} (p : X → Bool) (xs : List X) → position p xs ≡ None → length xs ≤ position_or_len p xs
none_before p xs none =
    elim (cases_lt (position_or_len p xs) (length xs)) [
      | inl within ↦
          let found = ap (λ b. cond b (Some (position_or_len p xs)) None) (lt-ltb _ _ within) in
          absurd (none-some (position_or_len p xs) (sym none ∙ found))
      | inr past ↦ past
    ]

-- a name that is not found is none of the names
pub not_found : (name : List ℕ) (names : List (List ℕ)) → position (bytes_eq name) names ≡ None
    → Contains names name → ⊥
not_found name names none (k, within, at) =
    let past = none_before (bytes_eq name) names none in
    let fails = fails_before_first (bytes_eq name) names k name (omega arith) in
    true≢false (sym ((bytes_eq-Decides name (get_or names k name)).1 (sym at)) ∙ fails)
