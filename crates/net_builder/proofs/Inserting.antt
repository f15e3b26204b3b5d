-- A name put into a set of names that has none like it goes last.
use Rattle.std.proofs.Common.{◌≡◌, ℕ, ◌||◌, Bool, true, false, not, true≢false, List, [], ◌∷◌, ◌++◌, get_or, refl, sym, ap, ◌∙◌}
use Rattle.std.specs.List.{Contains}
use Rattle.std.specs.List.{list_any}
use Rattle.std.specs.Str.{bytes_eq}
use Rattle.std.specs.Global.{Vec}
use Rattle.std.proofs.lemmas.Bool.{cond-false, false_from_ne_true, not-false}
use Rattle.std.proofs.lemmas.List.{map_push, get_or_default}
use Rattle.std.proofs.lemmas.List.Elements.{All-from_get_or}
use Rattle.std.proofs.lemmas.List.Folds.{list_any_at, list_any_none}
use Rattle.std.proofs.lemmas.Map.Views.{Contains-from_any}
use Rattle.std.proofs.lemmas.Slice.Eq.{bytes_eq-Decides}
use Rattle.indexmap.specs.IndexSet.{insert_key}
use Rattle.net_builder.specs.KeyNames.{key_names}

-- some key's name passes where some name does
any_in_names : (p : List ℕ → Bool) (vecs : List (Vec ℕ))
    → list_any (λ v. p v.items) vecs ≡ list_any p (key_names vecs)
any_in_names p [] = refl
any_in_names p (v ∷ vecs) = ap (λ b. p v.items || b) (any_in_names p vecs)

-- a name that the set has not goes last
pub insert_fresh : (keys : List (Vec ℕ)) (v : Vec ℕ) (name : List ℕ) → v.items ≡ name → (Contains (key_names keys) name → ⊥)
    → key_names (insert_key (λ a b. bytes_eq a.items b.items) keys v) ≡ key_names keys ++ name ∷ []
insert_fresh keys v name is fresh =
    let absent : list_any (λ k. bytes_eq v.items k.items) keys ≡ false =
    any_in_names (bytes_eq v.items) keys ∙ ap (λ n. list_any (bytes_eq n) (key_names keys)) is
    ∙ list_any_none (bytes_eq name) (key_names keys)
    (All-from_get_or (λ other. bytes_eq name other ≡ false) (key_names keys) [] (λ k within.
    false_from_ne_true (bytes_eq name (get_or (key_names keys) k [])) (λ same.
    let equal = (bytes_eq-Decides name (get_or (key_names keys) k [])).0 same in
    fresh (k, within, get_or_default (key_names keys) k name [] within ∙ sym equal)))) in
    ap key_names (cond-false (list_any (λ k. bytes_eq v.items k.items) keys) keys (keys ++ v ∷ []) absent)
    ∙ map_push (λ w. w.items) keys v
    ∙ ap (λ n. key_names keys ++ n ∷ []) is

-- a name that was new to the set is none of those before
pub not_listed : (keys : List (Vec ℕ)) (v : Vec ℕ) (name : List ℕ) → v.items ≡ name
    → true ≡ not (list_any (λ k. bytes_eq v.items k.items) keys) → Contains (key_names keys) name → ⊥
not_listed keys v name is new has =
    let same = (bytes_eq-Decides name (get_or (key_names keys) has.0 name)).1 (sym has.2) in
    let listed = list_any_at (bytes_eq name) (key_names keys) has.0 name has.1 same in
    let found : list_any (λ k. bytes_eq v.items k.items) keys ≡ true =
    any_in_names (bytes_eq v.items) keys ∙ ap (λ n. list_any (bytes_eq n) (key_names keys)) is ∙ listed in
    true≢false (new ∙ ap not found)

-- a name that was not new to the set is one of those before
pub listed : (keys : List (Vec ℕ)) (v : Vec ℕ) (name : List ℕ) → v.items ≡ name
    → false ≡ not (list_any (λ k. bytes_eq v.items k.items) keys) → Contains (key_names keys) name
listed keys v name is old =
    let found = not-false (list_any (λ k. bytes_eq v.items k.items) keys) (sym old) in
    let named : list_any (bytes_eq name) (key_names keys) ≡ true =
    ap (λ n. list_any (bytes_eq n) (key_names keys)) (sym is) ∙ sym (any_in_names (bytes_eq v.items) keys) ∙ found in
    Contains-from_any (λ x y same. (bytes_eq-Decides x y).0 same) name (key_names keys) named
