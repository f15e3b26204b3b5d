-- The name of a line means that line again, since the names differ.
use Rattle.std.proofs.Common.{◌≡◌, ◌≢◌, ℕ, zero, suc, ◌+◌, ◌<◌, true, false, List, [], ◌∷◌, ◌++◌, length, map, drop, get_or, AllPairs, refl, ap, sym, ◌∙◌, arith, drop-cons, add-one}
use Rattle.std.proofs.lemmas.List.{drop_all, get_or_append_left}
use Rattle.std.proofs.lemmas.List.Sums.{position_or_len_is}
use Rattle.std.proofs.lemmas.Slice.Eq.{bytes_eq-Decides}
use Rattle.std.specs.List.{AllByRecursion, position_or_len, range_with_len}
use Rattle.std.specs.Str.{bytes_eq}
use Rattle.pd_base.specs.declared.ids.LineId.{LineId}
use Rattle.netlist.specs.Circuit.{Circuit, line_count, line_names}
use Rattle.netlist.specs.Description.{line_named}
use Rattle.netlist.specs.Lawful.{IsCircuit}
use Rattle.netlist.specs.Names.{name_at}
use Rattle.netlist.proofs.CircuitLines.{line_names-length}
use Rattle.bench_reader.specs.Canonical.{names_at}

-- a test of two names that differ fails
fails : (a b : List ℕ) → a ≢ b → bytes_eq a b ≡ false
fails a b differ =
    elim (bytes_eq a b) as (λ same. bytes_eq a b ≡ same → same ≡ false) [
      | true ↦ λ same. absurd (differ ((bytes_eq-Decides a b).0 same))
      | false ↦ λ same. refl
    ] refl

-- a name of a list of names that differ stands at its place alone
place_again : (names : List (List ℕ)) (place : ℕ) → AllPairs (λ a b. a ≢ b) names → place < length names
    → position_or_len (bytes_eq (get_or names place [])) names ≡ place
place_again names place differ below =
    position_or_len_is (bytes_eq (get_or names place [])) names place [] (omega arith)
    (λ k less. fails (get_or names place []) (get_or names k []) (λ same. differ k place [] less below (sym same)))
    (λ _. (bytes_eq-Decides (get_or names place []) (get_or names place [])).1 refl)

-- the name of a line means that line
pub line_again : (c : Circuit) (line : LineId) → IsCircuit c → line.0 < line_count c
    → line_named (line_names c) (name_at c line.0) ≡ line
line_again c line is below =
    let within : line.0 < length (line_names c) = omega (arith, line_names-length c) in
    ap (λ n. record { 0 = n }) (place_again (line_names c) line.0 is.names_differ within)

-- and so for each of some lines
pub lines_again : (c : Circuit) (lines : List LineId) → IsCircuit c → AllByRecursion (λ line. line.0 < line_count c) lines
    → map (line_named (line_names c)) (names_at c lines) ≡ lines
lines_again c [] is below = refl
lines_again c (line ∷ lines) is below =
    ap (λ first. first ∷ map (line_named (line_names c)) (names_at c lines)) (line_again c line is below.0)
    ∙ ap (λ rest. line ∷ rest) (lines_again c lines is below.1)

-- the elements of a list from a place on, read one by one
pub elements_from : {X : Type 0} (xs ys : List X) (d : X) (place count : ℕ) → place + count ≡ length xs
    → map (λ k. get_or (xs ++ ys) k d) (range_with_len place count) ≡ drop place xs
elements_from xs ys d place zero ends = sym (drop_all place xs (omega arith))
elements_from xs ys d place (suc count) ends =
    let below : place < length xs = omega arith in
    ap (λ first. first ∷ map (λ k. get_or (xs ++ ys) k d) (range_with_len (place + 1) count)) (get_or_append_left xs ys d place below)
    ∙ ap (λ rest. get_or xs place d ∷ rest) (elements_from xs ys d (place + 1) count (omega arith))
    ∙ ap (λ n. get_or xs place d ∷ drop n xs) (add-one place)
    ∙ sym (drop-cons xs place d below)
