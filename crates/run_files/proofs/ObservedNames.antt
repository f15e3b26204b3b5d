-- The names of the observed lines, one after another.
use Rattle.std.proofs.Common.{◌≡◌, ℕ, ◌+◌, ◌<◌, List, [], ◌∷◌, ◌++◌, length, get_or, take, flat_map, ap, ◌∙◌, subst}
use Rattle.std.proofs.lemmas.List.{take_more, get_or-map, length-map, append-nil}
use Rattle.std.proofs.lemmas.List.Concat.{flat_map-append}
use Rattle.pd_base.specs.declared.ids.LineId.{LineId}
use Rattle.netlist.specs.Circuit.{Circuit, observed_lines}
use Rattle.netlist.specs.Names.{name_at}
use Rattle.run_files.specs.TestsText.{observed_names}
use Rattle.text_pieces.specs.Tokens.{after_space}

-- one more observed line's name
pub observed_names_more : (c : Circuit) (lines : List LineId) (at : ℕ) (d : LineId) → lines ≡ observed_lines c → at < length lines
    → flat_map after_space (take (at + 1) (observed_names c)) ≡ flat_map after_space (take at (observed_names c)) ++ after_space (name_at c (get_or lines at d).0)
observed_names_more c lines at d are within =
    let shorter : at < length (observed_lines c) = subst (λ xs. at < length xs) are within in
    let named : get_or (observed_names c) at [] ≡ name_at c (get_or (observed_lines c) at d).0 = get_or-map (λ observed. name_at c observed.0) (observed_lines c) at d [] shorter in
    let fits : at < length (observed_names c) = rw length-map shorter in
    let front = flat_map after_space (take at (observed_names c)) in
    rw are (ap (flat_map after_space) (take_more (observed_names c) at [] fits)
    ∙ flat_map-append after_space (take at (observed_names c)) (get_or (observed_names c) at [] ∷ [])
    ∙ ap (λ (name : List ℕ). front ++ (after_space name ++ [])) named
    ∙ ap (λ (piece : List ℕ). front ++ piece) (append-nil (after_space (name_at c (get_or (observed_lines c) at d).0))))
