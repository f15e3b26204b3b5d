-- One stage more.
use Rattle.std.proofs.Common.{◌≡◌, ◌+◌, ◌*◌, ℕ, zero, suc, List, ◌∷◌, ◌++◌, length, map, append_assoc, append-nil, refl, sym, ap, ◌∙◌, arith}
use Rattle.std.specs.List.{flat_map, range_with_len}
use Rattle.std.proofs.lemmas.List.{length-map, map-append}
use Rattle.netlist.specs.Statements.{Numbered}
use Rattle.ladder.specs.Ladder.{ladder_gates, ladder_name, ladder_sources, stage_gates, stage_sources, stages_of}
use Rattle.ladder.specs.declared.line.Letter.TheVariants.{X}
use Rattle.ladder.specs.Statements.{gate_stated, input_stated}
use Rattle.ladder.proofs.Stages.{gate_total}

module _ {A : Type 0} (f : ℕ → List A) where
  piece_more : (from count : ℕ) → flat_map f (range_with_len from (count + 1)) ≡ flat_map f (range_with_len from count) ++ f (from + count)
  piece_more from zero = append-nil (f from) ∙ ap f (omega arith)
  piece_more from (suc count) =
      let longer : suc count + 1 ≡ suc (count + 1) = omega arith in
      let moved : from + 1 + count ≡ from + suc count = omega arith in
      ap (λ (n : ℕ). flat_map f (range_with_len from n)) longer
      ∙ ap (λ rest. f from ++ rest) (piece_more (from + 1) count)
      ∙ sym (append_assoc (f from) (flat_map f (range_with_len (from + 1) count)) (f (from + 1 + count)))
      ∙ ap (λ (n : ℕ). (f from ++ flat_map f (range_with_len (from + 1) count)) ++ f n) moved

  pub stage_more : (before : ℕ) → flat_map f (stages_of (before + 1)) ≡ flat_map f (stages_of before) ++ f (before + 1)
  stage_more before =
      let turned : 1 + before ≡ before + 1 = omega arith in
      piece_more 1 before ∙ ap (λ (n : ℕ). flat_map f (stages_of before) ++ f n) turned

-- the sources of one stage more, as statements
pub sources_more : (before : ℕ)
    → map input_stated (ladder_sources (before + 1)) ≡ map input_stated (ladder_sources before) ++ map input_stated (stage_sources (before + 1))
sources_more before =
    ap (λ rest. map input_stated (ladder_name X 0 ∷ rest)) (stage_more stage_sources before)
    ∙ map-append input_stated (ladder_sources before) (stage_sources (before + 1))

-- and its gates, behind other statements
pub gates_more : (statements : List Numbered) (before : ℕ)
    → statements ++ map gate_stated (ladder_gates (before + 1)) ≡ (statements ++ map gate_stated (ladder_gates before)) ++ map gate_stated (stage_gates (before + 1))
gates_more statements before =
    ap (λ list. statements ++ map gate_stated list) (stage_more stage_gates before)
    ∙ ap (λ rest. statements ++ rest) (map-append gate_stated (ladder_gates before) (stage_gates (before + 1)))
    ∙ sym (append_assoc statements (map gate_stated (ladder_gates before)) (map gate_stated (stage_gates (before + 1))))

-- there are two sources for each stage, and one before
source_total_from : (from count : ℕ) → length (flat_map stage_sources (range_with_len from count)) ≡ 2 * count
source_total_from from zero = refl
source_total_from from (suc count) = let rest = source_total_from (from + 1) count in omega (arith, rest)

pub source_total : (stages : ℕ) → length (map input_stated (ladder_sources stages)) ≡ 2 * stages + 1
source_total stages =
    let mapped = length-map (ladder_sources stages) input_stated in
    let rest = source_total_from 1 stages in
    omega (arith, mapped, rest)

pub gates_stated_total : (stages : ℕ) → length (map gate_stated (ladder_gates stages)) ≡ 3 * stages
gates_stated_total stages = length-map (ladder_gates stages) gate_stated ∙ gate_total stages
