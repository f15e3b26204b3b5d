-- What is counted of the verdicts on listed paths, path by path.
use Rattle.std.proofs.Common.{◌≡◌, ℕ, ◌+◌, ◌<◌, max, cond, List, [], ◌∷◌, ◌++◌, length, map, take, get_or, refl, sym, ap, ◌∙◌, arith}
use Rattle.std.specs.List.{count_by}
use Rattle.std.proofs.lemmas.List.{take_more}
use Rattle.std.proofs.lemmas.List.Sums.{sum_by-append}
use Rattle.netlist.specs.Greatest.{greatest}
use Rattle.runs.specs.declared.run.ListedPath.{ListedPath}
use Rattle.runs.specs.declared.run.Verdict.{Verdict}
use Rattle.runs.specs.Verdicts.{verdicts_of}
use Rattle.good_runs.specs.GoodRun.{greatest_cited, is_tested}

-- the verdicts on one path more
verdicts_push : (paths : List ListedPath) (listed : ListedPath)
    → verdicts_of (paths ++ listed ∷ []) ≡ verdicts_of paths ++ listed.rise ∷ listed.fall ∷ []
verdicts_push [] listed = refl
verdicts_push (first ∷ paths) listed = ap (λ (verdicts : List Verdict). first.rise ∷ first.fall ∷ verdicts) (verdicts_push paths listed)

verdicts_more : (paths : List ListedPath) (place : ℕ) (listed : ListedPath) → place < length paths → listed ≡ get_or paths place listed
    → verdicts_of (take (place + 1) paths) ≡ verdicts_of (take place paths) ++ listed.rise ∷ listed.fall ∷ []
verdicts_more paths place listed within is =
    ap verdicts_of (take_more paths place listed within)
    ∙ ap (λ (l : ListedPath). verdicts_of (take place paths ++ l ∷ [])) (sym is) ∙ verdicts_push (take place paths) listed

pub counted_more : (paths : List ListedPath) (place : ℕ) (listed : ListedPath) → place < length paths → listed ≡ get_or paths place listed
    → count_by is_tested (verdicts_of (take (place + 1) paths))
    ≡ count_by is_tested (verdicts_of (take place paths)) + count_by is_tested (listed.rise ∷ listed.fall ∷ [])
counted_more paths place listed within is =
    ap (count_by is_tested) (verdicts_more paths place listed within is)
    ∙ sum_by-append (λ (v : Verdict). cond (is_tested v) 1 0) (verdicts_of (take place paths)) (listed.rise ∷ listed.fall ∷ [])

-- the greatest of some numbers and two more
greatest_of_more : (xs : List ℕ) (a b : ℕ) → greatest (xs ++ a ∷ b ∷ []) ≡ max (max (greatest xs) a) b
greatest_of_more [] a b = omega arith
greatest_of_more (x ∷ xs) a b = ap (max x) (greatest_of_more xs a b) ∙ omega arith

map_push_two : (verdicts : List Verdict) (a b : Verdict)
    → map greatest_cited (verdicts ++ a ∷ b ∷ []) ≡ map greatest_cited verdicts ++ greatest_cited a ∷ greatest_cited b ∷ []
map_push_two [] a b = refl
map_push_two (v ∷ verdicts) a b = ap (λ (numbers : List ℕ). greatest_cited v ∷ numbers) (map_push_two verdicts a b)

pub greatest_more : (paths : List ListedPath) (place : ℕ) (listed : ListedPath) → place < length paths → listed ≡ get_or paths place listed
    → greatest (map greatest_cited (verdicts_of (take (place + 1) paths)))
    ≡ max (max (greatest (map greatest_cited (verdicts_of (take place paths)))) (greatest_cited listed.rise)) (greatest_cited listed.fall)
greatest_more paths place listed within is =
    ap (λ (verdicts : List Verdict). greatest (map greatest_cited verdicts)) (verdicts_more paths place listed within is)
    ∙ ap greatest (map_push_two (verdicts_of (take place paths)) listed.rise listed.fall)
    ∙ greatest_of_more (map greatest_cited (verdicts_of (take place paths))) (greatest_cited listed.rise) (greatest_cited listed.fall)
