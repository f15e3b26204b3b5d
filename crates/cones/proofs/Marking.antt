-- One line more that is marked, in a list of marks by line number.
use Rattle.std.proofs.Common.{◌≡◌, ⊎_elim, inl, inr, ℕ, ◌⊎◌, ◌+◌, ◌<◌, Bool, true, false, List, [], ◌∷◌, ◌++◌, take, length, get_or, set, replicate, IsTrue, Contains, get_or-set_same, get_or-set_other, sym, ap, subst, ◌∙◌, arith}
use Rattle.std.proofs.lemmas.List.{take_more, get_or-replicate, length-replicate, get_or_past}
use Rattle.std.proofs.lemmas.List.Elements.{Contains-push, Contains-push_cases, Contains-append_left}
use Rattle.std.proofs.lemmas.Bool.{cases_lt, cases_eq, false≢true}
use Rattle.pd_base.specs.declared.ids.LineId.{LineId}
use Rattle.cones.specs.Marks.{is_marked, AddsMarks}

-- the line that is set is marked
pub set_marks : (marks : List Bool) (line : ℕ) → line < length marks → IsTrue (is_marked (set marks line true) line)
set_marks marks line within = get_or-set_same marks line true false within

-- so is each line that was
pub set_keeps : (marks : List Bool) (line other : ℕ) → line < length marks → IsTrue (is_marked marks other)
    → IsTrue (is_marked (set marks line true) other)
set_keeps marks line other within was =
    ⊎_elim
    (λ same. subst (λ at. IsTrue (is_marked (set marks line true) at)) (sym same) (set_marks marks line within))
    (λ differs. get_or-set_other marks line other true false differs ∙ was)
    (cases_eq other line)

-- no other line becomes marked
pub set_alone : (marks : List Bool) (line other : ℕ) → IsTrue (is_marked (set marks line true) other)
    → IsTrue (is_marked marks other) ⊎ (other ≡ line)
set_alone marks line other is =
    ⊎_elim inr (λ differs. inl (sym (get_or-set_other marks line other true false differs) ∙ is)) (cases_eq other line)

-- with no lines nothing is added
pub adds_none : (marks : List Bool) → AddsMarks marks [] marks
adds_none marks line = (λ is. inl is, λ was. ⊎_elim (λ is. is) (λ among. absurd (omega (arith, among.1))) was)

-- the next line is added
pub adds_next : (old marks : List Bool) (lines : List LineId) (place : ℕ) → place < length lines
    → (get_or lines place (record { 0 = 0 })).0 < length marks → AddsMarks old (take place lines) marks
    → AddsMarks old (take (place + 1) lines) (set marks (get_or lines place (record { 0 = 0 })).0 true)
adds_next old marks lines place inside within adds line = (only, all)
  where
    next : LineId
    next = get_or lines place (record { 0 = 0 })

    id : LineId
    id = record { 0 = line }

    more : take (place + 1) lines ≡ take place lines ++ next ∷ []
    more = take_more lines place (record { 0 = 0 }) inside

    only : IsTrue (is_marked (set marks next.0 true) line) → IsTrue (is_marked old line) ⊎ Contains (take (place + 1) lines) id
    only is =
        ⊎_elim
        (λ was. ⊎_elim inl
        (λ among. inr (subst (λ l. Contains l id) (sym more) (Contains-append_left (take place lines) (next ∷ []) id among)))
        ((adds line).0 was))
        (λ same. inr (subst (λ l. Contains l id) (sym more)
        (subst (λ at. Contains (take place lines ++ next ∷ []) (record { 0 = at })) (sym same)
        (Contains-push (take place lines) next))))
        (set_alone marks next.0 line is)

    all : IsTrue (is_marked old line) ⊎ Contains (take (place + 1) lines) id → IsTrue (is_marked (set marks next.0 true) line)
    all either =
        ⊎_elim
        (λ was. set_keeps marks next.0 line within ((adds line).1 (inl was)))
        (λ among. ⊎_elim
        (λ before. set_keeps marks next.0 line within ((adds line).1 (inr before)))
        (λ this. subst (λ at. IsTrue (is_marked (set marks next.0 true) at)) (ap (λ (l : LineId). l.0) this)
        (set_marks marks next.0 within))
        (Contains-push_cases (take place lines) next id (subst (λ l. Contains l id) more among)))
        either

-- of marks that are all clear, none is set
pub none_marked : (count line : ℕ) → IsTrue (is_marked (replicate count false) line) → ⊥
none_marked count line is =
    ⊎_elim
    (λ within. false≢true (sym (get_or-replicate count line false false within) ∙ is))
    (λ past. false≢true (sym (get_or_past (replicate count false) line false (omega (arith, length-replicate count false))) ∙ is))
    (cases_lt line count)
