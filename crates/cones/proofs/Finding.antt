-- Lines that are found: the marks that tell of them, and one line more.
use Rattle.std.proofs.Common.{◌≡◌, ◌≢◌, ℕ, zero, suc, ◌+◌, ◌<◌, ◌≤◌, ◌↔◌, ⊎_elim, inl, inr, ◌⊎◌, Bool, true, false, List, [], ◌∷◌, ◌++◌, length, get_or, take, drop, set, refl, sym, ap, ◌∙◌, subst, arith}
use Rattle.std.specs.List.{All, Contains}
use Rattle.std.proofs.lemmas.Bool.{cases_eq, cases_lt, false≢true}
use Rattle.std.proofs.lemmas.List.{append-nil, append_assoc, length-set, length_push, get_or-set_same, get_or-set_other, get_or_past, take_more, drop_more, drop_all}
use Rattle.std.proofs.lemmas.List.Elements.{Contains-append_left, Contains-push, Contains-push_cases, Contains-get_or}
use Rattle.std.proofs.lemmas.List.Quantifiers.{all_pairs_push}
use Rattle.pd_base.specs.declared.ids.LineId.{LineId}
use Rattle.cones.specs.FoundLines.{FoundSet, HasMark, AreMarked, FindsMore}
use Rattle.cones.proofs.Images.{few_lines}

-- a line by its number
pub line_of : (line : LineId) (number : ℕ) → line.0 ≡ number → line ≡ record { 0 = number }
line_of line number same = λ i. record { 0 = same i }

-- the one line of a list
pub only_one : (line other : LineId) → Contains (line ∷ []) other → line ≡ other
only_one line other (zero, inside, is) = is
only_one line other (suc k, inside, is) = absurd (omega arith)

pub one_there : (line : LineId) → Contains (line ∷ []) line
one_there line = (0, omega arith, refl)

-- what stands in a list and isn't its head stands behind it
behind : (line : LineId) (rest : List LineId) (other : LineId) → (line ≡ other → ⊥) → (k : ℕ) → k < length (line ∷ rest)
    → get_or (line ∷ rest) k other ≡ other → Contains rest other
behind line rest other away zero inside is = absurd (away is)
behind line rest other away (suc k) inside is = (k, (let i = inside in omega arith), is)

-- a line with a mark has a place among the marks
pub mark_inside : (marks : List Bool) (line : ℕ) → HasMark marks line → line < length marks
mark_inside marks line is = ⊎_elim (λ (within : line < length marks). within)
    (λ (past : length marks ≤ line). absurd (false≢true (sym (get_or_past marks line false past) ∙ is)))
    (cases_lt line (length marks))

-- nothing is found where nothing is looked for
pub finds_none : (old : FoundSet) → FindsMore [] old old
finds_none old = record {
  room = refl;
  more = [];
  behind = sym (append-nil old.lines);
  exactly = λ line. (λ has. inl has, λ either. ⊎_elim (λ has. has) (λ none. absurd (omega (arith, none.1))) either);
}

-- one line more is found
pub finds_next : (lines : List LineId) (place : ℕ) (next : LineId) (old middle new : FoundSet) → place < length lines
    → get_or lines place next ≡ next → FindsMore (take place lines) old middle → FindsMore (next ∷ []) middle new
    → FindsMore (take (place + 1) lines) old new
finds_next lines place next old middle new inside is first second = record {
  room = second.room ∙ first.room;
  more = first.more ++ second.more;
  behind = second.behind ∙ ap (λ (ls : List LineId). ls ++ second.more) first.behind ∙ append_assoc old.lines first.more second.more;
  exactly = λ line. (only line, all line);
}
  where
    longer : take (place + 1) lines ≡ take place lines ++ next ∷ []
    longer = take_more lines place next inside ∙ ap (λ (l : LineId). take place lines ++ l ∷ []) is

    only : (line : ℕ) → Contains new.lines (record { 0 = line })
        → Contains old.lines (record { 0 = line }) ⊎ Contains (take (place + 1) lines) (record { 0 = line })
    only line has =
        let id : LineId = record { 0 = line } in
        ⊎_elim
        (λ (before : Contains middle.lines id). ⊎_elim (λ (was : Contains old.lines id). inl was)
        (λ (among : Contains (take place lines) id).
        inr (subst (λ ls. Contains ls id) (sym longer) (Contains-append_left (take place lines) (next ∷ []) id among)))
        ((first.exactly line).0 before))
        (λ (this : Contains (next ∷ []) id).
        inr (subst (λ ls. Contains ls id) (sym longer)
        (subst (Contains (take place lines ++ next ∷ [])) (only_one next id this) (Contains-push (take place lines) next))))
        ((second.exactly line).0 has)

    all : (line : ℕ) → Contains old.lines (record { 0 = line }) ⊎ Contains (take (place + 1) lines) (record { 0 = line })
        → Contains new.lines (record { 0 = line })
    all line either =
        let id : LineId = record { 0 = line } in
        ⊎_elim
        (λ (was : Contains old.lines id). (second.exactly line).1 (inl ((first.exactly line).1 (inl was))))
        (λ (among : Contains (take (place + 1) lines) id). ⊎_elim
        (λ (before : Contains (take place lines) id). (second.exactly line).1 (inl ((first.exactly line).1 (inr before))))
        (λ (this : next ≡ id). (second.exactly line).1 (inr (subst (Contains (next ∷ [])) this (one_there next))))
        (Contains-push_cases (take place lines) next id (subst (λ ls. Contains ls id) longer among)))
        either

-- where none was found, what is found is what was looked for
pub finds_both : (lines others : List LineId) (old middle new : FoundSet) → old.lines ≡ [] → FindsMore lines old middle → FindsMore others middle new
    → (line : ℕ) → Contains new.lines (record { 0 = line }) ↔ (Contains lines (record { 0 = line }) ⊎ Contains others (record { 0 = line }))
finds_both lines others old middle new none first second line = (
  λ has. ⊎_elim
      (λ (before : Contains middle.lines (record { 0 = line })). ⊎_elim
      (λ (was : Contains old.lines (record { 0 = line })).
      let never = subst (λ ls. Contains ls (record { 0 = line })) none was in absurd (omega (arith, never.1)))
      (λ (one : Contains lines (record { 0 = line })). inl one)
      ((first.exactly line).0 before))
      (λ (other : Contains others (record { 0 = line })). inr other)
      ((second.exactly line).0 has),
  λ either. ⊎_elim
      (λ (one : Contains lines (record { 0 = line })). (second.exactly line).1 (inl ((first.exactly line).1 (inr one))))
      (λ (other : Contains others (record { 0 = line })). (second.exactly line).1 (inr other))
      either,
)

module _ (marks : List Bool) (lines : List LineId) (capacity : ℕ) (is : AreMarked marks lines capacity) where
  abbrev before : FoundSet
  before = record { room = length marks; lines = lines }

  -- each has a place among the marks
  pub found_inside : All (λ line. line.0 < length marks) lines
  found_inside k d inside =
      mark_inside marks (get_or lines k d).0 ((is.exactly (get_or lines k d).0).1 (Contains-get_or lines k d inside))

  -- so no more lines were found than there may be
  pub few_found : length lines ≤ length marks
  few_found = few_lines lines (length marks) is.once found_inside

  -- where all marks are taken away none is found
  pub cleared : (none : List Bool) → length none ≡ length marks → ((line : ℕ) → HasMark none line → ⊥) → (room : ℕ) → length marks ≤ room
      → AreMarked none [] room
  cleared none places clear room enough = record {
    exactly = λ line. ((λ has. absurd (clear line has)), λ among. absurd (omega (arith, among.1)));
    once = λ i j d less inside. absurd (omega arith);
    enough = omega arith;
  }

  module _ (line : LineId) (inside : line.0 < length marks) where
    -- a line that was found already
    pub already : get_or marks line.0 false ≡ true → FindsMore (line ∷ []) before before
    already marked = record {
      room = refl;
      more = [];
      behind = sym (append-nil lines);
      exactly = λ other. (
        λ has. inl has,
        λ either. ⊎_elim (λ has. has)
            (λ one. subst (Contains lines) (only_one line (record { 0 = other }) one) ((is.exactly line.0).0 marked)) either,
      );
    }

    -- one that was not
    module _ (unmarked : get_or marks line.0 false ≡ false) where
      abbrev marked : List Bool
      marked = set marks line.0 true

      same_many : length marked ≡ length marks
      same_many = length-set marks line.0 true

      only : (other : ℕ) → HasMark marked other → Contains (lines ++ line ∷ []) (record { 0 = other })
      only other has = ⊎_elim
          (λ (here : line.0 ≡ other).
          subst (Contains (lines ++ line ∷ [])) (line_of line other here) (Contains-push lines line))
          (λ (away : line.0 ≢ other). Contains-append_left lines (line ∷ []) (record { 0 = other })
          ((is.exactly other).0 (sym (get_or-set_other marks line.0 other true false (λ e. away (sym e))) ∙ has)))
          (cases_eq line.0 other)

      all : (other : ℕ) → Contains (lines ++ line ∷ []) (record { 0 = other }) → HasMark marked other
      all other has = ⊎_elim
          (λ (was : Contains lines (record { 0 = other })). ⊎_elim
          (λ (here : line.0 ≡ other). subst (HasMark marked) here (get_or-set_same marks line.0 true false inside))
          (λ (away : line.0 ≢ other). get_or-set_other marks line.0 other true false (λ e. away (sym e)) ∙ (is.exactly other).1 was)
          (cases_eq line.0 other))
          (λ (this : line ≡ record { 0 = other }).
          subst (HasMark marked) (ap (λ (l : LineId). l.0) this) (get_or-set_same marks line.0 true false inside))
          (Contains-push_cases lines line (record { 0 = other }) has)

      differs : (k : ℕ) (d : LineId) → k < length lines → (get_or lines k d).0 ≢ line.0
      differs k d within same =
          false≢true (sym unmarked ∙ subst (HasMark marks) same ((is.exactly (get_or lines k d).0).1 (Contains-get_or lines k d within)))

      pub added : AreMarked marked (lines ++ line ∷ []) capacity
      added = record {
        exactly = λ other. (only other, all other);
        once = all_pairs_push (λ (a b : LineId). a.0 ≢ b.0) lines line is.once differs;
        enough = let e = same_many in let i = is.enough in omega arith;
      }

      pub has_room : length lines < capacity
      has_room =
          let inside_all : All (λ l. l.0 < length marked) (lines ++ line ∷ []) = λ k d within.
          mark_inside marked (get_or (lines ++ line ∷ []) k d).0
          (all (get_or (lines ++ line ∷ []) k d).0 (Contains-get_or (lines ++ line ∷ []) k d within)) in
          let few = few_lines (lines ++ line ∷ []) (length marked) added.once inside_all in
          let e = same_many in let f = length_push lines line in let i = is.enough in omega arith

      pub finds : FindsMore (line ∷ []) before (record { room = length marked; lines = lines ++ line ∷ [] })
      finds = record {
        room = same_many;
        more = line ∷ [];
        behind = refl;
        exactly = λ other. (
          λ has. ⊎_elim (λ (was : Contains lines (record { 0 = other })). inl was)
              (λ (this : line ≡ record { 0 = other }). inr (subst (Contains (line ∷ [])) this (one_there line)))
              (Contains-push_cases lines line (record { 0 = other }) has),
          λ either. ⊎_elim (λ was. Contains-append_left lines (line ∷ []) (record { 0 = other }) was)
              (λ one. subst (Contains (lines ++ line ∷ [])) (only_one line (record { 0 = other }) one) (Contains-push lines line)) either,
        );
      }

-- the lines with marks are among those from a place on; one mark less is set where the line there loses its own
pub clears_next : (marks : List Bool) (lines : List LineId) (place : ℕ) (next : LineId) → place < length lines → next.0 < length marks
    → get_or lines place next ≡ next
    → ((line : ℕ) → HasMark marks line → Contains (drop place lines) (record { 0 = line }))
    → (line : ℕ) → HasMark (set marks next.0 false) line → Contains (drop (place + 1) lines) (record { 0 = line })
clears_next marks lines place next inside within is among line has = ⊎_elim
    (λ (here : next.0 ≡ line). absurd (false≢true
    (sym (get_or-set_same marks next.0 false false within) ∙ ap (λ n. get_or (set marks next.0 false) n false) here ∙ has)))
    (λ (away : next.0 ≢ line).
    let was : Contains (drop place lines) (record { 0 = line }) =
    among line (sym (get_or-set_other marks next.0 line false false (λ e. away (sym e))) ∙ has) in
    let split : drop place lines ≡ next ∷ drop (place + 1) lines =
    drop_more lines place next inside ∙ ap (λ (l : LineId). l ∷ drop (place + 1) lines) is in
    let in_split : Contains (next ∷ drop (place + 1) lines) (record { 0 = line }) = subst (λ ls. Contains ls (record { 0 = line })) split was in
    behind next (drop (place + 1) lines) (record { 0 = line }) (λ same. away (ap (λ (l : LineId). l.0) same)) in_split.0 in_split.1 in_split.2)
    (cases_eq next.0 line)

-- after the last one none is set
pub clears_all : (marks : List Bool) (lines : List LineId) (place : ℕ) → length lines ≤ place
    → ((line : ℕ) → HasMark marks line → Contains (drop place lines) (record { 0 = line })) → (line : ℕ) → HasMark marks line → ⊥
clears_all marks lines place past among line has =
    let none : Contains [] (record { 0 = line }) = subst (λ ls. Contains ls (record { 0 = line })) (drop_all place lines past) (among line has) in
    omega (arith, none.1)
