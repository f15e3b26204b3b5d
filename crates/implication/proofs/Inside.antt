-- What is marked behind the ends of an engine is told.
use Rattle.std.proofs.Common.{◌≡◌, ◌≢◌, ℕ, ◌+◌, ◌-◌, ◌<◌, ◌≤◌, ◌⊎◌, inl, inr, ⊎_elim, suc, Bool, true, false, List, [], ◌∷◌, ◌++◌, length, map, take, take_all, drop, get_or, Option, Some, None, refl, sym, ap, ◌∙◌, subst, arith, set, replicate, ◌↔◌}
use Rattle.std.specs.Prelude.{IfSome, IfNone}
use Rattle.std.specs.List.{All, Contains, filter}
use Rattle.std.proofs.lemmas.Bool.{cases_eq, cases_lt, cases_Bool, false≢true, cond-true, cond-false}
use Rattle.std.proofs.lemmas.List.{length-map, get_or-map, length-drop, length-set, length-replicate, get_or-replicate, get_or-set_same, get_or-set_other, get_or_default, get_or-drop}
use Rattle.std.proofs.lemmas.List.Elements.{All-append, All-map, All-cons, All-weaker, All-contains, All-filter, All-contains_itself, filter_passes, Contains-append_left, Contains-append_right}
use Rattle.std.proofs.lemmas.List.Kept.{AllPairs-filter}
use Rattle.std.proofs.lemmas.Option.{none-some}
use Rattle.pd_base.specs.Links.{LinkList, IsLink}
use Rattle.pd_base.specs.declared.ids.LineId.{LineId}
use Rattle.netlist.specs.Circuit.{Circuit, source_count, gate_count, line_count, gate_line, pins_at}
use Rattle.netlist.specs.Lawful.{IsCircuit}
use Rattle.netlist.specs.LinkedPairs.{AreLinksOf}
use Rattle.netlist.specs.LinkedPairs.IsSupported.{in_fan_in}
use Rattle.netlist.specs.Pins.IsInFanIn.{end_itself}
use Rattle.netlist.proofs.Evaluation.{gate_line_of}
use Rattle.state_laws.specs.Cones.{IsLineWithin}
use Rattle.state_laws.proofs.Linked.{linked_source, linked_line}
use Rattle.cones.specs.Ends.{IsBehind}
use Rattle.cones.specs.FoundLines.{FoundSet, HasMark, IsNextBehind}
use Rattle.cones.proofs.Spreading.{gate_reads, next_supported}
use Rattle.hulls.specs.Awaiting.{is_inside}
use Rattle.implication.specs.Inside.{AreFlagged}
use Rattle.implication.specs.Standing.{ToldEnds, told_ends, followed_by}
use Rattle.implication.specs.Kept.{AreToldGates, AreNearGates, AreToldLines}

abbrev line_id : ℕ → LineId
line_id line = record { 0 = line }

-- one mark for each line, set at those behind the ends
pub record AreMarks (c : Circuit) (links : LinkList) (ends : List LineId) (marks : List Bool) : Type 0 where
  pub one_each : length marks ≡ line_count c
  pub exactly : (line : ℕ) → HasMark marks line ↔ IsBehind c links ends line

-- so are the marks of the lines that were found behind the ends
pub found_marks : (c : Circuit) (links : LinkList) (ends : List LineId) (marks : List Bool) (found : List LineId) → length marks ≡ line_count c
    → ((line : ℕ) → HasMark marks line ↔ Contains found (line_id line))
    → ((line : ℕ) → Contains found (line_id line) ↔ IsBehind c links ends line) → AreMarks c links ends marks
found_marks c links ends marks found places marked are = record {
  one_each = places;
  exactly = λ line. ((λ up. (are line).0 ((marked line).0 up)), (λ behind. (marked line).1 ((are line).1 behind)));
}

-- a list has what is left of it by a test, where that passes
pub kept_passes : {X : Type 0} (test : X → Bool) (xs : List X) (x : X) → Contains (filter test xs) x → Contains xs x × (test x ≡ true)
kept_passes test xs x stands = (
  All-contains (Contains xs) (filter test xs) x (All-filter test (Contains xs) xs (All-contains_itself xs)) stands,
  All-contains (λ y. test y ≡ true) (filter test xs) x (filter_passes test xs) stands,
)

behind_one : {X : Type 0} (first : X) (xs : List X) (x : X) → Contains xs x → Contains (first ∷ xs) x
behind_one first xs x stands = (suc stands.0, omega (arith, stands.1), stands.2)

pub passes_kept : {X : Type 0} (test : X → Bool) (xs : List X) → All (λ x. test x ≡ true → Contains (filter test xs) x) xs
passes_kept test [] = λ k d k_in. absurd (omega (arith, k_in))
passes_kept {X} test (x ∷ xs) = ⊎_elim
    (λ (e : test x ≡ true).
    let is : filter test (x ∷ xs) ≡ x ∷ filter test xs = cond-true (test x) _ _ e in
    subst (λ (ys : List X). All (λ y. test y ≡ true → Contains ys y) (x ∷ xs)) (sym is)
    (All-cons (λ y. test y ≡ true → Contains (x ∷ filter test xs) y) x xs (λ up. (0, omega arith, refl))
    (All-weaker (λ y. test y ≡ true → Contains (filter test xs) y) (λ y. test y ≡ true → Contains (x ∷ filter test xs) y)
    (λ y has up. behind_one x (filter test xs) y (has up)) xs (passes_kept test xs))))
    (λ (e : test x ≡ false).
    let is : filter test (x ∷ xs) ≡ filter test xs = cond-false (test x) _ _ e in
    subst (λ (ys : List X). All (λ y. test y ≡ true → Contains ys y) (x ∷ xs)) (sym is)
    (All-cons (λ y. test y ≡ true → Contains (filter test xs) y) x xs (λ up. absurd (false≢true (sym e ∙ up))) (passes_kept test xs)))
    (cases_Bool (test x))

-- so are the marks as a search back leaves them
pub marks_after : (c : Circuit) (links seen : LinkList) → seen ≡ links → (ends : List LineId) (marks : List Bool) (found : FoundSet)
    → length marks ≡ found.room → found.room ≡ line_count c → ((line : ℕ) → HasMark marks line ↔ Contains found.lines (line_id line))
    → ((line : ℕ) → Contains found.lines (line_id line) ↔ IsBehind c seen ends line) → AreMarks c links ends marks
marks_after c links seen same ends marks found places room marked are =
    found_marks c links ends marks found.lines (places ∙ room) marked
    (subst (λ (ls : LinkList). (line : ℕ) → Contains found.lines (line_id line) ↔ IsBehind c ls ends line) same are)

-- and the flags of gates taken out of them
pub flags_after : (marks : List Bool) (sources count : ℕ) → sources ≡ count → (flags : List Bool)
    → flags ≡ take (length marks - sources) (drop sources marks) → flags ≡ drop count marks
flags_after marks sources count same flags are =
    are ∙ take_all (length marks - sources) (drop sources marks) (let e = length-drop sources marks in omega (arith, e))
    ∙ ap (λ (n : ℕ). drop n marks) same

-- what is marked behind the ends over links that are followed
module _ (c : Circuit) (links : LinkList) (ends : List LineId) (circuit : IsCircuit c) (marks : List Bool) (marked : AreMarks c links ends marks)
  where
    abbrev flags : List Bool
    flags = drop (source_count c) marks

    abbrev IsIn : ℕ → Type 0
    IsIn line = IsBehind c links ends line

    behind_next : (line other : ℕ) → line < line_count c → IsIn line → IsNextBehind c links line other → IsIn other
    behind_next line other within behind next =
        (behind.0, behind.1, next_supported c links behind.0.0 line within behind.2 other next)

    up_if : (line : ℕ) → IsIn line → is_inside marks line ≡ true
    up_if line behind = (marked.exactly line).1 behind

    if_up : (line : ℕ) → is_inside marks line ≡ true → IsIn line
    if_up line up = (marked.exactly line).0 up

    flag_is : (gate : ℕ) → is_inside flags gate ≡ is_inside marks (gate_line c gate)
    flag_is gate = get_or-drop (source_count c) marks gate false

    flags_enough : gate_count c ≤ length flags
    flags_enough = let e = length-drop (source_count c) marks in let f = marked.one_each in omega (arith, e, f)

    -- of these links those of marked sources are inner
    module _ (all inner : LinkList) (kept : (source line : ℕ) → IsIn source → IsLink all source line → IsLink inner source line) where
      within : (line : ℕ) → line < line_count c → IsIn line → IsLineWithin c (is_inside flags) all inner line
      within line in_circuit behind = ⊎_elim
          (λ (source : line < source_count c). inl (source, (λ other link. kept line other behind link)))
          (λ (above : source_count c ≤ line).
          let gate = line - source_count c in
          let at : gate_line c gate ≡ line = gate_line_of c line above in
          inr (gate, omega (arith, in_circuit, above), flag_is gate ∙ ap (is_inside marks) at ∙ up_if line behind, sym at))
          (cases_lt line (source_count c))

      pins_within : (gate : ℕ) → gate < gate_count c → is_inside flags gate ≡ true
          → All (λ pin. IsLineWithin c (is_inside flags) all inner pin.0) (pins_at c gate)
      pins_within gate in_gates here i d in_pins =
          let pin = get_or (pins_at c gate) i d in
          within pin.0 (circuit.reads_lines gate in_gates i d in_pins)
          (behind_next (gate_line c gate) pin.0 (omega (arith, in_gates)) (if_up (gate_line c gate) (sym (flag_is gate) ∙ here))
          (inl (subst (λ (ls : List LineId). Contains ls pin) (sym (gate_reads c gate))
          (i, in_pins, get_or_default (pins_at c gate) i pin d in_pins))))

    -- each gate that is marked has a line behind the ends, and no other one has
    gate_told : (all : LinkList) (gate : ℕ) → gate < gate_count c
        → (is_inside flags gate ≡ true) ↔ (((gate_line c gate < source_count c) × ((other : ℕ) → ¬ IsLink all (gate_line c gate) other))
        ⊎ IsIn (gate_line c gate))
    gate_told all gate in_gates = (
      (λ here. inr (if_up (gate_line c gate) (sym (flag_is gate) ∙ here))),
      (λ told. ⊎_elim
          (λ (source : (gate_line c gate < source_count c) × ((other : ℕ) → ¬ IsLink all (gate_line c gate) other)). absurd (omega (arith, source.0)))
          (λ (behind : IsIn (gate_line c gate)). flag_is gate ∙ up_if (gate_line c gate) behind) told),
    )

-- the links of marked sources
module _ (links : LinkList) (marks : List Bool) where
  abbrev pub inner : LinkList
  inner = filter (λ link. is_inside marks link.0.0) links

  inner_if : (source line : ℕ) → is_inside marks source ≡ true → IsLink links source line → IsLink inner source line
  inner_if source line up link =
      All-contains (λ (l : LineId × LineId). is_inside marks l.0.0 ≡ true → Contains inner l) links (line_id source, line_id line)
      (passes_kept (λ (l : LineId × LineId). is_inside marks l.0.0) links) link up

  of_inner : (source line : ℕ) → IsLink inner source line → IsLink links source line × (is_inside marks source ≡ true)
  of_inner source line link = kept_passes (λ (l : LineId × LineId). is_inside marks l.0.0) links (line_id source, line_id line) link

  -- where what is told is marked, or without a link, they are all links of told sources
  told_links : (IsIn : ℕ → Type 0) → ((line : ℕ) → IsIn line → is_inside marks line ≡ true) → (sources : ℕ) (source line : ℕ)
      → ((source < sources) × ((other : ℕ) → ¬ IsLink links source other)) ⊎ IsIn source → IsLink links source line → IsLink inner source line
  told_links IsIn up sources source line told link = ⊎_elim
      (λ (free : (source < sources) × ((other : ℕ) → ¬ IsLink links source other)). absurd (free.1 line link))
      (λ (behind : IsIn source). inner_if source line (up source behind) link) told

-- what is marked behind the ends over all links is told
pub support_told : (c : Circuit) (links : LinkList) → AreLinksOf c links → (ends : List LineId) (circuit : IsCircuit c) (marks : List Bool)
    (marked : AreMarks c links ends marks)
    → AreToldGates c links (Some (told_ends ends false)) (drop (source_count c) marks) (inner links marks)
support_told c links of ends circuit marks marked =
    let up : (line : ℕ) → IsBehind c links ends line → is_inside marks line ≡ true = up_if c links ends circuit marks marked in
    let kept : (source line : ℕ) → IsBehind c links ends source → IsLink links source line → IsLink (inner links marks) source line =
    λ source line behind link. inner_if links marks source line (up source behind) link in
    record {
      gates = flags_enough c links ends circuit marks marked;
      closed = record {
        pins = pins_within c links ends circuit marks marked links (inner links marks) kept;
        among = λ source line link. (of_inner links marks source line link).0;
        lines = λ source line link.
            let both = of_inner links marks source line link in
            let source_in : source < line_count c = (let s = linked_source c links of source line both.0 in omega (arith, s)) in
            within c links ends circuit marks marked links (inner links marks) kept line (linked_line c links of source line both.0)
            (behind_next c links ends circuit marks marked source line source_in (if_up c links ends circuit marks marked source both.1) (inr both.0));
      };
      told = gate_told c links ends circuit marks marked links;
      sources = told_links links marks (λ line. IsBehind c links ends line) up (source_count c);
    }

-- and the links left by a test of their sources are links too
pub inner_of : (c : Circuit) (links : LinkList) → AreLinksOf c links → (marks : List Bool)
    → AreLinksOf c (filter (λ link. is_inside marks link.0.0) links)
inner_of c links of marks =
    let test : LineId × LineId → Bool = λ link. is_inside marks link.0.0 in record {
      sources = All-filter test (λ (l : LineId × LineId). l.0.0 < source_count c) links of.sources;
      lines = All-filter test (λ (l : LineId × LineId). l.1.0 < line_count c) links of.lines;
      once = AllPairs-filter (λ (a b : LineId × LineId). a.0 ≢ b.0) test links of.once;
    }

-- the lines of links
abbrev pub lines_of : LinkList → List LineId
lines_of links = map (λ (link : LineId × LineId). link.1) links

-- a link's line is among them
link_among : (links : LinkList) (source line : ℕ) → IsLink links source line → Contains (lines_of links) (line_id line)
link_among links source line link = (
  link.0,
  omega (arith, link.1, length-map links (λ (l : LineId × LineId). l.1)),
  get_or-map (λ (l : LineId × LineId). l.1) links link.0 (line_id source, line_id line) (line_id line) link.1
      ∙ ap (λ (l : LineId × LineId). l.1) link.2,
)

-- the lines of the links of marked sources are of the circuit as the ends are
pub all_ends_within : (c : Circuit) (links : LinkList) → AreLinksOf c links → (ends : List LineId)
    → All (λ (line : LineId). line.0 < line_count c) ends → (marks : List Bool)
    → All (λ (line : LineId). line.0 < line_count c) (ends ++ lines_of (inner links marks))
all_ends_within c links of ends in_circuit marks =
    let P : LineId → Type 0 = λ line. line.0 < line_count c in
    All-append P ends (lines_of (inner links marks)) in_circuit
    (All-map P (λ (l : LineId × LineId). l.1) (inner links marks) (inner_of c links of marks).lines)

-- What is marked behind the ends over no link is near, with the links of marked sources, and what is marked behind the ends and the lines
-- of those is enough for it.
pub near_told : (c : Circuit) (links : LinkList) → AreLinksOf c links → (ends : List LineId) → IsCircuit c → (marks : List Bool)
    → AreMarks c [] ends marks → (more : List Bool) → AreMarks c [] (ends ++ lines_of (inner links marks)) more
    → AreNearGates c links (Some (told_ends ends true)) (drop (source_count c) more) (inner links marks)
near_told c links of ends circuit marks marked more marked_more =
    let near : LinkList = inner links marks in
    let all : List LineId = ends ++ lines_of near in
    let up : (line : ℕ) → IsBehind c [] ends line → is_inside marks line ≡ true = up_if c [] ends circuit marks marked in
    let near_of : AreLinksOf c near = inner_of c links of marks in
    let own : (source line : ℕ) → IsBehind c [] all source → IsLink near source line → IsLink near source line = λ source line behind link. link in
    record {
      gates = flags_enough c [] all circuit more marked_more;
      near = drop (source_count c) marks;
      closed = record {
        pins = pins_within c [] ends circuit marks marked links near
            (λ source line behind link. inner_if links marks source line (up source behind) link);
        among = λ source line link. (of_inner links marks source line link).0;
      };
      told = gate_told c [] ends circuit marks marked links;
      sources = told_links links marks (λ line. IsBehind c [] ends line) up (source_count c);
      of = near_of;
      covers = λ gate in_gates here.
          let behind = if_up c [] ends circuit marks marked (gate_line c gate) (sym (flag_is c [] ends circuit marks marked gate) ∙ here) in
          flag_is c [] all circuit more marked_more gate
          ∙ up_if c [] all circuit more marked_more (gate_line c gate)
          (behind.0, Contains-append_left ends (lines_of near) behind.0 behind.1, behind.2);
      cone = record {
        pins = pins_within c [] all circuit more marked_more near near own;
        among = λ source line link. link;
        lines = λ source line link.
            within c [] all circuit more marked_more near near own line (linked_line c near near_of source line link) (
              line_id line,
              Contains-append_right ends (lines_of near) (line_id line) (link_among near source line link),
              in_fan_in line end_itself,
            );
      };
    }

-- the flags of the first lines are true where they are marked, and at sources without a link
abbrev IsFlag : ℕ → LinkList → List Bool → ℕ → Bool → Type 0
IsFlag sources links marks line flag =
    (flag ≡ true) ↔ ((is_inside marks line ≡ true) ⊎ ((line < sources) × ((other : ℕ) → ¬ IsLink links line other)))

-- the flags of the first sources are set so, and the others are the marks
pub record AreFirstFlagged (count sources : ℕ) (links : LinkList) (marks told : List Bool) : Type 0 where
  pub one_each : length told ≡ length marks
  pub front : (line : ℕ) → line < count → IsFlag sources links marks line (is_inside told line)
  pub same : (line : ℕ) → count ≤ line → is_inside told line ≡ is_inside marks line

pub none_flagged : (sources : ℕ) (links : LinkList) (marks : List Bool) → AreFirstFlagged 0 sources links marks marks
none_flagged sources links marks =
    record { one_each = refl; front = λ line less. absurd (omega (arith, less)); same = λ line past. refl }

pub flagged_more : (count sources : ℕ) (links : LinkList) (marks told : List Bool) → AreFirstFlagged count sources links marks told
    → sources ≤ length marks → count < sources → (value : Bool)
    → (value ≡ true) ↔ ((is_inside told count ≡ true) ⊎ ((line : ℕ) → ¬ IsLink links count line))
    → AreFirstFlagged (count + 1) sources links marks (set told count value)
flagged_more count sources links marks told are room within value is = record {
  one_each = length-set told count value ∙ are.one_each;
  front = λ line less. ⊎_elim
      (λ (same : line ≡ count).
      let here : is_inside (set told count value) count ≡ value =
      get_or-set_same told count value false (let e = are.one_each in omega (arith, e, within, room)) in
      let mark : is_inside told count ≡ is_inside marks count = are.same count (omega arith) in
      let P : ℕ → Type 0 = λ n. IsFlag sources links marks n (is_inside (set told count value) n) in
      subst P (sym same) (
        (λ up. ⊎_elim
            (λ (on : is_inside told count ≡ true). inl (sym mark ∙ on))
            (λ (free : (other : ℕ) → ¬ IsLink links count other). inr (within, free))
            (is.0 (sym here ∙ up))),
        (λ either. here ∙ is.1 (⊎_elim
            (λ (on : is_inside marks count ≡ true). inl (mark ∙ on))
            (λ (free : (count < sources) × ((other : ℕ) → ¬ IsLink links count other)). inr free.1) either)),
      ))
      (λ (away : line ≢ count).
      subst (IsFlag sources links marks line) (sym (get_or-set_other told count line value false away))
      (are.front line (omega (arith, less, away))))
      (cases_eq line count);
  same = λ line past.
      get_or-set_other told count line value false (λ e. omega (arith, past, e)) ∙ are.same line (omega (arith, past));
}

pub all_set : (count sources : ℕ) (links : LinkList) (marks told : List Bool) → AreFirstFlagged count sources links marks told
    → sources ≤ count → AreFlagged sources links marks told
all_set count sources links marks told are all = record {
  one_each = are.one_each;
  exactly = λ line. ⊎_elim (λ (less : line < count). are.front line less)
      (λ (past : count ≤ line). (
        (λ up. inl (sym (are.same line past) ∙ up)),
        (λ either. ⊎_elim
            (λ (on : is_inside marks line ≡ true). are.same line past ∙ on)
            (λ (free : (line < sources) × ((other : ℕ) → ¬ IsLink links line other)). absurd (omega (arith, past, all, free.0))) either),
      ))
      (cases_lt line count);
}

-- a source that is linked to no line has no link
pub none_linked_to : (links : LinkList) (source : ℕ) (link : Option LineId) → IfSome link (λ line. IsLink links source line.0)
    → IfNone link ((line : ℕ) → ¬ IsLink links source line) → (link ≡ None) ↔ ((line : ℕ) → ¬ IsLink links source line)
none_linked_to links source None is free = ((λ none. free), (λ not. refl))
none_linked_to links source (Some line) is free =
    ((λ none. absurd (none-some line (sym none))), (λ not. absurd (not line.0 is)))

-- so the flags tell which lines are told
pub flagged_told : (c : Circuit) (links : LinkList) (ends : ToldEnds) (marks : List Bool)
    → AreMarks c (followed_by ends links) ends.lines marks → (told : List Bool) → AreFlagged (source_count c) links marks told
    → AreToldLines c links (Some ends) told
flagged_told c links ends marks marked told flagged = record {
  one_each = flagged.one_each ∙ marked.one_each;
  exactly = λ line within.
      let flag = flagged.exactly line in (
        (λ up. ⊎_elim
            (λ (mark : is_inside marks line ≡ true). inr ((marked.exactly line).0 mark))
            (λ (free : (line < source_count c) × ((other : ℕ) → ¬ IsLink links line other)). inl free)
            (flag.0 up)),
        (λ is. flag.1 (⊎_elim
            (λ (free : (line < source_count c) × ((other : ℕ) → ¬ IsLink links line other)). inr free)
            (λ (found : IsBehind c (followed_by ends links) ends.lines line). inl ((marked.exactly line).1 found)) is)),
      );
}

-- and where all lines are told, all flags are true
pub all_flagged : (c : Circuit) (links : LinkList) (told : List Bool) → told ≡ replicate (line_count c) true → AreToldLines c links None told
all_flagged c links told are = record {
  one_each = ap length are ∙ length-replicate (line_count c) true;
  exactly = λ line within. (
    (λ up. tt),
    (λ is. ap (λ (flags : List Bool). is_inside flags line) are ∙ get_or-replicate (line_count c) line true false within),
  );
}
