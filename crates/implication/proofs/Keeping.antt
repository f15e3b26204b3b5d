-- What an engine keeps, after an assumption more and after the last one was taken back, as a scope begins and as it ends.
use Rattle.std.proofs.Common.{◌≡◌, ◌≢◌, ℕ, ◌-◌, ◌<◌, ◌≤◌, ◌==◌, inr, ⊎_elim, Bool, true, false, List, [], ◌∷◌, ◌++◌, length, take, drop, All, Option, Some, None, IsSome, refl, sym, ap, ◌∙◌, subst, arith}
use Rattle.std.proofs.Math.ListN.{set}
use Rattle.std.proofs.lemmas.Bool.{cases_eq, ne_eqb, eq-eqb, false≢true}
use Rattle.std.proofs.lemmas.List.{length_push, length-set, get_or-set_same, get_or-set_other, append-nil}
use Rattle.std.proofs.Math.Seq.{take-append_seam, get_or-append_seam}
use Rattle.pd_base.specs.declared.ids.LineId.{LineId}
use Rattle.pd_base.specs.declared.ids.PinRef.{PinRef}
use Rattle.pd_base.specs.declared.fault.Kind.{Kind}
use Rattle.pd_base.specs.declared.rules.Rules.{Rules}
use Rattle.netlist.specs.Circuit.{Circuit, line_count}
use Rattle.netlist.specs.Pins.{IsPin}
use Rattle.state_sets.specs.declared.state.StateSet.{StateSet}
use Rattle.state_sets.specs.States.{no_states}
use Rattle.state_sets.specs.StateAlgebra.{StateAlgebra}
use Rattle.state_sets.specs.Labellings.{label_at}
use Rattle.state_sets.specs.Hulls.{condition_at}
use Rattle.state_sets.specs.Hulls.Narrowing.{at_gate}
use Rattle.hulls.specs.Conditions.{Entered as Steps, IsEnteredOn}
use Rattle.undo_trail.specs.Undoing.{undone}
use Rattle.undo_trail.proofs.Undoing.{length-undone}
use Rattle.hulls.specs.Awaiting.{is_inside}
use Rattle.hulls.specs.Boards.{OnBoard, IsBoardOf, Follows}
use Rattle.hulls.specs.Settling.{MaySettle}
use Rattle.pd_base.specs.Links.{LinkList, links_of, IsLink}
use Rattle.hulls.specs.Links.{link_at}
use Rattle.hulls.proofs.Narrowed.{link_stands}
use Rattle.state_sets.specs.Hulls.Narrowing.{along_link}
use Rattle.implication.proofs.Idling.{still_of}
use Rattle.implication.specs.declared.assumption.Beginning.{Beginning}
use Rattle.implication.specs.declared.assumption.Assumption.{Assumption}
use Rattle.implication.specs.declared.assumption.Assumption.TheVariants.{Entered, Assumed}
use Rattle.implication.specs.declared.before.Before.{Before}
use Rattle.implication.specs.Assumptions.{entered_pins, left_of}
use Rattle.implication.specs.Standing.{ToldEnds, Standing}
use Rattle.implication.specs.Kept.{Outset, Kept, AreAssumptions, AreToldEntries, IsListFrom, TakesFrom, DoShrink, IsAboutLine, IsLeftBefore, IsNarrowedMore, IsOpenHull, AreLabelsUnder, AreLeft, Stood, StandsOpen, StandsFrom, HasStepRoom, CanStep, KeepsStanding, left_with, left_without, steps_without}
use Rattle.implication.proofs.Entering.{pins_of, entered_append, entered_on, can_step}
use Rattle.implication.proofs.Linking.{same_cone}
use Rattle.implication.proofs.Lists.{list_taken, list_fits, told_taken}
use Rattle.implication.proofs.Labels.{settled_more, all_back}
use Rattle.implication.proofs.Shrinking.{about_line, shrink_last, left_of_more}
use Rattle.implication.proofs.History.{stood_more, stood_back, open_again, stood_last}
use Rattle.implication.proofs.Idling.{stands_on, stands_back}

-- what is left of the lines, with an entry more and without the last one
module _ (count lines : ℕ) where
  pub left_more : (list : List Assumption) (left : List StateSet) → AreLeft count lines list left → (entry : Assumption)
      → TakesFrom count lines list entry → AreLeft count lines (list ++ entry ∷ []) (left_with entry left)
  left_more list left are (Entered pin) takes = record {
    one_each = are.one_each;
    each = λ line within. are.each line within ∙ sym (left_of_more count (record { 0 = line }) list (Entered pin));
  }
  left_more list left are (Assumed own set_left) takes = record {
    one_each = length-set left own.0 set_left ∙ are.one_each;
    each = λ line within. ⊎_elim
        (λ (here : own.0 ≡ line).
        let P : ℕ → Type 0 = λ n. label_at (set left own.0 set_left) n ≡ left_of count (record { 0 = n }) (list ++ Assumed own set_left ∷ []) in
        let e : (own.0 == own.0) ≡ true = eq-eqb own.0 own.0 refl in
        let now : left_of count own (list ++ Assumed own set_left ∷ []) ≡ set_left =
        left_of_more count own list (Assumed own set_left) ∙ (rw e takes.inside) in
        subst P here (get_or-set_same left own.0 set_left no_states (omega (arith, takes.in_circuit, are.one_each)) ∙ sym now))
        (λ (away : own.0 ≢ line).
        let e : (own.0 == line) ≡ false = ne_eqb own.0 line away in
        let now : left_of count (record { 0 = line }) (list ++ Assumed own set_left ∷ []) ≡ left_of count (record { 0 = line }) list =
        left_of_more count (record { 0 = line }) list (Assumed own set_left) ∙ (rw e refl) in
        get_or-set_other left own.0 line set_left no_states (λ e. away (sym e)) ∙ are.each line within ∙ sym now)
        (cases_eq own.0 line);
  }

  pub left_less : (list front : List Assumption) (left : List StateSet) → AreLeft count lines list left → (entry : Assumption)
      → (before : StateSet) → list ≡ front ++ entry ∷ [] → IsAboutLine lines entry → IsLeftBefore count front entry before
      → AreLeft count lines front (left_without entry before left)
  left_less list front left are (Entered pin) before is about was = record {
    one_each = are.one_each;
    each = λ line within. are.each line within ∙ ap (left_of count (record { 0 = line })) is
        ∙ left_of_more count (record { 0 = line }) front (Entered pin);
  }
  left_less list front left are (Assumed own set_left) before is about was = record {
    one_each = length-set left own.0 before ∙ are.one_each;
    each = λ line within. ⊎_elim
        (λ (here : own.0 ≡ line).
        let P : ℕ → Type 0 = λ n. label_at (set left own.0 before) n ≡ left_of count (record { 0 = n }) front in
        subst P here (get_or-set_same left own.0 before no_states (omega (arith, about, are.one_each)) ∙ was))
        (λ (away : own.0 ≢ line).
        let e : (own.0 == line) ≡ false = ne_eqb own.0 line away in
        let now : left_of count (record { 0 = line }) (front ++ Assumed own set_left ∷ []) ≡ left_of count (record { 0 = line }) front =
        left_of_more count (record { 0 = line }) front (Assumed own set_left) ∙ (rw e refl) in
        get_or-set_other left own.0 line before no_states (λ e. away (sym e)) ∙ are.each line within ∙ ap (left_of count (record { 0 = line })) is ∙ now)
        (cases_eq own.0 line);
  }

-- the conditions without the step of the last entry
module _ (steps : Steps) (front : List Assumption) where
  pub steps_back : (entry : Assumption) → steps.steps ≡ entered_pins (front ++ entry ∷ [])
      → (steps_without entry steps).steps ≡ entered_pins front
  steps_back (Entered pin) is =
      let e : steps.steps ≡ entered_pins front ++ pin ∷ [] = is ∙ entered_append front (Entered pin ∷ []) in
      ap (λ (xs : List PinRef). take (length xs - 1) xs) e ∙ front_of (entered_pins front) pin
    where
      front_of : (xs : List PinRef) (x : PinRef) → take (length (xs ++ x ∷ []) - 1) (xs ++ x ∷ []) ≡ xs
      front_of xs x =
          let e : length (xs ++ x ∷ []) - 1 ≡ length xs = omega (arith, length_push xs x) in
          ap (λ (n : ℕ). take n (xs ++ x ∷ [])) e ∙ take-append_seam xs (x ∷ [])
  steps_back (Assumed line set_left) is = is ∙ entered_append front (Assumed line set_left ∷ []) ∙ append-nil (entered_pins front)

  pub kind_back : (entry : Assumption) → (steps_without entry steps).kind ≡ steps.kind
  kind_back (Entered pin) = refl
  kind_back (Assumed line set_left) = refl

  pub room_back : (c : Circuit) (entry : Assumption) → HasStepRoom c steps → HasStepRoom c (steps_without entry steps)
  room_back c (Entered pin) room = record { gates = room.gates; levels = room.levels }
  room_back c (Assumed line set_left) room = room

-- a board that follows another one has as many lines
pub of_circuit : (c : Circuit) (old new : OnBoard) → IsBoardOf c old → Follows old new → new.inside ≡ old.inside → new.links ≡ old.links → IsBoardOf c new
of_circuit c old new of follows inside links =
    still_of c old new inside links (sym (length-undone follows.more new.labels) ∙ ap length follows.back) of

-- labels at rest are ready for cuts
pub is_ready : (a : StateAlgebra) (from : Outset) (list : List Assumption) (board : OnBoard) (kind : Kind) (steps : List PinRef)
    → IsBoardOf from.net board → from.inside ≡ board.inside → board.links ≡ from.inner → kind ≡ from.begun.kind → steps ≡ entered_pins list
    → IsOpenHull a from list board.labels → MaySettle a from.net kind steps board
is_ready a from list board kind steps of inside same_links same_kind same_steps is =
    let P : Kind → Type 0 = λ k. MaySettle a from.net k steps board in
    let Q : List PinRef → Type 0 = λ s. MaySettle a from.net from.begun.kind s board in
    subst P (sym same_kind) (subst Q (sym same_steps) (record {
      of = of;
      labelling = is.hull.rest.labelling;
      some = is.none_empty;
      awake = record {
        gates = λ gate within here.
            inr (is.hull.rest.rest (at_gate gate (condition_at from.begun.kind (entered_pins list) gate))
            (within, ap (λ (i : List Bool). is_inside i gate) inside ∙ here, refl));
        links = λ link in_links.
            let two = link_at board.links link in
            inr (is.hull.rest.rest (along_link two.0.0 two.1.0)
            (subst (λ (ls : LinkList). IsLink ls two.0.0 two.1.0) same_links (link_stands board.links link in_links)));
      };
    }))

-- where something is assumed, a scope has begun
pub has_begun : (a : StateAlgebra) (c : Circuit) (rules : Rules) (ends : Option ToldEnds) (beginning : Option Beginning)
    (list : List Assumption) (conflict : Option LineId) (kept : Kept) → StandsFrom a c rules ends beginning list conflict kept
    → 1 ≤ length list → (begun : Beginning) × (beginning ≡ Some begun)
has_begun a c rules ends None list conflict kept stands some = let e = ap length stands.nothing in absurd (omega (arith, e, some))
has_begun a c rules ends (Some begun) list conflict kept stands some = (begun, refl)

-- a scope that has begun has begun somehow
pub some_beginning : (beginning : Option Beginning) → IsSome beginning → (begun : Beginning) × (beginning ≡ Some begun)
some_beginning None some = absurd (false≢true some)
some_beginning (Some begun) some = (begun, refl)

module _ (a : StateAlgebra) {standing : Standing} {kept : Kept} {room befores_room : ℕ}
    (keeps : KeepsStanding a standing kept room befores_room) (begun : Beginning) (is : standing.beginning ≡ Some begun) where
  abbrev list : List Assumption
  list = standing.assumptions

  abbrev from : Outset
  from = record { net = standing.net; inside = kept.board.inside; inner = kept.board.links; rules = standing.rules; begun = begun }

  stands : StandsOpen a from standing.ends list standing.conflict kept
  stands =
      let P : Option Beginning → Type 0 = λ b. StandsFrom a standing.net standing.rules standing.ends b list standing.conflict kept in
      subst P is keeps.stands

  pub entered_now : IsEnteredOn standing.net kept.steps
  entered_now = entered_on standing.net begun.source.0 list stands.list.connects kept.steps keeps.step_room stands.entered

  -- what stands when the list, the board and the rest are these
  kept_now : (now : List Assumption) (answer : Option LineId) (closings : ℕ) (new : Kept) (room' befores_room' : ℕ) → room' ≡ room
      → befores_room' ≡ befores_room → IsBoardOf standing.net new.board → new.board.inside ≡ kept.board.inside → new.board.links ≡ kept.board.links
      → new.board.waiting ≡ []
      → HasStepRoom standing.net new.steps → StandsOpen a from standing.ends now answer new
      → KeepsStanding a (record {
        net = standing.net;
        rules = standing.rules;
        ends = standing.ends;
        beginning = standing.beginning;
        assumptions = now;
        conflict = answer;
        closings = closings;
      }) new room' befores_room'
  kept_now now answer closings new room' befores_room' same_room same_befores of inside links at_rest step_room open_ =
      let Q : List Bool → Type 0 =
      λ i. StandsOpen a (record { net = standing.net; inside = i; inner = kept.board.links; rules = standing.rules; begun = begun }) standing.ends now
      answer new in
      let L : LinkList → Type 0 =
      λ ls. StandsOpen a (record { net = standing.net; inside = new.board.inside; inner = ls; rules = standing.rules; begun = begun }) standing.ends now
      answer new in
      let R : Option Beginning → Type 0 = λ b. StandsFrom a standing.net standing.rules standing.ends b now answer new in
      record {
        circuit = keeps.circuit;
        board = of;
        links = keeps.links;
        cone = same_cone a standing.net (links_of standing.rules) standing.ends kept.board.inside new.board.inside inside kept.board.links
            new.board.links links keeps.cone;
        at_rest = at_rest;
        stands = subst R (sym is) (subst L (sym links) (subst Q (sym inside) open_));
        step_room = step_room;
        room = omega (arith, keeps.room, same_room);
        befores_room = omega (arith, keeps.befores_room, same_befores);
      }

  module _ (free : standing.conflict ≡ None) where
    open_now : IsOpenHull a from list kept.board.labels
    open_now = let P : Option LineId → Type 0 = λ x. AreLabelsUnder a from list kept.board.labels x in subst P free stands.answer

    pub ready_now : MaySettle a standing.net kept.steps.kind kept.steps.steps kept.board
    ready_now = is_ready a from list kept.board kept.steps.kind kept.steps.steps keeps.board refl refl stands.kind stands.entered open_now

    module _ (entry : Assumption)
        (fits : IsListFrom a.count standing.net (links_of standing.rules) standing.ends standing.beginning (list ++ entry ∷ [])) where
      fit : AreAssumptions a.count standing.net begun (list ++ entry ∷ []) × AreToldEntries standing.net (links_of standing.rules) standing.ends (list ++ entry ∷ [])
      fit = let P : Option Beginning → Type 0 = λ b. IsListFrom a.count standing.net (links_of standing.rules) standing.ends b (list ++ entry ∷ []) in subst P is fits

      -- there is room for it
      pub room_for_one : length list < room
      room_for_one = omega (arith, list_fits a.count standing.net begun (list ++ entry ∷ []) fit.0 keeps.circuit, length_push list entry, keeps.room)

      pub befores_room_for_one : length kept.befores < befores_room
      befores_room_for_one =
          omega (
            arith,
            list_fits a.count standing.net begun (list ++ entry ∷ []) fit.0 keeps.circuit,
            length_push list entry,
            keeps.befores_room,
            stands.stood.one_each,
          )

      -- its pin is one of the circuit, or its line
      pub pins_fit : All (IsPin standing.net) (entered_pins (entry ∷ []))
      pins_fit =
          all_back (IsPin standing.net) (entered_pins list) (entered_pins (entry ∷ []))
          (subst (All (IsPin standing.net)) (entered_append list (entry ∷ []))
          (pins_of standing.net begun.source.0 (entered_pins (list ++ entry ∷ [])) fit.0.connects))

      takes : TakesFrom a.count (line_count standing.net) list entry
      takes = shrink_last a.count (line_count standing.net) [] list entry fit.0.shrink

      pub line_fits : IsAboutLine (line_count standing.net) entry
      line_fits = about_line a.count (line_count standing.net) list entry takes

      pub left_fits : IsAboutLine (length kept.left) entry
      left_fits = let P : ℕ → Type 0 = λ n. IsAboutLine n entry in subst P (sym stands.left.one_each) line_fits

      -- and its step can be made
      pub step_fits : CanStep kept.steps entry
      step_fits =
          can_step standing.net keeps.circuit begun.source.0 (let s = fit.0.source in omega (arith, s)) (list ++ entry ∷ []) fit.0.connects
          (length list) entry (omega (arith, length_push list entry)) kept.steps entry (get_or-append_seam list entry [] entry) keeps.step_room
          (stands.entered ∙ ap entered_pins (sym (take-append_seam list (entry ∷ []))))

      module _ (was : Before) (marked : was.changes ≡ length kept.board.notes) (left : IsLeftBefore a.count list entry was.left)
          (board : OnBoard) (inside : board.inside ≡ kept.board.inside) (links : board.links ≡ kept.board.links)
          (follows : Follows kept.board board) (at_rest : board.waiting ≡ [])
          (steps : Steps) (stepped : steps ≡ record kept.steps { steps = kept.steps.steps ++ entered_pins (entry ∷ []) })
          (answer : Option LineId) (seen : Circuit) (circuits : seen ≡ standing.net)
          (narrowed : IsNarrowedMore a seen entry steps.kind steps.steps kept.board board answer) where
        narrowed_here : IsNarrowedMore a standing.net entry steps.kind steps.steps kept.board board answer
        narrowed_here =
            let P : Circuit → Type 0 = λ x. IsNarrowedMore a x entry steps.kind steps.steps kept.board board answer in
            subst P circuits narrowed

        abbrev grown : Kept
        grown = record {
          board = board;
          idle = kept.idle;
          befores = kept.befores ++ was ∷ [];
          left = left_with entry kept.left;
          steps = steps;
        }

        kind_now : steps.kind ≡ begun.kind
        kind_now = ap (λ (s : Steps). s.kind) stepped ∙ stands.kind

        steps_now : steps.steps ≡ entered_pins (list ++ entry ∷ [])
        steps_now =
            ap (λ (s : Steps). s.steps) stepped ∙ ap (λ (xs : List PinRef). xs ++ entered_pins (entry ∷ [])) stands.entered
            ∙ sym (entered_append list (entry ∷ []))

        stands_more : StandsOpen a from standing.ends (list ++ entry ∷ []) answer grown
        stands_more = record {
          list = fit.0;
          begins = stands.begins;
          told = fit.1;
          kind = kind_now;
          entered = steps_now;
          stood = stood_more a from kept.board board follows list kept.befores entry was marked stands.stood open_now left;
          left = left_more a.count (line_count standing.net) list kept.left stands.left entry takes;
          answer = settled_more a from list entry kept.board.labels narrowed_here.first open_now narrowed_here.cut steps.kind steps.steps
              kind_now steps_now board.labels answer
              narrowed_here.settled;
          idling = stands_on a standing.net standing.rules kept.idle kept.board board stands.idling follows inside links;
        }

        -- what an engine keeps after an assumption more
        pub kept_added : (now : List Assumption) → now ≡ list ++ entry ∷ [] → (befores : List Before) → befores ≡ kept.befores ++ was ∷ []
            → (left_now : List StateSet) → left_now ≡ left_with entry kept.left → (room' befores_room' : ℕ) → room' ≡ room
            → befores_room' ≡ befores_room → (closings : ℕ)
            → KeepsStanding a (record {
              net = standing.net;
              rules = standing.rules;
              ends = standing.ends;
              beginning = standing.beginning;
              assumptions = now;
              conflict = answer;
              closings = closings;
            })
            (record { board = board; idle = kept.idle; befores = befores; left = left_now; steps = steps }) room' befores_room'
        kept_added now grows befores befores_grow left_now left_is room' befores_room' same_room same_befores closings =
            let new : List Before → List StateSet → Kept =
            λ b l. record { board = board; idle = kept.idle; befores = b; left = l; steps = steps } in
            let P : List Assumption → Type 0 = λ x. StandsOpen a from standing.ends x answer (new befores left_now) in
            let Q : List Before → Type 0 = λ b. StandsOpen a from standing.ends (list ++ entry ∷ []) answer (new b left_now) in
            let R : List StateSet → Type 0 =
            λ l. StandsOpen a from standing.ends (list ++ entry ∷ []) answer (new (kept.befores ++ was ∷ []) l) in
            kept_now now answer closings (new befores left_now) room' befores_room' same_room same_befores
            (of_circuit standing.net kept.board board keeps.board follows inside links) inside links at_rest
            (record {
              gates = ap (λ (s : Steps). s.gates) stepped ∙ keeps.step_room.gates;
              levels = ap (λ (s : Steps). s.room) stepped ∙ keeps.step_room.levels;
            })
            (subst P (sym grows) (subst Q (sym befores_grow) (subst R (sym left_is) stands_more)))

  -- what an engine keeps after the last assumption was taken back
  module _ (front : List Assumption) (entry : Assumption) (lists : list ≡ front ++ entry ∷ []) (befores : List Before) (was : Before)
      (before : kept.befores ≡ befores ++ was ∷ []) where
    stood_here : Stood a from kept.board (front ++ entry ∷ []) (befores ++ was ∷ [])
    stood_here =
        let P : List Assumption → Type 0 = λ x. Stood a from kept.board x (befores ++ was ∷ []) in
        let Q : List Before → Type 0 = λ x. Stood a from kept.board list x in subst P lists (subst Q before stands.stood)

    takes_here : TakesFrom a.count (line_count standing.net) front entry
    takes_here =
        shrink_last a.count (line_count standing.net) [] front entry
        (let P : List Assumption → Type 0 = λ x. DoShrink a.count (line_count standing.net) [] x in subst P lists stands.list.shrink)

    about_here : IsAboutLine (line_count standing.net) entry
    about_here = about_line a.count (line_count standing.net) front entry takes_here

    pub left_of_line : IsAboutLine (length kept.left) entry
    left_of_line = let P : ℕ → Type 0 = λ n. IsAboutLine n entry in subst P (sym stands.left.one_each) about_here

    taken : take (length front) list ≡ front
    taken = ap (take (length front)) lists ∙ take-append_seam front (entry ∷ [])

    module _ (board : OnBoard) (labels : board.labels ≡ undone (drop was.changes kept.board.notes) kept.board.labels)
        (notes : board.notes ≡ take was.changes kept.board.notes) (at_rest : board.waiting ≡ []) (inside : board.inside ≡ kept.board.inside)
        (links : board.links ≡ kept.board.links)
        (left : List StateSet) (left_is : left ≡ left_without entry was.left kept.left) (steps : Steps)
        (steps_is : steps ≡ steps_without entry kept.steps) where
      abbrev back : Kept
      back = record { board = board; idle = kept.idle; befores = befores; left = left; steps = steps }

      stands_less : StandsOpen a from standing.ends front None back
      stands_less = record {
        list = let P : List Assumption → Type 0 = λ x. AreAssumptions a.count standing.net begun x in
            subst P taken (list_taken a.count standing.net begun list stands.list (length front));
        begins = stands.begins;
        told = let P : List Assumption → Type 0 = λ x. AreToldEntries standing.net (links_of standing.rules) standing.ends x in
            subst P taken (told_taken standing.net (links_of standing.rules) standing.ends list (length front) stands.told);
        kind = ap (λ (s : Steps). s.kind) steps_is ∙ kind_back kept.steps front entry ∙ stands.kind;
        entered = ap (λ (s : Steps). s.steps) steps_is ∙ steps_back kept.steps front entry (stands.entered ∙ ap entered_pins lists);
        stood = stood_back a from kept.board board front befores entry was stood_here notes labels;
        left = let P : List StateSet → Type 0 = λ l. AreLeft a.count (line_count standing.net) front l in
            subst P (sym left_is)
            (left_less a.count (line_count standing.net) list front kept.left stands.left entry was.left lists about_here
            (stood_last a from kept.board board front befores entry was stood_here notes labels).left);
        answer = open_again a from kept.board board front befores entry was stood_here notes labels;
        idling = stands_back a standing.net standing.rules kept.idle kept.board board was.changes stands.idling notes labels inside links;
      }

      pub kept_taken_back : (room' befores_room' : ℕ) → room' ≡ room → befores_room' ≡ befores_room → (closings : ℕ)
          → KeepsStanding a (record {
            net = standing.net;
            rules = standing.rules;
            ends = standing.ends;
            beginning = standing.beginning;
            assumptions = front;
            conflict = None;
            closings = closings;
          }) back room' befores_room'
      kept_taken_back room' befores_room' same_room same_befores closings =
          kept_now front None closings back room' befores_room' same_room same_befores
          (still_of standing.net kept.board board inside links
          (ap length labels ∙ length-undone (drop was.changes kept.board.notes) kept.board.labels) keeps.board)
          inside links at_rest
          (subst (HasStepRoom standing.net) (sym steps_is) (room_back kept.steps front standing.net entry keeps.step_room)) stands_less

-- An entry is added to what an engine keeps, as its calls see it.
module _ (a : StateAlgebra) {standing : Standing} {kept : Kept} {room befores_room : ℕ}
    (keeps : KeepsStanding a standing kept room befores_room) (now : Standing) (is_now : standing ≡ now) (some : IsSome now.beginning)
    (free : now.conflict ≡ None) (entry : Assumption)
    (fits : IsListFrom a.count now.net (links_of now.rules) now.ends now.beginning (now.assumptions ++ entry ∷ [])) where
  begun_here : (begun : Beginning) × (standing.beginning ≡ Some begun)
  begun_here = some_beginning standing.beginning (let P : Standing → Type 0 = λ s. IsSome s.beginning in subst P (sym is_now) some)

  free_here : standing.conflict ≡ None
  free_here = ap (λ (s : Standing). s.conflict) is_now ∙ free

  fits_here : IsListFrom a.count standing.net (links_of standing.rules) standing.ends standing.beginning (standing.assumptions ++ entry ∷ [])
  fits_here =
      let P : Standing → Type 0 = λ s. IsListFrom a.count s.net (links_of s.rules) s.ends s.beginning (s.assumptions ++ entry ∷ []) in
      subst P (sym is_now) fits

  pub add_room : length standing.assumptions < room
  add_room = room_for_one a keeps begun_here.0 begun_here.1 free_here entry fits_here

  pub add_befores_room : length kept.befores < befores_room
  add_befores_room = befores_room_for_one a keeps begun_here.0 begun_here.1 free_here entry fits_here

  pub add_left : IsAboutLine (length kept.left) entry
  add_left = left_fits a keeps begun_here.0 begun_here.1 free_here entry fits_here

  pub add_step : CanStep kept.steps entry
  add_step = step_fits a keeps begun_here.0 begun_here.1 free_here entry fits_here

  module _ (seen : Circuit) (circuits : seen ≡ standing.net) where
    pub add_ready : MaySettle a seen kept.steps.kind kept.steps.steps kept.board
    add_ready =
        let P : Circuit → Type 0 = λ x. MaySettle a x kept.steps.kind kept.steps.steps kept.board in
        subst P (sym circuits) (ready_now a keeps begun_here.0 begun_here.1 free_here)

    pub add_entered : IsEnteredOn seen kept.steps
    add_entered =
        let P : Circuit → Type 0 = λ x. IsEnteredOn x kept.steps in
        subst P (sym circuits) (entered_now a keeps begun_here.0 begun_here.1)

    pub add_pins : All (IsPin seen) (entered_pins (entry ∷ []))
    add_pins =
        let P : Circuit → Type 0 = λ x. All (IsPin x) (entered_pins (entry ∷ [])) in
        subst P (sym circuits) (pins_fit a keeps begun_here.0 begun_here.1 free_here entry fits_here)

    pub add_line : IsAboutLine (line_count seen) entry
    add_line =
        let P : Circuit → Type 0 = λ x. IsAboutLine (line_count x) entry in
        subst P (sym circuits) (line_fits a keeps begun_here.0 begun_here.1 free_here entry fits_here)

    module _ (was : Before) (marked : was.changes ≡ length kept.board.notes) (left : IsLeftBefore a.count now.assumptions entry was.left)
        (board : OnBoard) (inside : board.inside ≡ kept.board.inside) (links : board.links ≡ kept.board.links)
        (follows : Follows kept.board board) (at_rest : board.waiting ≡ [])
        (steps : Steps) (stepped : steps ≡ record kept.steps { steps = kept.steps.steps ++ entered_pins (entry ∷ []) })
        (answer : Option LineId) (narrowed : IsNarrowedMore a seen entry steps.kind steps.steps kept.board board answer)
        (list : List Assumption) (grows : list ≡ standing.assumptions ++ entry ∷ []) (befores : List Before)
        (befores_grow : befores ≡ kept.befores ++ was ∷ []) (left_now : List StateSet) (left_is : left_now ≡ left_with entry kept.left)
        (room' befores_room' : ℕ) (same_room : room' ≡ room) (same_befores : befores_room' ≡ befores_room) (closings : ℕ) where
      pub added : KeepsStanding a (record {
        net = standing.net;
        rules = standing.rules;
        ends = standing.ends;
        beginning = standing.beginning;
        assumptions = list;
        conflict = answer;
        closings = closings;
      })
          (record { board = board; idle = kept.idle; befores = befores; left = left_now; steps = steps }) room' befores_room'
      added =
          let P : Standing → Type 0 = λ s. IsLeftBefore a.count s.assumptions entry was.left in
          kept_added a keeps begun_here.0 begun_here.1 free_here entry fits_here was marked (subst P (sym is_now) left) board inside links follows
          at_rest steps stepped answer seen circuits narrowed list grows befores befores_grow left_now left_is room' befores_room' same_room
          same_befores closings

-- The last entry is taken back.
module _ (a : StateAlgebra) {standing : Standing} {kept : Kept} {room befores_room : ℕ}
    (keeps : KeepsStanding a standing kept room befores_room) (front : List Assumption) (entry : Assumption)
    (lists : standing.assumptions ≡ front ++ entry ∷ []) (befores : List Before) (was : Before) (before : kept.befores ≡ befores ++ was ∷ [])
  where
    begun_once : (begun : Beginning) × (standing.beginning ≡ Some begun)
    begun_once =
        has_begun a standing.net standing.rules standing.ends standing.beginning standing.assumptions standing.conflict kept keeps.stands
        (let e = ap length lists in let f = length_push front entry in omega (arith, e, f))

    pub back_left : IsAboutLine (length kept.left) entry
    back_left = left_of_line a keeps begun_once.0 begun_once.1 front entry lists befores was before

    module _ (board : OnBoard) (labels : board.labels ≡ undone (drop was.changes kept.board.notes) kept.board.labels)
        (notes : board.notes ≡ take was.changes kept.board.notes) (at_rest : board.waiting ≡ []) (inside : board.inside ≡ kept.board.inside)
        (links : board.links ≡ kept.board.links)
        (left : List StateSet) (left_is : left ≡ left_without entry was.left kept.left) (steps : Steps)
        (steps_is : steps ≡ steps_without entry kept.steps) (room' befores_room' : ℕ) (same_room : room' ≡ room)
        (same_befores : befores_room' ≡ befores_room) (closings : ℕ) where
      pub taken_back : KeepsStanding a (record {
        net = standing.net;
        rules = standing.rules;
        ends = standing.ends;
        beginning = standing.beginning;
        assumptions = front;
        conflict = None;
        closings = closings;
      })
          (record { board = board; idle = kept.idle; befores = befores; left = left; steps = steps }) room' befores_room'
      taken_back =
          kept_taken_back a keeps begun_once.0 begun_once.1 front entry lists befores was before board labels notes at_rest inside links left left_is
          steps steps_is room' befores_room' same_room same_befores closings
