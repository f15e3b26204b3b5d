-- What an engine keeps as it is made, as the outermost scope begins and as it ends.
use Rattle.std.proofs.Common.{◌≡◌, ℕ, ◌<◌, ◌≤◌, Bool, List, [], ◌∷◌, length, replicate, Option, Some, None, IfSome, IfNone, refl, sym, ap, ◌∙◌, subst, arith}
use Rattle.std.proofs.lemmas.List.{get_or-replicate, length-replicate}
use Rattle.std.proofs.lemmas.List.Elements.{All-nil}
use Rattle.pd_base.specs.declared.ids.LineId.{LineId}
use Rattle.pd_base.specs.declared.rules.Rules.{Rules}
use Rattle.pd_base.specs.declared.fault.Kind.TheVariants.{Robust}
use Rattle.netlist.specs.Circuit.{Circuit, source_count, gate_count, line_count}
use Rattle.netlist.specs.Lawful.{IsCircuit}
use Rattle.netlist.specs.Levels.{greatest_level}
use Rattle.state_sets.specs.declared.state.StateSet.{StateSet}
use Rattle.state_sets.specs.States.{all_states, no_states}
use Rattle.state_sets.specs.Labellings.{label_at}
use Rattle.state_sets.specs.StateAlgebra.{StateAlgebra, HasLaws}
use Rattle.state_sets.specs.Starts.{MayStart}
use Rattle.state_sets.specs.Hulls.{IsHull, IsEmptied, HasNoEmptySet}
use Rattle.state_laws.specs.Cones.{IsNarrowingIn}
use Rattle.hulls.specs.Conditions.{Entered as Steps}
use Rattle.hulls.specs.Awaiting.{is_inside}
use Rattle.hulls.specs.Boards.{OnBoard}
use Rattle.pd_base.specs.Links.{LinkList, links_of}
use Rattle.implication.proofs.Idling.{still_of}
use Rattle.implication.specs.declared.assumption.Beginning.{Beginning}
use Rattle.implication.specs.declared.assumption.Assumption.{Assumption}
use Rattle.implication.specs.declared.before.Before.{Before}
use Rattle.implication.specs.Assumptions.{entered_pins}
use Rattle.implication.specs.Standing.{Standing, ToldEnds, IsToldBy, IsTold}
use Rattle.implication.specs.Idling.{Idling, StandsBy, IsIdleBoard}
use Rattle.implication.specs.Kept.{most_assumptions, Outset, Kept, AreLabelsUnder, AreLeft, StandsOpen, StandsIdle, StandsFrom, AreEnough, IsToldEntry, KeepsStanding}
use Rattle.implication.proofs.Linking.{same_cone, links_among}
use Rattle.implication.proofs.Lists.{list_empty}
use Rattle.netlist.specs.LinkedPairs.{AreLinksOf}
use Rattle.implication.proofs.Labels.{labels_at_start}
use Rattle.implication.proofs.Starting.{free_at_start}

-- what an engine keeps as it is made
pub kept_new : (a : StateAlgebra) (c : Circuit) (rules : Rules) (ends : Option ToldEnds) (list : List Assumption) (kept : Kept)
    (room befores_room : ℕ) → IsCircuit c → AreEnough a c (links_of rules) ends kept.board.inside kept.board.links → IsIdleBoard a c rules kept.idle kept.board
    → AreLinksOf c (links_of rules)
    → list ≡ [] → kept.befores ≡ [] → kept.left ≡ replicate (line_count c) (all_states a.count)
    → kept.steps ≡ record { kind = Robust; gates = gate_count c; room = greatest_level c; steps = [] }
    → most_assumptions a.count c ≤ room → most_assumptions a.count c ≤ befores_room
    → KeepsStanding a (record {
      net = c;
      rules = rules;
      ends = ends;
      beginning = None;
      assumptions = list;
      conflict = None;
      closings = 0;
    }) kept room befores_room
kept_new a c rules ends list kept room befores_room circuit cone idle links nothing none_before all_left stepped enough befores_enough = record {
  circuit = circuit;
  board = idle.stands.of;
  links = links;
  cone = cone;
  at_rest = idle.at_rest;
  stands = record {
    nothing = nothing;
    free = refl;
    none_before = none_before;
    no_step = ap (λ (s : Steps). s.steps) stepped;
    left = record {
      one_each = ap length all_left ∙ length-replicate (line_count c) (all_states a.count);
      each = λ line within. ap (λ (sets : List StateSet). label_at sets line) all_left
          ∙ get_or-replicate (line_count c) line (all_states a.count) no_states within;
    };
    idling = idle;
  };
  step_room = record { gates = ap (λ (s : Steps). s.gates) stepped; levels = ap (λ (s : Steps). s.room) stepped };
  room = enough;
  befores_room = befores_enough;
}

module _ (a : StateAlgebra) {standing : Standing} {kept : Kept} {room befores_room : ℕ}
    (keeps : KeepsStanding a standing kept room befores_room) (now : Standing) (is_now : standing ≡ now) (idle : now.beginning ≡ None)
    (begun : Beginning) (within : begun.source.0 < source_count now.net) (told : IsTold now begun.source.0) where
  stands : StandsIdle a standing.net standing.rules standing.assumptions standing.conflict kept
  stands =
      let P : Option Beginning → Type 0 =
      λ b. StandsFrom a standing.net standing.rules standing.ends b standing.assumptions standing.conflict kept in
      subst P (ap (λ (s : Standing). s.beginning) is_now ∙ idle) keeps.stands

  source : begun.source.0 < source_count standing.net
  source = let P : Standing → Type 0 = λ s. begun.source.0 < source_count s.net in subst P (sym is_now) within

  module _ (board : OnBoard) (idling : Idling) (inside : board.inside ≡ kept.board.inside)
      (links : board.links ≡ kept.board.links) (lines : length board.labels ≡ length kept.board.labels) (at_rest : board.waiting ≡ []) (steps : Steps)
      (stepped : steps ≡ record kept.steps { kind = begun.kind }) (seen : Circuit) (circuits : seen ≡ standing.net) (seen_rules : Rules)
      (rules_are : seen_rules ≡ standing.rules) (answer : Option LineId)
      (hull : IfNone answer (IsHull a seen (IsNarrowingIn seen (is_inside kept.board.inside) kept.board.links steps.kind [])
      (MayStart a seen seen_rules begun.source.0 begun.direction) board.labels))
      (none_empty : IfNone answer (HasNoEmptySet seen board.labels))
      (emptied : IfSome answer (λ line. (line.0 < line_count seen)
      × IsEmptied a seen (IsNarrowingIn seen (is_inside kept.board.inside) kept.board.links steps.kind [])
      (MayStart a seen seen_rules begun.source.0 begun.direction) line.0))
      (stands_by : StandsBy a seen seen_rules idling board) where
    abbrev from : Circuit → List Bool → Rules → Outset
    from c flags rules = record { net = c; inside = flags; inner = kept.board.links; rules = rules; begun = begun }

    begins : IsToldBy standing.net (links_of standing.rules) standing.ends begun.source.0
    begins = let P : Standing → Type 0 = λ s. IsTold s begun.source.0 in subst P (sym is_now) told

    under : AreLabelsUnder a (from standing.net kept.board.inside standing.rules) [] board.labels answer
    under =
        let P : Circuit → Type 0 = λ x. AreLabelsUnder a (from x kept.board.inside seen_rules) [] board.labels answer in
        let Q : Rules → Type 0 = λ r. AreLabelsUnder a (from standing.net kept.board.inside r) [] board.labels answer in
        subst Q rules_are
        (subst P circuits
        (labels_at_start a (from seen kept.board.inside seen_rules) steps.kind (ap (λ (s : Steps). s.kind) stepped) board.labels answer
        hull none_empty emptied))

    -- without links no conflict stands then
    pub free_begun : HasLaws a → links_of standing.rules ≡ [] → answer ≡ None
    free_begun laws unlinked =
        free_at_start a laws (from standing.net kept.board.inside standing.rules) board.labels answer keeps.circuit
        (links_among a standing.net (links_of standing.rules) standing.ends kept.board.inside kept.board.links keeps.cone) source under unlinked

    abbrev new : Kept
    new = record { board = board; idle = idling; befores = kept.befores; left = kept.left; steps = steps }

    idling_here : StandsBy a standing.net standing.rules idling board
    idling_here =
        let P : Circuit → Type 0 = λ x. StandsBy a x seen_rules idling board in
        let Q : Rules → Type 0 = λ r. StandsBy a standing.net r idling board in subst Q rules_are (subst P circuits stands_by)

    opens : StandsOpen a (from standing.net kept.board.inside standing.rules) standing.ends [] answer new
    opens = record {
      list = list_empty a.count standing.net begun source;
      begins = begins;
      told = All-nil (IsToldEntry standing.net (links_of standing.rules) standing.ends);
      kind = ap (λ (s : Steps). s.kind) stepped;
      entered = ap (λ (s : Steps). s.steps) stepped ∙ stands.no_step;
      stood = record {
        one_each = ap length stands.none_before;
        each = λ place else_ below. absurd (let b = below in omega arith);
        rising = λ earlier later order below. absurd (let b = below in omega arith);
      };
      left = stands.left;
      answer = under;
      idling = idling_here;
    }

    -- what an engine keeps as the outermost scope begins
    pub kept_begun : (closings : ℕ) → KeepsStanding a (record {
      net = standing.net;
      rules = standing.rules;
      ends = standing.ends;
      beginning = Some begun;
      assumptions = standing.assumptions;
      conflict = answer;
      closings = closings;
    }) new room befores_room
    kept_begun closings =
        let Q : List Bool → Type 0 = λ flags. StandsOpen a (from standing.net flags standing.rules) standing.ends [] answer new in
        let L : LinkList → Type 0 = λ ls. StandsOpen a
        (record { net = standing.net; inside = board.inside; inner = ls; rules = standing.rules; begun = begun }) standing.ends [] answer new in
        let R : List Assumption → Type 0 = λ list. StandsOpen a
        (record { net = standing.net; inside = board.inside; inner = board.links; rules = standing.rules; begun = begun }) standing.ends list answer new in
        record {
          circuit = keeps.circuit;
          board = still_of standing.net kept.board board inside links lines keeps.board;
          links = keeps.links;
          cone = same_cone a standing.net (links_of standing.rules) standing.ends kept.board.inside board.inside inside kept.board.links board.links
              links keeps.cone;
          at_rest = at_rest;
          stands = subst R (sym stands.nothing) (subst L (sym links) (subst Q (sym inside) opens));
          step_room = record {
            gates = ap (λ (s : Steps). s.gates) stepped ∙ keeps.step_room.gates;
            levels = ap (λ (s : Steps). s.room) stepped ∙ keeps.step_room.levels;
          };
          room = keeps.room;
          befores_room = keeps.befores_room;
        }

-- without an entry nothing stands beside the labels
module _ (a : StateAlgebra) (c : Circuit) (rules : Rules) (ends : Option ToldEnds) (list : List Assumption) (nothing : list ≡ [])
    (conflict : Option LineId) (kept : Kept) where
  idle_parts : (beginning : Option Beginning) → StandsFrom a c rules ends beginning list conflict kept
      → (kept.befores ≡ []) × (kept.steps.steps ≡ []) × AreLeft a.count (line_count c) [] kept.left × StandsBy a c rules kept.idle kept.board
  idle_parts None stands = (stands.none_before, stands.no_step, stands.left, stands.idling.stands)
  idle_parts (Some begun) stands =
      let P : List Assumption → Type 0 = λ xs. AreLeft a.count (line_count c) xs kept.left in (
        no_more kept.befores (stands.stood.one_each ∙ ap length nothing),
        stands.entered ∙ ap entered_pins nothing,
        subst P nothing stands.left,
        stands.idling,
      )
    where
      no_more : (xs : List Before) → length xs ≡ 0 → xs ≡ []
      no_more [] e = refl
      no_more (x ∷ xs) e = absurd (omega (arith, e))

pub stands_here : (a : StateAlgebra) {standing : Standing} {kept : Kept} {room befores_room : ℕ}
    (keeps : KeepsStanding a standing kept room befores_room) (nothing : standing.assumptions ≡ [])
    → (c : Circuit) × (rules : Rules) × StandsBy a c rules kept.idle kept.board
stands_here a {standing} {kept} {room} {befores_room} keeps nothing = (
  standing.net,
  standing.rules,
  (idle_parts a standing.net standing.rules standing.ends standing.assumptions nothing standing.conflict kept standing.beginning keeps.stands).3,
)

-- the idle labels are those of all lines
pub idle_on_all : (a : StateAlgebra) {standing : Standing} {kept : Kept} {room befores_room : ℕ}
    (keeps : KeepsStanding a standing kept room befores_room) → length kept.idle.labels ≡ line_count standing.net
idle_on_all a {standing} {kept} keeps = on_all standing.beginning keeps.stands
  where
    on_all : (beginning : Option Beginning)
        → StandsFrom a standing.net standing.rules standing.ends beginning standing.assumptions standing.conflict kept
        → length kept.idle.labels ≡ line_count standing.net
    on_all None stands = stands.idling.stands.forward.labelling.one_each
    on_all (Some begun) stands = stands.idling.forward.labelling.one_each

-- what an engine keeps as the outermost scope ends
pub kept_ended : (a : StateAlgebra) {standing : Standing} {kept : Kept} {room befores_room : ℕ}
    (keeps : KeepsStanding a standing kept room befores_room) (nothing : standing.assumptions ≡ []) (board : OnBoard) (idling : Idling)
    (ended : (c : Circuit) (rules : Rules) → StandsBy a c rules kept.idle kept.board → IsIdleBoard a c rules idling board)
    (inside : board.inside ≡ kept.board.inside) (links : board.links ≡ kept.board.links)
    (lines : length board.labels ≡ length kept.board.labels) (at_rest : board.waiting ≡ []) (closings : ℕ) → KeepsStanding a (record {
      net = standing.net;
      rules = standing.rules;
      ends = standing.ends;
      beginning = None;
      assumptions = standing.assumptions;
      conflict = None;
      closings = closings;
    })
    (record { board = board; idle = idling; befores = kept.befores; left = kept.left; steps = kept.steps }) room befores_room
kept_ended a {standing} {kept} {room} {befores_room} keeps nothing board idling ended inside links lines at_rest closings =
    let parts = idle_parts a standing.net standing.rules standing.ends standing.assumptions nothing standing.conflict kept standing.beginning
    keeps.stands in
    record {
      circuit = keeps.circuit;
      board = still_of standing.net kept.board board inside links lines keeps.board;
      links = keeps.links;
      cone = same_cone a standing.net (links_of standing.rules) standing.ends kept.board.inside board.inside inside kept.board.links board.links
          links keeps.cone;
      at_rest = at_rest;
      stands = record {
        nothing = nothing;
        free = refl;
        none_before = parts.0;
        no_step = parts.1;
        left = parts.2;
        idling = ended standing.net standing.rules parts.3;
      };
      step_room = keeps.step_room;
      room = keeps.room;
      befores_room = keeps.befores_room;
    }
