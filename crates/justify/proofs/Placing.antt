-- The places of a tree that grows on a scope: the next one is gone to, and a node there makes places of its halves.
use Rattle.std.proofs.Common.{◌≡◌, ℕ, ◌+◌, ◌<◌, ◌≤◌, ◌↔◌, ⊎_elim, Bool, true, false, suc, List, [], ◌∷◌, ◌++◌, length, take, drop, map, get_or, Option, sym, ap, ◌∙◌, subst, arith}
use Rattle.std.specs.List.{Contains}
use Rattle.std.proofs.lemmas.List.Kept.{AllPairs-cons}
use Rattle.std.proofs.lemmas.List.{take-take, take_all, length_push, length-take}
use Rattle.std.proofs.Math.Seq.{take-append_seam}
use Rattle.std.proofs.lemmas.List.Elements.{All-cons, Contains-push_cases}
use Rattle.pd_base.specs.Target.{Target}
use Rattle.pd_base.specs.declared.ids.LineId.{LineId}
use Rattle.pd_base.specs.declared.rules.Rules.{Rules}
use Rattle.netlist.specs.Circuit.{Circuit}
use Rattle.state_sets.specs.declared.state.State.{State}
use Rattle.state_sets.specs.declared.state.StateSet.{StateSet}
use Rattle.state_sets.specs.States.{Has, both_sets}
use Rattle.state_sets.specs.StateAlgebra.{StateAlgebra}
use Rattle.state_sets.specs.Labellings.{label_at}
use Rattle.state_laws.specs.declared.split.Split.{Split as CaseSplit}
use Rattle.state_laws.specs.declared.split.Half.{Half}
use Rattle.state_laws.specs.Halves.{IsInHalf, half_of}
use Rattle.state_laws.specs.Nodes.{ClosesAtNode}
use Rattle.state_laws.proofs.Restart.{may_be_below, may_be_above}
use Rattle.trees.specs.declared.tree.Node.{Node}
use Rattle.trees.specs.declared.tree.Node.TheVariants.{Closed, Waiting, Split}
use Rattle.trees.specs.Algebras.{algebra_of}
use Rattle.trees.specs.Trees.{split_count, IsSourceKind}
use Rattle.trees.specs.Refutations.{below}
use Rattle.trees.specs.Spent.{IsInSupport, IsOpen, IsDue, HasInHalf}
use Rattle.trees.specs.Growing.{Grows}
use Rattle.trees.proofs.Growing.{grows_by_closed, grows_by_waiting, grows_by_split}
use Rattle.trees.proofs.Ending.{splits_with_split, splits_with_closed, splits_with_waiting}
use Rattle.implication.specs.declared.assumption.Beginning.{Beginning}
use Rattle.implication.specs.declared.assumption.Assumption.{Assumption}
use Rattle.implication.specs.declared.scope.ScopeMark.{ScopeMark}
use Rattle.implication.specs.declared.assumption.Assumption.TheVariants.{Assumed}
use Rattle.implication.specs.Assumptions.{entered_pins, left_of, ClosesUnder}
use Rattle.implication.specs.Moves.{with_assumed}
use Rattle.implication.specs.NodeScopes.{beginning_of, AllowAsNode}
use Rattle.implication.proofs.MoreAssumed.{may_assumed, entered_assumed, assumed_cases}
use Rattle.justify.specs.declared.closers.Closers.{Closers}
use Rattle.justify.specs.declared.growing.Place.{Place}
use Rattle.justify.specs.Closers.{ClosesByKept}
use Rattle.justify.proofs.Closing.{kept_with_more}
use Rattle.justify.specs.Growths.{IsHalfPlace, AllowAsNodeWith, IsPlace, DueTree, AreStacked, IsGrowing}

-- a set assumed of a source is what the place says
pub node_assumed : (a : StateAlgebra) (c : Circuit) (rules : Rules) (target : Target) (list : List Assumption) (source : LineId) (set : StateSet) (halves : List Half)
    → AllowAsNodeWith a c rules target list source set halves → AllowAsNode a c rules target (with_assumed a.count list source set) halves
node_assumed a c rules target list source set halves with_set line state in_circuit in_range =
    let may = may_assumed a c rules (beginning_of target) list source set line state in_range in
    let same = with_set line state in_circuit in_range in
    (λ under. same.0 (may.0 under), λ be. may.1 (same.1 be))

-- with the states of a half assumed of its source, the assumptions of a node leave the states of the node below the half
pub node_half : (a : StateAlgebra) (c : Circuit) (rules : Rules) (target : Target) (list : List Assumption) (halves : List Half) (half : Half) (source : LineId) (set : StateSet)
    → source.0 ≡ half.split.line.0
    → ((state : State) → Has a.count set state ↔ ((state.0 < a.count) × IsInHalf a half.split.kind half.second state))
    → AllowAsNode a c rules target list halves → AllowAsNodeWith a c rules target list source set (halves ++ half ∷ [])
node_half a c rules target list halves half source set same means node line state in_circuit in_range =
    let at = node line state in_circuit in_range in (
      λ both. may_be_below a c rules target halves half line state in_circuit in_range
          (at.0 both.0, λ here. ((means state).0 (both.1 (here ∙ sym same))).1),
      λ be.
          let parts = may_be_above a c rules target halves half line state in_circuit in_range be in
          (at.1 parts.0, λ here. (means state).1 (in_range, parts.1 (here ∙ same))),
    )

-- the list with a set assumed begins with what was before
pub assumed_front : (count : ℕ) (list : List Assumption) (source : LineId) (set : StateSet)
    → take (length list) (with_assumed count list source set) ≡ list
assumed_front count list source set = ⊎_elim
    (λ (same : with_assumed count list source set ≡ list). ap (take (length list)) same ∙ take_all (length list) list (omega arith))
    (λ more. ap (take (length list)) more ∙ take-append_seam list _)
    (assumed_cases count list source set)

pub assumed_longer : (count : ℕ) (list : List Assumption) (source : LineId) (set : StateSet)
    → length list ≤ length (with_assumed count list source set)
assumed_longer count list source set = ⊎_elim
    (λ (same : with_assumed count list source set ≡ list). let e = ap length same in omega (arith, e))
    (λ more.
    let e = ap length more in
    let f = length_push list (Assumed source (both_sets (left_of count source list) set)) in
    omega (arith, e, f))
    (assumed_cases count list source set)

module _ (a : StateAlgebra) (c : Circuit) (rules : Rules) (target : Target) where
  abbrev begun : Beginning
  begun = beginning_of target

  -- places stay where they are when the list goes on
  pub stacked_longer : (old new : List Assumption) → take (length old) new ≡ old → length old ≤ length new
      → (due : List DueTree) → AreStacked a c rules target old due → AreStacked a c rules target new due
  stacked_longer old new front longer due stacked = record {
    reached = λ k d inside. let within = stacked.reached k d inside in omega (arith, within, longer);
    falling = stacked.falling;
    each = λ k d inside.
        let tree = get_or due k d in
        let same : take tree.place.mark.at old ≡ take tree.place.mark.at new =
        ap (take tree.place.mark.at) (sym front) ∙ take-take tree.place.mark.at (length old) new (stacked.reached k d inside) in
        let P : List Assumption → Type 0 = λ list. IsPlace a c rules target list tree.place tree.halves in
        subst P same (stacked.each k d inside);
  }

  pub stacked_none : (list : List Assumption) → AreStacked a c rules target list []
  stacked_none list = record {
    reached = λ k d inside. absurd (omega (arith, inside));
    falling = λ i j d less inside. absurd (omega (arith, inside));
    each = λ k d inside. absurd (omega (arith, inside));
  }

  -- one more tree is due before those that are due as the assumptions stood at its mark
  pub stacked_more : (list : List Assumption) (tree : DueTree) (due : List DueTree) → tree.place.mark.at ≤ length list
      → IsPlace a c rules target (take tree.place.mark.at list) tree.place tree.halves
      → AreStacked a c rules target (take tree.place.mark.at list) due → AreStacked a c rules target list (tree ∷ due)
  stacked_more list tree due at_mark here stacked =
      let n = length-take tree.place.mark.at list in
      let long : length (take tree.place.mark.at list) ≡ tree.place.mark.at = omega (arith, n, at_mark) in
      let others : AreStacked a c rules target list due =
      stacked_longer (take tree.place.mark.at list) list (ap (λ m. take m list) long) (omega (arith, long, at_mark)) due stacked in
      record {
        reached = All-cons (λ (t : DueTree). t.place.mark.at ≤ length list) tree due at_mark others.reached;
        falling = AllPairs-cons (λ (t later : DueTree). later.place.mark.at ≤ t.place.mark.at) tree due
            (λ k d inside. let within = stacked.reached k d inside in omega (arith, within, long)) stacked.falling;
        each = All-cons (λ (t : DueTree). IsPlace a c rules target (take t.place.mark.at list) t.place t.halves) tree due here others.each;
      }

  -- the trees behind the next one are due as the assumptions stood at its mark
  pub stacked_behind : (list : List Assumption) (tree : DueTree) (due : List DueTree) → AreStacked a c rules target list (tree ∷ due)
      → AreStacked a c rules target (take tree.place.mark.at list) due
  stacked_behind list tree due stacked = record {
    reached = λ k d inside.
        let lower = stacked.falling 0 (suc k) d (omega arith) (omega (arith, inside)) in
        let n = length-take tree.place.mark.at list in let at = stacked.reached 0 d (omega arith) in
        omega (arith, lower, n, at);
    falling = λ i j d less inside. stacked.falling (suc i) (suc j) d (omega (arith, less)) (omega (arith, inside));
    each = λ k d inside.
        let other = get_or due k d in
        let lower : other.place.mark.at ≤ tree.place.mark.at = stacked.falling 0 (suc k) d (omega arith) (omega (arith, inside)) in
        let P : List Assumption → Type 0 = λ xs. IsPlace a c rules target xs other.place other.halves in
        subst P (sym (take-take other.place.mark.at tree.place.mark.at list lower)) (stacked.each (suc k) d (omega (arith, inside)));
  }

  -- the next place, and the others
  pub record IsNext (budget : ℕ) (assumptions : List Assumption) (place : Place) (places : List Place) (nodes : List Node) (splits : ℕ) : Type 0 where
    pub halves : List Half
    pub due : List DueTree
    pub left : map (λ (tree : DueTree). tree.place) due ≡ places
    pub at_mark : place.mark.at ≤ length assumptions
    pub here : IsPlace a c rules target (take place.mark.at assumptions) place halves
    pub stacked : AreStacked a c rules target (take place.mark.at assumptions) due
    pub grows : Grows c rules target nodes (halves ∷ map (λ (tree : DueTree). tree.halves) due)
    pub counted : split_count nodes ≡ splits
    pub within : splits ≤ budget
    pub waits : Contains nodes Waiting → splits ≡ budget

  pub next_place : (budget : ℕ) (assumptions : List Assumption) (place : Place) (places : List Place) (nodes : List Node) (splits : ℕ)
      → IsGrowing a c rules target budget assumptions (place ∷ places) nodes splits
      → IsNext budget assumptions place places nodes splits
  next_place budget assumptions place places nodes splits growing = by growing.due growing.left growing.stacked growing.grows
    where
      by : (due : List DueTree) → map (λ (tree : DueTree). tree.place) due ≡ place ∷ places → AreStacked a c rules target assumptions due
          → Grows c rules target nodes (map (λ (tree : DueTree). tree.halves) due) → IsNext budget assumptions place places nodes splits
      by [] left stacked grows = cc
      by (tree ∷ due) left stacked grows =
          let first : tree.place ≡ place = ap (λ (xs : List Place). get_or xs 0 place) left in
          let At : Place → Type 0 = λ p. p.mark.at ≤ length assumptions in
          let Here : Place → Type 0 = λ p. IsPlace a c rules target (take p.mark.at assumptions) p tree.halves in
          let Behind : Place → Type 0 = λ p. AreStacked a c rules target (take p.mark.at assumptions) due in
          record {
            halves = tree.halves;
            due = due;
            left = ap (λ (xs : List Place). drop 1 xs) left;
            at_mark = subst At first (stacked.reached 0 tree (omega arith));
            here = subst Here first (stacked.each 0 tree (omega arith));
            stacked = subst Behind first (stacked_behind assumptions tree due stacked);
            grows = grows;
            counted = growing.counted;
            within = growing.within;
            waits = growing.waits;
          }

  module _ (budget : ℕ) (assumptions : List Assumption) (place : Place) (places : List Place) (nodes : List Node) (splits : ℕ)
      (next : IsNext budget assumptions place places nodes splits) where
    abbrev before : List Assumption
    before = take place.mark.at assumptions

    abbrev at_node : List Assumption
    at_node = with_assumed a.count before place.source place.set

    pub next_entered : entered_pins at_node ≡ target.path.steps
    next_entered = entered_assumed a.count before place.source place.set ∙ next.here.entered

    -- what closed the trial of the node above closes that of this one
    pub next_closes : ClosesByKept a c rules target at_node place.closers
    next_closes = kept_with_more a c rules target before place.source place.set place.closers next.here.closes

    pub next_node : AllowAsNode a c rules target at_node next.halves
    next_node = node_assumed a c rules target before place.source place.set next.halves next.here.node

    stacked_after : AreStacked a c rules target at_node next.due
    stacked_after = stacked_longer before at_node (assumed_front a.count before place.source place.set) (assumed_longer a.count before place.source place.set)
        next.due next.stacked

    abbrev others : List (List Half)
    others = map (λ (tree : DueTree). tree.halves) next.due

    -- a closed leaf there; the states are those of the rules
    pub growing_closed : a ≡ algebra_of rules → ClosesAtNode a c rules target next.halves
        → IsGrowing a c rules target budget before places (nodes ++ Closed ∷ []) splits
    growing_closed same closes = record {
      due = next.due;
      left = next.left;
      stacked = next.stacked;
      grows = grows_by_closed c rules target nodes next.halves others next.grows (subst (λ x. ClosesAtNode x c rules target next.halves) same closes);
      counted = splits_with_closed nodes ∙ next.counted;
      within = next.within;
      waits = λ has. ⊎_elim next.waits (λ (same : Closed ≡ Waiting). cc) (Contains-push_cases nodes Closed Waiting has);
    }

    module _ (hull : List StateSet) (is_open : IsOpen c rules target next.halves hull) where
      -- a leaf that waits
      pub growing_waiting : splits ≡ budget → IsGrowing a c rules target budget at_node places (nodes ++ Waiting ∷ []) splits
      growing_waiting spent = record {
        due = next.due;
        left = next.left;
        stacked = stacked_after;
        grows = grows_by_waiting c rules target nodes next.halves others next.grows hull is_open;
        counted = splits_with_waiting nodes ∙ next.counted;
        within = next.within;
        waits = λ has. spent;
      }

      -- a split
      module _ (left_open : ClosesUnder a c rules begun at_node → ⊥) (split : CaseSplit) (same : a ≡ algebra_of rules)
          (in_support : IsInSupport c rules target.path split.line.0) (kind : IsSourceKind split.kind)
          (in_half : (second : Bool) → HasInHalf a (label_at hull split.line.0) split.kind second) (mark : ScopeMark)
          (at_end : mark.at ≡ length at_node) (closers : Option Closers) (closes : ClosesByKept a c rules target at_node closers) where
        due : IsDue c rules target next.halves split
        due =
            let P : Bool → StateAlgebra → Type 0 = λ second x. HasInHalf x (label_at hull split.line.0) split.kind second in
            record {
              hull = hull;
              is_open = is_open;
              in_support = in_support;
              kind = kind;
              in_first = subst (P false) same (in_half false);
              in_second = subst (P true) same (in_half true);
            }

        half_at : (half_place : Place) (half : Bool) → IsHalfPlace a split mark closers half half_place
            → IsPlace a c rules target at_node half_place (below next.halves split half)
        half_at half_place half is = record {
          longer = let one = next.here.longer in let two = assumed_longer a.count before place.source place.set in omega (arith, one, two);
          entered = next_entered;
          left_open = left_open;
          in_support = let P : LineId → Type 0 = λ source. IsInSupport c rules target.path source.0 in subst P (sym is.at_source) in_support;
          within = is.within;
          node = node_half a c rules target at_node next.halves (half_of split half)
              half_place.source half_place.set (ap (λ (l : LineId). l.0) is.at_source) is.means next_node;
          closes = subst (ClosesByKept a c rules target at_node) (sym is.keeps) closes;
        }

        pub growing_split : (first second : Place) → IsHalfPlace a split mark closers false first → IsHalfPlace a split mark closers true second → splits < budget
            → IsGrowing a c rules target budget at_node (first ∷ second ∷ places)
            (nodes ++ Split split ∷ []) (splits + 1)
        growing_split first second in_first in_second less =
            let one : first.mark.at ≡ length at_node = ap (λ (m : ScopeMark). m.at) in_first.at_mark ∙ at_end in
            let two : second.mark.at ≡ length at_node = ap (λ (m : ScopeMark). m.at) in_second.at_mark ∙ at_end in
            let all_first : at_node ≡ take first.mark.at at_node = sym (take_all first.mark.at at_node (omega (arith, one))) in
            let all_second : at_node ≡ take second.mark.at at_node = sym (take_all second.mark.at at_node (omega (arith, two))) in
            let above_first = below next.halves split false in
            let above_second = below next.halves split true in
            let tree_first : DueTree = record { place = first; halves = above_first } in
            let tree_second : DueTree = record { place = second; halves = above_second } in
            let P : List Assumption → Type 0 = λ list. IsPlace a c rules target list first above_first in
            let Q : List Assumption → Type 0 = λ list. IsPlace a c rules target list second above_second in
            let R : List Assumption → Type 0 = λ list. AreStacked a c rules target list next.due in
            let S : List Assumption → Type 0 = λ list. AreStacked a c rules target list (tree_second ∷ next.due) in
            let stacked_second : S at_node =
            stacked_more at_node tree_second next.due (omega (arith, two)) (subst Q all_second (half_at second true in_second))
            (subst R all_second stacked_after) in
            record {
              due = tree_first ∷ tree_second ∷ next.due;
              left = ap (λ (xs : List Place). first ∷ second ∷ xs) next.left;
              stacked = stacked_more at_node tree_first (tree_second ∷ next.due) (omega (arith, one)) (subst P all_first (half_at first false in_first))
                  (subst S all_first stacked_second);
              grows = grows_by_split c rules target nodes next.halves others next.grows split due;
              counted = let e = splits_with_split nodes split in let f = next.counted in omega (arith, e, f);
              within = omega (arith, less);
              waits = λ has. ⊎_elim
                  (λ (earlier : Contains nodes Waiting). let e = next.waits earlier in absurd (omega (arith, e, less)))
                  (λ (same : Split split ≡ Waiting). cc) (Contains-push_cases nodes (Split split) Waiting has);
            }
