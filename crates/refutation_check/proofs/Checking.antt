-- How far a check has come: a walk over the nodes of a tree, each of which was right, below halves of lines such as are asked for. And
-- what its answer tells.
use Rattle.std.proofs.Common.{◌≡◌, ⊎_elim, inl, inr, ℕ, suc, ◌+◌, ◌<◌, ◌≤◌, ◌↔◌, Bool, true, false, cond, List, [], ◌∷◌, length, drop, get_or, reverse, Some, refl, sym, ap, ◌∙◌, subst, subst₂, arith, add-one}
use Rattle.std.specs.Prelude.{IsTrue}
use Rattle.std.specs.List.{All, Contains}
use Rattle.std.proofs.lemmas.List.Elements.{All-nil, All-cons, All-push, All-head, All-tail, Contains-get_or}
use Rattle.std.proofs.Math.Seq.{drop-cons}
use Rattle.std.proofs.Math.ListN.{drop_of_length-le}
use Rattle.pd_base.specs.Links.{links_of}
use Rattle.pd_base.specs.Target.{Target}
use Rattle.pd_base.specs.Route.{Route}
use Rattle.pd_base.specs.declared.ids.LineId.{LineId}
use Rattle.pd_base.specs.declared.rules.Rules.{Rules}
use Rattle.netlist.specs.Circuit.{Circuit}
use Rattle.netlist.specs.Paths.{end_of}
use Rattle.state_sets.specs.StateAlgebra.{StateAlgebra}
use Rattle.state_laws.specs.declared.split.Half.{Half}
use Rattle.state_laws.specs.Halves.{half_of}
use Rattle.trees.specs.declared.tree.Node.{Node}
use Rattle.trees.specs.declared.tree.Node.TheVariants.{Closed, Waiting, Split}
use Rattle.trees.specs.Trees.{Cases, preorder, IsTree, split_count}
use Rattle.trees.specs.Halves.{halves_of, turned, turns, GoesOn}
use Rattle.trees.specs.Faults.{IsRightInRefutation, IsRightInSpent, RefutesAtNode, IsFirstFaultOf}
use Rattle.trees.specs.Faults.IsFaultOfSpent.{at_node}
use Rattle.trees.specs.Refutations.{IsRefutation}
use Rattle.trees.specs.Spent.{IsInSupport, IsSpent}
use Rattle.trees.proofs.Faults.{right_refutes, right_spent, fault_refutes_not, fault_spent_not}
use Rattle.trees.proofs.Walks.{HasCome, come_none, come_stands, stands_fault, come_all, come_leaf, come_split}
use Rattle.implication.specs.Settings.{IsSameSetting}
use Rattle.implication.specs.Standing.{Standing, told_ends, IsSupportTold, IsToldBy}
use Rattle.implication.proofs.Told.{end_told}
use Rattle.refutation_check.specs.declared.answer.TreeCheck.{TreeCheck}
use Rattle.refutation_check.specs.declared.answer.TreeCheck.TheVariants.{Yes, No}
use Rattle.refutation_check.specs.declared.walk.Pending.{Pending}
use Rattle.refutation_check.specs.Answers.{TellsIf, TellsOfNodes, TellsOfRefutation, TellsOfSpent}
use Rattle.refutation_check.specs.Judges.{MadeFor}
use Rattle.refutation_check.specs.Trials.{IsScopeInSupport, Shows}
use Rattle.refutation_check.specs.Walks.{IsScopeAt, ArePending, WalksAt, GoesOnTo, PassesOn}
use Rattle.refutation_check.proofs.SameSettings.{support_told_there}

-- the halves from the root down are of the same lines as from the deepest up
on_halves : (On : ℕ → Type 0) (above : List Half) → All (λ half. On half.split.line.0) above → All (λ half. On half.split.line.0) (halves_of above)
on_halves On [] on = All-nil (λ (half : Half). On half.split.line.0)
on_halves On (half ∷ above) on =
    let P : Half → Type 0 = λ h. On h.split.line.0 in
    All-push P (halves_of above) half (on_halves On above (All-tail P half above on)) (All-head P half above on)

-- so are those of each place at which trees are due
on_more : (On : ℕ → Type 0) (half : Half) (above : List Half) (second : Bool) → All (λ h. On h.split.line.0) (half ∷ above)
    → All (λ halves. All (λ h. On h.split.line.0) halves) (turns above)
    → All (λ halves. All (λ h. On h.split.line.0) halves) (cond second (turns above) ((turned half ∷ above) ∷ turns above))
on_more On half above true on higher = higher
on_more On half above false on higher =
    let P : Half → Type 0 = λ h. On h.split.line.0 in
    All-cons (λ (halves : List Half). All P halves) (turned half ∷ above) (turns above)
    (All-cons P (turned half) above (All-head P half above on) (All-tail P half above on)) higher

on_turns : (On : ℕ → Type 0) (above : List Half) → All (λ half. On half.split.line.0) above
    → All (λ halves. All (λ half. On half.split.line.0) halves) (turns above)
on_turns On [] on = All-nil (λ (halves : List Half). All (λ (half : Half). On half.split.line.0) halves)
on_turns On (half ∷ above) on =
    let P : Half → Type 0 = λ h. On h.split.line.0 in
    on_more On half above half.second on (on_turns On above (All-tail P half above on))

-- and those of the place to which a walk goes on
on_behind : (On : ℕ → Type 0) (above next : List Half) → GoesOnTo above next → All (λ half. On half.split.line.0) above
    → All (λ half. On half.split.line.0) next
on_behind On above next goes on =
    let P : List Half → Type 0 = λ halves. All (λ (half : Half). On half.split.line.0) halves in
    ⊎_elim (λ last. subst P (sym last.1) on)
    (λ more. All-head P next (turns next) (subst (λ (places : List (List Half)). All P places) more (on_turns On above on))) goes

-- where a walk goes on to
goes_on : (above next : List Half) → GoesOnTo above next → GoesOn above next
goes_on above next goes = ⊎_elim (λ last. inl last.0) (λ more. inr more) goes

-- where the node is a split, it is at such a line
abbrev pub SplitsOn : (ℕ → Type 0) → Node → Type 0
SplitsOn On Closed = Unit {0}
SplitsOn On Waiting = Unit {0}
SplitsOn On (Split split) = On split.line.0

module _ (a : StateAlgebra) where
  -- a walk stands at this place of the nodes, each node before was right, and the halves above are of such lines
  pub record HasChecked (IsRight : List Half → Node → Type 0) (On : ℕ → Type 0) (target : Target) (nodes : List Node) (place : ℕ)
      (standing : Standing) (pending : List Pending) : Type 0 where
    pub above : List Half
    pub walks : WalksAt a target above standing pending
    pub come : (whole : Cases) → nodes ≡ preorder whole → HasCome IsRight whole nodes place above
    pub on : All (λ half. On half.split.line.0) above

  module _ (IsRight : List Half → Node → Type 0) (On : ℕ → Type 0) (target : Target) (nodes : List Node) where
    -- at the root
    pub checked_none : (standing : Standing) (pending : List Pending) → IsScopeAt a target [] standing → pending ≡ []
        → HasChecked IsRight On target nodes 0 standing pending
    checked_none standing pending at none = record {
      above = [];
      walks = record {
        at = at;
        due = let P : List Pending → Type 0 = λ list. ArePending a target standing (reverse list) [] in subst P (sym none) refl;
      };
      come = λ whole tree.
          let Q : List Node → Type 0 = λ n. HasCome IsRight whole n 0 [] in
          subst Q (sym tree) (come_none IsRight whole);
      on = All-nil (λ (half : Half). On half.split.line.0);
    }

    module _ (place : ℕ) (standing : Standing) (pending : List Pending) (checked : HasChecked IsRight On target nodes place standing pending) where
      -- the rest of the nodes begins with the one here
      rest_here : (node d : Node) → place < length nodes → node ≡ get_or nodes place d → drop place nodes ≡ node ∷ drop (place + 1) nodes
      rest_here node d inside is =
          drop-cons nodes place d inside ∙ ap (λ (n : Node). n ∷ drop (suc place) nodes) (sym is)
          ∙ ap (λ k. node ∷ drop k nodes) (sym (add-one place))

      -- the halves above it are of such lines
      pub checked_on : All (λ half. On half.split.line.0) (halves_of checked.above)
      checked_on = on_halves On checked.above checked.on

      -- what is told of any node at which the scope stands is told of the one here
      pub checked_right : (node : Node) (r : Bool) → ((halves : List Half) → IsScopeAt a target halves standing → IsTrue r ↔ IsRight halves node)
          → IsTrue r ↔ IsRight (halves_of checked.above) node
      checked_right node r tells = tells (halves_of checked.above) checked.walks.at

      -- a node that is not right is the first one
      pub checked_fault : (node d : Node) → place < length nodes → node ≡ get_or nodes place d
          → (IsRight (halves_of checked.above) node → ⊥) → IsTree nodes → IsFirstFaultOf IsRight nodes place
      checked_fault node d inside is wrong tree = record {
        cases = tree.0;
        tree = tree.1;
        first = stands_fault IsRight tree.0 nodes place checked.above node
            (come_stands IsRight tree.0 nodes place checked.above node (drop (place + 1) nodes) (rest_here node d inside is)
            (checked.come tree.0 tree.1)) wrong;
      }

      -- with one that is, the walk goes on
      pub checked_more : (node d : Node) (new : Standing) (after : List Pending) → place < length nodes → node ≡ get_or nodes place d
          → IsRight (halves_of checked.above) node → SplitsOn On node → PassesOn a node standing pending new after
          → HasChecked IsRight On target nodes (place + 1) new after
      checked_more Closed d new after inside is right on passes =
          let next = passes target checked.above checked.walks in
          record {
            above = next.0;
            walks = next.2;
            come = λ whole tree. come_leaf IsRight whole nodes place checked.above next.0 Closed
                (rest_here Closed d inside is) refl right (goes_on checked.above next.0 next.1) (checked.come whole tree);
            on = on_behind On checked.above next.0 next.1 checked.on;
          }
      checked_more Waiting d new after inside is right on passes =
          let next = passes target checked.above checked.walks in
          record {
            above = next.0;
            walks = next.2;
            come = λ whole tree. come_leaf IsRight whole nodes place checked.above next.0 Waiting
                (rest_here Waiting d inside is) refl right (goes_on checked.above next.0 next.1) (checked.come whole tree);
            on = on_behind On checked.above next.0 next.1 checked.on;
          }
      checked_more (Split split) d new after inside is right on passes = record {
        above = half_of split false ∷ checked.above;
        walks = passes target checked.above checked.walks;
        come = λ whole tree. come_split IsRight whole nodes place checked.above split (rest_here (Split split) d inside is) right
            (checked.come whole tree);
        on = All-cons (λ (half : Half). On half.split.line.0) (half_of split false) checked.above on checked.on;
      }

      -- at the end each node is right
      pub checked_all : length nodes ≤ place → IsTree nodes → TellsOfNodes IsRight nodes Yes
      checked_all past tree = (
        tree.0,
        tree.1,
        come_all IsRight tree.0 nodes place checked.above (drop_of_length-le nodes past) (checked.come tree.0 tree.1),
      )

  -- what is told under the present setting is told under the one before, which is the same
  pub refutes_there : (before now : Standing) → IsSameSetting before now → (node : Node) (r : Bool)
      → ((target : Target) (halves : List Half) → IsScopeAt a target halves now → IsTrue r ↔ RefutesAtNode a now.net now.rules target halves node)
      → (target : Target) (halves : List Half) → IsScopeAt a target halves now → IsTrue r ↔ RefutesAtNode a before.net before.rules target halves node
  refutes_there before now setting node r tells target halves at =
      let P : Circuit → Rules → Type 0 = λ c rules. IsTrue r ↔ RefutesAtNode a c rules target halves node in
      subst₂ P setting.net setting.rules (tells target halves at)

  pub spends_there : (before now : Standing) → IsSameSetting before now → (node : Node) (r : Bool) (target : Target) (halves : List Half)
      → All (λ half. IsInSupport before.net before.rules target.path half.split.line.0) halves
      → ((some : List Half) → IsScopeInSupport a target some now
      → Shows (IsSupportTold now (end_of now.net target.path)) r (IsRightInSpent now.net now.rules target some node)) → IsScopeAt a target halves now
      → Shows (IsSupportTold before (end_of before.net target.path)) r (IsRightInSpent before.net before.rules target halves node)
  spends_there before now setting node r target halves on tells at =
      let R : Circuit → Rules → Type 0 = λ c rules. IsRightInSpent c rules target halves node in
      let Q : Circuit → Rules → Type 0 = λ c rules. All (λ half. IsInSupport c rules target.path half.split.line.0) halves in
      let shows = tells halves (record { at = at; in_support = subst₂ Q (sym setting.net) (sym setting.rules) on }) in (
        λ yes. subst₂ R setting.net setting.rules (shows.0 yes),
        λ told right. shows.1 (support_told_there before now setting target.path told) (subst₂ R (sym setting.net) (sym setting.rules) right),
      )

-- at which line it is does not matter there
pub splits_on_any : (node : Node) → SplitsOn (λ line. Unit {0}) node
splits_on_any Closed = tt
splits_on_any Waiting = tt
splits_on_any (Split split) = tt

-- a split that is right in a spent tree is at a source of the support
pub spent_splits_on : (c : Circuit) (rules : Rules) (target : Target) (halves : List Half) (node : Node)
    → IsRightInSpent c rules target halves node → SplitsOn (IsInSupport c rules target.path) node
spent_splits_on c rules target halves Closed right = tt
spent_splits_on c rules target halves Waiting right = tt
spent_splits_on c rules target halves (Split split) right = right.in_support

-- what is told of the nodes tells whether the tree refutes
pub refutation_of_nodes : (c : Circuit) (rules : Rules) (target : Target) (nodes : List Node) (check : TreeCheck)
    → TellsOfNodes (IsRightInRefutation c rules target) nodes check → TellsOfRefutation c rules target nodes check
refutation_of_nodes c rules target nodes Yes (cases, tree, right) =
    record { cases = cases; tree = tree; refutes = right_refutes c rules target cases [] right }
refutation_of_nodes c rules target nodes (No place) fault = fault

pub refutation_exactly : (c : Circuit) (rules : Rules) (target : Target) (nodes : List Node) (check : TreeCheck)
    → TellsOfRefutation c rules target nodes check → (check ≡ Yes) ↔ IsRefutation c rules target nodes
refutation_exactly c rules target nodes Yes refutes = (λ e. refutes, λ all. refl)
refutation_exactly c rules target nodes (No place) fault = (λ e. cc, λ all. absurd (fault_refutes_not c rules target nodes place fault all))

-- and of a tree with so many splits and an open leaf whether it spent the budget
pub spent_of_nodes : (c : Circuit) (rules : Rules) (target : Target) (budget : ℕ) (nodes : List Node) → split_count nodes ≡ budget
    → Contains nodes Waiting → (check : TreeCheck)
    → TellsOfNodes (IsRightInSpent c rules target) nodes check → TellsOfSpent c rules target budget nodes check
spent_of_nodes c rules target budget nodes splits waits Yes (cases, tree, right) = record {
  cases = cases;
  tree = tree;
  splits = splits;
  waits = waits;
  spent = right_spent c rules target cases [] right;
}
spent_of_nodes c rules target budget nodes splits waits (No place) fault = at_node splits waits fault

pub spent_exactly : (c : Circuit) (rules : Rules) (target : Target) (budget : ℕ) (nodes : List Node) (check : TreeCheck)
    → TellsOfSpent c rules target budget nodes check → (check ≡ Yes) ↔ IsSpent c rules target budget nodes
spent_exactly c rules target budget nodes Yes spent = (λ e. spent, λ all. refl)
spent_exactly c rules target budget nodes (No place) fault =
    (λ e. cc, λ all. absurd (fault_spent_not c rules target budget nodes place fault all))

-- a judge that is made for the end of a path can judge it
pub told_at_end : (made : MadeFor) (c : Circuit) (rules : Rules) (end : LineId) (path : Route)
    → made ≡ record { net = c; rules = rules; ends = Some (told_ends (end ∷ []) false) } → end ≡ record { 0 = end_of c path }
    → IsToldBy made.net (links_of made.rules) made.ends (end_of made.net path)
told_at_end made c rules end path is at_end =
    let P : MadeFor → Type 0 = λ m. IsToldBy m.net (links_of m.rules) m.ends (end_of m.net path) in
    let Q : LineId → Type 0 = λ line. IsToldBy c (links_of rules) (Some (told_ends (end ∷ []) false)) line.0 in
    subst P (sym is) (subst Q at_end (end_told c (links_of rules) (told_ends (end ∷ []) false) end (Contains-get_or (end ∷ []) 0 end (omega arith))))

-- what is told where this is, is so where that is from which it follows
pub tells_if_by : {Told Other : Type 0} (IsRight : List Half → Node → Type 0) (nodes : List Node) → (Other → Told) → (check : TreeCheck)
    → TellsIf Told IsRight nodes check → TellsIf Other IsRight nodes check
tells_if_by IsRight nodes from Yes tells = tells
tells_if_by IsRight nodes from (No place) tells = λ other. tells (from other)

-- and where it is told, it is so
pub tells_of_told : {Told : Type 0} (IsRight : List Half → Node → Type 0) (nodes : List Node) → Told → (check : TreeCheck)
    → TellsIf Told IsRight nodes check → TellsOfNodes IsRight nodes check
tells_of_told IsRight nodes told Yes tells = tells
tells_of_told IsRight nodes told (No place) tells = tells told
