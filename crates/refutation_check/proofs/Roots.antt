-- A scope begins at the end of a prefix. Where a conflict comes up at one of its pins, the root of each tree for the prefix closes; and where
-- none has come up at all of them, the scope is at the root.
use Rattle.std.proofs.Common.{◌≡◌, ℕ, ◌<◌, ◌≤◌, List, [], length, map, take, None, Some, refl, sym, ap, subst, ◌∙◌}
use Rattle.std.specs.Prelude.{Option, IfNone, IfSome}
use Rattle.std.proofs.lemmas.List.{take_all}
use Rattle.std.proofs.lemmas.List.Elements.{All-nil}
use Rattle.pd_base.specs.declared.ids.LineId.{LineId}
use Rattle.pd_base.specs.declared.fault.Direction.{Direction}
use Rattle.pd_base.specs.declared.fault.Kind.{Kind}
use Rattle.pd_base.specs.Route.{Route}
use Rattle.pd_base.specs.Target.{Target, target_of}
use Rattle.netlist.specs.Circuit.{line_count}
use Rattle.netlist.specs.Paths.{prefix_of}
use Rattle.path_laws.proofs.Prefixes.{prefix_of-is_prefix}
use Rattle.state_sets.specs.StateAlgebra.{StateAlgebra}
use Rattle.state_laws.specs.declared.split.Half.{Half}
use Rattle.state_laws.proofs.Hulls.{prefix_empties}
use Rattle.implication.specs.declared.assumption.Assumption.{Assumption}
use Rattle.implication.specs.declared.assumption.Assumption.TheVariants.{Entered}
use Rattle.implication.specs.AlongPrefix.{HasBegunAt, HasEnteredTo}
use Rattle.implication.specs.Assumptions.{entered_pins}
use Rattle.implication.specs.Clients.{TellsOfConflict}
use Rattle.implication.specs.Standing.{Standing, IsOpenIn, IsEmptiedIn}
use Rattle.implication.specs.NodeScopes.{beginning_of, AllowAsNode}
use Rattle.implication.proofs.Entered.{pins_of_entered, start_allows}
use Rattle.implication.proofs.ScopeLabels.{open_under}
use Rattle.refutation_check.specs.Walks.{ClosesAtLine, IsScopeAt, IsNodeBy}
use Rattle.refutation_check.proofs.Closing.{closes_at_line}

module _ (a : StateAlgebra) where
  module _ (prefix : Route) (direction : Direction) (kind : Kind) where
    abbrev target : Target
    target = target_of prefix direction kind

    -- where all pins are entered, the scope is at the root
    root_open : (now : Standing) (count : ℕ) → HasEnteredTo a prefix count now → length prefix.steps ≤ count
        → now.beginning ≡ Some (beginning_of target) → IsScopeAt a target [] now
    root_open now count has past began =
        let list : now.assumptions ≡ map Entered prefix.steps =
        has.entered ∙ ap (map Entered) (take_all count prefix.steps past) in
        let P : List Assumption → Type 0 = λ l. AllowAsNode a now.net now.rules target l [] in
        record {
          beginning = began;
          on_lines = All-nil (λ (half : Half). half.split.line.0 < line_count now.net);
          is_node = subst (IsNodeBy a target [] now) (sym has.free) (record {
            entered = ap entered_pins list ∙ pins_of_entered prefix.steps;
            allows = subst P (sym list) (start_allows a now.net now.rules target prefix.steps);
            left_open = open_under a now (beginning_of target) began has.left_open;
          });
        }

    -- where the first ones lead to a conflict, the root closes at its line
    root_closed : (now : Standing) (count : ℕ) (line : LineId) → now.assumptions ≡ map Entered (take count prefix.steps)
        → now.conflict ≡ Some line → IsEmptiedIn a now line.0 → now.beginning ≡ Some (beginning_of target) → IsScopeAt a target [] now
    root_closed now count line list stands emptied began =
        let first : Target = target_of (prefix_of count prefix) direction kind in
        let P : List Assumption → Type 0 = λ l. AllowAsNode a now.net now.rules first l [] in
        let allows : AllowAsNode a now.net now.rules first now.assumptions [] =
        subst P (sym list) (start_allows a now.net now.rules first (take count prefix.steps)) in
        let closes : ClosesAtLine a now.net now.rules first [] line =
        closes_at_line a first [] now began (ap entered_pins list ∙ pins_of_entered (take count prefix.steps)) allows line emptied in
        record {
          beginning = began;
          on_lines = All-nil (λ (half : Half). half.split.line.0 < line_count now.net);
          is_node = subst (IsNodeBy a target [] now) (sym stands) (
            closes.0,
            prefix_empties a now.net now.rules (prefix_of count prefix) prefix (prefix_of-is_prefix count prefix) direction kind [] line.0
                closes.1,
          );
        }

  -- what holds of the targets on a prefix holds of one whose path is the prefix
  on_target : (P : Target → Type 0) (prefix : Route) → ((direction : Direction) (kind : Kind) → P (target_of prefix direction kind))
      → (target : Target) → target.path ≡ prefix → P target
  on_target P prefix all target same =
      let Q : Route → Type 0 = λ path. P (target_of path target.direction target.kind) in
      subst Q (sym same) (all target.direction target.kind)

  -- so the scope is at the root in either case
  pub at_root : (prefix : Route) (old now : Standing) (count : ℕ) → HasEnteredTo a prefix count now → length prefix.steps ≤ count
      → now.beginning ≡ old.beginning → (target : Target) → target.path ≡ prefix → old.beginning ≡ Some (beginning_of target)
      → IsScopeAt a target [] now
  at_root prefix old now count has past same target is began =
      let P : Target → Type 0 = λ t. now.beginning ≡ Some (beginning_of t) → IsScopeAt a t [] now in
      on_target P prefix (λ direction kind. root_open prefix direction kind now count has past) target is (same ∙ began)

  -- a scope that has begun so is at the root
  pub begun_at_root : (target : Target) (old now : Standing) → HasBegunAt target.path target.direction target.kind old now
      → TellsOfConflict a now → IsScopeAt a target [] now
  begun_at_root target old now begun tells = by now.conflict refl
    where
      by : (conflict : Option LineId) → now.conflict ≡ conflict → IsScopeAt a target [] now
      by None free =
          let P : Option LineId → Type 0 = λ o. IfNone o (IsOpenIn a now) in
          root_open target.path target.direction target.kind now begun.along.count
          (record {
            begun = beginning_of target;
            beginning = begun.beginning;
            source = refl;
            entered = begun.along.entered;
            free = free;
            left_open = subst P free tells.left_open;
          })
          (begun.along.all free) begun.beginning
      by (Some line) stands =
          let P : Option LineId → Type 0 = λ o. IfSome o (λ l. IsEmptiedIn a now l.0) in
          root_closed target.path target.direction target.kind now begun.along.count line begun.along.entered stands
          (subst P stands tells.emptied) begun.beginning
