-- The search for a test of a path: the scope goes back to what is shared with the path and on from there, and what it comes to, or what is
-- found there, tells of the path.
use Rattle.std.proofs.Common.{◌≡◌, ℕ, ◌+◌, ◌-◌, ◌<◌, ◌≤◌, List, [], ◌∷◌, length, map, take, min, Option, refl, sym, ap, subst, subst₂, ◌∙◌, arith}
use Rattle.std.proofs.lemmas.List.{take_all}
use Rattle.std.proofs.lemmas.Option.{same_Some}
use Rattle.pd_base.specs.Links.{links_of}
use Rattle.trees.specs.Algebras.{algebra_of}
use Rattle.state_sets.specs.StateAlgebra.{StateAlgebra}
use Rattle.pd_base.specs.declared.ids.PinRef.{PinRef}
use Rattle.pd_base.specs.declared.rules.Rules.{Rules}
use Rattle.pd_base.specs.Route.{Route}
use Rattle.pd_base.specs.Target.{target_of}
use Rattle.netlist.specs.Circuit.{Circuit}
use Rattle.netlist.specs.Paths.{IsPath, end_of, prefix_of}
use Rattle.trees.specs.declared.tree.Node.{Node}
use Rattle.trees.specs.declared.tree.Node.TheVariants.{Closed}
use Rattle.trees.specs.Trees.{split_count}
use Rattle.trees.specs.Trees.Cases.{closed}
use Rattle.trees.specs.Refutations.{IsRefutation}
use Rattle.implication.specs.declared.assumption.Assumption.TheVariants.{Entered}
use Rattle.implication.specs.declared.assumption.Beginning.{Beginning}
use Rattle.implication.specs.Clients.{IsRestored}
use Rattle.implication.specs.Standing.{ToldEnds, Standing, IsTold, IsToldBy}
use Rattle.justify.specs.declared.answer.Found.{Found}
use Rattle.justify.specs.declared.answer.Found.TheVariants as found
use Rattle.justify.specs.Answers.{IsFound}
use Rattle.justify.specs.Scoping.{IsStart}
use Rattle.good_runs.specs.Shortest.{ClosesAtStart}
use Rattle.prefix_sensitize.specs.declared.outcome.Aim.{Aim}
use Rattle.prefix_sensitize.specs.declared.descent.FoundAlong.{FoundAlong}
use Rattle.prefix_sensitize.specs.AlongPaths.{ClosesFrom, IsAtPin, LeadsAlong}
use Rattle.prefix_sensitize.specs.Entering.{CountsPins, HasGone, HasMovedOn, IsFoundAlong, IsSameBeginning, RefutesPrefix, refuted_at}
use Rattle.prefix_sensitize.specs.Entering.ReachesPins.{whole, closed as left_closed}
use Rattle.prefix_sensitize.specs.Outcomes.{target_for}
use Rattle.prefix_sensitize.specs.PathOrder.{ShareSteps}
use Rattle.prefix_sensitize.proofs.AlongPaths.{open_at}

-- what was counted since, where it is no more than is not shared
pub counts_pins : (pins : List PinRef) (path : Route) (shared : ℕ) → ShareSteps pins path.steps shared → (before after : ℕ)
    → before ≤ after → shared + after ≤ before + length path.steps → CountsPins pins path before after
counts_pins pins path shared is_shared before after more few = record {
  shared = shared;
  is_shared = is_shared;
  more = after - before;
  counts = omega (arith, more);
  within = omega (arith, more, few);
}

-- a search that refutes refutes the whole path
refuted_whole : (answer : Found) (kept steps : ℕ) (tree : List Node) → record { found = answer; steps = kept } ≡ refuted_at steps tree → steps ≡ kept
refuted_whole answer kept steps tree is = sym (ap (λ (e : FoundAlong). e.steps) is)

-- the same beginning twice, and that of a scope that was restored
pub same_twice : (first middle last : Standing) → IsSameBeginning first middle → IsSameBeginning middle last
    → IsSameBeginning first last
same_twice first middle last one two = record {
  net = two.net ∙ one.net;
  rules = two.rules ∙ one.rules;
  ends = two.ends ∙ one.ends;
  beginning = two.beginning ∙ one.beginning;
}

pub same_restored : (old new : Standing) → IsRestored old new → IsSameBeginning old new
same_restored old new is = record { net = is.net; rules = is.rules; ends = is.ends; beginning = is.beginning }

pub same_at_once : (standing : Standing) → IsSameBeginning standing standing
same_at_once standing = record { net = refl; rules = refl; ends = refl; beginning = refl }

-- a path that may be gone along may be with the same beginning
pub still_along : (a : StateAlgebra) (old new : Standing) (path : Route) → IsSameBeginning old new → LeadsAlong a old path → LeadsAlong a new path
still_along a old new path same along = record {
  of_rules = along.of_rules ∙ ap algebra_of (sym same.rules);
  is_path = let P : Circuit → Type 0 = λ c. IsPath c path in subst P (sym same.net) along.is_path;
  is_told =
      let P : Circuit → Rules → Type 0 = λ c r. IsToldBy c (links_of r) old.ends (end_of c path) in
      let Q : Option ToldEnds → Type 0 = λ ends. IsToldBy new.net (links_of new.rules) ends (end_of new.net path) in
      subst Q (sym same.ends) (subst₂ P (sym same.net) (sym same.rules) along.is_told);
  begun = along.begun;
  began = same.beginning ∙ along.began;
  source = along.source;
}

-- and the start of a path that closes does
pub still_closes : (old new : Standing) (path : Route) → IsSameBeginning old new → ClosesFrom new path → ClosesFrom old path
still_closes old new path same closes = record {
  begun = closes.begun;
  began = sym same.beginning ∙ closes.began;
  closes =
      let P : Circuit → Rules → Type 0 = λ c r. ClosesAtStart c r (target_of path closes.begun.direction closes.begun.kind) in
      subst₂ P same.net same.rules closes.closes;
}

module _ (a : StateAlgebra) (old : Standing) (of_rules : a ≡ algebra_of old.rules) (path : Route) (aim : Aim) (pins : List PinRef) (gone : HasGone old path aim pins) where
  -- with what the scope began
  abbrev begun : Beginning
  begun = record { source = path.source; direction = aim.direction; kind = aim.kind }

  pub leads_along : IsPath old.net path → IsTold old (end_of old.net path) → LeadsAlong a old path
  leads_along is_path is_told =
      record { of_rules = of_rules; is_path = is_path; is_told = is_told; begun = begun; began = gone.beginning; source = refl }

  -- the start that closes is that for the aim
  pub closes_for_aim : (prefix : Route) → ClosesFrom old prefix → ClosesAtStart old.net old.rules (target_for aim prefix)
  closes_for_aim prefix closes =
      let P : Beginning → Type 0 = λ b. ClosesAtStart old.net old.rules (target_of prefix b.direction b.kind) in
      subst P (same_Some closes.begun begun (sym closes.began ∙ gone.beginning)) closes.closes

  module _ (last : Standing) (same : IsSameBeginning old last) (left : List PinRef) (kept : ℕ) (at : IsAtPin a last left path kept) where
    pub has_gone : HasGone last path aim left
    has_gone = record { beginning = same.beginning ∙ gone.beginning; entered = at.entered; free = at.free }

    -- the start of no prefix that was entered closes
    starts_open : (fewer : ℕ) → fewer ≤ kept → ¬ ClosesAtStart old.net old.rules (target_for aim (prefix_of fewer path))
    starts_open fewer less closes =
        let P : Circuit → Rules → Type 0 = λ c r. ClosesAtStart c r (target_for aim (prefix_of fewer path)) in
        open_at a last left path kept fewer begun (same.beginning ∙ gone.beginning) refl (of_rules ∙ ap algebra_of (sym same.rules)) at less
        (subst₂ P (sym same.net) (sym same.rules) closes)

    -- a conflict at the next pin refutes the prefix up to it by one closed leaf
    pub closed_ends : (tree : List Node) → kept < length path.steps → ClosesFrom old (prefix_of (kept + 1) path)
        → tree ≡ Closed ∷ [] → RefutesPrefix old.net old.rules aim path (kept + 1) tree
    closed_ends tree within closes is =
        let none : split_count tree ≡ 0 = ap split_count is in
        record {
          has_steps = omega (arith, within);
          refutes = record { cases = closed; tree = is; refutes = closes_for_aim (prefix_of (kept + 1) path) closes };
          within_budget = omega (arith, none);
          shortest = λ _. (is, λ fewer less. starts_open fewer (omega (arith, less)));
        }

    module _ (all : length path.steps ≤ kept) where
      all_steps : take kept path.steps ≡ path.steps
      all_steps = take_all kept path.steps all

      -- where all pins are entered the search can start
      pub starts_search : IsStart (target_for aim path) last
      starts_search = record {
        beginning = same.beginning ∙ gone.beginning;
        entered = at.entered ∙ ap (map Entered) (at.first ∙ all_steps);
        free = at.free;
      }

      -- what it finds ends the search for a test of the path
      ends_with : (answer : Found) → IsFound old.net old.rules (target_for aim path) aim.budget answer
          → IsFoundAlong old.net old.rules aim path (record { found = answer; steps = kept })
      ends_with (found.Test pair) test = test
      ends_with (found.Spent tree) spent = spent
      ends_with (found.Refuted tree) refutes = record {
        has_steps = at.within;
        refutes =
            let P : List PinRef → Type 0 =
            λ steps. IsRefutation old.net old.rules (target_for aim (record { source = path.source; steps = steps })) tree in
            subst P (sym all_steps) refutes.0;
        within_budget = refutes.1;
        shortest = λ closes. absurd (starts_open kept (omega arith) closes);
      }

      pub search_ends : (answer : Found) → IsFound last.net last.rules (target_for aim path) aim.budget answer
          → IsFoundAlong old.net old.rules aim path (record { found = answer; steps = kept })
      search_ends answer found_here =
          let P : Circuit → Rules → Type 0 = λ c r. IsFound c r (target_for aim path) aim.budget answer in
          ends_with answer (subst₂ P same.net same.rules found_here)

    module _ (shared before after : ℕ) (shares : ShareSteps pins path.steps shared) (farther : shared ≤ kept)
        (counted : shared + after ≡ before + min (kept + 1) (length path.steps)) where
      -- the pins that were tried are counted, where a conflict came up at the last of them
      pub moved_on : (tree : List Node) → kept < length path.steps
          → (more : ℕ) × (after ≡ before + more) × HasMovedOn pins left path (refuted_at (kept + 1) tree) more
      moved_on tree within = (
        kept + 1 - shared,
        omega (arith, counted, within, farther),
        record {
          shared = shared;
          is_shared = shares;
          kept = kept;
          stays = farther;
          stand = at.first;
          reaches = left_closed tree refl (omega (arith, farther));
        },
      )

      -- and where none did
      pub moved_to_end : (answer : Found) → length path.steps ≤ kept
          → (more : ℕ) × (after ≡ before + more) × HasMovedOn pins left path (record { found = answer; steps = kept }) more
      moved_to_end answer all =
          let all_tried : kept ≡ length path.steps = omega (arith, all, at.within) in (
            kept - shared,
            omega (arith, counted, all_tried, farther),
            record {
              shared = shared;
              is_shared = shares;
              kept = kept;
              stays = farther;
              stand = at.first;
              reaches = whole all_tried (omega (arith, all_tried, farther))
                  (λ steps tree is. refuted_whole answer kept steps tree is ∙ all_tried);
            },
          )
