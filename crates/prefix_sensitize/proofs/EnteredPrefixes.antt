-- The prefixes of a path behind those that it shares with the pins that were entered before, each of one step more, join what was entered.
use Rattle.std.proofs.Common.{◌≡◌, ◌≢◌, ◌⊎◌, ⊎_elim, inl, inr, ℕ, zero, suc, ◌+◌, ◌<◌, ◌≤◌, List, [], ◌∷◌, ◌++◌, length, sym, ap, subst, ◌∙◌, arith}
use Rattle.std.specs.Prelude.{Contains}
use Rattle.std.proofs.lemmas.Bool.{cases_lt}
use Rattle.std.proofs.lemmas.List.{length_push}
use Rattle.std.proofs.lemmas.List.Elements.{All-push, Contains-append_left, Contains-get_or, Contains-push, Contains-push_cases}
use Rattle.std.proofs.lemmas.List.Quantifiers.{all_pairs_push}
use Rattle.pd_base.specs.declared.ids.LineId.{LineId}
use Rattle.pd_base.specs.declared.ids.PinRef.{PinRef}
use Rattle.pd_base.specs.Route.{Route}
use Rattle.netlist.specs.Paths.{IsPrefixOf, prefix_of}
use Rattle.path_laws.proofs.Prefixes.{is_prefix_of, prefix_of-is_prefix}
use Rattle.prefix_sensitize.specs.PathOrder.{ShareSteps}
use Rattle.prefix_sensitize.specs.Prefixes.{AreListedPrefixes, IsListedPrefix}
use Rattle.prefix_sensitize.proofs.RoutePrefixes.{fewer_steps, steps_of_prefix}

-- a prefix of both a path and the pins that were entered has no more steps than these share
pub no_more_than_shared : (source : LineId) (pins : List PinRef) (path prefix : Route) (shared : ℕ) → ShareSteps pins path.steps shared
    → IsPrefixOf prefix (record { source = source; steps = pins }) → IsPrefixOf prefix path → length prefix.steps ≤ shared
no_more_than_shared source pins path prefix shared is of_pins of_path =
    let along : Route = record { source = source; steps = pins } in
    let steps_of : Route → List PinRef = λ r. r.steps in
    is.most (length prefix.steps) (fewer_steps prefix along of_pins) (fewer_steps prefix path of_path)
    (sym (ap steps_of (is_prefix_of prefix along of_pins)) ∙ ap steps_of (is_prefix_of prefix path of_path))

-- the prefix of the path has more steps than are shared, and no more than so many behind these
pub record IsBehind (path : Route) (shared more : ℕ) (prefix : Route) : Type 0 where
  pub steps : ℕ
  pub above : shared < steps
  pub within : steps ≤ shared + more
  pub same : prefix ≡ prefix_of steps path

-- so many prefixes of the path behind those that are shared were entered
pub record Enters (routes : List Route) (path : Route) (shared more : ℕ) (old new : List Route) : Type 0 where
  pub are_prefixes : AreListedPrefixes routes new
  pub counts : length new ≡ length old + more
  pub kept : (prefix : Route) → Contains old prefix → Contains new prefix
  pub added : (steps : ℕ) → shared < steps → steps ≤ shared + more → Contains new (prefix_of steps path)
  pub only : (prefix : Route) → Contains new prefix → Contains old prefix ⊎ IsBehind path shared more prefix

module _ (routes : List Route) (path : Route) (listed : Contains routes path) (shared : ℕ) (old : List Route)
    (are : AreListedPrefixes routes old)
    (low : (prefix : Route) → Contains old prefix → IsPrefixOf prefix path → length prefix.steps ≤ shared) where
  enters_none : Enters routes path shared 0 old old
  enters_none = record {
    are_prefixes = are;
    counts = omega arith;
    kept = λ prefix inside. inside;
    added = λ steps above within. absurd (omega arith);
    only = λ prefix inside. inl inside;
  }

  module _ (more : ℕ) (new : List Route) (so_far : Enters routes path shared more old new) (within : shared + more < length path.steps) where
    -- the next prefix
    abbrev next : Route
    next = prefix_of (shared + more + 1) path

    its_steps : length next.steps ≡ shared + more + 1
    its_steps = steps_of_prefix (shared + more + 1) path (omega arith)

    -- it was not entered yet
    is_new : ¬ Contains new next
    is_new inside =
        ⊎_elim
        (λ (before : Contains old next).
        let few = low next before (prefix_of-is_prefix (shared + more + 1) path) in
        absurd (omega (arith, few, its_steps)))
        (λ (behind : IsBehind path shared more next).
        let few = behind.within in
        let its : length next.steps ≡ behind.steps =
        ap (λ (r : Route). length r.steps) behind.same ∙ steps_of_prefix behind.steps path (omega (arith, few, within)) in
        absurd (omega (arith, few, its, its_steps)))
        (so_far.only next inside)

    enters_more : Enters routes path shared (more + 1) old (new ++ next ∷ [])
    enters_more = record {
      are_prefixes = record {
        each =
            All-push (IsListedPrefix routes) new next so_far.are_prefixes.each
            (record {
              some_step = omega (arith, its_steps);
              listed = path;
              is_listed = listed;
              is_prefix = prefix_of-is_prefix (shared + more + 1) path;
            });
        once =
            all_pairs_push (λ (p q : Route). p ≢ q) new next so_far.are_prefixes.once
            (λ k d inside same.
            let P : Route → Type 0 = λ r. Contains new r in
            is_new (subst P same (Contains-get_or new k d inside)));
      };
      counts = let counts = so_far.counts in omega (arith, counts, length_push new next);
      kept = λ prefix inside. Contains-append_left new (next ∷ []) prefix (so_far.kept prefix inside);
      added =
          λ steps above within.
          ⊎_elim
          (λ (less : steps < shared + more + 1).
          Contains-append_left new (next ∷ []) (prefix_of steps path) (so_far.added steps above (omega arith)))
          (λ (last : shared + more + 1 ≤ steps).
          let same : shared + more + 1 ≡ steps = omega arith in
          let P : ℕ → Type 0 = λ n. Contains (new ++ next ∷ []) (prefix_of n path) in
          subst P same (Contains-push new next))
          (cases_lt steps (shared + more + 1));
      only =
          λ prefix inside.
          ⊎_elim
          (λ (before : Contains new prefix).
          ⊎_elim (λ (first : Contains old prefix). inl first)
          (λ (behind : IsBehind path shared more prefix).
          let few = behind.within in
          inr (record { steps = behind.steps; above = behind.above; within = omega (arith, few); same = behind.same }))
          (so_far.only prefix before))
          (λ (is : next ≡ prefix).
          inr (record { steps = shared + more + 1; above = omega arith; within = omega arith; same = sym is }))
          (Contains-push_cases new next prefix inside);
    }

  -- any number of them, as far as the path has steps
  pub enters_all : (more : ℕ) → shared + more ≤ length path.steps → (new : List Route) × Enters routes path shared more old new
  enters_all zero within = (old, enters_none)
  enters_all (suc more) within =
      let before = enters_all more (omega arith) in
      let P : ℕ → Type 0 = λ n. (new : List Route) × Enters routes path shared n old new in
      let next_count : more + 1 ≡ suc more = omega arith in
      subst P next_count (before.0 ++ prefix_of (shared + more + 1) path ∷ [], enters_more more before.0 before.1 (omega arith))
