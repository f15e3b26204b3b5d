-- A proof's prefix is one of no path before its own exactly where the tree of prefixes does not know it.
use Rattle.std.proofs.Common.{⊎_elim, ℕ, ◌+◌, ◌-◌, ◌<◌, ◌≤◌, List, [], length, sym, ap, subst, ◌∙◌, length-append, arith}
use Rattle.std.specs.Prelude.{slice_index_or}
use Rattle.std.proofs.lemmas.Bool.{cases_lt}
use Rattle.std.proofs.lemmas.List.{length-take-le}
use Rattle.std.proofs.lemmas.Option.{slice_get_within}
use Rattle.pd_base.specs.Route.{Route}
use Rattle.netlist.specs.Paths.{IsPrefixOf, prefix_of}
use Rattle.path_laws.proofs.Prefixes.{is_prefix_of, prefix_of-is_prefix}
use Rattle.runs.specs.declared.run.Proof.{Proof}
use Rattle.good_runs.specs.Faults.{IsNumber}
use Rattle.good_runs.proofs.Numbers.{number_of_place, number_same}
use Rattle.claim_check.specs.Prefixes.{AreTreeNodes, HasPrefixInRow, IsFirstPrefix, Nodes, node_at}

module _ (routes : List Route) (nodes : Nodes) (are : AreTreeNodes routes nodes) (proof : Proof) (path : Route)
    (listed : IsNumber routes proof.path path) (has_steps : proof.steps ≤ length path.steps) where
  -- it has a place in the tree
  pub row_inside : proof.path - 1 < length routes
  row_inside = slice_get_within routes (proof.path - 1) path listed.found

  pub steps_inside : proof.steps < length (slice_index_or nodes.rows (proof.path - 1) [])
  steps_inside = let long = are.long (proof.path - 1) path listed.found in omega arith

  -- where a path before has it
  pub known_is_not_first : node_at nodes (proof.path - 1) proof.steps < slice_index_or nodes.before (proof.path - 1) 0 → (other : Route) → ¬ IsFirstPrefix routes proof other
  known_is_not_first known other first =
      let found = (are.earlier (proof.path - 1) proof.steps path listed.found has_steps).0 known in
      let its = found.2 in
      let same = number_same routes proof.path other path first.is_listed listed in
      let P : Route → Type 0 = λ route. IsPrefixOf route its.other in
      let of = subst P its.same (prefix_of-is_prefix proof.steps its.other) in
      let Q : Route → Type 0 = λ route. IsPrefixOf (prefix_of proof.steps route) its.other in
      let number = number_of_place routes found.0 its.other its.is_listed in
      let most = first.is_first (found.0 + 1) its.other number (subst Q (sym same) of) in
      let less = found.1 in
      let some = listed.positive in
      absurd (omega arith)

  -- where none has
  pub new_is_first : (node_at nodes (proof.path - 1) proof.steps < slice_index_or nodes.before (proof.path - 1) 0 → ⊥) → IsFirstPrefix routes proof path
  new_is_first unknown = record { is_listed = listed; has_steps = has_steps; is_first = first }
    where
      first : (other : ℕ) (route : Route) → IsNumber routes other route → IsPrefixOf (prefix_of proof.steps path) route → proof.path ≤ other
      first other route is of =
          ⊎_elim
          (λ (less : other < proof.path).
          let some = is.positive in
          let long = length-take-le proof.steps path.steps has_steps in
          let both = length-append (prefix_of proof.steps path).steps of.rest in
          let all = ap length of.steps in
          let prefix =
          is_prefix_of (prefix_of proof.steps path) route of ∙ ap (λ (steps : ℕ). prefix_of steps route) long in
          let its : HasPrefixInRow routes (other - 1) proof.steps path =
          record { other = route; is_listed = is.found; long = omega arith; same = sym prefix } in
          absurd (unknown
          ((are.earlier (proof.path - 1) proof.steps path listed.found has_steps).1 (other - 1, omega arith, its))))
          (λ (most : proof.path ≤ other). most) (cases_lt other proof.path)
