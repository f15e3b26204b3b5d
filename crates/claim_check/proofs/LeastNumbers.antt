-- The least number at the nodes of a path's prefixes is that of the refutation of the least number that applies to the path.
use Rattle.std.proofs.Common.{◌≡◌, ⊎_elim, ℕ, ◌+◌, ◌-◌, ◌<◌, ◌≤◌, List, [], length, get_or, refl, sym, ap, subst, ◌∙◌, length-append, arith}
use Rattle.std.specs.List.{All}
use Rattle.std.specs.Prelude.{Contains, slice_get, Option, Some, None}
use Rattle.std.proofs.lemmas.Grind.{get_or_default_zero}
use Rattle.std.proofs.lemmas.List.{length-take-le}
use Rattle.std.proofs.lemmas.List.Elements.{Contains-get_or}
use Rattle.std.proofs.lemmas.Option.{same_Some, slice_get_cases, slice_get_within}
use Rattle.pd_base.specs.Route.{Route}
use Rattle.pd_base.specs.Target.{Target, target_of}
use Rattle.pd_base.specs.declared.fault.Direction.{Direction}
use Rattle.pd_base.specs.declared.fault.Kind.{Kind}
use Rattle.netlist.specs.Paths.{IsPrefixOf, prefix_of}
use Rattle.path_laws.proofs.Prefixes.{is_prefix_of, prefix_of-is_prefix}
use Rattle.runs.specs.declared.run.Proof.{Proof}
use Rattle.good_runs.specs.Faults.{Applies, IsNumber}
use Rattle.good_runs.proofs.Numbers.{all_at_number, number_same}
use Rattle.claim_check.specs.Prefixes.{AreLeastMarks, AreLeastRefutations, AreTreeNodes, IsLeastMark, IsLeastNumber, IsLeastRefutation}
use Rattle.claim_check.specs.Prefixes.{IsRefutationAbout, NamesPrefix, Nodes, RefutesPrefixAt, node_at, node_of_proof}

module _ (routes : List Route) (nodes : Nodes) (are : AreTreeNodes routes nodes) (proofs : List Proof)
    (names : All (NamesPrefix routes) proofs) (kind : Kind) (direction : Direction) (row : ℕ) (path : Route)
    (is_listed : slice_get routes row ≡ Some path) where
  abbrev target : Target
  target = target_of path direction kind

  -- the node of a refutation that applies is one of the path's
  record HasNodeOfPath (proof : Proof) : Type 0 where
    within : proof.steps ≤ length path.steps
    node : node_of_proof nodes proof ≡ node_at nodes row proof.steps

  node_of_applying : (proof : Proof) → NamesPrefix routes proof → Applies routes target proof → HasNodeOfPath proof
  node_of_applying proof named applies = record {
    within = few;
    node = (are.exactly (proof.path - 1) row proof.steps proof.steps named.listed path named.is_listed.found is_listed named.has_steps
        few).1 prefix;
  }
    where
      same : applies.listed ≡ named.listed
      same = number_same routes proof.path applies.listed named.listed applies.is_listed named.is_listed

      of : IsPrefixOf (prefix_of proof.steps named.listed) path
      of = subst (λ (route : Route). IsPrefixOf (prefix_of proof.steps route) path) same applies.has_prefix

      long : length (prefix_of proof.steps named.listed).steps ≡ proof.steps
      long = length-take-le proof.steps named.listed.steps named.has_steps

      few : proof.steps ≤ length path.steps
      few =
          let both = length-append (prefix_of proof.steps named.listed).steps of.rest in
          let all = ap length of.steps in
          omega (arith, long)

      prefix : prefix_of proof.steps named.listed ≡ prefix_of proof.steps path
      prefix =
          is_prefix_of (prefix_of proof.steps named.listed) path of ∙ ap (λ (steps : ℕ). prefix_of steps path) long

  -- and one that has a node of the path applies
  applying_of_node : (proof : Proof) → NamesPrefix routes proof → IsRefutationAbout kind direction proof → (steps : ℕ)
      → steps ≤ length path.steps → node_of_proof nodes proof ≡ node_at nodes row steps → Applies routes target proof
  applying_of_node proof named about steps within node =
      let prefix = (are.exactly (proof.path - 1) row proof.steps steps named.listed path named.is_listed.found is_listed named.has_steps
      within).0 node in
      record {
        refutes = about.refutes;
        is_about = about.is_about;
        listed = named.listed;
        is_listed = named.is_listed;
        has_prefix = subst (λ (route : Route). IsPrefixOf route path) (sym prefix) (prefix_of-is_prefix steps path);
      }

  abbrev own_nodes : List ℕ
  own_nodes = get_or nodes.rows row []

  own_count : length own_nodes ≡ length path.steps + 1
  own_count = are.long row path is_listed

  module _ (marks : List (Option ℕ)) (marked : AreLeastMarks nodes proofs kind direction marks) where
    -- one of the path's nodes is marked with a number no greater than that of a refutation that applies
    record HasMark (number : ℕ) : Type 0 where
      node : ℕ
      own : Contains own_nodes node
      mark : ℕ
      marks_node : get_or marks node None ≡ Some mark
      few : mark ≤ number

    at_applying : (number : ℕ) (proof : Proof) → IsNumber proofs number proof → Applies routes target proof → HasMark number
    at_applying number proof is applies = by (get_or marks at None) refl (marked.least at inside)
      where
        named : NamesPrefix routes proof
        named = all_at_number (NamesPrefix routes) proofs number proof names is

        has : HasNodeOfPath proof
        has = node_of_applying proof named applies

        at : ℕ
        at = node_at nodes row proof.steps

        inside : at < nodes.count
        inside = are.within row proof.steps path is_listed has.within

        refutes : RefutesPrefixAt nodes proofs kind direction at number
        refutes = record {
          proof = proof;
          is_proof = is;
          about = record { refutes = applies.refutes; is_about = applies.is_about };
          is_node = has.node;
        }

        by : (found : Option ℕ) → get_or marks at None ≡ found → IsLeastNumber (RefutesPrefixAt nodes proofs kind direction at) found
            → HasMark number
        by None marks_node none = absurd (none number refutes)
        by (Some mark) marks_node least = record {
          node = at;
          own = Contains-get_or own_nodes proof.steps 0 (let within = has.within in let long = own_count in omega arith);
          mark = mark;
          marks_node = marks_node;
          few = least.1 number refutes;
        }

    -- and a number with which one is marked is that of one that applies
    record IsOfApplying (number : ℕ) : Type 0 where
      proof : Proof
      is_proof : IsNumber proofs number proof
      applies : Applies routes target proof

    of_mark : (number node : ℕ) → Contains own_nodes node → get_or marks node None ≡ Some number → IsOfApplying number
    of_mark number node own marks_node = by (get_or marks node None) marks_node (marked.least node inside)
      where
        is_node : node_at nodes row own.0 ≡ node
        is_node = sym (get_or_default_zero own_nodes own.0 node own.1) ∙ own.2

        steps_within : own.0 ≤ length path.steps
        steps_within = let within = own.1 in let many = own_count in omega arith

        inside : node < nodes.count
        inside = subst (λ (k : ℕ). k < nodes.count) is_node (are.within row own.0 path is_listed steps_within)

        by : (found : Option ℕ) → found ≡ Some number → IsLeastNumber (RefutesPrefixAt nodes proofs kind direction node) found
            → IsOfApplying number
        by None same least = let impossible : ⊥ = cc in absurd impossible
        by (Some mark) same least =
            let has = subst (RefutesPrefixAt nodes proofs kind direction node) (same_Some mark number same) least.0 in
            let named = all_at_number (NamesPrefix routes) proofs number has.proof names has.is_proof in
            record {
              proof = has.proof;
              is_proof = has.is_proof;
              applies = applying_of_node has.proof named has.about own.0 steps_within (has.is_node ∙ sym is_node);
            }

    pub least_applies : (found : Option ℕ) → IsLeastMark marks own_nodes found → IsLeastRefutation routes proofs target found
    least_applies None none = λ number proof is applies.
        let has = at_applying number proof is applies in none has.mark (has.node, has.own, has.marks_node)
    least_applies (Some number) least =
        let there = least.0 in
        let has = of_mark number there.0 there.1 there.2 in
        record {
          proof = has.proof;
          is_proof = has.is_proof;
          applies = has.applies;
          least = λ other other_proof its applies.
              let at = at_applying other other_proof its applies in
              let most = least.1 at.mark (at.node, at.own, at.marks_node) in
              let few = at.few in
              omega arith;
        }

-- the nodes of a row are below the number of nodes
own_within : (routes : List Route) (nodes : Nodes) → AreTreeNodes routes nodes → (row : ℕ) (path : Route) → slice_get routes row ≡ Some path
    → All (λ node. node < nodes.count) (get_or nodes.rows row [])
own_within routes nodes are row path listed steps d inside =
    let long = are.long row path listed in
    let below = are.within row steps path listed (omega arith) in
    let same = get_or_default_zero (get_or nodes.rows row []) steps d inside in
    omega arith

pub rows_within : (routes : List Route) (nodes : Nodes) → AreTreeNodes routes nodes → (row : ℕ) → row < length routes
    → All (λ node. node < nodes.count) (get_or nodes.rows row [])
rows_within routes nodes are row within =
    ⊎_elim (λ there. own_within routes nodes are row there.0 there.2) (λ past. let few = past.0 in absurd (omega arith))
    (slice_get_cases routes row).1

-- what was found for each row is the refutation of the least number that applies to its path
pub least_are : (routes : List Route) (nodes : Nodes) → AreTreeNodes routes nodes → (proofs : List Proof)
    → All (NamesPrefix routes) proofs → (kind : Kind) (direction : Direction) (marks : List (Option ℕ))
    → AreLeastMarks nodes proofs kind direction marks → (least : List (Option ℕ))
    → ((row : ℕ) → row < length routes → IsLeastMark marks (get_or nodes.rows row []) (get_or least row None))
    → AreLeastRefutations routes proofs direction kind least
least_are routes nodes are proofs names kind direction marks marked least found row path listed =
    least_applies routes nodes are proofs names kind direction row path listed marks marked (get_or least row None)
    (found row (slice_get_within routes row path listed))
