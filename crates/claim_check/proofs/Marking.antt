-- The least of numbers, and nodes marked with the least numbers of refutations, proof by proof.
use Rattle.std.proofs.Common.{◌≡◌, ◌≢◌, ◌⊎◌, ⊎_elim, inl, inr, ℕ, ◌+◌, ◌-◌, ◌<◌, ◌≤◌, ◌↔◌, List, [], ◌∷◌, ◌++◌, length, replicate, min, set, get_or, refl, sym, ap, subst, ◌∙◌, arith}
use Rattle.std.specs.Prelude.{Contains, Option, Some, None}
use Rattle.std.proofs.lemmas.Bool.{cases_eq, cases_lt}
use Rattle.std.proofs.lemmas.List.{get_or-replicate, get_or-set_other, get_or-set_same, get_or_append_left, get_or_push, length-replicate, length-set, length_push}
use Rattle.std.proofs.lemmas.List.Elements.{Contains-append_left, Contains-push}
use Rattle.std.proofs.lemmas.Option.{same_Some, slice_get_within}
use Rattle.pd_base.specs.Route.{Route}
use Rattle.pd_base.specs.declared.fault.Direction.{Direction}
use Rattle.pd_base.specs.declared.fault.Kind.{Kind}
use Rattle.runs.specs.declared.run.Proof.{Proof}
use Rattle.good_runs.specs.Faults.{IsNumber}
use Rattle.good_runs.proofs.Numbers.{number_kept, number_new, number_of_push}
use Rattle.claim_check.specs.Prefixes.{AreLeastMarks, AreTreeNodes, HasItsNode, IsLeastMark, IsLeastNumber, IsRefutationAbout, NamesPrefix, Nodes, RefutesPrefixAt, lesser, node_of_proof}

-- the least number of which one thing or another is so is the lesser of the least of both
pub least_of_both : (Is Also : ℕ → Type 0) (one other : Option ℕ) → IsLeastNumber Is one → IsLeastNumber Also other
    → IsLeastNumber (λ number. Is number ⊎ Also number) (lesser one other)
least_of_both Is Also None None none neither = λ number either. ⊎_elim (none number) (neither number) either
least_of_both Is Also None (Some other) none its =
    (inr its.0, λ number either. ⊎_elim (λ is. absurd (none number is)) (its.1 number) either)
least_of_both Is Also (Some one) None own none =
    (inl own.0, λ number either. ⊎_elim (own.1 number) (λ is. absurd (none number is)) either)
least_of_both Is Also (Some one) (Some other) own its =
    ⊎_elim
    (λ (less : one < other).
    let low : one ≡ min one other = omega arith in (
      inl (subst Is low own.0),
      λ number either.
          ⊎_elim (λ is. let few = own.1 number is in omega arith) (λ is. let few = its.1 number is in omega arith) either,
    ))
    (λ (most : other ≤ one).
    let low : other ≡ min one other = omega arith in (
      inr (subst Also low its.0),
      λ number either.
          ⊎_elim (λ is. let few = own.1 number is in omega arith) (λ is. let few = its.1 number is in omega arith) either,
    ))
    (cases_lt one other)

-- what means the same has one least number
pub least_same : (Is Also : ℕ → Type 0) → ((number : ℕ) → Is number ↔ Also number) → (found : Option ℕ) → IsLeastNumber Is found
    → IsLeastNumber Also found
least_same Is Also same None none = λ number is. none number ((same number).1 is)
least_same Is Also same (Some least) is = ((same least).0 is.0, λ number its. is.1 number ((same number).1 its))

-- a number that there is, or not, is its own least
pub least_itself : (found : Option ℕ) → IsLeastNumber (λ number. found ≡ Some number) found
least_itself None = λ number same. let impossible : ⊥ = cc in absurd impossible
least_itself (Some least) = (refl, λ number same. let e : least ≡ number = cc in omega arith)

-- no node is marked
pub no_mark : (marks : List (Option ℕ)) → IsLeastMark marks [] None
no_mark marks number has = let inside = has.1.1 in absurd (omega arith)

-- a node more
module _ (marks : List (Option ℕ)) (nodes : List ℕ) (node : ℕ) where
  abbrev IsMarkOf : List ℕ → ℕ → Type 0
  IsMarkOf these number = (other : ℕ) × Contains these other × (get_or marks other None ≡ Some number)

  before_or_here : (other : ℕ) → Contains (nodes ++ node ∷ []) other → Contains nodes other ⊎ (other ≡ node)
  before_or_here other has =
      let inside = has.1 in
      let long = length_push nodes node in
      ⊎_elim
      (λ (less : has.0 < length nodes). inl (has.0, less, sym (get_or_append_left nodes (node ∷ []) other has.0 less) ∙ has.2))
      (λ (most : length nodes ≤ has.0).
      let here : length nodes ≡ has.0 = omega arith in
      inr (sym has.2 ∙ get_or_push nodes node other has.0 here)) (cases_lt has.0 (length nodes))

  mark_of_more : (number : ℕ) → (IsMarkOf nodes number ⊎ (get_or marks node None ≡ Some number)) ↔ IsMarkOf (nodes ++ node ∷ []) number
  mark_of_more number = (
    λ either.
        ⊎_elim (λ (has : IsMarkOf nodes number). (has.0, Contains-append_left nodes (node ∷ []) has.0 has.1, has.2))
        (λ (is : get_or marks node None ≡ Some number). (node, Contains-push nodes node, is)) either,
    λ has.
        ⊎_elim (λ (before : Contains nodes has.0). inl (has.0, before, has.2))
        (λ (here : has.0 ≡ node). inr (subst (λ (k : ℕ). get_or marks k None ≡ Some number) here has.2))
        (before_or_here has.0 has.1),
  )

  pub mark_more : (least : Option ℕ) → IsLeastMark marks nodes least
      → IsLeastMark marks (nodes ++ node ∷ []) (lesser least (get_or marks node None))
  mark_more least so_far =
      least_same (λ number. IsMarkOf nodes number ⊎ (get_or marks node None ≡ Some number)) (IsMarkOf (nodes ++ node ∷ [])) mark_of_more
      (lesser least (get_or marks node None))
      (least_of_both (IsMarkOf nodes) (λ number. get_or marks node None ≡ Some number) least (get_or marks node None) so_far
      (least_itself (get_or marks node None)))

-- a proof that names a prefix of a listed path has a node
pub its_node : (routes : List Route) (nodes : Nodes) (proof : Proof) → AreTreeNodes routes nodes → NamesPrefix routes proof
    → HasItsNode nodes proof
its_node routes nodes proof are names =
    let within = slice_get_within routes (proof.path - 1) names.listed names.is_listed.found in
    let each = are.rows_each in
    let long = are.long (proof.path - 1) names.listed names.is_listed.found in
    let has = names.has_steps in
    record {
      positive = names.is_listed.positive;
      row = omega arith;
      steps = omega arith;
      node = are.within (proof.path - 1) proof.steps names.listed names.is_listed.found names.has_steps;
    }

module _ (nodes : Nodes) (kind : Kind) (direction : Direction) where
  pub marked_none : (marks : List (Option ℕ)) → marks ≡ replicate nodes.count None → AreLeastMarks nodes [] kind direction marks
  marked_none marks are = record {
    one_each = ap length are ∙ length-replicate nodes.count None;
    least = λ node within.
        subst (IsLeastNumber (RefutesPrefixAt nodes [] kind direction node)) (sym (no_number node within))
        (λ number has. let inside = slice_get_within [] (number - 1) has.proof has.is_proof.found in absurd (omega arith));
  }
    where
      no_number : (node : ℕ) → node < nodes.count → get_or marks node None ≡ None
      no_number node within =
          ap (λ (list : List (Option ℕ)). get_or list node None) are ∙ get_or-replicate nodes.count node None None within

  module _ (proofs : List Proof) (proof : Proof) (marks : List (Option ℕ)) (marked : AreLeastMarks nodes proofs kind direction marks) where
    abbrev longer : List Proof
    longer = proofs ++ proof ∷ []

    -- a refutation at a node was there, or it is the new one
    there_or_new : (node number : ℕ) → RefutesPrefixAt nodes longer kind direction node number
        → RefutesPrefixAt nodes proofs kind direction node number
        ⊎ ((number ≡ length proofs + 1) × IsRefutationAbout kind direction proof × (node_of_proof nodes proof ≡ node))
    there_or_new node number has =
        ⊎_elim
        (λ (before : IsNumber proofs number has.proof).
        inl (record { proof = has.proof; is_proof = before; about = has.about; is_node = has.is_node }))
        (λ (here : (number ≡ length proofs + 1) × (proof ≡ has.proof)).
        inr (
          here.0,
          subst (IsRefutationAbout kind direction) (sym here.1) has.about,
          subst (λ (p : Proof). node_of_proof nodes p ≡ node) (sym here.1) has.is_node,
        ))
        (number_of_push proofs proof has.proof number has.is_proof)

    there_still : (node number : ℕ) → RefutesPrefixAt nodes proofs kind direction node number
        → RefutesPrefixAt nodes longer kind direction node number
    there_still node number has = record {
      proof = has.proof;
      is_proof = number_kept proofs (proof ∷ []) number has.proof has.is_proof;
      about = has.about;
      is_node = has.is_node;
    }

    -- where the new one is no refutation at a node, its mark stays
    mark_stays : (node : ℕ) → node < nodes.count → (IsRefutationAbout kind direction proof → node_of_proof nodes proof ≡ node → ⊥)
        → IsLeastNumber (RefutesPrefixAt nodes longer kind direction node) (get_or marks node None)
    mark_stays node within none =
        least_same (RefutesPrefixAt nodes proofs kind direction node) (RefutesPrefixAt nodes longer kind direction node)
        (λ number. (
          there_still node number,
          λ has. ⊎_elim (λ before. before) (λ here. absurd (none here.1 here.2)) (there_or_new node number has),
        ))
        (get_or marks node None) (marked.least node within)

    pub mark_passed : ¬ IsRefutationAbout kind direction proof → AreLeastMarks nodes longer kind direction marks
    mark_passed none = record {
      one_each = marked.one_each;
      least = λ node within. mark_stays node within (λ about same. none about);
    }

    module _ (about : IsRefutationAbout kind direction proof) (node : ℕ) (is_node : node ≡ node_of_proof nodes proof)
        (within : node < nodes.count) (number : ℕ) (next : number ≡ length proofs + 1) where
      abbrev mark : Option ℕ
      mark = lesser (get_or marks node None) (Some number)

      abbrev marks_after : List (Option ℕ)
      marks_after = set marks node mark

      new_one : RefutesPrefixAt nodes longer kind direction node number
      new_one = record { proof = proof; is_proof = number_new proofs number proof next; about = about; is_node = sym is_node }

      same_there : (n : ℕ) → (RefutesPrefixAt nodes proofs kind direction node n ⊎ (Some number ≡ Some n))
          ↔ RefutesPrefixAt nodes longer kind direction node n
      same_there n = (
        λ either.
            ⊎_elim (there_still node n)
            (λ (same : Some number ≡ Some n). subst (RefutesPrefixAt nodes longer kind direction node) (same_Some number n same) new_one)
            either,
        λ has. ⊎_elim (λ before. inl before) (λ its. inr (ap Some (next ∙ sym its.0))) (there_or_new node n has),
      )

      at_node : IsLeastNumber (RefutesPrefixAt nodes longer kind direction node) mark
      at_node =
          least_same (λ n. RefutesPrefixAt nodes proofs kind direction node n ⊎ (Some number ≡ Some n))
          (RefutesPrefixAt nodes longer kind direction node) same_there mark
          (least_of_both (RefutesPrefixAt nodes proofs kind direction node) (λ n. Some number ≡ Some n) (get_or marks node None) (Some number)
          (marked.least node within) (least_itself (Some number)))

      at_other : (other : ℕ) → other < nodes.count
          → IsLeastNumber (RefutesPrefixAt nodes longer kind direction other) (get_or marks_after other None)
      at_other other inside =
          ⊎_elim
          (λ (here : other ≡ node).
          subst (λ (k : ℕ). IsLeastNumber (RefutesPrefixAt nodes longer kind direction k) (get_or marks_after k None)) (sym here)
          (subst (IsLeastNumber (RefutesPrefixAt nodes longer kind direction node))
          (sym (get_or-set_same marks node mark None (let each = marked.one_each in omega arith))) at_node))
          (λ (elsewhere : other ≢ node).
          subst (IsLeastNumber (RefutesPrefixAt nodes longer kind direction other)) (sym (get_or-set_other marks node other mark None elsewhere))
          (mark_stays other inside (λ _ same. elsewhere (sym same ∙ sym is_node))))
          (cases_eq other node)

      -- the number of one that is is written at its node, if none was before
      pub mark_written : AreLeastMarks nodes longer kind direction marks_after
      mark_written = record { one_each = length-set marks node mark ∙ marked.one_each; least = at_other }
