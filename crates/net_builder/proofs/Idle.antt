-- Gates are looked at one after another: those that wait for no pin are listed.
use Rattle.std.proofs.Common.{◌≡◌, ◌≢◌, ⊎_elim, ℕ, ◌+◌, ◌<◌, List, [], ◌∷◌, ◌++◌, slice_index, Contains, ap, subst, ◌∙◌, arith}
use Rattle.std.proofs.lemmas.Bool.{cases_lt}
use Rattle.std.proofs.lemmas.List.Elements.{Contains-append_left, Contains-push}
use Rattle.pd_base.specs.declared.ids.GateId.{GateId}

-- those before a gate are listed
abbrev pub ListsIdle : List ℕ → List GateId → ℕ → Type 0
ListsIdle waits ready gate = (other : ℕ) → other < gate → slice_index waits other ≡ 0 → Contains ready (record { 0 = other })

module _ (waits : List ℕ) (ready : List GateId) (gate : ℕ) (before : ListsIdle waits ready gate) where
  -- a gate is listed
  pub idle_listed : (here : GateId) → here.0 ≡ gate → ListsIdle waits (ready ++ here ∷ []) (gate + 1)
  idle_listed here is =
      λ other below none.
      ⊎_elim (λ earlier. Contains-append_left ready (here ∷ []) (record { 0 = other }) (before other earlier none))
      (λ last. let same : here.0 ≡ other = omega arith in
      subst (λ n. Contains (ready ++ here ∷ []) (record { 0 = n })) same (Contains-push ready here)) (cases_lt other gate)

  -- a gate that waits is passed over
  pub idle_passed : slice_index waits gate ≢ 0 → ListsIdle waits ready (gate + 1)
  idle_passed waiting =
      λ other below none.
      ⊎_elim (λ earlier. before other earlier none)
      (λ last. let same : gate ≡ other = omega arith in absurd (waiting (ap (slice_index waits) same ∙ none))) (cases_lt other gate)
