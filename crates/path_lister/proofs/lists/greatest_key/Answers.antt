-- One key more is looked at.
use Rattle.std.proofs.Common.{◌≡◌, ◌⊎◌, inr, ⊎_elim, ℕ, ◌≤◌, slice_index, get_or, Contains, ap, subst, arith}
use Rattle.std.proofs.lemmas.Bool.{cases_lt}
use Rattle.std.proofs.lemmas.List.Elements.{Contains-get_or}
use Rattle.path_lister.proofs.lists.greatest_key.Goals as goal

pub loop-other-preserved : goal.loop-other-preserved
loop-other-preserved c =
    let keys = c.args.keys.now in
    let place = c.loop-other.other-index in
    let max = c.max-key.ensures in record {
      least = omega (arith, c.loop-other.invariant.least, max);
      most =
          λ k below.
          ⊎_elim
          (λ before. let e : slice_index keys k ≤ c.max-key.result =
          omega (arith, c.loop-other.invariant.most k before, max) in e)
          (λ past. let at : k ≡ place = omega arith in
          let e : slice_index keys k ≤ c.max-key.result = omega (arith, ap (slice_index keys) at, max) in e)
          (cases_lt k place);
      among =
          ⊎_elim
          (λ less. let same : get_or keys place 0 ≡ c.max-key.result = omega (arith, max) in
          inr (subst (Contains keys) same (Contains-get_or keys place 0 c.loop-other-test.true)))
          (λ more. let same : c.loop-other.key ≡ c.max-key.result = omega (arith, max) in
          subst (λ (n : ℕ). (n ≡ c.args.floor) ⊎ Contains keys n) same c.loop-other.invariant.among)
          (cases_lt c.loop-other.key (get_or keys place 0));
    }
