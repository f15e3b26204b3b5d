-- One place more is there.
use Rattle.std.proofs.Common.{◌≡◌, ⊎_elim, ℕ, ◌<◌, All, List, [], ◌∷◌, ◌++◌, Contains, sym, subst, arith}
use Rattle.std.proofs.lemmas.Bool.{cases_lt}
use Rattle.std.proofs.lemmas.List.Elements.{All-push, Contains-append_left, Contains-push}
use Rattle.test_grade.proofs.compaction.with_all.Goals as goal

pub loop-place-preserved : goal.loop-place-preserved
loop-place-preserved c =
    let turn = c.loop-place.invariant in
    let order = c.loop-place.order.items in
    let own = c.loop-place.place in
    let items = c.in_ok-push.ensures.items in
    record {
      within = subst (All (λ place. place < c.args.count)) (sym items)
          (All-push (λ place. place < c.args.count) order own turn.within c.loop-place-test.true);
      there = λ place inside.
          subst (λ (l : List ℕ). Contains l place) (sym items)
          (⊎_elim
          (λ before. Contains-append_left order (own ∷ []) place (turn.there place before))
          (λ last. let same : own ≡ place = omega arith in subst (Contains (order ++ own ∷ [])) same (Contains-push order own))
          (cases_lt place own));
    }
