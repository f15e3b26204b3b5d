-- The soonest change leaves with what is lent of the store, and this one comes back in its place.
use Rattle.std.proofs.Common.{rules}
use Rattle.std.proofs.lemmas.List.Sorted.{IsPermutation-trans, IsPermutation-cons}
use Rattle.std.proofs.lemmas.Option.{MatchOption-at_some}
use Rattle.delay_replay.proofs.pin_changes.put_on_top.Goals as goal

pub returns-clause-put : goal.returns-clause-put
returns-clause-put c =
    let top = c.unwrap-top.result in
    let rest = MatchOption-at_some _ _ top c.unwrap-top.ensures c.peek_mut.ensures.rest in
    let put = IsPermutation-trans _ _ _ (IsPermutation-cons c.args.change _ _ rest) (c.drop-top.ensures.permutation (search rules)) in
    search rules
