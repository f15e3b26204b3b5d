-- No prefix is counted twice in the searches for one aim, and so all searches count each prefix of the paths a few times at most.
use Rattle.std.proofs.Common.{ℕ, ◌+◌, ◌*◌, ◌≤◌, List, [], subst, arith}
use Rattle.pd_base.specs.Route.{Route}
use Rattle.prefix_sensitize.specs.PathOrder.{OrderedPaths}
use Rattle.prefix_sensitize.specs.Readiness.{CountsAtMost, IsTreeFor}
use Rattle.prefix_sensitize.specs.Walks.{CountsPrefixes}
use Rattle.prefix_sensitize.proofs.Prefixes.{few_entered, same_count}

-- where no prefix was entered nothing is counted
pub none_counted : (routes : List Route) (steps : ℕ) → CountsPrefixes routes steps steps
none_counted routes steps = record {
  entered = [];
  are_prefixes = record { each = λ k d within. absurd (omega arith); once = λ i j d before within. absurd (omega arith) };
  counts = omega arith;
}

-- the count rises by no more than the number of prefixes
pub counted : (routes : List Route) (tree : OrderedPaths) → IsTreeFor routes tree → (old new : ℕ) → CountsPrefixes routes old new
    → new ≤ old + tree.prefixes
counted routes tree for old new counts =
    let few = few_entered routes counts.entered tree.prefixes counts.are_prefixes for.prefixes in
    let grown = counts.counts in
    omega arith

-- so it does by the number of prefixes that the paths have
pub counted_all : (routes : List Route) (tree : OrderedPaths) → IsTreeFor routes tree → (times old new : ℕ)
    → new ≤ old + times * tree.prefixes → CountsAtMost routes times old new
counted_all routes tree for times old new few prefixes has =
    subst (λ (count : ℕ). new ≤ old + times * count) (same_count routes tree.prefixes prefixes for.prefixes has) few
