-- One source more is in its least state.
use Rattle.std.proofs.Common.{◌≡◌, ℕ, ◌<◌, List, get_or, take_all, ap, subst, arith}
use Rattle.std.specs.List.{All}
use Rattle.std.proofs.lemmas.Bool.Decides.{nat_tests}
use Rattle.std.proofs.lemmas.List.Elements.{All-more, All-contains}
use Rattle.pd_base.specs.declared.ids.LineId.{LineId}
use Rattle.netlist.specs.Circuit.{source_count}
use Rattle.state_sets.specs.Labellings.{label_at}
use Rattle.pair_judging.specs.ConeStates.{state_in}
use Rattle.pair_judging.specs.LeastStates.{IsTakenOf}
use Rattle.cones.proofs.Spreading.{no_line}
use Rattle.refutation_check.proofs.trial.are_least.Goals as goal
use Rattle.refutation_check.proofs.trial.are_least.Goals.{else-line-sources-via-then-line-sources+else-ne, else-line-sources-via-else-line-sources}

pub loop-line-preserved : goal.loop-line-preserved
loop-line-preserved g c =
    let lines = c.args.lines.now in let place = c.loop-line.line-index in let line = (get_or lines place no_line).0 in
    let Taken : ℕ → Type 0 = λ n. IsTakenOf g.A.Algebra.algebra.count (label_at c.args.labels.now n) (state_in c.args.states.now n) in
    let P : LineId → Type 0 = λ l. l.0 < source_count c.args.net.now → Taken l.0 in
    All-more P lines place no_line c.loop-line-test.true c.loop-line.invariant
    (elim c.else-line-sources.branch [
      | else-line-sources-via-then-line-sources+else-ne w ↦ (λ source.
          let number : w.least.result.0 ≡ (state_in c.args.states.now line).0 = grind (arith, nat_tests) in
          subst (IsTakenOf g.A.Algebra.algebra.count (label_at c.args.labels.now line)) (ap (λ n. record { 0 = n }) number) w.least.ensures)
      | else-line-sources-via-else-line-sources w ↦ (λ source. absurd (omega (arith, source, w.if-line-sources.false, c.sources.ensures.count)))
    ])

pub returns : goal.returns
returns g c = λ told source within among.
    let lines = c.args.lines.now in
    let P : LineId → Type 0 = λ l. l.0 < source_count c.args.net.now
    → IsTakenOf g.A.Algebra.algebra.count (label_at c.args.labels.now l.0) (state_in c.args.states.now l.0) in
    All-contains P lines (record { 0 = source })
    (subst (λ (ls : List LineId). All P ls) (take_all c.loop-line.line-index lines c.loop-line-test.false) c.loop-line.invariant) among within
