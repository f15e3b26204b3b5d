-- One source more is in its least state.
use Rattle.std.proofs.Common.{List, get_or, take_all, subst, arith}
use Rattle.std.specs.List.{All}
use Rattle.std.proofs.lemmas.List.Elements.{All-contains}
use Rattle.pd_base.specs.declared.ids.LineId.{LineId}
use Rattle.state_sets.specs.Labellings.{label_at}
use Rattle.pair_judging.specs.ConeStates.{state_in}
use Rattle.pair_judging.specs.LeastStates.{IsTakenOf}
use Rattle.cones.proofs.Spreading.{no_line}
use Rattle.refutation_check.proofs.TrialStates.{taken_more}
use Rattle.refutation_check.proofs.trial_states.TrialStates.take_least.Goals as goal

pub loop-source-preserved : goal.loop-source-preserved
loop-source-preserved g c =
    let net = c.args.net.now in let sources = c.args.sources.now in let labels = c.args.labels.now in
    let place = c.loop-source.source-index in let inside = c.loop-source-test.true in
    let inv = c.loop-source.invariant in let source = get_or sources place no_line in
    let within = c.requires.sources place no_line inside in
    record {
      kept = record {
        room = c.put.ensures.room;
        made = λ gate here. c.put.ensures.made gate here (λ same. omega (arith, same, within)) (inv.kept.made gate here);
      };
      taken = taken_more g.A.Algebra.algebra.count sources place labels c.loop-source.self.states.items c.put.new.self.states.items inside c.least-state.result
          c.put.ensures.written c.least-state.ensures inv.taken;
    }

pub returns-clause-least : goal.returns-clause-least
returns-clause-least g c = λ source among.
    let sources = c.args.sources.now in
    let P : LineId → Type 0 = λ line. IsTakenOf g.A.Algebra.algebra.count (label_at c.args.labels.now line.0) (state_in c.loop-source.self.states.items line.0) in
    All-contains P sources (record { 0 = source })
    (subst (λ (lines : List LineId). All P lines) (take_all c.loop-source.source-index sources c.loop-source-test.false) c.loop-source.invariant.taken)
    among
