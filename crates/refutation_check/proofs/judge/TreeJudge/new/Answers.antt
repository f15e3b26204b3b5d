-- The engine is idle as it is made, and the room for trials is made for its circuit and rules.
use Rattle.std.proofs.Common.{false, true, Option, Some, refl, sym, ap, subst, subst₂}
use Rattle.pd_base.specs.declared.rules.Rules.{Rules}
use Rattle.netlist.specs.Circuit.{Circuit}
use Rattle.implication.specs.Standing.{Standing, ToldEnds, FollowsLinks, told_ends}
use Rattle.refutation_check.specs.Judges.{MadeFor}
use Rattle.refutation_check.specs.Trials.{IsTrialRoomFor}
use Rattle.refutation_check.proofs.NearEngines.{made_beside}
use Rattle.refutation_check.proofs.judge.TreeJudge.new.Goals as goal

pub invariant_of-result : goal.invariant_of-result
invariant_of-result g c =
    let made = c.in_ok-engine.ensures in
    let net = ap (λ (s : Standing). s.net) made in let rules = ap (λ (s : Standing). s.rules) made in
    let R : Circuit → Rules → Type 0 = λ n r. IsTrialRoomFor g.A.Algebra.algebra n r c.in_ok-room.room in
    record {
      idle = ap (λ (s : Standing). s.beginning) made;
      follows = let P : Option ToldEnds → Type 0 = λ ends. FollowsLinks ends in
          subst P (sym (ap (λ (s : Standing). s.ends) made)) refl;
      near = made_beside c.args.net.now c.args.rules.now (Some (told_ends c.args.ends.now false)) (Some (told_ends c.args.ends.now true))
          c.in_ok-engine.engine c.in_ok-near.near made c.in_ok-near.ensures;
      room = subst₂ R (sym net) (sym rules) c.in_ok-room.ensures;
    }

pub returns : goal.returns
returns g c =
    ap (λ (s : Standing). let made : MadeFor = record { net = s.net; rules = s.rules; ends = s.ends } in made) c.in_ok-engine.ensures
