-- An engine of near gates that pays is made for the netlist, the rules and the ends.
use Rattle.std.proofs.Common.{◌≡◌, true, Option, Some, ap, subst}
use Rattle.std.specs.Prelude.{IfSome}
use Rattle.implication.specs.Standing.{Standing, idle_on, told_ends}
use Rattle.prefix_sensitize.proofs.sensitizing.engine_for.Goals as goal

pub returns-in-Some : goal.returns-in-Some
returns-in-Some g c =
    let setting = c.args.setting in
    let Made : Option Standing → Type 0 = λ near.
    IfSome near (λ engine. engine ≡ idle_on setting.net.now setting.rules.now (Some (told_ends c.args.ends.now true))) in
    let made = subst Made c.in-Some.is c.in_ok-near.ensures in record {
      net = ap (λ (s : Standing). s.net) made;
      own = ap (λ (s : Standing). s.rules) made;
      near = true;
      told = ap (λ (s : Standing). s.ends) made;
      idle = ap (λ (s : Standing). s.beginning) made;
    }
