use Rattle.prefix_sensitize.proofs.walking.visit_and_lift.Given as goal

abbrev pub ghost-visit : goal.ghost-visit
ghost-visit g a = g.begin
