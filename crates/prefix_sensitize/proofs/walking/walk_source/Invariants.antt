use Rattle.prefix_sensitize.proofs.walking.walk_source.Given as goal

abbrev pub ghost-walk_from : goal.ghost-walk_from
ghost-walk_from g a = g.begin
