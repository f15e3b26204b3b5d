use Rattle.prefix_sensitize.proofs.walking.walk.Given as goal

-- the count of steps stands at the walk's beginning
abbrev pub ghost-walk_course : goal.ghost-walk_course
ghost-walk_course g a = a.steps.now
