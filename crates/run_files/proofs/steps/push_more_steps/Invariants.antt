use Rattle.std.proofs.Common.{◌≡◌, ◌++◌, flat_map, take}
use Rattle.text_pieces.specs.Tokens.{after_space}
use Rattle.run_files.specs.ReportText.{step_text}
use Rattle.run_files.proofs.steps.push_more_steps.Given as goal

-- the steps so far were appended
abbrev pub invariant-loop-step : goal.invariant-loop-step
invariant-loop-step l = l.out.items ≡ l.initial.out.items ++ flat_map (λ step. after_space (step_text l.net step)) (take l.step-index l.steps)
