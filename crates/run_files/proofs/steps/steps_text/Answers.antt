-- The first step and the further ones, put together, are the text of all steps.
use Rattle.std.proofs.Common.{◌≡◌, ◌-◌, length, take, drop, List, arith}
use Rattle.std.proofs.lemmas.Grind.{common_steps}
use Rattle.pd_base.specs.declared.ids.PinRef.{PinRef}
use Rattle.run_files.proofs.StepTexts.{steps_joined_at}
use Rattle.run_files.proofs.steps.steps_text.Goals as goal

pub returns-in_ok-push_more_steps-in-len1-up : goal.returns-in_ok-push_more_steps-in-len1-up
returns-in_ok-push_more_steps-in-len1-up c =
    let more = c.in_ok-push_more_steps-in-len1-up.ensures in
    let one = c.in_ok-push_step-in-len1-up.ensures in
    let steps : List PinRef = c.args.steps.now in
    let all : take (length steps - 1) (drop 1 steps) ≡ drop 1 steps = grind (arith, common_steps) in
    let joined = steps_joined_at c.args.net.now steps (record { gate = record { 0 = 0 }; pin = 0 }) c.in-len1-up.len_at_least in
    grind (arith, common_steps, more, one, c.new-text.ensures.items, all, joined)
