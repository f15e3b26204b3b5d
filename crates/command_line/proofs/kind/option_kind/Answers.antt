-- The word does not begin with the option's.
use Rattle.std.proofs.Common.{◌≡◌, ℕ, List, None, ap, subst, sym}
use Rattle.command_line.specs.Kinds.{kind_behind, without_front}
use Rattle.command_line.proofs.Beginnings.{stripped}
use Rattle.command_line.proofs.kind.option_kind.Goals as goal

pub returns-in_default : goal.returns-in_default
returns-in_default c =
    let lacks = subst (λ (word : List ℕ). without_front word c.args.word.now ≡ None) c.word.ensures
    (stripped c.word.result.now c.args.word.now None c.in_default.ensures.cases) in
    sym (ap (kind_behind c.args.option) lacks)
