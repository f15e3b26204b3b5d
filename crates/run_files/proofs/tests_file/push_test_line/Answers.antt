-- The pieces of a test's line, one behind another, are the line.
use Rattle.std.proofs.Common.{◌≡◌, ◌∙◌, ◌++◌, List, ℕ, ap, rules, append_assoc, decimal}
use Rattle.text_pieces.specs.Tokens.{after_space, digits, direction_word, kind_word, line}
use Rattle.run_files.proofs.TestLines.{seven_joined}
use Rattle.run_files.proofs.tests_file.push_test_line.Goals as goal

pub returns : goal.returns
returns c =
    let test = c.args.test.now in
    let pushed : c.push.new.self.items ≡ c.args.out.now.items ++ line (decimal c.args.number
    ++ after_space (decimal test.path) ++ after_space (direction_word test.dir) ++ after_space (kind_word test.kind)
    ++ after_space (digits test.pair.first) ++ after_space (digits test.pair.second) ++ after_space (digits test.expected)) =
    search (rules, append_assoc) in
    pushed
    ∙ ap (λ (text : List ℕ). c.args.out.now.items ++ line text)
    (seven_joined (decimal c.args.number) (decimal test.path) (direction_word test.dir) (kind_word test.kind)
    (digits test.pair.first) (digits test.pair.second) (digits test.expected))
