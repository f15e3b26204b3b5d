-- The path for which the test is a robust one is no longer than the time, or longer.
use Rattle.std.proofs.Common.{ℕ, ◌<◌, ◌≤◌, subst, sym}
use Rattle.test_grade.specs.Lines.{AreUnder, LineWords}
use Rattle.commands.proofs.rise_fall_replay.path_word.PathJudge.word_on.Goals as goal

pub returns-then-length-at-clause-word : goal.returns-then-length-at-clause-word
returns-then-length-at-clause-word c = record {
  listed = c.in-Some.listed.now;
  robust = c.in-Some.ensures;
  holds = subst (λ (n : ℕ). n ≤ c.args.at.now.time) (c.final_length-length.ensures c.args.test.now
      (subst (λ (words : LineWords). AreUnder c.args.at.now.net.now c.args.test.now.pair c.args.lane words.finals words.steadies)
      (sym c.self.view_is) c.requires.under)) c.if-length-at.true;
}

pub returns-clause-word : goal.returns-clause-word
returns-clause-word c = record {
  listed = c.in-Some.listed.now;
  robust = c.in-Some.ensures;
  holds = subst (λ (n : ℕ). c.args.at.now.time < n) (c.final_length-length.ensures c.args.test.now
      (subst (λ (words : LineWords). AreUnder c.args.at.now.net.now c.args.test.now.pair c.args.lane words.finals words.steadies)
      (sym c.self.view_is) c.requires.under)) c.if-length-at.false;
}
