-- At first all tests are kept, and counted.
use Rattle.std.proofs.Common.{◌≡◌, ◌&&◌, length, refl, sym, ap, subst, ◌∙◌, arith}
use Rattle.test_grade.specs.Compact.{HasWords, IsCompact, is_kept, serves_in}
use Rattle.test_grade.proofs.Counting.{same_count}
use Rattle.test_grade.proofs.leaving_out.decide.Goals as goal

pub count_servers-requires : goal.count_servers-requires
count_servers-requires c = c.requires.words

pub try_all-requires-clause-words : goal.try_all-requires-clause-words
try_all-requires-clause-words c =
    subst (HasWords c.args.words.now (length c.args.kept.now)) (sym c.count_servers.auto.counts) c.requires.words

pub try_all-requires-clause-counted : goal.try_all-requires-clause-counted
try_all-requires-clause-counted c =
    let words = c.args.words.now in
    let kept = c.args.kept.now in
    let old = length c.args.counts.now in
    let new = length c.count_servers.new.counts in
    let faults : new ≡ old = c.count_servers.auto.counts in
    record {
      one_each = refl;
      each = λ fault inside.
          c.count_servers.ensures fault (omega arith)
          ∙ same_count (λ test. serves_in words old test fault) (λ test. is_kept kept test && serves_in words new test fault) (length kept)
          (λ test within.
          ap (λ many. serves_in words many test fault) (sym faults)
          ∙ ap (λ bit. bit && serves_in words new test fault) (sym (c.requires.all test within)));
    }

pub returns : goal.returns
returns c =
    subst (λ faults. IsCompact (length c.args.kept.now) faults (serves_in c.args.words.now faults) c.try_all.new.kept)
    c.count_servers.auto.counts c.try_all.ensures
