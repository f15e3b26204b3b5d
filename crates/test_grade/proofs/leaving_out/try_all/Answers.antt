-- What was served is served at the end, and each kept test was tried and is needed.
use Rattle.std.proofs.Common.{◌≡◌, ◌<◌, ◌≤◌, ◌&&◌, length, get_or, Some, IsTrue, sym, ap, subst, ◌∙◌, arith}
use Rattle.std.proofs.lemmas.Option.{slice_get-get_or, get_or_from_slice_get}
use Rattle.test_grade.specs.Compact.{HasWords, IsAlone, is_kept, serves_in, servers}
use Rattle.test_grade.proofs.Counting.{counted_some, kept_within, only_one, some_counted}
use Rattle.test_grade.proofs.GradedSides.{both_true}
use Rattle.test_grade.proofs.leaving_out.try_all.Goals as goal

pub try_one-requires-clause-words : goal.try_one-requires-clause-words
try_one-requires-clause-words c =
    subst (λ tests. HasWords c.args.words.now tests (length c.loop-test.counts)) (sym c.loop-test.invariant.tests)
    (subst (λ faults. HasWords c.args.words.now (length c.args.kept.now) faults) (sym c.loop-test.invariant.faults) c.requires.words)

pub returns : goal.returns
returns c =
    let tests = length c.args.kept.now in
    let faults = length c.args.counts.now in
    let serves = serves_in c.args.words.now faults in
    let kept = c.loop-test.kept in
    let turn = c.loop-test.invariant in
    record {
      one_each = turn.tests;
      served = λ test fault within inside does.
          let first : 1 ≤ servers tests serves c.args.kept.now fault =
          some_counted (λ test. is_kept c.args.kept.now test && serves test fault) tests test within
          ((both_true (is_kept c.args.kept.now test) (serves test fault)).1 (c.requires.all test within, does)) in
          let was = c.requires.counted.each fault inside in
          let still = turn.served fault inside (omega arith) in
          let now = turn.counted.each fault (omega arith) in
          let found = counted_some (λ test. is_kept kept test && serves test fault) tests (omega arith) in
          let both = (both_true (is_kept kept found.0) (serves found.0 fault)).0 found.1.1 in
          record { test = found.0; is_kept = both.0; serves_it = both.1 };
      needed = λ test is.
          let within : test < tests = let inside = kept_within kept test is in omega arith in
          let among = c.requires.whole test within in
          let place = among.0 in
          let there : get_or c.args.order.now place 0 ≡ test =
          get_or_from_slice_get c.args.order.now place test 0 (slice_get-get_or c.args.order.now place test among.1 ∙ ap Some among.2) in
          let need = turn.needed place (omega (arith, among.1)) (subst (λ at. IsTrue (is_kept kept at)) (sym there) is) in
          let fault = need.0 in
          let alone = subst (λ at. IsAlone serves c.loop-test.counts at fault) there need.1 in
          let counts = turn.counted.each fault alone.within in
          record {
            fault = fault;
            within = omega arith;
            serves_it = alone.serves_it;
            alone = λ other its does.
                only_one (λ test. is_kept kept test && serves test fault) tests test other (omega arith) within
                (let inside = kept_within kept other its in omega arith)
                ((both_true (is_kept kept test) (serves test fault)).1 (is, alone.serves_it))
                ((both_true (is_kept kept other) (serves other fault)).1 (its, does));
          };
    }
