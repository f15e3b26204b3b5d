-- A line without a head, or without the words of three vectors behind it, is that of no test; with their bits it is that of one.
use Rattle.std.proofs.Common.{◌≡◌, Some, length, sym, ap, subst, arith}
use Rattle.pd_base.specs.declared.test.Test.{Test}
use Rattle.netlist.specs.Circuit.{observed_lines, source_count}
use Rattle.runs.specs.Lawful.{IsLawfulTest}
use Rattle.text_pieces.specs.Cuts.{words_left, words_of}
use Rattle.text_pieces.specs.Reads.{Reads}
use Rattle.run_files.specs.TestsText.{test_words}
use Rattle.run_files.proofs.WholeTests.{no_head, not_three, one_test, test_of, ReadsBits}
use Rattle.run_files.proofs.test_line.read_test.Goals as goal

pub returns-in_default : goal.returns-in_default
returns-in_default c = no_head c.args.net.now c.args.number (words_of c.args.line.now) c.in_default.ensures

pub returns-in_default-read_bit_words : goal.returns-in_default-read_bit_words
returns-in_default-read_bit_words c =
    not_three c.args.net.now c.args.number (words_of c.args.line.now) c.in-Some.head (words_left c.in-Some.left) c.in-Some.ensures
    c.in_default-read_bit_words.ensures

pub returns : goal.returns
returns c =
    let net = c.args.net.now in
    let count : c.sources-sources.result ≡ source_count net = c.sources-sources.ensures.count in
    let seen : length c.observed-observed.result.now ≡ length (observed_lines net) = ap length c.observed-observed.ensures.observed in
    let first : ReadsBits (source_count net) c.in-Some-read_bit_words.first.now (Some c.in-Some-2.first.items) =
    rw (c.in-Some-2.is, count) at c.in_ok-first.ensures in
    let second : ReadsBits (source_count net) c.in-Some-read_bit_words.second.now (Some c.in-Some-3.second.items) =
    rw (c.in-Some-3.is, count) at c.in_ok-second.ensures in
    let expected : ReadsBits (length (observed_lines net)) c.in-Some-read_bit_words.expected.now (Some c.in-Some-4.expected.items) =
    rw (c.in-Some-4.is, seen) at c.in_ok-expected.ensures in
    let pair : c.new.result ≡ record { first = c.in-Some-2.first.items; second = c.in-Some-3.second.items } =
    (λ i. record { first = c.new.ensures.first i; second = c.new.ensures.second i }) in
    let test : test_of c.in-Some.head c.in-Some-2.first.items c.in-Some-3.second.items c.in-Some-4.expected.items
    ≡ record { path = c.in-Some.head.path; dir = c.in-Some.head.dir; kind = c.in-Some.head.kind; pair = c.new.result; expected = c.new-2.result } =
    (λ i. record {
      path = c.in-Some.head.path;
      dir = c.in-Some.head.dir;
      kind = c.in-Some.head.kind;
      pair = sym pair i;
      expected = sym c.new-2.ensures i;
    }) in
    subst (λ (t : Test). Reads (test_words c.args.number) (IsLawfulTest net) (words_of c.args.line.now) (Some t)) test
    (one_test net c.args.number (words_of c.args.line.now) c.in-Some.head (words_left c.in-Some.left) c.in-Some.ensures
    c.in-Some-read_bit_words.first.now c.in-Some-read_bit_words.second.now c.in-Some-read_bit_words.expected.now c.in-Some-read_bit_words.ensures
    c.in-Some-2.first.items c.in-Some-3.second.items c.in-Some-4.expected.items first second expected
    (omega (arith, count, c.if-sources-eq0.false)) (omega (arith, seen, c.if-observed-eq0.false)))
