-- Each line goes on, or is the first that lacks its form.
use Rattle.std.proofs.Common.{◌≡◌, refl, subst, arith}
use Rattle.text_pieces.proofs.ReadLines.{all_read, none_left, none_read, some_left, IsReadSoFar}
use Rattle.run_files.specs.ReportForm.{fall_line, lines_told, report_form, report_start, rise_line}
use Rattle.run_files.specs.ReportReading.{named_by, path_lent, rise_told}
use Rattle.run_files.proofs.ReportLines.{between}
use Rattle.run_files.proofs.ReportTurns.{no_fall_there, no_line_there, no_rise_there, no_second_there, one_path}
use Rattle.run_files.proofs.report_reading.read_path_lines.Goals as goal

pub loop-rest-init : goal.loop-rest-init
loop-rest-init c = record {
  read = rw c.new-paths.ensures.items (none_read (report_form c.args.net.now) report_start c.args.text.now);
  numbered = omega arith;
  tests = omega arith;
  proofs = omega arith;
}

-- where no line is split off
pub returns-in_default : goal.returns-in_default
returns-in_default c =
    no_line_there c.args.net.now c.lines-few_lines.ensures.circuit c.args.text.now c.loop-rest.paths.items c.loop-rest.number
    (named_by c.loop-rest.named) c.loop-rest.rest.now c.loop-rest.invariant.read
    (some_left _ _ c.is_empty.ensures c.loop-rest-test.true) c.in_default.ensures.reads

-- where it tells no path and verdict
pub returns-in_default-2 : goal.returns-in_default-2
returns-in_default-2 c =
    no_rise_there c.args.net.now c.lines-few_lines.ensures.circuit c.args.text.now c.loop-rest.paths.items c.loop-rest.number
    (named_by c.loop-rest.named) c.loop-rest.rest.now c.loop-rest.invariant.read
    (some_left _ _ c.is_empty.ensures c.loop-rest-test.true) c.in-Some.line.now c.in-Some.behind.now c.in-Some.ensures.reads
    (rw c.in_default-2.is at c.in_ok-told.ensures.reads)

-- where no second line is split off
pub returns-in_default-split_line : goal.returns-in_default-split_line
returns-in_default-split_line c =
    no_second_there c.args.net.now c.lines-few_lines.ensures.circuit c.args.text.now c.loop-rest.paths.items c.loop-rest.number
    (named_by c.loop-rest.named) c.loop-rest.rest.now c.loop-rest.invariant.read c.in-Some.line.now c.in-Some.behind.now
    c.in-Some.ensures.reads (rise_told c.in-Some-2.told) (rw c.in-Some-2.is at c.in_ok-told.ensures.reads)
    (named_by c.named_with-named.result) c.named_with-named.ensures.named c.in_default-split_line.ensures.reads

-- where it tells no verdict for the same path
pub returns-in_default-read_fall : goal.returns-in_default-read_fall
returns-in_default-read_fall c =
    no_fall_there c.args.net.now c.lines-few_lines.ensures.circuit c.args.text.now c.loop-rest.paths.items c.loop-rest.number
    (named_by c.loop-rest.named) c.loop-rest.rest.now c.loop-rest.invariant.read c.in-Some.line.now c.in-Some.behind.now
    c.in-Some.ensures.reads (rise_told c.in-Some-2.told) (rw c.in-Some-2.is at c.in_ok-told.ensures.reads)
    (named_by c.named_with-named.result) c.named_with-named.ensures.named (path_lent c.in-Some-2.told.fields)
    (rw c.in-Some-2.is at c.in_ok-told.ensures.fields) c.in-Some-split_line.line.now c.in-Some-split_line.behind.now
    c.in-Some-split_line.ensures.reads c.in_default-read_fall.ensures

pub loop-rest-preserved : goal.loop-rest-preserved
loop-rest-preserved c =
    let told = c.in-Some-2.told in
    let listed = c.listed.result in
    let rise : rise_line listed ≡ rise_told told =
    (λ i. record { path = c.listed.ensures.path i; length = c.listed.ensures.length i; verdict = c.listed.ensures.rise i }) in
    let fall : fall_line listed ≡ record { path = told.measured.path; length = told.measured.length; verdict = c.in-Some-read_fall.fall } =
    (λ i. record { path = c.listed.ensures.path i; length = c.listed.ensures.length i; verdict = c.listed.ensures.fall i }) in
    record {
      read =
          one_path c.args.net.now c.lines-few_lines.ensures.circuit c.args.text.now c.loop-rest.paths.items c.loop-rest.number
          (named_by c.loop-rest.named) c.loop-rest.rest.now c.loop-rest.invariant.read c.in-Some.line.now c.in-Some.behind.now
          c.in-Some.ensures.reads (rise_told told) (rw c.in-Some-2.is at c.in_ok-told.ensures.reads)
          (named_by c.named_with-named.result) c.named_with-named.ensures.named (path_lent told.fields)
          (rw c.in-Some-2.is at c.in_ok-told.ensures.fields) c.in-Some-split_line.line.now c.in-Some-split_line.behind.now
          c.in-Some-split_line.ensures.reads c.in-Some-read_fall.fall c.in-Some-read_fall.ensures listed rise fall
          c.push.new.self.items c.in_ok-push.ensures.items (named_by c.named_with-named-in-loop-rest.result)
          c.named_with-named-in-loop-rest.ensures.named;
      numbered = omega (arith, c.in-Some.ensures.shorter, c.in-Some-split_line.ensures.shorter, c.loop-rest.invariant.numbered);
      tests = omega (arith, c.named_with-named.ensures.tests, c.named_with-named-in-loop-rest.ensures.tests, c.loop-rest.invariant.tests);
      proofs = omega (arith, c.named_with-named.ensures.proofs, c.named_with-named-in-loop-rest.ensures.proofs, c.loop-rest.invariant.proofs);
    }

pub returns : goal.returns
returns c =
    all_read (report_form c.args.net.now) report_start c.args.text.now (lines_told c.loop-rest.paths.items)
    (between c.loop-rest.number (named_by c.loop-rest.named))
    (subst (IsReadSoFar (report_form c.args.net.now) report_start c.args.text.now (lines_told c.loop-rest.paths.items)
    (between c.loop-rest.number (named_by c.loop-rest.named)))
    (none_left _ _ c.is_empty.ensures c.loop-rest-test.false) c.loop-rest.invariant.read) refl
