-- A dash is no steps; else a word is a step, or the words are no steps.
use Rattle.std.proofs.Common.{◌≡◌, ◌≢◌, ◌++◌, ◌∷◌, [], Some, None, true≢false, sym, ◌∙◌, arith}
use Rattle.std.specs.Cmp.Lexicographic.{bytes_decides}
use Rattle.netlist.specs.Pins.{IsPin}
use Rattle.text_pieces.specs.Cuts.{words_left, words_of}
use Rattle.text_pieces.proofs.Listing.{all_listed, none_listed, not_listed, one_more}
use Rattle.run_files.specs.ReportText.{nothing, step_text}
use Rattle.run_files.proofs.ReportSteps.{no_steps_read, steps_read}
use Rattle.run_files.proofs.report_paths.read_steps.Goals as goal

pub returns-then-eq : goal.returns-then-eq
returns-then-eq c =
    let same : c.args.field.now ≡ nothing =
    (bytes_decides c.args.field.now c.as_slice.result.now).0 (sym c.eq.ensures ∙ c.if-eq.true) ∙ c.as_slice.ensures in
    rw c.new-steps.ensures.items (no_steps_read c.args.net.now c.sources.ensures.circuit c.args.field.now same)

pub loop-word-init : goal.loop-word-init
loop-word-init c = record {
  listed = rw c.new-steps.ensures.items (none_listed (step_text c.args.net.now) (IsPin c.args.net.now) (words_of c.args.field.now));
  there = omega arith;
}

pub returns-in_default-read_step : goal.returns-in_default-read_step
returns-in_default-read_step c =
    let some : c.args.field.now ≢ nothing =
    λ same. true≢false
    (sym ((bytes_decides c.args.field.now c.as_slice.result.now).1 (same ∙ sym c.as_slice.ensures)) ∙ sym c.eq.ensures ∙ c.if-eq.false) in
    steps_read c.args.net.now c.sources.ensures.circuit c.args.field.now some None
    (not_listed (step_text c.args.net.now) (IsPin c.args.net.now) (words_of c.args.field.now) c.loop-word.steps.items (words_left c.loop-word.rest)
    c.in-Some.word.now (words_left c.in-Some.behind) c.loop-word.invariant.listed c.in-Some.ensures c.in_default-read_step.ensures)

pub loop-word-preserved : goal.loop-word-preserved
loop-word-preserved c =
    let pushed : c.push.new.self.items ≡ c.loop-word.steps.items ++ c.in-Some-read_step.step ∷ [] = c.in_ok-push.ensures.items in
    record {
      listed =
          rw pushed
          (one_more (step_text c.args.net.now) (IsPin c.args.net.now) (words_of c.args.field.now) c.loop-word.steps.items
          (words_left c.loop-word.rest) c.in-Some-read_step.step c.in-Some.word.now (words_left c.in-Some.behind)
          c.loop-word.invariant.listed c.in-Some.ensures c.in-Some-read_step.ensures);
      there = c.line_of-line.ensures.in_circuit;
    }

pub returns : goal.returns
returns c =
    let some : c.args.field.now ≢ nothing =
    λ same. true≢false
    (sym ((bytes_decides c.args.field.now c.as_slice.result.now).1 (same ∙ sym c.as_slice.ensures)) ∙ sym c.eq.ensures ∙ c.if-eq.false) in
    steps_read c.args.net.now c.sources.ensures.circuit c.args.field.now some (Some c.loop-word.steps.items)
    (all_listed (step_text c.args.net.now) (IsPin c.args.net.now) (words_of c.args.field.now) c.loop-word.steps.items (words_left c.loop-word.rest)
    c.loop-word.invariant.listed c.in_default.ensures)
