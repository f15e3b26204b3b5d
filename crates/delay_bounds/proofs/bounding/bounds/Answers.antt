-- The words and the earliest passes tell the bounds.
use Rattle.std.proofs.Common.{◌≡◌, ℕ, ◌*◌, List, length, Option, ap, sym, subst, ◌∙◌}
use Rattle.std.proofs.lemmas.List.Elements.{All-weaker}
use Rattle.netlist.specs.Paths.{IsPath, IsPrefix}
use Rattle.runs.specs.declared.run.ListedPath.{ListedPath}
use Rattle.test_grade.specs.Compact.{HasWords}
use Rattle.delay_bounds.specs.Inside.Earliest.{AreLeast}
use Rattle.delay_bounds.proofs.Shown.{bounds_told}
use Rattle.delay_bounds.proofs.bounding.bounds.Goals as goal

pub grade-requires-clause-paths : goal.grade-requires-clause-paths
grade-requires-clause-paths c =
    let net = c.args.net.now in
    All-weaker (λ (l : ListedPath). IsPath net l.path) (λ (l : ListedPath). IsPrefix net l.path) (λ l path. path.prefix) c.args.paths.now
    c.requires.paths

pub least_times-requires : goal.least_times-requires
least_times-requires c =
    let faults = 2 * length c.args.paths.now in
    let count : length c.args.tests.now ≡ length c.as_slice-2.result.now =
    sym c.in_ok-times.ensures.count ∙ sym (ap (λ (l : List (Option ℕ)). length l) c.as_slice-2.ensures.value) in
    subst (λ (w : List ℕ). HasWords w (length c.as_slice-2.result.now) faults) (sym c.as_slice.ensures.value)
    (subst (λ n. HasWords c.in_ok-words.words.items n faults) count c.in_ok-words.ensures.places)

pub returns : goal.returns
returns c =
    let net = c.args.net.now in
    let paths = c.args.paths.now in
    let tests = c.args.tests.now in
    let log = c.args.log.now in
    let faults = 2 * length paths in
    let times = c.in_ok-times.times.items in
    let least : AreLeast c.in_ok-words.words.items faults times faults c.in_ok-least.least.items =
    subst (λ (w : List ℕ). AreLeast w faults times faults c.in_ok-least.least.items) c.as_slice.ensures.value
    (subst (λ (t : List (Option ℕ)). AreLeast c.as_slice.result.now faults t faults c.in_ok-least.least.items) c.as_slice-2.ensures.value
    c.in_ok-least.ensures) in
    bounds_told net c.lines.ensures.circuit tests log paths c.in_ok-words.words.items c.in_ok-words.ensures.tells times
    c.in_ok-times.ensures.count c.in_ok-times.ensures.earliest c.in_ok-least.least.items c.requires.paths least
