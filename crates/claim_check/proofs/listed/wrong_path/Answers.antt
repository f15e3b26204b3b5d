-- Row by row.
use Rattle.std.proofs.Common.{length, refl, arith}
use Rattle.std.specs.Prelude.{None, Some}
use Rattle.std.proofs.lemmas.Option.{slice_get_read}
use Rattle.delay_annotation.specs.Annotation.{delays_of}
use Rattle.good_runs.proofs.Numbers.{number_within}
use Rattle.claim_check.specs.Right.{IsRightPathAt}
use Rattle.claim_check.proofs.Listing.{no_paths_yet, path_told}
use Rattle.claim_check.proofs.Telling.{first_at, paths_only, right_more}
use Rattle.claim_check.proofs.listed.wrong_path.Goals as goal

pub loop-row-init : goal.loop-row-init
loop-row-init c = no_paths_yet (delays_of c.args.net.now c.args.delays.now) c.args.first.now c.args.paths.now

pub returns-in-Some : goal.returns-in-Some
returns-in-Some c =
    let delays = delays_of c.args.net.now c.args.delays.now in
    let first = c.args.first.now in
    let paths = c.args.paths.now in
    let row = c.loop-row.row in
    let there = slice_get_read paths (length paths) row c.index-paths-row.result refl (omega arith) c.index-paths-row.is in
    first_at (IsRightPathAt delays first paths) 2 (paths_only delays first paths) row c.in-Some.reason c.loop-row.invariant
    (path_told delays first paths row c.index-paths-row.result there (Some c.in-Some.reason) c.in-Some.ensures)

pub loop-row-preserved : goal.loop-row-preserved
loop-row-preserved c =
    let delays = delays_of c.args.net.now c.args.delays.now in
    let first = c.args.first.now in
    let paths = c.args.paths.now in
    let row = c.loop-row.row in
    let there = slice_get_read paths (length paths) row c.index-paths-row.result refl (omega arith) c.index-paths-row.is in
    right_more (IsRightPathAt delays first paths) row c.loop-row.invariant
    (path_told delays first paths row c.index-paths-row.result there None c.in_default.ensures)

pub returns : goal.returns
returns c = λ item reason listed is.
    c.loop-row.invariant item reason (let few = number_within c.args.paths.now item listed is in omega arith) listed is
