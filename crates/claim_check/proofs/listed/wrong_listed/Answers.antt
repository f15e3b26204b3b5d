-- What differs is told.
use Rattle.std.proofs.Common.{◌≡◌, ◌+◌, length, refl, sym, ap, subst, ◌∙◌}
use Rattle.std.proofs.lemmas.Bool.{false≢true}
use Rattle.std.proofs.lemmas.Option.{slice_get_read}
use Rattle.pd_base.specs.Route.{Route}
use Rattle.delay_annotation.specs.Annotation.{delays_of}
use Rattle.netlist.specs.Paths.{length_of}
use Rattle.good_runs.specs.Faults.{IsNumber}
use Rattle.good_runs.proofs.Numbers.{number_of_place, number_same}
use Rattle.claim_check.proofs.Listing.{length_wrong, listed_right, path_wrong}
use Rattle.claim_check.proofs.listed.wrong_listed.Goals as goal

pub returns-then-not-is_same_path : goal.returns-then-not-is_same_path
returns-then-not-is_same_path c =
    let first = c.args.first.now in
    let row = c.args.row in
    let path = c.index-first-row.result in
    let there = slice_get_read first (length first) row path refl c.requires.row c.index-first-row.is in
    path_wrong (delays_of c.args.net.now c.args.delays.now) first (row + 1) c.args.listed.now
    (λ is.
    false≢true (sym c.if-not-is_same_path.true
    ∙ c.is_same_path.ensures.1 (number_same first (row + 1) path c.args.listed.now.path (number_of_place first row path there) is)))

pub returns-then-listed-length : goal.returns-then-listed-length
returns-then-listed-length c =
    let first = c.args.first.now in
    let row = c.args.row in
    let path = c.index-first-row.result in
    let delays = delays_of c.args.net.now c.args.delays.now in
    let there = slice_get_read first (length first) row path refl c.requires.row c.index-first-row.is in
    let same : path ≡ c.args.listed.now.path = c.is_same_path.ensures.0 c.if-not-is_same_path.false in
    length_wrong delays first (row + 1) c.args.listed.now
    (subst (λ (route : Route). IsNumber first (row + 1) route) same (number_of_place first row path there))
    (λ long. c.if-listed-length.true (long ∙ ap (length_of delays) (sym same) ∙ sym c.length.ensures))

pub returns : goal.returns
returns c =
    let first = c.args.first.now in
    let row = c.args.row in
    let path = c.index-first-row.result in
    let delays = delays_of c.args.net.now c.args.delays.now in
    let there = slice_get_read first (length first) row path refl c.requires.row c.index-first-row.is in
    let same : path ≡ c.args.listed.now.path = c.is_same_path.ensures.0 c.if-not-is_same_path.false in
    listed_right delays first (row + 1) c.args.listed.now
    (subst (λ (route : Route). IsNumber first (row + 1) route) same (number_of_place first row path there))
    (c.if-listed-length.false ∙ c.length.ensures ∙ ap (length_of delays) same)
