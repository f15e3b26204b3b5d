-- A line that stands nowhere behind its place differs from all behind it.
use Rattle.std.proofs.Common.{◌<◌, ◌+◌, ◌-◌, List, length, drop, get_or, sym, ◌∙◌, subst, arith}
use Rattle.std.specs.List.{Contains}
use Rattle.std.proofs.lemmas.Bool.{false≢true}
use Rattle.std.proofs.lemmas.List.{length-drop, take_all}
use Rattle.std.proofs.lemmas.Option.{slice_get-get_or}
use Rattle.pd_base.specs.declared.ids.LineId.{LineId}
use Rattle.hulls.proofs.Differing.{differ_more, all_differ}
use Rattle.hulls.proofs.settling.does_each_differ.Goals as goal

pub loop-place-preserved : goal.loop-place-preserved
loop-place-preserved c =
    let lines = c.args.lines.now in let place = c.loop-place.place in let none : LineId = record { 0 = 0 } in
    let inside : place < length lines = omega (arith, c.loop-place-test.true) in
    differ_more lines place (get_or lines place none) (slice_get-get_or lines place none inside)
    (λ stands. false≢true (sym c.if-stands_among.false ∙ c.stands_among.ensures.1 (subst (λ (ls : List LineId). Contains ls (get_or lines place none))
    (sym (take_all (length lines - (place + 1)) (drop (place + 1) lines) (let l = length-drop (place + 1) lines in omega arith))) stands)))
    c.loop-place.invariant

pub returns : goal.returns
returns c differ = all_differ c.args.lines.now c.loop-place.place (omega (arith, c.loop-place-test.false)) c.loop-place.invariant
