-- None is marked at first, and then each as it has to be.
use Rattle.std.proofs.Common.{ℕ, length, replicate, sym, ap, subst, ◌∙◌, arith}
use Rattle.std.specs.Prelude.{Option, None}
use Rattle.std.proofs.lemmas.List.{length-replicate, with_items_is}
use Rattle.claim_check.specs.Prefixes.{AreLeastMarks}
use Rattle.claim_check.proofs.applying.marks_of.Goals as goal

pub mark_refutations-requires-clause-none : goal.mark_refutations-requires-clause-none
mark_refutations-requires-clause-none c =
    let none : Option ℕ = None in
    c.as_mut_slice.ensures.value ∙ c.in_ok-marks.ensures ∙ ap (λ n. replicate n none) c.count.ensures

pub returns : goal.returns
returns c =
    let prefixes = c.args.prefixes.now in
    let none : Option ℕ = None in
    let count = ap length c.in_ok-marks.ensures ∙ length-replicate c.count.result none ∙ c.count.ensures in
    let marks = with_items_is c.in_ok-marks.marks c.mark_refutations.new.marks
    (omega (arith, c.mark_refutations.ensures.one_each, count, c.in_ok-marks.marks.ok.0)) in
    subst (AreLeastMarks prefixes c.args.proofs.now c.args.kind c.args.direction) (sym marks) c.mark_refutations.ensures
