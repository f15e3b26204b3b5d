use Rattle.std.proofs.Common.{◌≡◌, ◌+◌, ◌-◌, ℕ, drop, subst, arith}
use Rattle.std.proofs.lemmas.List.{take_rest}
use Rattle.text_pieces.specs.Cuts.{Lacks}
use Rattle.text_pieces.proofs.Ends.{cut_at_last, no_last}
use Rattle.text_pieces.proofs.cutting.cut_last.Goals as goal

pub returns-then-text-end : goal.returns-then-text-end
returns-then-text-end c =
    let again : c.loop-end.end ≡ c.loop-end.end - 1 + 1 = omega arith in
    rw take_rest
    (cut_at_last c.args.byte c.args.text.now (c.loop-end.end - 1) (omega arith) c.if-text-end.true
    (subst (λ (n : ℕ). Lacks c.args.byte (drop n c.args.text.now)) again c.loop-end.invariant.lacks))

pub returns : goal.returns
returns c =
    let none : c.loop-end.end ≡ 0 = omega arith in
    no_last c.args.byte c.args.text.now (subst (λ (n : ℕ). Lacks c.args.byte (drop n c.args.text.now)) none c.loop-end.invariant.lacks)
