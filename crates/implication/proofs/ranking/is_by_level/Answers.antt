-- Each line is on no lower level than those before it, or they do not stand by level.
use Rattle.std.proofs.Common.{refl, sym, subst, get_or, ◌+◌, arith}
use Rattle.std.proofs.lemmas.Bool.{false≢true}
use Rattle.implication.proofs.ByLevel.{AreRising, rising_none, rising_more, rising_all, falls_here}
use Rattle.implication.proofs.ranking.is_by_level.Goals as goal

pub loop-line-init : goal.loop-line-init
loop-line-init c = rising_none c.args.net.now c.args.lines.now

pub loop-line-preserved : goal.loop-line-preserved
loop-line-preserved c =
    let net = c.args.net.now in let lines = c.args.lines.now in let index = c.loop-line.line-index in
    subst (AreRising net lines (index + 1)) (sym c.level-level.ensures)
    (rising_more net lines index c.loop-line.highest c.loop-line.invariant c.loop-line-test.true (get_or lines index (record { 0 = 0 })) refl
    (omega (arith, c.if-level-highest.false, c.level-level.ensures)))

pub returns-then-level-highest : goal.returns-then-level-highest
returns-then-level-highest c =
    let net = c.args.net.now in let lines = c.args.lines.now in let index = c.loop-line.line-index in (
      (λ is. absurd (false≢true is)),
      λ by_level. absurd (falls_here net lines index c.loop-line.highest c.loop-line.invariant c.loop-line-test.true
          (get_or lines index (record { 0 = 0 })) refl (omega (arith, c.if-level-highest.true, c.level-level.ensures)) by_level),
    )

pub returns : goal.returns
returns c = (
  (λ is. rising_all c.args.net.now c.args.lines.now c.loop-line.line-index c.loop-line.highest c.loop-line.invariant c.loop-line-test.false),
  λ by_level. refl,
)
