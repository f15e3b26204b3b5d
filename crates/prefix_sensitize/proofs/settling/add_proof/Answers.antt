-- Each turn writes the outcome of one row more.
use Rattle.std.proofs.Common.{◌≡◌, ℕ, ◌<◌, length, get_or, Some, refl, subst, ◌∙◌, arith}
use Rattle.std.specs.Prelude.{slice_get}
use Rattle.std.proofs.lemmas.Option.{slice_get-get_or}
use Rattle.prefix_sensitize.specs.declared.outcome.RowOutcome.TheVariants.{Proved}
use Rattle.prefix_sensitize.specs.Settling.{HaveOutcome}
use Rattle.prefix_sensitize.proofs.SettledRows.{settled_more}
use Rattle.prefix_sensitize.proofs.settling.add_proof.Goals as goal

pub loop-at-preserved : goal.loop-at-preserved
loop-at-preserved c =
    let order = c.args.order.now in
    let at = c.loop-at.at in
    let end = c.requires.end in
    let before : at < length order = omega (arith, end, c.loop-at-test.true) in
    let here : slice_get order at ≡ Some (get_or order at 0) = slice_get-get_or order at 0 before in
    let row : get_or order at 0 < length c.args.found.now.outcomes.items = c.requires.rows at 0 before in
    let one_each = c.loop-at.invariant.rows.one_each in
    let low = c.loop-at.auto.at in
    record {
      rows =
          settled_more order c.args.place at (get_or order at 0) (Proved c.len-index.result) c.args.found.now.outcomes.items c.loop-at.found.outcomes.items
          c.loop-at.invariant.rows (omega (arith, low)) here (omega (arith, row, one_each));
      proofs = c.loop-at.invariant.proofs;
    }

pub returns : goal.returns
returns c =
    let low = c.loop-at.auto.at-end in
    let places = c.requires.places in
    let end : c.loop-at.at ≡ c.args.end = omega (arith, low, places, c.loop-at-test.false) in
    let many : c.len-index.result ≡ length c.args.found.now.proofs.items = omega arith in
    let P : ℕ → Type 0 =
    λ n. HaveOutcome c.args.order.now c.args.place n (Proved (length c.args.found.now.proofs.items)) c.args.found.now.outcomes.items c.loop-at.found.outcomes.items in
    let Q : ℕ → Type 0 =
    λ n. HaveOutcome c.args.order.now c.args.place c.loop-at.at (Proved n) c.args.found.now.outcomes.items c.loop-at.found.outcomes.items in (
      refl,
      record {
        added = c.loop-at.invariant.proofs ∙ c.in_ok-push.ensures.items;
        rows = subst P end (subst Q many c.loop-at.invariant.rows);
      },
    )
