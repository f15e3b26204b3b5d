-- A gate gets its level: it is on the list, so that it waits for none, and its line's fan-out is that of the netlist.
use Rattle.std.proofs.Common.{◌≡◌, ◌+◌, ◌<◌, ◌≤◌, [], length, get_or, set, slice_index, ap, refl, sym, subst, ◌∙◌, arith, slice_index_or, sum}
use Rattle.std.proofs.lemmas.List.{get_or_read, with_items_is}
use Rattle.netlist.specs.Greatest.{greatest}
use Rattle.net_builder.specs.Progress.{AreReleased, IsProgress, levels_at}
use Rattle.net_builder.specs.Wiring.{times_named}
use Rattle.net_builder.proofs.Placing.{enough_wait, next_fits, own_known, own_within, passed_over, placed_one}
use Rattle.net_builder.proofs.progress.Progress.place.Goals as goal

pub overflow_add-below : goal.overflow_add-below
overflow_add-below c =
    let self = c.args.self.now in
    let top : c.highest-below.result ≡ greatest (levels_at self.levels.items (slice_index_or c.args.pins.now c.args.gate.0 [])) =
    c.highest-below.ensures ∙ (λ i. greatest (levels_at (c.as_slice.ensures.value i) (c.list.ensures i))) in
    omega (arith, top, next_fits _ _ _ _ _ _ c.requires.progress, c.requires.fits.few_lines)

pub index_mut-requires : goal.index_mut-requires
index_mut-requires c =
    let within = own_within _ _ _ _ _ _ c.requires.progress in
    omega (arith, within, c.args.self.now.levels.ok.0)

pub list-requires-then-index-eq0 : goal.list-requires-then-index-eq0
list-requires-then-index-eq0 c = omega (arith, own_known _ _ _ _ _ _ c.requires.progress, c.requires.readers.one_each)

pub release-requires-clause-in_range : goal.release-requires-clause-in_range
release-requires-clause-in_range c =
    let line = c.args.sources + c.args.gate.0 in
    let within : line < length c.args.fanouts.now =
    omega (arith, own_known _ _ _ _ _ _ c.requires.progress, c.requires.readers.one_each) in
    let readers = c.list-then-index-eq0.result.now in
    let own = c.list-then-index-eq0.ensures in
    let long : length c.args.pins.now ≡ length c.as_mut_slice.result.now =
    omega (arith, ap length c.as_mut_slice.ensures.value, c.requires.progress.wait_each) in
    let all = c.requires.readers.gates line [] within in
    λ k d low.
    subst (λ n. (get_or readers k d).gate.0 < n) long
    (subst (λ l. (get_or l k d).gate.0 < length c.args.pins.now) (sym own) (all k d (omega (arith, ap length own))))

pub release-requires-clause-waiting : goal.release-requires-clause-waiting
release-requires-clause-waiting c =
    let self = c.args.self.now in
    let line = c.args.sources + c.args.gate.0 in
    let none = sym (get_or_read self.levels.items line c.index.result.now (own_within _ _ _ _ _ _ c.requires.progress)
    c.index.ensures 0) ∙ c.if-index-eq0.true in
    let enough = enough_wait _ _ _ _ _ _ c.requires.progress _ refl _ c.requires.readers none in
    λ gate low.
    subst (λ w. times_named gate c.list-then-index-eq0.result.now ≤ slice_index w gate) (sym c.as_mut_slice.ensures.value)
    (subst (λ l. times_named gate l ≤ slice_index self.waits.items gate) (sym c.list-then-index-eq0.ensures)
    (enough gate (omega (arith, ap length c.as_mut_slice.ensures.value))))

pub returns-in_ok-release-clause-progress : goal.returns-in_ok-release-clause-progress
returns-in_ok-release-clause-progress c =
    let self = c.args.self.now in
    let gates = c.args.pins.now in
    let line = c.args.sources + c.args.gate.0 in
    let top : c.highest-below.result ≡ greatest (levels_at self.levels.items (slice_index_or gates c.args.gate.0 [])) =
    c.highest-below.ensures ∙ (λ i. greatest (levels_at (c.as_slice.ensures.value i) (c.list.ensures i))) in
    let none = sym (get_or_read self.levels.items line c.index.result.now (own_within _ _ _ _ _ _ c.requires.progress)
    c.index.ensures 0) ∙ c.if-index-eq0.true in
    let left = c.release.new.waits in
    let ready = c.release.new.ready.items in
    let released : AreReleased (slice_index_or c.args.fanouts.now line []) self.waits.items self.ready.items left ready =
    subst (λ l. AreReleased l self.waits.items self.ready.items left ready) c.list-then-index-eq0.ensures
    (subst (λ w. AreReleased c.list-then-index-eq0.result.now w self.ready.items left ready)
    c.as_mut_slice.ensures.value c.in_ok-release.ensures) in
    let placed = placed_one _ _ _ _ _ _ c.requires.progress _ refl _ c.requires.readers none
    (c.highest-below.result + 1) (omega (arith, top)) left ready released in
    subst (λ w. IsProgress c.args.sources gates (set self.levels.items line (c.highest-below.result + 1)) w ready)
    (sym (with_items_is self.waits left (omega (arith, released.wait_each, self.waits.ok.0)))) placed

pub returns-else-index-eq0-clause-progress : goal.returns-else-index-eq0-clause-progress
returns-else-index-eq0-clause-progress c =
    let self = c.args.self.now in
    let here = get_or_read self.levels.items (c.args.sources + c.args.gate.0) c.index.result.now
    (own_within _ _ _ _ _ _ c.requires.progress) c.index.ensures 0 in
    passed_over _ _ _ _ _ _ c.requires.progress (λ none. c.if-index-eq0.false (here ∙ none))

pub returns-in_ok-release-clause-less_work : goal.returns-in_ok-release-clause-less_work
returns-in_ok-release-clause-less_work c =
    let self = c.args.self.now in
    let left = c.release.new.waits in
    let released : AreReleased c.list-then-index-eq0.result.now self.waits.items self.ready.items left c.release.new.ready.items =
    subst (λ w. AreReleased c.list-then-index-eq0.result.now w self.ready.items left c.release.new.ready.items)
    c.as_mut_slice.ensures.value c.in_ok-release.ensures in
    omega (
      arith,
      released.less_work,
      ap sum (with_items_is self.waits left (omega (arith, released.wait_each, self.waits.ok.0))),
    )
