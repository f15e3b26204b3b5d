-- The number of each source is pushed, and after the sort each stands once.
use Rattle.std.proofs.Common.{get_or, refl, sym, subst, ◌+◌, ◌∙◌, arith}
use Rattle.std.specs.List.{Contains}
use Rattle.std.proofs.lemmas.List.Filters.{dedup_is}
use Rattle.cones.proofs.Finding.{line_of}
use Rattle.cones.proofs.Spreading.{no_line}
use Rattle.cones.proofs.Numbers.{SourceKey, AreCollected, sorted_once, collected_none, collected_more, collected_same, collected_all}
use Rattle.cones.proofs.cone_lists.number_sources.Goals as goal
use Rattle.cones.proofs.cone_lists.number_sources.Goals.{then-line-sources, else-line-sources}

pub loop-line-init : goal.loop-line-init
loop-line-init c = record {
  capacity = refl;
  collected = subst (AreCollected (SourceKey c.args.sources) c.args.lines.now 0) (sym c.clear.ensures.items)
      (collected_none (SourceKey c.args.sources) c.args.lines.now);
}

pub push_reserved-requires : goal.push_reserved-requires
push_reserved-requires c =
    omega (arith, c.loop-line.numbers.ok.0, c.loop-line.invariant.collected.few, c.loop-line.invariant.capacity, c.clear.ensures.capacity, c.requires.room, c.loop-line-test.true)

pub loop-line-preserved : goal.loop-line-preserved
loop-line-preserved c =
    let Key = SourceKey c.args.sources in
    let lines = c.args.lines.now in
    let place = c.loop-line.line-index in
    let numbers = c.loop-line.numbers.items in
    let number = (get_or lines place no_line).0 in
    elim c.if-line-sources.branch [
      | then-line-sources w ↦ rw w.numbers-is (record {
        capacity = w.push_reserved.ensures.capacity ∙ c.loop-line.invariant.capacity;
        collected = subst (AreCollected (SourceKey c.args.sources) lines (place + 1)) (sym w.push_reserved.ensures.items)
            (collected_more (SourceKey c.args.sources) lines place numbers number (w.if-line-sources.true, refl) (λ other key. key.1)
            c.loop-line.invariant.collected);
      })
      | else-line-sources w ↦ rw w.numbers-is (record {
        capacity = c.loop-line.invariant.capacity;
        collected = collected_same (SourceKey c.args.sources) lines place numbers
            (λ other key. let a = key.0 in let b = key.1 in let d = w.if-line-sources.false in omega arith)
            c.loop-line.invariant.collected;
      })
    ]

pub returns : goal.returns
returns c =
    let sorted = sorted_once c.loop-line.numbers.items c.sort_unstable.new.self.items c.dedup.new.self.items
    c.sort_unstable.ensures.permutation c.sort_unstable.ensures.sorted (dedup_is _ _ _ c.dedup.ensures.filtered) in
    let all = collected_all (SourceKey c.args.sources) c.args.lines.now c.loop-line.line-index c.loop-line.numbers.items
    c.loop-line-test.false c.loop-line.auto.line-index-end c.loop-line.invariant.collected in
    record {
      capacity = c.dedup.ensures.capacity ∙ c.sort_unstable.ensures.capacity ∙ c.loop-line.invariant.capacity ∙ c.clear.ensures.capacity;
      few = omega (
        arith,
        c.dedup.ensures.bound,
        c.dedup.new.self.ok.0,
        c.sort_unstable.new.self.ok.0,
        c.sort_unstable.ensures.len,
        c.loop-line.numbers.ok.0,
        c.loop-line.invariant.collected.few,
        c.loop-line.auto.line-index-end,
      );
      rising = sorted.rising;
      exactly = λ source. (
        λ has.
            let some = (all source).0 ((sorted.same source).0 has) in
            (some.2.0, subst (Contains c.args.lines.now) (line_of some.0 source some.2.1) some.1),
        λ both. (sorted.same source).1 ((all source).1 (record { 0 = source }, both.1, (both.0, refl))),
      );
    }
