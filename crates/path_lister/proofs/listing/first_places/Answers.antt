-- The places so far are those of the first walks.
use Rattle.std.proofs.Common.{◌≡◌, ◌+◌, ◌<◌, ℕ, List, [], inl, inr, length, ap, sym, subst, ◌∙◌, arith}
use Rattle.path_laws.specs.Listed.{AreRootPlaces}
use Rattle.path_laws.proofs.FirstWalks.{begun_listed, listed_more, more_long}
use Rattle.path_lister.proofs.listing.first_places.Goals as goal

pub loop-listed-init : goal.loop-listed-init
loop-listed-init c = record {
  listed =
      subst (λ (places : List ℕ). AreRootPlaces c.args.graph.now c.args.lists.now places c.last-next.result)
      (sym c.new-places.ensures.items)
      (subst (λ (next : ℕ). AreRootPlaces c.args.graph.now c.args.lists.now [] next) (sym c.last-next.ensures)
      (begun_listed c.args.graph.now c.requires.graph c.args.lists.now c.requires.begun));
  so_many = ap length c.new-places.ensures.items;
}

pub loop-listed-preserved : goal.loop-listed-preserved
loop-listed-preserved c = record {
  listed =
      subst (λ (places : List ℕ). AreRootPlaces c.args.graph.now c.next_place.new.lists places c.in_ok-next.next)
      (sym c.in_ok-push.ensures.items)
      (listed_more c.args.graph.now c.loop-listed.lists c.next_place.new.lists c.loop-listed.places.items c.loop-listed.next
      c.in_ok-next.next c.loop-listed.invariant.listed c.if-next.false c.in_ok-next.ensures.grown c.in_ok-next.ensures.going);
  so_many =
      let e = ap length c.in_ok-push.ensures.items in
      let m = more_long c.args.graph.now c.loop-listed.lists c.next_place.new.lists c.loop-listed.places.items
      c.loop-listed.next
      c.in_ok-next.next c.loop-listed.invariant.listed c.if-next.false c.in_ok-next.ensures.grown in
      let n = c.loop-listed.invariant.so_many in e ∙ m ∙ ap (λ (k : ℕ). k + 1) n;
}

pub returns-then-next : goal.returns-then-next
returns-then-next c = record {
  next = c.loop-listed.next;
  listed = c.loop-listed.invariant.listed;
  full = inr (
    c.if-next.true,
    (let n = c.loop-listed.invariant.so_many in
        let few : length c.loop-listed.places.items < c.args.count = omega (arith, n, c.loop-listed-test.true) in few),
  );
}

pub returns : goal.returns
returns c = record {
  next = c.loop-listed.next;
  listed = c.loop-listed.invariant.listed;
  full = inl (let n = c.loop-listed.invariant.so_many in
      let many : length c.loop-listed.places.items ≡ c.args.count =
      omega (arith, n, c.loop-listed-test.false, c.loop-listed.auto._listed-end) in many);
}
