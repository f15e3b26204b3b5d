-- The order of listing as a comparison: by lengths, the greater first, then by sources, then by steps. It answers what the
-- order says.
use Rattle.std.proofs.Common.{◌≡◌, ℕ, ◌<◌, ◌↔◌, List, [], ◌∷◌, nat_lt, refl, sym, ap, subst, ◌∙◌}
use Rattle.std.specs.declared.cmp.Ordering.{Ordering}
use Rattle.std.specs.declared.cmp.Ordering.TheVariants.{Less, Equal, Greater}
use Rattle.std.specs.Ordering.{MatchOrdering, nat_cmp, ordering_then, ordering_reverse}
use Rattle.std.specs.Cmp.{IsTotalOrder}
use Rattle.std.specs.Cmp.Lexicographic.{slice_cmp}
use Rattle.std.proofs.lemmas.Cmp.{ranked, nat_cmp_total, on_total, then_total, back_total, lists_total, tied_itself}
use Rattle.std.proofs.lemmas.Bool.{lt-ltb, cond-true}
use Rattle.pd_base.specs.declared.ids.PinRef.{PinRef}
use Rattle.pd_base.specs.Route.{Route}
use Rattle.netlist.specs.Pins.{IsPinBefore}
use Rattle.netlist.specs.Pins.IsPinBefore.{lesser_gate, lesser_pin}
use Rattle.netlist.specs.Waves.{Delays}
use Rattle.netlist.specs.Paths.{length_of}
use Rattle.netlist.specs.Order.{AreStepsBefore, IsBefore}
use Rattle.netlist.specs.Order.AreStepsBefore.{shorter_list, lesser_step, same_step}
use Rattle.netlist.specs.Order.IsBefore.{longer, lesser_source, lesser_steps}

-- pins are compared by their gates, and then by their numbers
abbrev pub pin_cmp : PinRef → PinRef → Ordering
pin_cmp a b = ordering_then (nat_cmp a.gate.0 b.gate.0) (nat_cmp a.pin b.pin)

-- routes by their lengths, the greater first, then by their sources, and then by their steps
abbrev pub route_cmp : Delays → Route → Route → Ordering
route_cmp delays p q =
    ordering_then
    (ordering_then (nat_cmp (length_of delays q) (length_of delays p)) (nat_cmp p.source.0 q.source.0))
    (slice_cmp pin_cmp p.steps q.steps)

-- what an answer of a comparison of two numbers says
abbrev IsRanked : Ordering → ℕ → ℕ → Type 0
IsRanked answer x y = MatchOrdering answer (x < y) (x ≡ y) (y < x)

-- what the answers for gates and numbers say of pins
pins_by : (a b : PinRef) (gates pins : Ordering) → IsRanked gates a.gate.0 b.gate.0 → IsRanked pins a.pin b.pin
    → MatchOrdering (ordering_then gates pins) (IsPinBefore a b) (a ≡ b) (IsPinBefore b a)
pins_by a b Less pins gate pin = lesser_gate gate
pins_by a b Equal Less gate pin = lesser_pin (λ i. record { 0 = gate i }) pin
pins_by a b Equal Equal gate pin = λ i. record { gate = record { 0 = gate i }; pin = pin i }
pins_by a b Equal Greater gate pin = lesser_pin (λ i. record { 0 = sym gate i }) pin
pins_by a b Greater pins gate pin = lesser_gate gate

-- what the answer for two pins says
pin_ranked : (a b : PinRef) → MatchOrdering (pin_cmp a b) (IsPinBefore a b) (a ≡ b) (IsPinBefore b a)
pin_ranked a b =
    pins_by a b (nat_cmp a.gate.0 b.gate.0) (nat_cmp a.pin b.pin) (ranked a.gate.0 b.gate.0 _ refl) (ranked a.pin b.pin _ refl)

-- what the answers for the first pins and for the others say of lists of steps
steps_by : (a b : PinRef) (rest more : List PinRef) (first others : Ordering)
    → MatchOrdering first (IsPinBefore a b) (a ≡ b) (IsPinBefore b a)
    → MatchOrdering others (AreStepsBefore rest more) (rest ≡ more) (AreStepsBefore more rest)
    → MatchOrdering (ordering_then first others)
    (AreStepsBefore (a ∷ rest) (b ∷ more)) (a ∷ rest ≡ b ∷ more) (AreStepsBefore (b ∷ more) (a ∷ rest))
steps_by a b rest more Less others pin steps = lesser_step pin
steps_by a b rest more Equal Less pin steps = same_step pin steps
steps_by a b rest more Equal Equal pin steps = λ i. pin i ∷ steps i
steps_by a b rest more Equal Greater pin steps = same_step (sym pin) steps
steps_by a b rest more Greater others pin steps = lesser_step pin

-- what the answer for two lists of steps says
steps_ranked : (p q : List PinRef)
    → MatchOrdering (slice_cmp pin_cmp p q) (AreStepsBefore p q) (p ≡ q) (AreStepsBefore q p)
steps_ranked [] [] = refl
steps_ranked [] (b ∷ more) = shorter_list
steps_ranked (a ∷ rest) [] = shorter_list
steps_ranked (a ∷ rest) (b ∷ more) =
    steps_by a b rest more (pin_cmp a b) (slice_cmp pin_cmp rest more) (pin_ranked a b) (steps_ranked rest more)

module _ (delays : Delays) where
  -- what the answers for lengths, sources and steps say of routes
  routes_by : (p q : Route) (lengths sources steps : Ordering) → IsRanked lengths (length_of delays q) (length_of delays p)
      → IsRanked sources p.source.0 q.source.0
      → MatchOrdering steps (AreStepsBefore p.steps q.steps) (p.steps ≡ q.steps) (AreStepsBefore q.steps p.steps)
      → MatchOrdering (ordering_then (ordering_then lengths sources) steps) (IsBefore delays p q) (p ≡ q) (IsBefore delays q p)
  routes_by p q Less sources steps length source step = longer length
  routes_by p q Equal Less steps length source step = lesser_source (sym length) source
  routes_by p q Equal Equal Less length source step = lesser_steps (sym length) (λ i. record { 0 = source i }) step
  routes_by p q Equal Equal Equal length source step = λ i. record { source = record { 0 = source i }; steps = step i }
  routes_by p q Equal Equal Greater length source step = lesser_steps length (λ i. record { 0 = sym source i }) step
  routes_by p q Equal Greater steps length source step = lesser_source length source
  routes_by p q Greater sources steps length source step = longer length

  -- what the answer for two routes says
  route_ranked : (p q : Route) → MatchOrdering (route_cmp delays p q) (IsBefore delays p q) (p ≡ q) (IsBefore delays q p)
  route_ranked p q =
      routes_by p q (nat_cmp (length_of delays q) (length_of delays p)) (nat_cmp p.source.0 q.source.0)
      (slice_cmp pin_cmp p.steps q.steps) (ranked (length_of delays q) (length_of delays p) _ refl)
      (ranked p.source.0 q.source.0 _ refl) (steps_ranked p.steps q.steps)

-- the lesser number stands first
nat_less : (x y : ℕ) → x < y → nat_cmp x y ≡ Less
nat_less x y less = cond-true (nat_lt x y) _ _ (lt-ltb x y less)

-- a number is even with itself
nat_same : (x y : ℕ) → x ≡ y → nat_cmp x y ≡ Equal
nat_same x y same = subst (λ z. nat_cmp x z ≡ Equal) same (tied_itself nat_cmp_total x)

-- a pin that stands before another is answered so
pin_less : (a b : PinRef) → IsPinBefore a b → pin_cmp a b ≡ Less
pin_less a b (lesser_gate less) = ap (λ o. ordering_then o (nat_cmp a.pin b.pin)) (nat_less a.gate.0 b.gate.0 less)
pin_less a b (lesser_pin tie less) =
    ap (λ o. ordering_then o (nat_cmp a.pin b.pin)) (nat_same a.gate.0 b.gate.0 (λ i. (tie i).0)) ∙ nat_less a.pin b.pin less

-- a pin is even with itself
pin_same : (a b : PinRef) → a ≡ b → pin_cmp a b ≡ Equal
pin_same a b same =
    ap (λ o. ordering_then o (nat_cmp a.pin b.pin)) (nat_same a.gate.0 b.gate.0 (λ i. (same i).gate.0))
    ∙ nat_same a.pin b.pin (λ i. (same i).pin)

-- a list of steps that stands before another is answered so
steps_less : {p q : List PinRef} → AreStepsBefore p q → slice_cmp pin_cmp p q ≡ Less
steps_less shorter_list = refl
steps_less (lesser_step {a = a} {b = b} {rest = rest} {more = more} before) =
    ap (λ o. ordering_then o (slice_cmp pin_cmp rest more)) (pin_less a b before)
steps_less (same_step {a = a} {b = b} {rest = rest} {more = more} same before) =
    ap (λ o. ordering_then o (slice_cmp pin_cmp rest more)) (pin_same a b same) ∙ steps_less before

-- what the answer of a comparison means
pub record IsOrderOf (delays : Delays) (p q : Route) (answer : Ordering) : Type 0 where
  pub before : (answer ≡ Less) ↔ IsBefore delays p q
  pub same : (answer ≡ Equal) ↔ (p ≡ q)
  pub behind : (answer ≡ Greater) ↔ IsBefore delays q p

module _ (delays : Delays) where
  -- a route that stands before another is answered so
  route_less : (p q : Route) → IsBefore delays p q → route_cmp delays p q ≡ Less
  route_less p q (longer less) =
      ap (λ o. ordering_then (ordering_then o (nat_cmp p.source.0 q.source.0)) (slice_cmp pin_cmp p.steps q.steps))
      (nat_less (length_of delays q) (length_of delays p) less)
  route_less p q (lesser_source tie less) =
      ap (λ o. ordering_then (ordering_then o (nat_cmp p.source.0 q.source.0)) (slice_cmp pin_cmp p.steps q.steps))
      (nat_same (length_of delays q) (length_of delays p) (sym tie))
      ∙ ap (λ o. ordering_then o (slice_cmp pin_cmp p.steps q.steps)) (nat_less p.source.0 q.source.0 less)
  route_less p q (lesser_steps tie source before) =
      ap (λ o. ordering_then (ordering_then o (nat_cmp p.source.0 q.source.0)) (slice_cmp pin_cmp p.steps q.steps))
      (nat_same (length_of delays q) (length_of delays p) (sym tie))
      ∙ ap (λ o. ordering_then o (slice_cmp pin_cmp p.steps q.steps)) (nat_same p.source.0 q.source.0 (λ i. (source i).0))
      ∙ steps_less before

  -- routes are in a total order
  pins_total : IsTotalOrder pin_cmp
  pins_total = then_total (on_total (λ (a : PinRef). a.gate.0) nat_cmp_total) (on_total (λ (a : PinRef). a.pin) nat_cmp_total)

  routes_total : IsTotalOrder (route_cmp delays)
  routes_total =
      let lengths = back_total (on_total (length_of delays) nat_cmp_total) in
      let sources = on_total (λ (p : Route). p.source.0) nat_cmp_total in
      then_total (then_total lengths sources) (on_total (λ (p : Route). p.steps) (lists_total pins_total))

  -- the comparison answers what the order says
  pub route_compared : (p q : Route) (answer : Ordering) → answer ≡ route_cmp delays p q → IsOrderOf delays p q answer
  route_compared p q answer is = record {
    before = (λ first. at Less first, λ before. is ∙ route_less p q before);
    same = (λ even. at Equal even, λ same. is ∙ sym (ap (route_cmp delays p) same) ∙ tied_itself routes_total p);
    behind = (
      λ last. at Greater last,
      λ before. is ∙ routes_total.antisymm p q ∙ ap ordering_reverse (route_less q p before),
    );
  }
    where
      at : (o : Ordering) → answer ≡ o → MatchOrdering o (IsBefore delays p q) (p ≡ q) (IsBefore delays q p)
      at o e =
          subst (λ o. MatchOrdering o (IsBefore delays p q) (p ≡ q) (IsBefore delays q p)) (sym is ∙ e)
          (route_ranked delays p q)
