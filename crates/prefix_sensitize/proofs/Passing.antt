-- A path that needs no outcome is passed by; and where no further path begins at a source, nothing that was entered goes on.
use Rattle.std.proofs.Common.{◌≡◌, ⊎_elim, ℕ, ◌+◌, ◌<◌, ◌≤◌, List, [], ◌++◌, length, replicate, sym, ap, subst, ◌∙◌, append-nil, append_assoc, arith}
use Rattle.std.proofs.lemmas.Bool.{cases_lt}
use Rattle.std.proofs.lemmas.List.{length-replicate}
use Rattle.std.proofs.lemmas.List.Elements.{All-append, All-contains, All-nil}
use Rattle.std.proofs.lemmas.Option.{slice_get_within}
use Rattle.pd_base.specs.declared.ids.LineId.{LineId}
use Rattle.pd_base.specs.declared.ids.PinRef.{PinRef}
use Rattle.pd_base.specs.declared.rules.Rules.{Rules}
use Rattle.pd_base.specs.Route.{Route}
use Rattle.netlist.specs.Circuit.{Circuit}
use Rattle.netlist.specs.Paths.{IsPrefixOf}
use Rattle.runs.specs.declared.run.Proof.{Proof}
use Rattle.good_runs.specs.Faults.{IsAbout}
use Rattle.good_runs.proofs.Numbers.{all_at_number}
use Rattle.prefix_sensitize.specs.declared.course.Course.{Course}
use Rattle.prefix_sensitize.specs.declared.outcome.Aim.{Aim}
use Rattle.prefix_sensitize.specs.declared.outcome.Findings.{Findings}
use Rattle.prefix_sensitize.specs.declared.outcome.RowOutcome.TheVariants.{Unsearched}
use Rattle.prefix_sensitize.specs.Coming.{HasCome, HasComeApart, HasComeOn}
use Rattle.prefix_sensitize.specs.Courses.{BeginsAt}
use Rattle.prefix_sensitize.specs.Outcomes.{AddsProofs, AreFoundProofs, AreOutcomes, IsNeeded, KeepsOthers, NoneIsAbout}
use Rattle.prefix_sensitize.specs.PathOrder.{IsOrder, StandsInOrder}
use Rattle.prefix_sensitize.specs.Prefixes.{IsListedPrefix}
use Rattle.prefix_sensitize.specs.Walks.{CountsPrefixes}
use Rattle.prefix_sensitize.proofs.OrderPlaces.{some_path, some_place}
use Rattle.prefix_sensitize.proofs.PathOrder.{stands_once}
use Rattle.prefix_sensitize.proofs.RoutePrefixes.{fewer_steps}

-- nothing is added
adds_none : (aim : Aim) (proofs : List Proof) → AddsProofs aim proofs proofs
adds_none aim proofs = record { more = []; adds = sym (append-nil proofs); aimed = All-nil (IsAbout aim.kind aim.direction) }

-- what is added to what was added
adds_on : (aim : Aim) (first second third : List Proof) → AddsProofs aim first second → AddsProofs aim second third
    → AddsProofs aim first third
adds_on aim first second third one two = record {
  more = one.more ++ two.more;
  adds = two.adds ∙ ap (λ (list : List Proof). list ++ two.more) one.adds ∙ append_assoc first one.more two.more;
  aimed = All-append (IsAbout aim.kind aim.direction) one.more two.more one.aimed two.aimed;
}

-- other proofs stand as before where nothing changes, by one change after another, and where proofs about the aim are added
pub keeps_none : (aim : Aim) (proofs : List Proof) → KeepsOthers aim proofs proofs
keeps_none aim proofs others none adds = adds

pub keeps_on : (aim : Aim) (first second third : List Proof) → KeepsOthers aim first second → KeepsOthers aim second third
    → KeepsOthers aim first third
keeps_on aim first second third one two others none adds = two others none (one others none adds)

pub keeps_added : (aim : Aim) (old new : List Proof) → AddsProofs aim old new → KeepsOthers aim old new
keeps_added aim old new more others none adds = adds_on aim others old new adds more

-- where all were others, those that came are about the aim
pub adds_alone : (aim : Aim) (old new : List Proof) → NoneIsAbout aim old → KeepsOthers aim old new → AddsProofs aim old new
adds_alone aim old new none keeps = keeps old none (adds_none aim old)

module _ (c : Circuit) (rules : Rules) (course : Course) (is_order : IsOrder course.paths.now course.order.now) (begin place : ℕ)
    (found : Findings) (steps : ℕ) where
  module _ (row : ℕ) (route : Route) (here : StandsInOrder course.paths.now course.order.now place row route) (not : ¬ IsNeeded course.needed.now row)
      (along : Route) (come : HasComeOn c rules course begin place along found.outcomes.items found.proofs.items steps) where
    one_earlier : (at other : ℕ) (another : Route) → StandsInOrder course.paths.now course.order.now at other another → at < place + 1
        → IsNeeded course.needed.now other → at < place
    one_earlier at other another there less need =
        ⊎_elim (λ (first : at < place). first)
        (λ (last : place ≤ at).
        let same : at ≡ place = omega arith in
        let P : ℕ → Type 0 = λ n. StandsInOrder course.paths.now course.order.now n other another in
        let Q : ℕ → Type 0 = λ n. IsNeeded course.needed.now n in
        absurd (not
        (subst Q (sym (stands_once course.paths.now course.order.now place row other route another here (subst P same there)).0)
        need)))
        (cases_lt at place)

    -- a path that needs no outcome is passed by
    pub come_past : HasComeOn c rules course begin (place + 1) along found.outcomes.items found.proofs.items steps
    come_past = record {
      come = record {
        one_each = come.come.one_each;
        found = come.come.found;
        settled =
            λ at other another there less need.
            come.come.settled at other another there (one_earlier at other another there less need) need;
        none_ahead = λ at other another there behind. come.come.none_ahead at other another there (omega (arith, behind));
        entered = come.come.entered;
        are_prefixes = come.come.are_prefixes;
        counts = come.come.counts;
        few = let few = come.come.few in omega (arith, few);
        of_earlier =
            λ prefix inside.
            (let one = come.come.of_earlier prefix inside in
            let less = one.earlier in
            record {
              at = one.at;
              row = one.row;
              route = one.route;
              stands = one.stands;
              earlier = omega (arith, less);
              is_prefix = one.is_prefix;
            });
        whole =
            λ at other another prefix there less need.
            come.come.whole at other another prefix there (one_earlier at other another there less need) need;
      };
      on = record {
        all = come.on.all;
        only = λ prefix inside at other another there behind. come.on.only prefix inside at other another there (omega (arith, behind));
      };
    }

  -- where nothing that was entered goes on, it stands on a source, and the other way round where no path begins at the source from here on
  pub come_from : (source : LineId) → HasComeApart c rules course begin place found steps
      → HasComeOn c rules course begin place (record { source = source; steps = [] }) found.outcomes.items found.proofs.items steps
  come_from source come = record {
    come = come.come;
    on = record {
      all =
          λ prefix of some.
          (let few = fewer_steps prefix (record { source = source; steps = [] }) of in absurd (omega (arith, few, some)));
      only = λ prefix inside at row route stands behind begins. absurd (come.apart prefix inside at row route stands behind begins);
    };
  }

  pub come_alone : (source : LineId) → HasComeOn c rules course begin place (record { source = source; steps = [] }) found.outcomes.items found.proofs.items steps
      → HasComeApart c rules course begin place found steps
  come_alone source come = record {
    come = come.come;
    apart =
        λ prefix inside at row route stands behind begins.
        (let one : IsListedPrefix course.paths.now prefix =
        All-contains (IsListedPrefix course.paths.now) come.come.entered prefix come.come.are_prefixes.each inside in
        let some = one.some_step in
        let few =
        fewer_steps prefix (record { source = source; steps = [] }) (come.on.only prefix inside at row route stands behind begins) in
        omega (arith, some, few));
  }

  pub come_apart : (source : LineId) (pins : List PinRef)
      → HasComeOn c rules course begin place (record { source = source; steps = pins }) found.outcomes.items found.proofs.items steps
      → ¬ BeginsAt course place source → HasComeApart c rules course begin place found steps
  come_apart source pins come no_more = record {
    come = come.come;
    apart =
        λ prefix inside at row route stands behind begins.
        (let last = slice_get_within course.order.now at row stands.is_placed in
        let next = some_path course.paths.now course.order.now is_order place (omega (arith, behind, last)) in
        let one = come.come.of_earlier prefix inside in
        let less = one.earlier in
        let between : IsPrefixOf prefix next.1 =
        is_order.together one.at place at one.row next.0 row one.route next.1 route prefix one.stands next.2 stands (omega (arith, less))
        behind one.is_prefix begins in
        let along = come.on.only prefix inside place next.0 next.1 next.2 (let e : place ≤ place = omega arith in e) between in
        no_more (record { row = next.0; route = next.1; stands = next.2; source = sym between.source ∙ along.source }));
  }

-- each prefix that was entered is counted once
pub all_counted : (c : Circuit) (rules : Rules) (course : Course) (begin place : ℕ) (found : Findings) (steps : ℕ)
    → HasCome c rules course begin place found.outcomes.items found.proofs.items steps → CountsPrefixes course.paths.now begin steps
all_counted c rules course begin place found steps come =
    record { entered = come.entered; are_prefixes = come.are_prefixes; counts = come.counts }

-- no walk yet
module _ (c : Circuit) (rules : Rules) (course : Course) (found : Findings) (steps : ℕ) where
  pub come_none : found.outcomes.items ≡ replicate (length course.paths.now) Unsearched
      → AreFoundProofs c rules course.aim.budget course.paths.now found.proofs.items → NoneIsAbout course.aim found.proofs.items
      → HasComeApart c rules course steps 0 found steps
  come_none none are fresh = record {
    come = record {
      one_each = ap length none ∙ length-replicate (length course.paths.now) Unsearched;
      found = are;
      settled = λ at row route stands less need. absurd (omega (arith, less));
      none_ahead =
          λ at row route stands behind number proof is applies.
          all_at_number (λ (p : Proof). ¬ IsAbout course.aim.kind course.aim.direction p) found.proofs.items number proof fresh is
          (record { of_kind = applies.is_about.of_kind; of_direction = applies.is_about.of_direction });
      entered = [];
      are_prefixes = record { each = All-nil (IsListedPrefix course.paths.now); once = λ i j d less within. absurd (omega (arith, within)) };
      counts = omega arith;
      few = omega arith;
      of_earlier = λ prefix inside. absurd (let within = inside.1 in omega (arith, within));
      whole = λ at row route prefix stands less need of some. absurd (omega (arith, less));
    };
    apart = λ prefix inside at row route stands behind begins. (let within = inside.1 in omega (arith, within));
  }

-- the whole walk
module _ (c : Circuit) (rules : Rules) (course : Course) (is_order : IsOrder course.paths.now course.order.now) (begin : ℕ)
    (found : Findings) (steps : ℕ)
    (come : HasComeApart c rules course begin (length course.order.now) found steps) where
  pub all_outcomes : AreOutcomes c rules course.paths.now found.proofs.items course.needed.now course.aim found.outcomes.items
  all_outcomes = record {
    one_each = come.come.one_each;
    each =
        λ row route is need.
        (let stands = some_place course.paths.now course.order.now is_order row route is in
        come.come.settled stands.0 row route stands.1 (slice_get_within course.order.now stands.0 row stands.1.is_placed) need);
  }
