-- A visit within a scope: what it asks of the scope, and what it leaves.
use Rattle.std.proofs.Common.{◌≡◌, ℕ, ◌+◌, ◌*◌, ◌^◌, ◌<◌, ◌≤◌, List, length, Option, Some, sym, ap, subst, subst₂, ◌∙◌, arith}
use Rattle.std.proofs.lemmas.Option.{same_Some, slice_get_within}
use Rattle.pd_base.specs.declared.fault.Direction.{Direction}
use Rattle.pd_base.specs.declared.fault.Kind.{Kind}
use Rattle.pd_base.specs.declared.ids.LineId.{LineId}
use Rattle.pd_base.specs.declared.ids.PinRef.{PinRef}
use Rattle.pd_base.specs.declared.rules.Rules.{Rules}
use Rattle.pd_base.specs.Route.{Route}
use Rattle.netlist.specs.declared.limits.TheConstants.{MOST_LEVELS}
use Rattle.netlist.specs.Circuit.{Circuit}
use Rattle.implication.specs.declared.assumption.Beginning.{Beginning}
use Rattle.implication.specs.Standing.{ToldEnds, Standing}
use Rattle.prefix_sensitize.specs.declared.course.Course.{Course}
use Rattle.justify.specs.declared.answer.Found.{Found}
use Rattle.justify.specs.declared.answer.Found.TheVariants.{Test, Spent, Refuted}
use Rattle.prefix_sensitize.specs.declared.descent.FoundAlong.{FoundAlong}
use Rattle.prefix_sensitize.specs.declared.outcome.Aim.{Aim}
use Rattle.prefix_sensitize.specs.declared.outcome.Findings.{Findings}
use Rattle.prefix_sensitize.specs.Coming.{HasComeAlong, HasComeApart, HasComeOn}
use Rattle.prefix_sensitize.specs.Courses.{BeginsAt, IsBegunAt, IsCourse}
use Rattle.prefix_sensitize.specs.Entering.{CountsPins, HasGone, HasMovedOn, IsFoundAlong, IsFoundUpTo, IsSameBeginning}
use Rattle.prefix_sensitize.specs.PathOrder.{StandsInOrder}
use Rattle.prefix_sensitize.specs.Settling.{HasItsSteps, Settles}
use Rattle.prefix_sensitize.specs.Walking.{ComesOn}
use Rattle.prefix_sensitize.specs.Walks.{CountsPrefixes}
use Rattle.prefix_sensitize.proofs.Ahead.{low}
use Rattle.prefix_sensitize.proofs.Ended.{visited}
use Rattle.prefix_sensitize.proofs.EnteredPrefixes.{enters_all}
use Rattle.prefix_sensitize.proofs.OrderPlaces.{all_at, among}
use Rattle.prefix_sensitize.proofs.Passing.{come_apart, keeps_added}
use Rattle.prefix_sensitize.proofs.PathOrder.{stands_once}

-- a refutation that a search ends with is one of no more steps than the path has
pub its_steps : (c : Circuit) (rules : Rules) (aim : Aim) (route : Route) (steps : ℕ) (found : Found) → IsFoundUpTo c rules aim route steps found
    → HasItsSteps route steps found
its_steps c rules aim route steps (Test pair) is = tt
its_steps c rules aim route steps (Spent tree) is = tt
its_steps c rules aim route steps (Refuted tree) is = is.has_steps

-- a course stays one, as the circuit and the told ends stay
pub same_course : (old new : Standing) → IsSameBeginning old new → (course : Course) → IsCourse old.net old.rules old.ends course
    → IsCourse new.net new.rules new.ends course
same_course old new same course is =
    let P : Circuit → Rules → Type 0 = λ c r. IsCourse c r old.ends course in
    let Q : Option ToldEnds → Type 0 = λ ends. IsCourse new.net new.rules ends course in
    subst Q (sym same.ends) (subst₂ P (sym same.net) (sym same.rules) is)

-- the sources of one beginning are the same
pub same_source : (beginning : Option Beginning) (first second : LineId) (direction : Direction) (kind : Kind)
    → beginning ≡ Some (record { source = first; direction = direction; kind = kind })
    → beginning ≡ Some (record { source = second; direction = direction; kind = kind }) → first ≡ second
same_source beginning first second direction kind one two =
    ap (λ (b : Beginning). b.source)
    (same_Some (record { source = first; direction = direction; kind = kind })
    (record { source = second; direction = direction; kind = kind }) (sym one ∙ two))

module _ (old : Standing) (course : Course) (is_course : IsCourse old.net old.rules old.ends course) (begin place row : ℕ) (route : Route)
    (here : StandsInOrder course.paths.now course.order.now place row route) (pins : List PinRef) (before : Findings)
    (steps : ℕ) (come : HasComeAlong old course begin place pins before steps) where
  -- there is room to count the path's steps
  pub room_for : begin + length course.paths.now * MOST_LEVELS < 2 ^ 64 → steps + length route.steps < 2 ^ 64
  room_for room =
      let few = come.come.come.few in
      let within = slice_get_within course.order.now place row here.is_placed in
      let one_each = is_course.order.one_each in
      let short : length route.steps ≤ MOST_LEVELS =
      all_at (λ (r : Route). length r.steps ≤ MOST_LEVELS) course.paths.now row route is_course.searchable.short here.is_listed in
      omega (arith, few, within, one_each, short, room)

  -- however far a search went on, each prefix that it entered is counted once
  pub counted_on : (after : ℕ) → CountsPins pins route steps after → CountsPrefixes course.paths.now begin after
  counted_on after counted =
      let its_low =
      low old.net old.rules old.ends course is_course begin place row route here before.outcomes.items before.proofs.items steps come.come.come come.source pins
      come.come.on counted.shared counted.is_shared in
      let entering =
      enters_all course.paths.now route (among course.paths.now row route here.is_listed) counted.shared come.come.come.entered
      come.come.come.are_prefixes its_low counted.more counted.within in
      record {
        entered = entering.0;
        are_prefixes = entering.1.are_prefixes;
        counts =
            let first = come.come.come.counts in
            let longer = entering.1.counts in
            let more = counted.counts in
            omega (arith, first, longer, more);
      }

  module _ (begun : IsBegunAt old course place) where
    began : old.beginning ≡ Some (record { source = route.source; direction = course.aim.direction; kind = course.aim.kind })
    began =
        let same : begun.route ≡ route =
        (stands_once course.paths.now course.order.now place begun.row row begun.route route begun.stands here).1 in
        begun.begun
        ∙ (λ i. Some (record { source = (same i).source; direction = course.aim.direction; kind = course.aim.kind }))

    -- the scope stands on the way to the path
    pub gone_to : HasGone old route course.aim pins
    gone_to = record { beginning = began; entered = come.gone.entered; free = come.gone.free }

    -- the path was visited
    pub visited_along : (new : Standing) → IsSameBeginning old new → (pins' : List PinRef) (ended : FoundAlong)
        → IsFoundAlong old.net old.rules course.aim route ended → HasGone new route course.aim pins'
        → (steps' : ℕ) → (more : ℕ) × (steps' ≡ steps + more) × HasMovedOn pins pins' route ended more
        → (end : ℕ) (after : Findings)
        → Settles course place row route ended.steps ended.found end before.outcomes.items after.outcomes.items before.proofs.items after.proofs.items
        → HasComeAlong new course begin end pins' after steps' × ComesOn course place end before after
    visited_along new same pins' ended is_found gone steps' moved end after settles =
        let source : route.source ≡ come.source =
        same_source old.beginning route.source come.source course.aim.direction course.aim.kind began come.gone.beginning in
        let then =
        visited old.net old.rules old.ends course is_course begin place row route here before.outcomes.items before.proofs.items steps
        come.source source pins come.come pins' ended moved.0 is_found moved.2 end after.outcomes.items after.proofs.items settles steps' moved.1 in
        let P : Circuit → Rules → Type 0 =
        λ c rules. HasComeOn c rules course begin end (record { source = come.source; steps = pins' }) after.outcomes.items
        after.proofs.items steps' in (
          record {
            source = come.source;
            gone = record {
              beginning =
                  gone.beginning
                  ∙ (λ i. Some (record { source = source i; direction = course.aim.direction; kind = course.aim.kind }));
              entered = gone.entered;
              free = gone.free;
            };
            come = subst₂ P (sym same.net) (sym same.rules) then.come;
          },
          record {
            on = then.further;
            within = then.within;
            others = keeps_added course.aim before.proofs.items after.proofs.items then.adds;
          },
        )

-- the scope that the walk comes along has begun at its source
pub begun_at : (old new : Standing) → IsSameBeginning old new → (course : Course) (source : LineId) (pins : List PinRef)
    → HasGone old (record { source = source; steps = pins }) course.aim pins → (place : ℕ) → BeginsAt course place source
    → IsBegunAt new course place
begun_at old new same course source pins gone place at = record {
  row = at.row;
  route = at.route;
  stands = at.stands;
  begun =
      same.beginning ∙ gone.beginning
      ∙ (λ i. Some (record { source = sym at.source i; direction = course.aim.direction; kind = course.aim.kind }));
}

-- where no path begins at the source from here on, the walk is done with it
pub come_behind : (old new : Standing) → IsSameBeginning old new → (course : Course) → IsCourse old.net old.rules old.ends course
    → (source : LineId) (first : List PinRef) → HasGone old (record { source = source; steps = first }) course.aim first
    → (begin place : ℕ) (pins : List PinRef) (found : Findings) (steps : ℕ)
    → HasComeAlong new course begin place pins found steps → ¬ BeginsAt course place source
    → HasComeApart old.net old.rules course begin place found steps
come_behind old new same course is_course source first gone begin place pins found steps come no_more =
    let its : come.source ≡ source =
    same_source new.beginning come.source source course.aim.direction course.aim.kind come.gone.beginning (same.beginning ∙ gone.beginning) in
    let P : LineId → Type 0 = λ line. ¬ BeginsAt course place line in
    let Q : Circuit → Rules → Type 0 = λ c rules. HasComeApart c rules course begin place found steps in
    subst₂ Q same.net same.rules
    (come_apart new.net new.rules course is_course.order begin place found steps come.source pins come.come
    (subst P (sym its) no_more))
