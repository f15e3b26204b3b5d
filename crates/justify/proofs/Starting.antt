-- The start of a search: only the path's pins are entered, and the tree's one place is its root.
use Rattle.std.proofs.Common.{◌≡◌, ℕ, ◌≤◌, List, [], ◌∷◌, length, take, map, reverse, refl, sym, ap, ◌∙◌, subst, arith}
use Rattle.std.specs.List.{All}
use Rattle.std.proofs.lemmas.List.{length-map, take_all}
use Rattle.std.proofs.lemmas.Nat.{pow_pos}
use Rattle.std.proofs.lemmas.List.Elements.{All-nil, All-cons}
use Rattle.pd_base.specs.Links.{links_of}
use Rattle.pd_base.specs.Target.{Target}
use Rattle.pd_base.specs.declared.ids.PinRef.{PinRef}
use Rattle.netlist.specs.Circuit.{Circuit}
use Rattle.netlist.specs.Paths.{IsPrefix, end_of, line_after}
use Rattle.state_sets.specs.declared.state.State.{State}
use Rattle.state_sets.specs.States.{IsWithin, all_states}
use Rattle.state_sets.specs.StateAlgebra.{StateAlgebra}
use Rattle.trees.proofs.Bound.{own_in_support}
use Rattle.state_laws.specs.Nodes.{IsCut}
use Rattle.state_laws.proofs.FanIns.{leads_in_fan_in}
use Rattle.hulls.proofs.Sets.{all_have}
use Rattle.trees.proofs.Growing.{grows_from_root}
use Rattle.implication.specs.declared.assumption.Beginning.{Beginning}
use Rattle.implication.specs.declared.assumption.Assumption.{Assumption}
use Rattle.implication.specs.declared.assumption.Assumption.TheVariants.{Entered}
use Rattle.implication.specs.declared.scope.ScopeMark.{ScopeMark}
use Rattle.implication.specs.Assumptions.{entered_pins, IsLetBy}
use Rattle.implication.specs.Clients.{IsRestored}
use Rattle.implication.specs.Moves.{back_at}
use Rattle.implication.specs.Standing.{Standing, IsOpenIn, IsTold, end_of_scope, end_from}
use Rattle.implication.specs.NodeScopes.{beginning_of}
use Rattle.implication.proofs.Entered.{pins_of_entered}
use Rattle.implication.proofs.Told.{told_in_fan_in}
use Rattle.implication.proofs.ScopeLabels.{open_under}
use Rattle.justify.specs.declared.desk.Desk.{Desk}
use Rattle.justify.specs.declared.growing.Growth.{Growth}
use Rattle.justify.specs.declared.growing.Place.{Place}
use Rattle.justify.specs.Growths.{AllowAsNodeWith, IsPlace, IsGrowing, AreToldPlaces, root_place}
use Rattle.implication.specs.Settings.{IsSameSetting}
use Rattle.justify.specs.UnderWay.{IsUnderWay}
use Rattle.justify.specs.Desks.{IsDeskFor, IsDesk}
use Rattle.cones.specs.KeptCones.{KeptCone, IsConeFor, IsConeAt}
use Rattle.justify.specs.Scoping.{IsStart, SuitsSearch}
use Rattle.justify.proofs.Placing.{stacked_none, stacked_more}
use Rattle.justify.proofs.Visits.{free_at, growing_same}

-- pins that were entered let every line be in every state
let_all : (count line : ℕ) (state : State) (steps : List PinRef) → All (IsLetBy count line state) (map (λ step. Entered step) steps)
let_all count line state [] = All-nil (IsLetBy count line state)
let_all count line state (step ∷ steps) =
    All-cons (IsLetBy count line state) (Entered step) (map (λ s. Entered s) steps) tt (let_all count line state steps)

-- all states are within their count
all_within : (count : ℕ) → IsWithin count (all_states count)
all_within count = let some = pow_pos count in omega (arith, some)

module _ (target : Target) (standing : Standing) (start : IsStart target standing) where
  -- as many assumptions stand as the path has steps
  pub start_length : length standing.assumptions ≡ length target.path.steps
  start_length = ap length start.entered ∙ length-map target.path.steps (λ step. Entered step)

  pub start_under_way : IsUnderWay target standing
  start_under_way = record {
    beginning = start.beginning;
    longer = omega (arith, start_length);
    front = take_all (length target.path.steps) standing.assumptions (omega (arith, start_length)) ∙ start.entered;
    free = start.free;
  }

  start_entered : entered_pins standing.assumptions ≡ target.path.steps
  start_entered = ap entered_pins start.entered ∙ pins_of_entered target.path.steps

  pub start_end : end_of_scope standing ≡ end_of standing.net target.path
  start_end =
      ap (λ o. end_from standing.net o standing.assumptions) start.beginning
      ∙ ap (λ (steps : List PinRef). line_after standing.net target.path.source.0 steps) start_entered

  module _ (is : IsPrefix standing.net target.path) where
    -- a desk whose cone was set to the scope's last line is one for the path
    pub start_desk : (a : StateAlgebra) (desk : Desk) (cone : KeptCone) (n : Circuit) (line : ℕ) → n ≡ standing.net
        → line ≡ end_of_scope standing → IsDeskFor a standing.net standing.rules desk → IsConeFor n cone → cone.links ≡ desk.cone.links
        → IsConeAt n line cone → IsDesk a standing.net standing.rules target.path (record desk { cone = cone })
    start_desk a desk cone n line same_net same_line made cone_made linked at =
        let P : Circuit → Type 0 = λ c. IsConeFor c cone in
        let Q : Circuit → Type 0 = λ c. IsConeAt c line cone in
        let R : ℕ → Type 0 = λ l. IsConeAt standing.net l cone in
        record {
          made = record {
            of_rules = made.of_rules;
            fit = made.fit;
            cone = subst P same_net cone_made;
            links = linked ∙ made.links;
            states = made.states;
            within = made.within;
            blame = made.blame;
            liked = made.liked;
            justifier = made.justifier;
            judge = made.judge;
          };
          cone = subst R (same_line ∙ start_end) (subst Q same_net at);
        }

    -- the engine suits the search, where the desk is made for it and the scope's last line is told
    pub start_suits : (a : StateAlgebra) (desk : Desk) (line : ℕ) → line ≡ end_of_scope standing → IsTold standing line
        → IsDeskFor a standing.net standing.rules desk → SuitsSearch a target standing
    start_suits a desk line same_line told made = record {
      of_rules = made.of_rules;
      fit = made.fit;
      prefix = is;
      told = subst (IsTold standing) (same_line ∙ start_end) told;
    }

    -- the tree grows from its root
    module _ (a : StateAlgebra) (left_open : IsOpenIn a standing) (budget : ℕ) (mark : ScopeMark) (at : mark.at ≡ length standing.assumptions) where
      abbrev root : Place
      root = root_place a.count mark target.path.source

      abbrev begun : Beginning
      begun = beginning_of target

      root_node : AllowAsNodeWith a standing.net standing.rules target standing.assumptions target.path.source (all_states a.count) []
      root_node line state in_circuit in_range = (
        λ both. record { start = both.0.start; cut = All-nil (IsCut a line state) },
        λ be. (
          record {
            start = be.start;
            assumed = let P : List Assumption → Type 0 = λ list. All (IsLetBy a.count line state) list in
                subst P (sym start.entered) (let_all a.count line state target.path.steps);
          },
          λ here. all_have a.count state in_range,
        ),
      )

      is_root : IsPlace a standing.net standing.rules target standing.assumptions root []
      is_root = record {
        longer = omega (arith, start_length);
        entered = start_entered;
        left_open = open_under a standing begun start.beginning left_open;
        in_support = own_in_support standing.net standing.rules target.path is;
        within = all_within a.count;
        node = root_node;
        closes = tt;
      }

      root_growing : IsGrowing a standing.net standing.rules target budget standing.assumptions (root ∷ []) [] 0
      root_growing = record {
        due = (record { place = root; halves = [] }) ∷ [];
        left = refl;
        stacked =
            stacked_more a standing.net standing.rules target standing.assumptions (record { place = root; halves = [] }) []
            (omega (arith, at))
            (let P : List Assumption → Type 0 = λ list. IsPlace a standing.net standing.rules target list root [] in
            subst P (sym (take_all mark.at standing.assumptions (omega (arith, at)))) is_root)
            (stacked_none a standing.net standing.rules target (take mark.at standing.assumptions));
        grows = grows_from_root standing.net standing.rules target;
        counted = refl;
        within = omega arith;
        waits = λ has. let none = has.1 in absurd (omega (arith, none));
      }

      pub start_growing : (growth : Growth) → growth.nodes.items ≡ [] → growth.places.items ≡ root ∷ [] → growth.splits ≡ 0
          → IsGrowing a standing.net standing.rules target budget standing.assumptions (reverse growth.places.items) growth.nodes.items
          growth.splits
      start_growing growth nodes places splits =
          growing_same a standing.net standing.net standing.rules standing.rules target budget standing.assumptions standing.assumptions
          (root ∷ []) (reverse growth.places.items) [] growth.nodes.items 0 growth.splits refl refl refl (sym (ap reverse places))
          (sym nodes) (sym splits) root_growing

-- the path's source is told where its end is; so is the source of the tree's root
pub root_told : (a : StateAlgebra) (target : Target) (standing : Standing) → SuitsSearch a target standing → (mark : ScopeMark)
    → (places : List Place) → places ≡ root_place a.count mark target.path.source ∷ [] → AreToldPlaces standing (reverse places)
root_told a target standing suits mark places is =
    let Told : Place → Type 0 = λ place. IsTold standing place.source.0 in
    let P : List Place → Type 0 = λ ps. AreToldPlaces standing (reverse ps) in
    subst P (sym is) (All-cons Told (root_place a.count mark target.path.source) []
    (told_in_fan_in standing.net (links_of standing.rules) standing.ends (end_of standing.net target.path) target.path.source.0 suits.told
    (leads_in_fan_in standing.net target.path.source.0 target.path.steps suits.prefix.connects))
    (All-nil Told))

-- where the search ends, going back restores what stood
pub ended_restored : (target : Target) (first middle last : Standing) → IsStart target first
    → IsUnderWay target middle → IsSameSetting first middle → first.closings ≤ middle.closings
    → (mark : ℕ) → mark ≡ length first.assumptions → last ≡ back_at middle mark → IsRestored first last
ended_restored target first middle last start way setting later mark at back =
    let P : Standing → Type 0 = λ s. IsRestored first s in
    subst P (sym back) (record {
      net = setting.net;
      rules = setting.rules;
      ends = setting.ends;
      beginning = way.beginning ∙ sym start.beginning;
      assumptions = ap (λ n. take n middle.assumptions) (at ∙ start_length target first start) ∙ way.front ∙ sym start.entered;
      conflict = free_at middle mark way.free ∙ sym start.free;
      later = later;
    })

-- and it can go back
pub ended_mark : (target : Target) (first middle : Standing) → IsStart target first
    → IsUnderWay target middle → (mark : ℕ) → mark ≡ length first.assumptions → mark ≤ length middle.assumptions
ended_mark target first middle start way mark at =
    let long = start_length target first start in let longer = way.longer in omega (arith, long, longer, at)
