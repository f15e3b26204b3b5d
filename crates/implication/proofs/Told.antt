-- Where a line is told, so is its fan-in, and where links are followed its support: the lines to which sources in it are linked, and so on.
-- So where the end of a path is told, the line of each gate on it is. And the ends of paths are told where just these lines are to be.
use Rattle.std.proofs.Common.{◌≡◌, ⊎_elim, inl, inr, ℕ, zero, suc, ◌<◌, Bool, cond, List, [], ◌∷◌, length, map, get_or, Option, Some, None, refl, ap, sym, subst, arith}
use Rattle.std.specs.List.{All, Contains}
use Rattle.std.proofs.lemmas.List.{length-map, get_or-map}
use Rattle.pd_base.specs.Links.{LinkList, IsLink}
use Rattle.pd_base.specs.Route.{Route}
use Rattle.netlist.specs.LinkedPairs.{IsSupported}
use Rattle.netlist.specs.LinkedPairs.IsSupported.{in_fan_in, behind_link}
use Rattle.pd_base.specs.declared.ids.LineId.{LineId}
use Rattle.pd_base.specs.declared.ids.PinRef.{PinRef}
use Rattle.netlist.specs.Circuit.{Circuit, source_count, gate_line}
use Rattle.netlist.specs.Pins.{IsInFanIn}
use Rattle.netlist.specs.Pins.IsInFanIn.{end_itself, read_by_pin}
use Rattle.netlist.specs.Paths.{Connects, end_of, line_after}
use Rattle.state_laws.proofs.FanIns.{leads_in_fan_in}
use Rattle.implication.specs.Standing.{ToldEnds, told_ends, followed_by, FollowsLinks, IsToldBy}

module _ (c : Circuit) (links : LinkList) where
  -- the fan-in of a line that is in a fan-in is in that fan-in
  fan_in_of_fan_in : (end middle : ℕ) → IsInFanIn c end middle → (line : ℕ) → IsInFanIn c middle line → IsInFanIn c end line
  fan_in_of_fan_in end middle further _ end_itself = further
  fan_in_of_fan_in end middle further _ (read_by_pin pin line on rest) =
      read_by_pin pin line on (fan_in_of_fan_in end middle further (gate_line c pin.gate.0) rest)

  -- a source without a link is told
  pub free_told : (ends : Option ToldEnds) (line : ℕ) → line < source_count c → ((other : ℕ) → ¬ IsLink links line other)
      → IsToldBy c links ends line
  free_told None line within free = tt
  free_told (Some ends) line within free = inl (within, free)

  -- an end is told
  pub end_told : (ends : ToldEnds) (end : LineId) → Contains ends.lines end → IsToldBy c links (Some ends) end.0
  end_told ends end stands = inr (end, stands, in_fan_in end.0 end_itself)

  -- the fan-in of a source is the source alone
  fan_in_of_source : (source : ℕ) → source < source_count c → (line : ℕ) → IsInFanIn c source line → line ≡ source
  fan_in_of_source source within _ end_itself = refl
  fan_in_of_source source within _ (read_by_pin pin line on rest) =
      let same : gate_line c pin.gate.0 ≡ source = fan_in_of_source source within (gate_line c pin.gate.0) rest in
      absurd (omega (arith, same, within))

  -- what is in the fan-in of a supported line is supported
  supported_fan_in : (over : LinkList) (end middle line : ℕ) → IsSupported c over end middle → IsInFanIn c middle line → IsSupported c over end line
  supported_fan_in over end _ line (in_fan_in middle further) inside = in_fan_in line (fan_in_of_fan_in end middle further line inside)
  supported_fan_in over end _ line (behind_link source other middle before link further) inside =
      behind_link source other line before link (fan_in_of_fan_in other middle further line inside)

  -- what is in the fan-in of a line that is told is told
  pub told_in_fan_in : (ends : Option ToldEnds) (middle line : ℕ) → IsToldBy c links ends middle → IsInFanIn c middle line
      → IsToldBy c links ends line
  told_in_fan_in None middle line told inside = tt
  told_in_fan_in (Some ends) middle line told inside =
      let P : ℕ → Type 0 = λ l. IsToldBy c links (Some ends) l in
      ⊎_elim (λ source. subst P (sym (fan_in_of_source middle source.0 line inside)) (inl source))
      (λ of. inr (of.0, of.1, supported_fan_in (followed_by ends links) of.0.0 middle line of.2 inside)) told

  -- where links are followed, so is the line to which a source that is told is linked
  pub told_by_link : (ends : Option ToldEnds) → FollowsLinks ends → (source line : ℕ) → IsToldBy c links ends source → IsLink links source line
      → IsToldBy c links ends line
  told_by_link None follows source line told link = tt
  told_by_link (Some ends) follows source line told link =
      let all : followed_by ends links ≡ links = ap (λ (near : Bool). cond near [] links) follows in
      ⊎_elim (λ free. absurd (free.1 line link))
      (λ of. inr (of.0, of.1, behind_link source line line of.2 (subst (λ (ls : LinkList). IsLink ls source line) (sym all) link) end_itself)) told

  -- and so is its whole support
  pub told_support : (ends : Option ToldEnds) → FollowsLinks ends → (end line : ℕ) → IsToldBy c links ends end → IsSupported c links end line
      → IsToldBy c links ends line
  told_support ends follows end _ told (in_fan_in line further) = told_in_fan_in ends end line told further
  told_support ends follows end _ told (behind_link source other line before link further) =
      told_in_fan_in ends other line (told_by_link ends follows source other (told_support ends follows end source told before) link) further

  -- the line of the gate of each step is in the fan-in of the line to which the steps lead
  gate_in_fan_in : (line : ℕ) (steps : List PinRef) (place : ℕ) (d : PinRef) → Connects c line steps → place < length steps
      → IsInFanIn c (line_after c line steps) (gate_line c (get_or steps place d).gate.0)
  gate_in_fan_in line [] place d connects within = absurd (omega arith)
  gate_in_fan_in line (step ∷ steps) zero d connects within =
      leads_in_fan_in c (gate_line c step.gate.0) steps connects.1
  gate_in_fan_in line (step ∷ steps) (suc place) d connects within =
      gate_in_fan_in (gate_line c step.gate.0) steps place d connects.1 (omega arith)

  -- so it is told where that line is
  pub gate_told : (ends : Option ToldEnds) (line : ℕ) (steps : List PinRef) (place : ℕ) (d : PinRef) → Connects c line steps
      → place < length steps → IsToldBy c links ends (line_after c line steps)
      → IsToldBy c links ends (gate_line c (get_or steps place d).gate.0)
  gate_told ends line steps place d connects within told =
      told_in_fan_in ends (line_after c line steps) (gate_line c (get_or steps place d).gate.0) told
      (gate_in_fan_in line steps place d connects within)

  -- the last line of a path
  abbrev last : Route → LineId
  last route = record { 0 = end_of c route }

  -- the ends of these paths are told where they are all that is to be told
  pub ends_told : (routes : List Route) (near : Bool) (ends : Option ToldEnds) → ends ≡ Some (told_ends (map last routes) near)
      → All (λ (route : Route). IsToldBy c links ends (end_of c route)) routes
  ends_told routes near ends are place d within =
      let own = get_or routes place d in
      let P : Option ToldEnds → Type 0 = λ e. IsToldBy c links e (end_of c own) in
      subst P (sym are)
      (inr (last own, (place, omega (arith, within, length-map routes last), get_or-map last routes place d (last own) within), in_fan_in (end_of c own) end_itself))
