-- Links stand beside the gates: flags for them behind those of the gates change nothing at the gates.
use Rattle.std.proofs.Common.{◌-◌}
use Rattle.std.proofs.Common.{◌≡◌, ℕ, ◌+◌, ◌<◌, ◌++◌, inl, inr, ⊎_elim, Bool, true, false, List, [], ◌∷◌, length, replicate, refl, sym, ap, ◌∙◌, subst, arith}
use Rattle.std.proofs.lemmas.List.{get_or_append_left, get_or-append_right, get_or-replicate, length-append, length-replicate}
use Rattle.pd_base.specs.Links.{LinkList, IsLink}
use Rattle.pd_base.specs.declared.ids.LineId.{LineId}
use Rattle.pd_base.specs.declared.rules.Rules.{Rules}
use Rattle.netlist.specs.Circuit.{Circuit, gate_count, gate_line, line_count, source_count, pins_at}
use Rattle.netlist.specs.Lawful.{IsCircuit}
use Rattle.netlist.specs.LinkedPairs.{AreLinksOf}
use Rattle.netlist.proofs.Evaluation.{all_at_place}
use Rattle.state_sets.specs.declared.state.StateSet.{StateSet}
use Rattle.state_sets.specs.StateAlgebra.{StateAlgebra}
use Rattle.state_sets.specs.Hulls.{IsAtRest}
use Rattle.state_sets.specs.Hulls.Narrowing.{at_gate, along_link}
use Rattle.state_laws.specs.Cones.{IsClosedBack, IsNarrowingIn, IsLineWithin}
use Rattle.state_laws.specs.Forward.{IsForward}
use Rattle.state_laws.proofs.LinkCounts.{few_gates_and_links}
use Rattle.state_laws.proofs.Linked.{none_linked}
use Rattle.hulls.specs.Awaiting.{is_inside}
use Rattle.hulls.specs.Boards.{OnBoard}
use Rattle.implication.specs.Idling.{Idling, IsIdleBoard}
use Rattle.implication.specs.FirstStates.{HasFirstValues}
use Rattle.implication.specs.Standing.{ToldEnds}
use Rattle.implication.specs.Kept.{AreToldGates, AreNearGates, AreEnough}
use Rattle.std.proofs.Common.{Option, All}

-- the gates and links inside are told by equal flags and lists too
pub same_cone : (a : StateAlgebra) (c : Circuit) (links : LinkList) (ends : Option ToldEnds) (old new : List Bool) → new ≡ old
    → (inner now : LinkList) → now ≡ inner → AreEnough a c links ends old inner → AreEnough a c links ends new now
same_cone a c links ends old new inside inner now same cone =
    let P : List Bool → Type 0 = λ flags. AreEnough a c links ends flags now in
    let Q : LinkList → Type 0 = λ ls. AreEnough a c links ends old ls in subst P (sym inside) (subst Q (sym same) cone)

-- the links inside are among all
pub links_among : (a : StateAlgebra) (c : Circuit) (links : LinkList) (ends : Option ToldEnds) (inside : List Bool) (inner : LinkList)
    → AreEnough a c links ends inside inner → (source line : ℕ) → IsLink inner source line → IsLink links source line
links_among a c links ends inside inner cone source line link =
    ⊎_elim (λ (told : AreToldGates c links ends inside inner). told.closed.among source line link)
    (λ (near : HasFirstValues a × AreNearGates c links ends inside inner). near.1.closed.among source line link) cone

-- where there are no links, none is inside
pub none_inner : (links inner : LinkList) → ((source line : ℕ) → IsLink inner source line → IsLink links source line) → links ≡ [] → inner ≡ []
none_inner links [] among none = refl
none_inner links (link ∷ inner) among none =
    absurd (none_linked link.0.0 link.1.0
    (subst (λ (ls : LinkList). IsLink ls link.0.0 link.1.0) none (among link.0.0 link.1.0 (0, omega arith, refl))))

-- what is inside has with each gate those whose lines it reads
closed_back : (c : Circuit) (inside : ℕ → Bool) (links inner : LinkList)
    → ((gate : ℕ) → gate < gate_count c → inside gate ≡ true → All (λ pin. IsLineWithin c inside links inner pin.0) (pins_at c gate))
    → IsClosedBack c inside
closed_back c inside links inner pins gate other within here reads =
    let of : IsLineWithin c inside links inner (gate_line c other) =
    all_at_place (λ (l : LineId). IsLineWithin c inside links inner l.0) (pins_at c gate) reads.0 (record { 0 = gate_line c other })
    (pins gate within here) reads.1 in
    ⊎_elim
    (λ (source : (gate_line c other < source_count c) × ((l : ℕ) → IsLink links (gate_line c other) l → IsLink inner (gate_line c other) l)).
    absurd (omega (arith, source.0)))
    (λ (at : (g : ℕ) × (g < gate_count c) × (inside g ≡ true) × (gate_line c other ≡ gate_line c g)).
    subst (λ (n : ℕ). inside n ≡ true) (let e = at.3 in omega (arith, e)) at.2) of

pub closed_inside : (a : StateAlgebra) (c : Circuit) (links : LinkList) (ends : Option ToldEnds) (inside : List Bool) (inner : LinkList)
    → AreEnough a c links ends inside inner → IsClosedBack c (is_inside inside)
closed_inside a c links ends inside inner cone =
    ⊎_elim (λ (told : AreToldGates c links ends inside inner). closed_back c (is_inside inside) links inner told.closed.pins)
    (λ (near : HasFirstValues a × AreNearGates c links ends inside inner). closed_back c (is_inside inside) inner inner near.1.cone.pins) cone

module _ (c : Circuit) (circuit : IsCircuit c) (flags : List Bool) (gates : length flags ≡ gate_count c) (links : ℕ) where
  abbrev more : List Bool
  more = flags ++ replicate links true

  pub flag_same : (gate : ℕ) → gate < gate_count c → is_inside more gate ≡ is_inside flags gate
  flag_same gate within = get_or_append_left flags (replicate links true) false gate (omega (arith, gates, within))

  pub more_closed : IsClosedBack c (is_inside flags) → IsClosedBack c (is_inside more)
  more_closed closed gate other within here reads =
      let line : gate_line c other < line_count c =
      all_at_place (λ (l : LineId). l.0 < line_count c) _ reads.0 (record { 0 = gate_line c other }) (circuit.reads_lines gate within) reads.1 in
      let other_within : other < gate_count c = omega (arith, line) in
      flag_same other other_within ∙ closed gate other within (sym (flag_same gate within) ∙ here) reads

  within_more : (all inner : LinkList) (line : ℕ) → IsLineWithin c (is_inside flags) all inner line → IsLineWithin c (is_inside more) all inner line
  within_more all inner line of = ⊎_elim
      (λ (source : (line < source_count c) × ((l : ℕ) → IsLink all line l → IsLink inner line l)). inl source)
      (λ (at : (g : ℕ) × (g < gate_count c) × (is_inside flags g ≡ true) × (line ≡ gate_line c g)).
      inr (at.0, at.1, flag_same at.0 at.1 ∙ at.2, at.3)) of

  more_told : (all inner : LinkList) (ends : Option ToldEnds) → AreToldGates c all ends flags inner → AreToldGates c all ends more inner
  more_told all inner ends told = record {
    gates = let e = length-append flags (replicate links true) in omega (arith, e, gates);
    closed = record {
      pins = λ gate within here i d in_pins.
          within_more all inner _ (told.closed.pins gate within (sym (flag_same gate within) ∙ here) i d in_pins);
      among = told.closed.among;
      lines = λ source line link. within_more all inner line (told.closed.lines source line link);
    };
    told = λ gate within. (
      (λ here. (told.told gate within).0 (sym (flag_same gate within) ∙ here)),
      λ is. flag_same gate within ∙ (told.told gate within).1 is,
    );
    sources = told.sources;
  }

  more_near : (all inner : LinkList) (ends : Option ToldEnds) → AreNearGates c all ends flags inner → AreNearGates c all ends more inner
  more_near all inner ends are = record {
    gates = let e = length-append flags (replicate links true) in omega (arith, e, gates);
    near = are.near;
    closed = are.closed;
    told = are.told;
    sources = are.sources;
    of = are.of;
    covers = λ gate within near. flag_same gate within ∙ are.covers gate within near;
    cone = record {
      pins = λ gate within here i d in_pins.
          within_more inner inner _ (are.cone.pins gate within (sym (flag_same gate within) ∙ here) i d in_pins);
      among = are.cone.among;
      lines = λ source line link. within_more inner inner line (are.cone.lines source line link);
    };
  }

  pub more_enough : (a : StateAlgebra) (all inner : LinkList) (ends : Option ToldEnds) → AreEnough a c all ends flags inner
      → AreEnough a c all ends more inner
  more_enough a all inner ends cone =
      ⊎_elim (λ (told : AreToldGates c all ends flags inner). inl (more_told all inner ends told))
      (λ (near : HasFirstValues a × AreNearGates c all ends flags inner). inr (near.0, more_near all inner ends near.1)) cone

  pub more_forward : (a : StateAlgebra) (start : StateSet) (labels : List StateSet) → IsForward a c (is_inside flags) start labels
      → IsForward a c (is_inside more) start labels
  more_forward a start labels forward = record {
    labelling = forward.labelling;
    sources = forward.sources;
    images = λ gate within here. forward.images gate within (sym (flag_same gate within) ∙ here);
    outside = λ gate within away. forward.outside gate within (sym (flag_same gate within) ∙ away);
    rests = rests;
    none_empty = forward.none_empty;
  }
    where
      rests : (kind : _) → IsAtRest a c (IsNarrowingIn c (is_inside more) [] kind []) labels
      rests kind (at_gate gate condition) of = forward.rests kind (at_gate gate condition) (of.0, sym (flag_same gate of.0) ∙ of.1, of.2)
      rests kind (along_link source line) of = absurd (none_linked source line of)

-- an idle board stays one as it gets links
pub idle_linked : (a : StateAlgebra) (c : Circuit) → IsCircuit c → (rules : Rules) (idling : Idling) (old new : OnBoard) (links : LinkList)
    → IsIdleBoard a c rules idling old → length old.inside ≡ gate_count c → AreLinksOf c links
    → new ≡ record old { waiting = []; inside = old.inside ++ replicate (length links) true; links = links } → IsIdleBoard a c rules idling new
idle_linked a c circuit rules idling old new links idle gates of is = subst (IsIdleBoard a c rules idling) (sym is) (record {
  stands = record {
    of = record {
      lines = idle.stands.of.lines;
      gates = long ∙ ap (λ (n : ℕ). n + length links) gates;
      few = let few = few_gates_and_links c circuit links of in omega (arith, long, gates, few);
      links = of;
      links_inside = λ link stands.
          get_or-append_right old.inside (replicate (length links) true) (gate_count c) (gate_count c + link) false gates (omega arith)
          ∙ get_or-replicate (length links) (gate_count c + link - gate_count c) true false (omega (arith, stands));
    };
    closed = more_closed c circuit old.inside gates (length links) idle.stands.closed;
    start = idle.stands.start;
    is_start = idle.stands.is_start;
    forward = more_forward c circuit old.inside gates (length links) a idle.stands.start idling.labels idle.stands.forward;
    same = idle.stands.same;
  };
  unnoted = idle.unnoted;
  at_rest = refl;
  nothing_reached = idle.nothing_reached;
})
  where
    long : length (old.inside ++ replicate (length links) true) ≡ length old.inside + length links
    long = length-append old.inside (replicate (length links) true) ∙ ap (λ (n : ℕ). length old.inside + n) (length-replicate (length links) true)
