-- What holds of the cones of a circuit, at hand and kept aside, where one is found and where two are exchanged.
use Rattle.std.proofs.Common.{◌≡◌, ◌<◌, ℕ, List, length, Option, None, get_or, set, sym, subst, ◌∙◌}
use Rattle.std.specs.Prelude.{IfSome}
use Rattle.std.specs.List.{All}
use Rattle.std.proofs.lemmas.List.Elements.{All-set}
use Rattle.pd_base.specs.Links.{LinkList}
use Rattle.pd_base.specs.declared.ids.LineId.{LineId}
use Rattle.pd_base.specs.declared.ids.GateId.{GateId}
use Rattle.netlist.specs.Circuit.{Circuit, line_count}
use Rattle.cones.specs.FoundLines.{FoundSet}
use Rattle.cones.specs.declared.end_cone.EndCone.{EndCone}
use Rattle.cones.specs.KeptCones.{KeptCone, AreConeParts, IsConeFor, IsAside, IsNoCone}

-- where no cone is kept any more, it doesn't matter which lines were found
pub none_kept : (c : Circuit) (cone : KeptCone) (found : FoundSet) → found.room ≡ cone.found.room → IsConeFor c cone
    → IsConeFor c (record cone { end = None; found = found })
none_kept c cone found same made = record {
  room = same ∙ made.room;
  fit = made.fit;
  ordered = made.ordered;
  one_each = made.one_each;
  places = made.places;
  kept = tt;
  aside = made.aside;
}

-- what a cone is where this one is at hand and these are kept aside
abbrev pub seen_with : EndCone → List EndCone → LinkList → List GateId → List ℕ → KeptCone
seen_with current others links order ranks = record {
  end = current.end;
  found = current.found;
  sources = current.sources.items;
  gates = current.gates.items;
  links = links;
  order = order;
  ranks = ranks;
  others = others;
}

module _ (c : Circuit) (links : LinkList) (order : List GateId) (ranks : List ℕ) (current : EndCone) (others : List EndCone)
    (made : IsConeFor c (seen_with current others links order ranks)) (place : ℕ) (d : EndCone) (inside : place < length others) where
  abbrev after : KeptCone
  after = seen_with (get_or others place d) (set others place current) links order ranks

  -- the one at hand and one aside are exchanged, and each is still that of its end
  pub exchanged : IsConeFor c after
  exchanged = record {
    room = (made.aside place d inside).room;
    fit = made.fit;
    ordered = made.ordered;
    one_each = made.one_each;
    places = made.places;
    kept = (made.aside place d inside).own;
    aside = All-set (IsAside c links) others place current (record { room = made.room; own = made.kept }) made.aside;
  }

-- no cone is kept aside
pub none_aside : (c : Circuit) (links : LinkList) (lines : ℕ) → lines ≡ line_count c → (cones : List EndCone) → All (IsNoCone lines) cones
    → All (IsAside c links) cones
none_aside c links lines same cones none k d inside =
    let one = none k d inside in
    let cone = get_or cones k d in
    record {
      room = one.room ∙ same;
      own = subst (λ (e : Option LineId). IfSome e (λ end. AreConeParts c links end.0 cone.found.lines cone.sources.items cone.gates.items))
          (sym one.none) tt;
    }
