-- What a cut changes, one cut after another, and which gates wait then.
use Rattle.std.proofs.Common.{◌≡◌, ◌≢◌, ℕ, zero, suc, ◌+◌, ◌<◌, ◌⊎◌, inl, inr, ⊎_elim, Bool, true, Option, List, [], ◌∷◌, ◌++◌, length, get_or, slice_get, Some, refl, sym, ap, ◌∙◌, subst, arith}
use Rattle.std.proofs.Math.ListN.{set}
use Rattle.std.specs.List.{All, Contains}
use Rattle.std.proofs.lemmas.Bool.{cases_eq}
use Rattle.std.proofs.lemmas.List.{append-nil, append_assoc, length-set, get_or-set_other}
use Rattle.std.proofs.lemmas.List.Elements.{Contains-get_or}
use Rattle.pd_base.specs.Links.{LinkList}
use Rattle.pd_base.specs.declared.ids.GateId.{GateId}
use Rattle.pd_base.specs.declared.ids.LineId.{LineId}
use Rattle.netlist.specs.Circuit.{Circuit, gate_count, pins_at}
use Rattle.state_sets.specs.declared.state.StateSet.{StateSet}
use Rattle.state_sets.specs.States.{AreWithin, both_sets, no_states}
use Rattle.state_sets.specs.Labellings.{label_at}
use Rattle.state_sets.specs.Narrowing.{gate_lines}
use Rattle.state_sets.specs.Hulls.{HasNoEmptySet}
use Rattle.hulls.specs.Sets.{set_at}
use Rattle.hulls.proofs.Cuts.{pins_none, pins_more}
use Rattle.hulls.specs.Awaiting.{is_inside, gate_turn}
use Rattle.hulls.specs.Boards.{OnBoard, Follows, link_turn}
use Rattle.hulls.specs.Settling.{IsMoved, IsCutTo, IsSameAt, Wakes, HasLess, IsShrunk, ArePinsCut}
use Rattle.hulls.specs.Links.{link_lines}
use Rattle.undo_trail.specs.Undoing.{undone}
use Rattle.undo_trail.proofs.Undoing.{undone-append}

-- what stands in a list and isn't its head stands behind it
behind : (first : LineId) (lines : List LineId) (line : ℕ) → first.0 ≢ line → (k : ℕ) → k < length (first ∷ lines)
    → get_or (first ∷ lines) k (record { 0 = line }) ≡ record { 0 = line } → Contains lines (record { 0 = line })
behind first lines line away zero inside is = absurd (away (ap (λ (l : LineId). l.0) is))
behind first lines line away (suc k) inside is = (k, (let i = inside in omega arith), is)

-- a line stands in a list, or not
stands_or_not : (lines : List LineId) (line : ℕ) → Contains lines (record { 0 = line }) ⊎ ¬ Contains lines (record { 0 = line })
stands_or_not [] line = inr (λ stands. absurd (let s = stands.1 in omega arith))
stands_or_not (first ∷ lines) line =
    let this : LineId = record { 0 = line } in
    ⊎_elim
    (λ (here : first.0 ≡ line). inl (zero, omega arith, ap (λ (n : ℕ). let l : LineId = record { 0 = n } in l) here))
    (λ (away : first.0 ≢ line).
    ⊎_elim
    (λ (later : Contains lines this). inl (suc later.0, (let l = later.1 in omega arith), later.2))
    (λ (not : ¬ Contains lines this). inr (λ stands. not (behind first lines line away stands.0 stands.1 stands.2)))
    (stands_or_not lines line))
    (cases_eq first.0 line)

pub follows_none : (board : OnBoard) → Follows board board
follows_none board = record { more = []; notes = sym (append-nil board.notes); back = refl }

pub follows_on : (old mid new : OnBoard) → Follows old mid → Follows mid new → Follows old new
follows_on old mid new before after = record {
  more = before.more ++ after.more;
  notes = after.notes ∙ ap (λ ns. ns ++ after.more) before.notes ∙ append_assoc old.notes before.more after.more;
  back = undone-append before.more after.more new.labels ∙ ap (undone before.more) after.back ∙ before.back;
}

-- labels that are the same at all lines of a gate are the same after a write elsewhere
others_same : (lines : List LineId) (labels : List StateSet) (line : ℕ) (to : StateSet) → ¬ Contains lines (record { 0 = line })
    → All (IsSameAt labels (set labels line to)) lines
others_same lines labels line to not k d inside = ⊎_elim
    (λ (here : (get_or lines k d).0 ≡ line).
    absurd (not (subst (Contains lines) (ap (λ (n : ℕ). let l : LineId = record { 0 = n } in l) here) (Contains-get_or lines k d inside))))
    (λ (away : (get_or lines k d).0 ≢ line). get_or-set_other labels line (get_or lines k d).0 to no_states away)
    (cases_eq (get_or lines k d).0 line)

module _ (c : Circuit) (passed : Option GateId) where
  wakes_none : (board : OnBoard) → Wakes c passed board board
  wakes_none board = record {
    stays = λ gate waits. waits;
    woken = λ gate within here away. inr (λ k d inside. refl);
    links_woken = λ link inside. inr (λ k d at. refl);
  }

  pub wakes_on : (old mid new : OnBoard) → mid.inside ≡ old.inside → mid.links ≡ old.links → Wakes c passed old mid → Wakes c passed mid new → Wakes c passed old new
  wakes_on old mid new same_inside same_links before after = record {
    stays = λ gate waits. after.stays gate (before.stays gate waits);
    woken = λ gate within here away. ⊎_elim
        (λ (waits : Contains mid.waiting (gate_turn gate)). inl (after.stays (gate_turn gate) waits))
        (λ (same : All (IsSameAt old.labels mid.labels) (gate_lines c gate)).
        ⊎_elim
        (λ (waits : Contains new.waiting (gate_turn gate)). inl waits)
        (λ (still : All (IsSameAt mid.labels new.labels) (gate_lines c gate)). inr (λ k d inside. still k d inside ∙ same k d inside))
        (after.woken gate within (ap (λ (flags : List Bool). is_inside flags gate) same_inside ∙ here) away))
        (before.woken gate within here away);
    links_woken = λ link inside. ⊎_elim
        (λ (waits : Contains mid.waiting (link_turn c link)). inl (after.stays (link_turn c link) waits))
        (λ (same : All (IsSameAt old.labels mid.labels) (link_lines old.links link)).
        ⊎_elim
        (λ (waits : Contains new.waiting (link_turn c link)). inl waits)
        (λ (still : All (IsSameAt mid.labels new.labels) (link_lines mid.links link)).
        let here : All (IsSameAt mid.labels new.labels) (link_lines old.links link) =
        subst (λ (ls : LinkList). All (IsSameAt mid.labels new.labels) (link_lines ls link)) same_links still in
        inr (λ k d at. here k d at ∙ same k d at))
        (after.links_woken link (subst (λ (ls : LinkList). link < length ls) (sym same_links) inside)))
        (before.links_woken link inside);
  }

  module _ (count : ℕ) where
    falls_on : (old mid new : OnBoard) → (mid ≡ old) ⊎ HasLess count old mid → (new ≡ mid) ⊎ HasLess count mid new
        → (new ≡ old) ⊎ HasLess count old new
    falls_on old mid new before after = ⊎_elim
        (λ (same : mid ≡ old). subst (λ (b : OnBoard). (new ≡ b) ⊎ HasLess count b new) same after)
        (λ (less : HasLess count old mid). ⊎_elim
        (λ (same : new ≡ mid). inr (subst (HasLess count old) (sym same) less))
        (λ (more : HasLess count mid new). inr (record {
          fewer = let e = less.fewer in let f = more.fewer in omega arith;
          few = more.few;
        }))
        after)
        before

    pub shrunk_none : (board : OnBoard) → AreWithin count board.labels → IsShrunk count c passed board board
    shrunk_none board within = record {
      lines = refl;
      within = within;
      inside = refl;
      links = refl;
      follows = follows_none board;
      wakes = wakes_none board;
      falls = inl refl;
    }

    pub shrunk_on : (old mid new : OnBoard) → IsShrunk count c passed old mid → IsShrunk count c passed mid new
        → IsShrunk count c passed old new
    shrunk_on old mid new before after = record {
      lines = after.lines ∙ before.lines;
      within = after.within;
      inside = after.inside ∙ before.inside;
      links = after.links ∙ before.links;
      follows = follows_on old mid new before.follows after.follows;
      wakes = wakes_on old mid new before.inside before.links before.wakes after.wakes;
      falls = falls_on old mid new before.falls after.falls;
    }

    module _ (line : ℕ) (to : StateSet) (old new : OnBoard) (cut : IsCutTo count c passed line to old new) where
      moved_woken : IsMoved count c passed line old new → (gate : ℕ) → gate < gate_count c → is_inside old.inside gate ≡ true
          → passed ≢ Some (record { 0 = gate }) → Contains new.waiting (gate_turn gate) ⊎ All (IsSameAt old.labels new.labels) (gate_lines c gate)
      moved_woken moved gate within here away = ⊎_elim
          (λ (among : Contains (gate_lines c gate) (record { 0 = line })). inl (moved.waits gate within here away among))
          (λ (not : ¬ Contains (gate_lines c gate) (record { 0 = line })).
          inr (subst (λ (l : List StateSet). All (IsSameAt old.labels l) (gate_lines c gate)) (sym cut.labels)
          (others_same (gate_lines c gate) old.labels line (both_sets (label_at old.labels line) to) not)))
          (stands_or_not (gate_lines c gate) line)

      moved_links : IsMoved count c passed line old new → (link : ℕ) → link < length old.links
          → Contains new.waiting (link_turn c link) ⊎ All (IsSameAt old.labels new.labels) (link_lines old.links link)
      moved_links moved link inside = ⊎_elim
          (λ (among : Contains (link_lines old.links link) (record { 0 = line })). inl (moved.links_wait link inside among))
          (λ (not : ¬ Contains (link_lines old.links link) (record { 0 = line })).
          inr (subst (λ (l : List StateSet). All (IsSameAt old.labels l) (link_lines old.links link)) (sym cut.labels)
          (others_same (link_lines old.links link) old.labels line (both_sets (label_at old.labels line) to) not)))
          (stands_or_not (link_lines old.links link) line)

      pub cut_shrunk : IsShrunk count c passed old new
      cut_shrunk = record {
        lines = ap length cut.labels ∙ length-set old.labels line (both_sets (label_at old.labels line) to);
        within = cut.within;
        inside = cut.inside;
        links = cut.links;
        follows = cut.follows;
        wakes = record {
          stays = cut.stays;
          woken = λ gate within here away. ⊎_elim
              (λ (same : new ≡ old). inr (λ k d inside. ap (λ (b : OnBoard). label_at b.labels (get_or (gate_lines c gate) k d).0) same))
              (λ (moved : IsMoved count c passed line old new). moved_woken moved gate within here away)
              cut.moves;
          links_woken = λ link inside. ⊎_elim
              (λ (same : new ≡ old).
              inr (λ k d at. ap (λ (b : OnBoard). label_at b.labels (get_or (link_lines old.links link) k d).0) same))
              (λ (moved : IsMoved count c passed line old new). moved_links moved link inside)
              cut.moves;
        };
        falls = ⊎_elim (λ (same : new ≡ old). inl same)
            (λ (moved : IsMoved count c passed line old new). inr (record { fewer = moved.fewer; few = moved.few })) cut.moves;
      }

      -- where the line has some state left, each line has, if each had
      pub some_left : HasNoEmptySet c old.labels → label_at new.labels line ≢ no_states → HasNoEmptySet c new.labels
      some_left some here other within none = ⊎_elim
          (λ (same : other ≡ line). here (ap (label_at new.labels) (sym same) ∙ none))
          (λ (away : other ≢ line). some other within
          (sym (get_or-set_other old.labels line other (both_sets (label_at old.labels line) to) no_states away)
          ∙ ap (λ (l : List StateSet). label_at l other) (sym cut.labels) ∙ none))
          (cases_eq other line)

    module _ (gate : ℕ) (kept : List StateSet) where
      pub cut_none : (board : OnBoard) → AreWithin count board.labels → ArePinsCut count c passed gate kept 0 board board
      cut_none board within = record {
        labels = pins_none count (pins_at c gate) kept board.labels;
        shrunk = shrunk_none board within;
      }

      -- one pin more
      pub cut_more : (k : ℕ) (line : LineId) (old mid new : OnBoard) → k < length (pins_at c gate) → slice_get (pins_at c gate) k ≡ Some line
          → line.0 < length mid.labels → ArePinsCut count c passed gate kept k old mid → IsCutTo count c passed line.0 (set_at kept k) mid new
          → ArePinsCut count c passed gate kept (k + 1) old new
      cut_more k line old mid new inside reads within before cut = record {
        labels = subst (Rattle.hulls.specs.Changes.HasPinsKept count (pins_at c gate) kept (k + 1) old.labels) (sym cut.labels)
            (pins_more count (pins_at c gate) kept old.labels mid.labels k inside before.labels line reads within
            (both_sets (label_at mid.labels line.0) (set_at kept k)) refl);
        shrunk = shrunk_on old mid new before.shrunk (cut_shrunk line.0 (set_at kept k) mid new cut);
      }
