-- Marks at the nodes of lines, one line after the other: at the end they tell where a walk may stop.
use Rattle.std.proofs.Common.{◌≡◌, ◌≢◌, ⊎_elim, ℕ, ◌+◌, ◌<◌, Bool, true, false, List, [], ◌∷◌, ◌++◌, length, get_or, set, get_or-set_same, get_or-set_other, replicate, IsTrue, Contains, sym, ap, subst, ◌∙◌, arith}
use Rattle.std.proofs.lemmas.Bool.{cases_eq, cases_lt, false≢true, false_from_ne_true}
use Rattle.std.proofs.lemmas.List.{get_or-replicate, get_or_past, length-replicate, length-set}
use Rattle.std.proofs.lemmas.List.Elements.{All-contains, Contains-append_left, Contains-push, Contains-push_cases}
use Rattle.pd_base.specs.declared.ids.LineId.{LineId}
use Rattle.netlist.specs.Circuit.{Circuit, HasLines, line_count, observed_lines}
use Rattle.path_laws.specs.CircuitGraph.{node_of}
use Rattle.path_lister.specs.Ranking.{AreNodesWithin}
use Rattle.path_lister.specs.Stops.{AreStops}

-- marked are the nodes of these lines, and no others
pub record AreMarked (c : Circuit) (nodes : List ℕ) (lines : List LineId) (stops : List Bool) : Type 0 where
  pub node_each : length stops ≡ line_count c + 1
  pub marked : (node : ℕ) → IsTrue (get_or stops node false)
      → (line : LineId) × Contains lines line × (node_of nodes line.0 ≡ node)
  pub marks : (line : LineId) → Contains lines line → IsTrue (get_or stops (node_of nodes line.0) false)

module _ (c : Circuit) (nodes : List ℕ) where
  -- at first none is
  pub none_marked : AreMarked c nodes [] (replicate (line_count c + 1) false)
  none_marked = record {
    node_each = length-replicate (line_count c + 1) false;
    marked = λ node is. absurd (false≢true (sym (unmarked node) ∙ is));
    marks = λ line has. absurd (omega (arith, has.1));
  }
    where
      unmarked : (node : ℕ) → get_or (replicate (line_count c + 1) false) node false ≡ false
      unmarked node =
          ⊎_elim (get_or-replicate (line_count c + 1) node false false)
          (λ past. get_or_past (replicate (line_count c + 1) false) node false
          (omega (arith, length-replicate (line_count c + 1) false)))
          (cases_lt node (line_count c + 1))

  module _ (are : AreNodesWithin c nodes) where
    -- the mark at one more node
    pub marked_more : (lines : List LineId) (next : LineId) (stops : List Bool) → next.0 < line_count c
        → AreMarked c nodes lines stops → AreMarked c nodes (lines ++ next ∷ []) (set stops (node_of nodes next.0) true)
    marked_more lines next stops within old = record {
      node_each = length-set stops (node_of nodes next.0) true ∙ old.node_each;
      marked = λ node is. ⊎_elim (λ own. (next, Contains-push lines next, sym own)) (kept node is)
          (cases_eq node (node_of nodes next.0));
      marks = λ line has. ⊎_elim (λ before. stays (node_of nodes line.0) (old.marks line before))
          (λ own. subst (λ (l : LineId). IsTrue (get_or new (node_of nodes l.0) false)) own here)
          (Contains-push_cases lines next line has);
    }
      where
        new : List Bool
        new = set stops (node_of nodes next.0) true

        here : get_or new (node_of nodes next.0) false ≡ true
        here =
            get_or-set_same stops (node_of nodes next.0) true false
            (omega (arith, are.within next.0 within, old.node_each))

        stays : (node : ℕ) → get_or stops node false ≡ true → get_or new node false ≡ true
        stays node is =
            ⊎_elim (λ own. subst (λ n. get_or new n false ≡ true) (sym own) here)
            (λ other. get_or-set_other stops (node_of nodes next.0) node true false other ∙ is)
            (cases_eq node (node_of nodes next.0))

        kept : (node : ℕ) → get_or new node false ≡ true → node ≢ node_of nodes next.0
            → (line : LineId) × Contains (lines ++ next ∷ []) line × (node_of nodes line.0 ≡ node)
        kept node is other =
            let found = old.marked node (sym (get_or-set_other stops (node_of nodes next.0) node true false other) ∙ is) in
            (found.0, Contains-append_left lines (next ∷ []) found.0 found.1, found.2)

    -- marks at the nodes of all observed lines are the stops
    pub all_marked : (stops : List Bool) → HasLines c (observed_lines c) → AreMarked c nodes (observed_lines c) stops
        → AreStops c nodes stops
    all_marked stops inside all = record {
      node_each = all.node_each;
      goes_on = false_from_ne_true (get_or stops 0 false) root;
      observed = λ line within. (found line within, all.marks (record { 0 = line }));
    }
      where
        in_circuit : (line : LineId) → Contains (observed_lines c) line → line.0 < line_count c
        in_circuit line has = All-contains (λ (l : LineId). l.0 < line_count c) (observed_lines c) line inside has

        root : get_or stops 0 false ≡ true → ⊥
        root is =
            let at = all.marked 0 is in
            omega (arith, at.2, are.behind_root at.0.0 (in_circuit at.0 at.1))

        found : (line : ℕ) → line < line_count c → get_or stops (node_of nodes line) false ≡ true
            → Contains (observed_lines c) (record { 0 = line })
        found line within is =
            let at = all.marked (node_of nodes line) is in
            let same = are.own at.0.0 line (in_circuit at.0 at.1) within at.2 in
            let one : at.0 ≡ record { 0 = line } = ap (λ (n : ℕ). record { 0 = n }) same in
            subst (Contains (observed_lines c)) one at.1
