-- A text that fails is the file of no chains, and a text is the file of no two.
use Rattle.std.proofs.Common.{◌≡◌, ◌∙◌, ◌≤◌, ℕ, List, [], ◌∷◌, ◌++◌, length, Some, None, Contains, refl, sym, ap, subst, append-nil, arith}
use Rattle.std.specs.List.{AllByRecursion}
use Rattle.std.proofs.lemmas.List.Elements.{All-contains, Contains-append_right, recursion_from_All}
use Rattle.pd_base.specs.declared.ids.LineId.{LineId}
use Rattle.netlist.specs.Circuit.{Circuit}
use Rattle.netlist.specs.Lawful.{IsCircuit}
use Rattle.netlist.specs.Names.{name_at}
use Rattle.text_pieces.specs.Cuts.{Lacks}
use Rattle.text_pieces.specs.Reads.{Reads}
use Rattle.text_pieces.specs.Tokens.{line_feed}
use Rattle.text_pieces.proofs.Cuts.{line_once}
use Rattle.scan_order.specs.Chains.{AreChainsOf, IsFlop, flop_lines, in_chains}
use Rattle.scan_order.specs.ScanFile.{scan_lines, scan_text, text_of_lines}
use Rattle.scan_order.specs.ScanRefusals.{FailsAs, HavePassed, IsMissingFlop, IsRepeatedLine, IsUnknownLine, LinePasses}
use Rattle.scan_order.specs.ScanRefusals.LinePasses.{names, parts}
use Rattle.scan_order.specs.ScanRefusals.FailsAs.{missing, twice, unknown}
use Rattle.scan_order.specs.declared.scan_fault.ScanFault.{ScanFault}
use Rattle.scan_order.proofs.FlopNames.{name_is_one_line, name_is_some}
use Rattle.scan_order.proofs.ChainLines.{in_lines, lines_once}
use Rattle.scan_order.proofs.Lines.{line_is_some, lines_behind, AreBehind}
use Rattle.scan_order.proofs.Passing.{chains_passed, flops_apart, flops_in_each, lines_alone, name, stand_whole}

module _ (c : Circuit) (is : IsCircuit c) where
  module _ (chains : List (List LineId)) (are : AreChainsOf c chains) where
    each_some : AllByRecursion (λ chain. 1 ≤ length chain) chains
    each_some = recursion_from_All (λ chain. 1 ≤ length chain) chains are.are.some

    each_flop : AllByRecursion (AllByRecursion (IsFlop c)) chains
    each_flop = flops_in_each c is chains are.flops are.are.once

    alone : AllByRecursion (Lacks line_feed) (scan_lines c chains)
    alone = lines_alone c is chains each_flop

    module _ (text : List ℕ) (whole : text ≡ scan_text c chains) where
      passed : HavePassed c text (scan_lines c chains) []
      passed =
          chains_passed c is chains are.flops are.are.once text [] (stand_whole c is [] chains each_some each_flop)
          (whole ∙ sym (append-nil (text_of_lines (scan_lines c chains))))

      -- what stands behind lines that have passed
      behind : (lines : List (List ℕ)) (rest : List ℕ) → HavePassed c text lines rest → AreBehind lines rest (scan_lines c chains)
      behind lines rest have =
          lines_behind lines rest (scan_lines c chains) (recursion_from_All (Lacks line_feed) lines have.lines_alone) alone (sym have.whole ∙ whole)

      next_passes : (lines : List (List ℕ)) (rest : List ℕ) (said : List ℕ) (others : List (List ℕ)) → scan_lines c chains ≡ lines ++ said ∷ others
          → rest ≡ text_of_lines (said ∷ others) → LinePasses c lines rest
      next_passes lines rest said others split same =
          subst (LinePasses c lines) (append-nil (text_of_lines (said ∷ others)) ∙ sym same) (passed.each lines said others split)

      no_unknown : (lines : List (List ℕ)) (rest : List ℕ) → AreBehind lines rest (scan_lines c chains) → ¬ IsUnknownLine c lines rest
      no_unknown lines rest there bad = at there.more there.parts there.text
        where
          refuted : LinePasses c lines rest → ⊥
          refuted (names flop later is_flop same new) = bad.no_name flop later is_flop same
          refuted (parts later same placed) = placed (bad.no_parting later same)

          at : (more : List (List ℕ)) → scan_lines c chains ≡ lines ++ more → rest ≡ text_of_lines more → ⊥
          at [] split same = bad.goes_on same
          at (said ∷ others) split same = refuted (next_passes lines rest said others split same)

      no_repeated : (lines : List (List ℕ)) (rest : List ℕ) → AreBehind lines rest (scan_lines c chains) → ¬ IsRepeatedLine c lines rest
      no_repeated lines rest there bad = at there.more there.parts there.text
        where
          refuted : LinePasses c lines rest → ⊥
          refuted (names flop later is_flop same new) =
              let cut = line_once (name_at c flop.0) later (name_at c bad.flop.0) bad.behind (name_is_one_line c is flop is_flop)
              (name_is_one_line c is bad.flop bad.is_flop) (sym same ∙ bad.named) in
              new (subst (Contains lines) (sym cut.0) bad.stood)
          refuted (parts later same placed) =
              let cut = line_once [] later (name_at c bad.flop.0) bad.behind tt (name_is_one_line c is bad.flop bad.is_flop) (sym same ∙ bad.named) in
              name_is_some c is bad.flop bad.is_flop (sym cut.0)

          at : (more : List (List ℕ)) → scan_lines c chains ≡ lines ++ more → rest ≡ text_of_lines more → ⊥
          at [] split same = line_is_some (name_at c bad.flop.0) bad.behind (sym bad.named ∙ same)
          at (said ∷ others) split same = refuted (next_passes lines rest said others split same)

      no_missing : (lines : List (List ℕ)) (flop : LineId) → AreBehind lines [] (scan_lines c chains) → ¬ IsMissingFlop c lines flop
      no_missing lines flop there bad = at there.more there.parts there.text
        where
          is_flop : IsFlop c flop
          is_flop = subst (λ (flops : List LineId). Contains flops flop) (sym bad.place) (Contains-append_right bad.before (flop ∷ bad.behind) flop (0, omega arith, refl))

          has : Contains (scan_lines c chains) (name_at c flop.0)
          has = in_lines (name c is) chains flop (All-contains (Contains (in_chains chains)) (flop_lines c) flop are.whole is_flop)

          at : (more : List (List ℕ)) → scan_lines c chains ≡ lines ++ more → [] ≡ text_of_lines more → ⊥
          at [] split same = bad.nowhere (subst (λ (all : List (List ℕ)). Contains all (name_at c flop.0)) (split ∙ append-nil lines) has)
          at (said ∷ others) split same = line_is_some said (text_of_lines others) (sym same)

      -- a text that fails is not that of the chains
      pub no_fault : (why : ScanFault) → ¬ FailsAs c text why
      no_fault why (unknown lines rest have bad) = no_unknown lines rest (behind lines rest have) bad
      no_fault why (twice lines rest have bad) = no_repeated lines rest (behind lines rest have) bad
      no_fault why (missing lines flop have bad) = no_missing lines flop (behind lines [] have) bad

  pub no_chains_read : (text : List ℕ) (why : ScanFault) → FailsAs c text why → Reads (scan_text c) (AreChainsOf c) text None
  no_chains_read text why fails = record {
    found = tt;
    only = λ chains are whole. absurd (no_fault chains are text whole why fails);
  }

  -- the chains of a text are its only ones
  pub chains_read : (text : List ℕ) (chains : List (List LineId)) → AreChainsOf c chains → text ≡ scan_text c chains
      → Reads (scan_text c) (AreChainsOf c) text (Some chains)
  chains_read text chains are whole = record {
    found = (are, whole);
    only = λ others are' whole'.
        let there = lines_behind (scan_lines c chains) [] (scan_lines c others) (alone chains are) (alone others are')
        (append-nil (scan_text c chains) ∙ sym whole ∙ whole') in
        ap Some (lines_once (name c is) (IsFlop c) (name_is_some c is) (flops_apart c is) chains others (each_some chains are) (each_some others are')
        (each_flop chains are) (each_flop others are') (sym (all there.more (scan_lines c chains) (scan_lines c others) there.parts there.text)));
  }
    where
      all : (more lines others : List (List ℕ)) → others ≡ lines ++ more → [] ≡ text_of_lines more → others ≡ lines
      all [] lines others split same = split ∙ append-nil lines
      all (said ∷ more) lines others split same = absurd (line_is_some said (text_of_lines more) (sym same))
