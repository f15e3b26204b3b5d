-- Lines of chains of a circuit pass, each behind those before it.
use Rattle.std.proofs.Common.{◌≡◌, ◌≢◌, ◌⊎◌, ⊎_elim, ◌∙◌, ◌≤◌, ℕ, List, [], ◌∷◌, ◌++◌, length, Contains, refl, sym, ap, subst, append_assoc, arith}
use Rattle.std.specs.List.{All, AllByRecursion, AllPairs}
use Rattle.std.proofs.lemmas.List.Elements.{All-from_recursion, recursion_from_All}
use Rattle.pd_base.specs.declared.ids.LineId.{LineId}
use Rattle.netlist.specs.Circuit.{Circuit}
use Rattle.netlist.specs.Lawful.{IsCircuit}
use Rattle.netlist.specs.Names.{name_at}
use Rattle.text_pieces.specs.Cuts.{Lacks}
use Rattle.text_pieces.specs.Tokens.{line, line_feed}
use Rattle.scan_order.specs.Chains.{IsFlop, in_chains}
use Rattle.scan_order.specs.ScanFile.{chain_names, parted_names, scan_lines, text_of_lines}
use Rattle.scan_order.specs.ScanRefusals.{HavePassed, LinePasses}
use Rattle.scan_order.specs.ScanRefusals.LinePasses.{names, parts}
use Rattle.scan_order.proofs.FlopNames.{flop_in_circuit, line_of_name, name_is_one_line, name_is_some}
use Rattle.scan_order.proofs.ChainLines.{in_each, named_inside, said_once}
use Rattle.scan_order.proofs.Placed.{line_at, no_lines, not_misplaced, AreLeft, IsLineAt}
use Rattle.scan_order.proofs.Placed.IsLineAt.{empty, name_of}

module _ (c : Circuit) (is : IsCircuit c) where
  abbrev pub name : LineId → List ℕ
  name flop = name_at c flop.0

  pub flops_apart : (a b : LineId) → IsFlop c a → IsFlop c b → name a ≡ name b → a ≡ b
  flops_apart a b is_a is_b same = line_of_name c is a b (flop_in_circuit c is a is_a) (flop_in_circuit c is b is_b) same

  -- no line of chains has an LF within
  pub lines_alone : (chains : List (List LineId)) → AllByRecursion (AllByRecursion (IsFlop c)) chains → AllByRecursion (Lacks line_feed) (scan_lines c chains)
  lines_alone [] are = tt
  lines_alone (chain ∷ chains) are = joined chain (parted_names c chains) are.0 (parted_alone chains are.1)
    where
      joined : (flops : List LineId) (rest : List (List ℕ)) → AllByRecursion (IsFlop c) flops → AllByRecursion (Lacks line_feed) rest
          → AllByRecursion (Lacks line_feed) (chain_names c flops ++ rest)
      joined [] rest are alone = alone
      joined (flop ∷ flops) rest are alone = (name_is_one_line c is flop are.0, joined flops rest are.1 alone)

      parted_alone : (later : List (List LineId)) → AllByRecursion (AllByRecursion (IsFlop c)) later → AllByRecursion (Lacks line_feed) (parted_names c later)
      parted_alone [] are = tt
      parted_alone (flops ∷ later) are = (tt, joined flops (parted_names c later) are.0 (parted_alone later are.1))

  -- chains as they may stand before a text: only the last may be empty, where text follows or where it is the only one
  abbrev pub MayStand : List ℕ → List (List LineId) → Type 0
  MayStand rest [] = Unit {0}
  MayStand rest (chain ∷ chains) = AllByRecursion (IsFlop c) chain × (chain ≡ [] → chains ≡ [])
      × AreLeft name (IsFlop c) (name_is_some c is) rest chains

  pub line_of_chains : (rest : List ℕ) (chains : List (List LineId)) → MayStand rest chains → (before : List (List ℕ)) (said : List ℕ) (others : List (List ℕ))
      → scan_lines c chains ≡ before ++ said ∷ others → IsLineAt name (IsFlop c) (name_is_some c is) rest before said others
  line_of_chains rest [] stand before said others split = absurd (no_lines before said others split)
  line_of_chains rest ([] ∷ chains) stand before said others split =
      absurd (no_lines before said others (ap (parted_names c) (sym (stand.1 refl)) ∙ split))
  line_of_chains rest ((flop ∷ chain) ∷ chains) stand before said others split =
      line_at name (IsFlop c) (name_is_some c is) rest before flop chain chains said others stand.0.0 stand.0.1 stand.2 split

  module _ (chains : List (List LineId)) (flops : All (IsFlop c) (in_chains chains)) (once : AllPairs (λ a b. a ≢ b) (in_chains chains)) where
    each_flop : AllByRecursion (IsFlop c) (in_chains chains)
    each_flop = recursion_from_All (IsFlop c) (in_chains chains) flops

    pub flops_in_each : AllByRecursion (AllByRecursion (IsFlop c)) chains
    flops_in_each = in_each (IsFlop c) chains each_flop

    pub flop_inside : (flop : LineId) → IsFlop c flop → Contains (scan_lines c chains) (name flop) → Contains (in_chains chains) flop
    flop_inside flop is_flop has = named_inside name (IsFlop c) (name_is_some c is) flops_apart chains flop each_flop is_flop has

    passes : (rest : List ℕ) (before : List (List ℕ)) (said : List ℕ) (others : List (List ℕ)) → scan_lines c chains ≡ before ++ said ∷ others
        → IsLineAt name (IsFlop c) (name_is_some c is) rest before said others → LinePasses c before (text_of_lines (said ∷ others) ++ rest)
    passes rest before said others split (empty none between) =
        parts (text_of_lines others ++ rest)
        (append_assoc (line said) (text_of_lines others) rest ∙ ap (λ (text : List ℕ). line text ++ (text_of_lines others ++ rest)) none)
        (not_misplaced before others rest between)
    passes rest before said others split (name_of flop is_flop same) =
        names flop (text_of_lines others ++ rest) is_flop
        (append_assoc (line said) (text_of_lines others) rest ∙ ap (λ (text : List ℕ). line text ++ (text_of_lines others ++ rest)) same)
        (subst (λ (text : List ℕ). ¬ Contains before text) same
        (said_once name (IsFlop c) (name_is_some c is) flops_apart chains (record { 0 = 0 }) before said others each_flop once split
        (subst (λ (text : List ℕ). text ≢ []) (sym same) (name_is_some c is flop is_flop))))

    -- the lines of the chains have passed
    pub chains_passed : (text rest : List ℕ) → MayStand rest chains → text ≡ text_of_lines (scan_lines c chains) ++ rest
        → HavePassed c text (scan_lines c chains) rest
    chains_passed text rest stand whole = record {
      whole = whole;
      lines_alone = All-from_recursion (Lacks line_feed) (scan_lines c chains) (lines_alone chains flops_in_each);
      each = λ before said others split. passes rest before said others split (line_of_chains rest chains stand before said others split);
    }

  -- chains of which none is empty may stand
  left_whole : (rest : List ℕ) (chains : List (List LineId)) → AllByRecursion (λ chain. 1 ≤ length chain) chains
      → AllByRecursion (AllByRecursion (IsFlop c)) chains → AreLeft name (IsFlop c) (name_is_some c is) rest chains
  left_whole rest [] some are = tt
  left_whole rest (chain ∷ chains) some are = (are.0, (λ none. absurd (omega (arith, some.0, ap length none))), left_whole rest chains some.1 are.1)

  pub stand_whole : (rest : List ℕ) (chains : List (List LineId)) → AllByRecursion (λ chain. 1 ≤ length chain) chains
      → AllByRecursion (AllByRecursion (IsFlop c)) chains → MayStand rest chains
  stand_whole rest [] some are = tt
  stand_whole rest (chain ∷ chains) some are = (are.0, (λ none. absurd (omega (arith, some.0, ap length none))), left_whole rest chains some.1 are.1)

  -- so may chains of which only the last may be empty, where text follows, or where it is the only one
  left_last : (rest : List ℕ) (ended : List (List LineId)) (chain : List LineId) → AllByRecursion (λ one. 1 ≤ length one) ended
      → AllByRecursion (AllByRecursion (IsFlop c)) (ended ++ chain ∷ []) → (chain ≡ [] → rest ≢ [])
      → AreLeft name (IsFlop c) (name_is_some c is) rest (ended ++ chain ∷ [])
  left_last rest [] chain some are goes_on = (are.0, (λ none. (refl, goes_on none)), tt)
  left_last rest (first ∷ ended) chain some are goes_on =
      (are.0, (λ none. absurd (omega (arith, some.0, ap length none))), left_last rest ended chain some.1 are.1 goes_on)

  pub stand_last : (rest : List ℕ) (ended : List (List LineId)) (chain : List LineId) → AllByRecursion (λ one. 1 ≤ length one) ended
      → AllByRecursion (AllByRecursion (IsFlop c)) (ended ++ chain ∷ []) → (chain ≡ [] → (ended ≡ []) ⊎ (rest ≢ []))
      → MayStand rest (ended ++ chain ∷ [])
  stand_last rest [] chain some are goes_on = (are.0, (λ none. refl), tt)
  stand_last rest (first ∷ ended) chain some are goes_on = (
    are.0,
    (λ none. absurd (omega (arith, some.0, ap length none))),
    left_last rest ended chain some.1 are.1
        (λ none. ⊎_elim (λ alone. cc) (λ more. more) (goes_on none)),
  )
