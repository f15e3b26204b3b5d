-- What was read of a scan file up to a line, and what follows from it where that line fails or the file ends.
use Rattle.std.proofs.Common.{◌≡◌, ◌≢◌, ◌⊎◌, inl, inr, ◌∙◌, ◌+◌, ◌≤◌, ℕ, List, [], ◌∷◌, ◌++◌, length, Some, Contains, refl, sym, ap, ap₂, subst, append-nil, length-append, arith}
use Rattle.std.specs.List.{All, AllPairs}
use Rattle.std.proofs.lemmas.List.{same_from_push}
use Rattle.std.proofs.lemmas.List.Elements.{All-push, All-weaker, Contains-append_right, recursion_from_All}
use Rattle.pd_base.specs.declared.ids.LineId.{LineId}
use Rattle.netlist.specs.Circuit.{Circuit}
use Rattle.netlist.specs.Names.{name_at}
use Rattle.text_pieces.specs.Reads.{Reads}
use Rattle.text_pieces.specs.Tokens.{line}
use Rattle.scan_order.specs.Chains.{AreChains, AreChainsOf, IsFlop, flop_lines, in_chains}
use Rattle.scan_order.specs.ScanFile.{scan_lines, scan_text, text_of_lines}
use Rattle.scan_order.specs.ScanRefusals.{FailsAs, HavePassed, IsMissingFlop, RefusesScan}
use Rattle.scan_order.specs.ScanRefusals.FailsAs.{missing as fails_missing, twice as fails_twice, unknown as fails_unknown}
use Rattle.scan_order.specs.ScanRefusals.RefusesScan.{fails, no_memory}
use Rattle.scan_order.specs.Inside.Growing.{FailsToEnd, FailsToTakeLine, IsFirstOutside, HoldsChainsSoFar, TakesLine, chains_so_far, lines_so_far}
use Rattle.scan_order.specs.Inside.Growing.FailsToEnd.{missing, no_memory as no_memory_to_end}
use Rattle.scan_order.specs.Inside.Growing.FailsToTakeLine.{twice, unknown, no_memory as no_memory_to_take}
use Rattle.scan_order.specs.declared.growing.Growing.{Growing}
use Rattle.scan_order.specs.declared.scan_fault.ScanFault.{ScanFault}
use Rattle.scan_order.specs.declared.scan_fault.ScanFault.TheVariants as fault
use Rattle.scan_order.proofs.ChainLines.{in_lines}
use Rattle.scan_order.proofs.Lines.{text_of_lines-push}
use Rattle.scan_order.proofs.Passing.{chains_passed, flop_inside, flops_in_each, name, stand_last}
use Rattle.scan_order.proofs.Refused.{chains_read, no_chains_read}

module _ (c : Circuit) (text : List ℕ) where
  -- the lines before the one of this number, which the rest begins with, are those of the chains so far
  pub record IsReadTo (growing : Growing) (number : ℕ) (rest : List ℕ) : Type 0 where
    pub grown : HoldsChainsSoFar c growing
    pub whole : text ≡ text_of_lines (lines_so_far c growing) ++ rest
    pub count : number ≡ length (lines_so_far c growing) + 1
    pub short : number + length rest ≤ length text + 1
    pub goes_on : growing.chain.items ≡ [] → (growing.ended.items ≡ []) ⊎ (rest ≢ [])

  pub none_read : (growing : Growing) → HoldsChainsSoFar c growing → chains_so_far growing ≡ [] ∷ [] → IsReadTo growing 1 text
  none_read growing grown none = record {
    grown = grown;
    whole = ap (λ (chains : List (List LineId)). text_of_lines (scan_lines c chains) ++ text) (sym none);
    count = ap (λ (chains : List (List LineId)). length (scan_lines c chains) + 1) (sym none);
    short = omega arith;
    goes_on = λ empty. inl ((same_from_push growing.ended.items [] growing.chain.items [] none).0);
  }

  line_is_long : (said : List ℕ) (behind : List ℕ) → length behind + 1 ≤ length (line said ++ behind)
  line_is_long [] behind = omega arith
  line_is_long (byte ∷ said) behind = omega (arith, line_is_long said behind)

  pub one_read : (old new : Growing) (number : ℕ) (rest behind : List ℕ) → IsReadTo old number rest → HoldsChainsSoFar c new → TakesLine c rest old new behind
      → IsReadTo new (number + 1) behind
  one_read old new number rest behind read grown takes = record {
    grown = grown;
    whole = read.whole ∙ ap (λ (more : List ℕ). text_of_lines (lines_so_far c old) ++ more) takes.first
        ∙ sym (text_of_lines-push (lines_so_far c old) takes.said behind) ∙ ap (λ (lines : List (List ℕ)). text_of_lines lines ++ behind) (sym takes.more);
    count = omega (arith, read.count, ap length takes.more, length-append (lines_so_far c old) (takes.said ∷ []));
    short = omega (arith, read.short, ap length takes.first, line_is_long takes.said behind);
    goes_on = λ empty. inr (takes.goes_on empty);
  }

  passed : (growing : Growing) (number : ℕ) (rest : List ℕ) → IsReadTo growing number rest → HavePassed c text (lines_so_far c growing) rest
  passed growing number rest read =
      let is = read.grown.circuit in
      let chains = chains_so_far growing in
      chains_passed c is chains read.grown.flops read.grown.once text rest
      (stand_last c is rest growing.ended.items growing.chain.items
      (recursion_from_All (λ (chain : List LineId). 1 ≤ length chain) growing.ended.items read.grown.some)
      (flops_in_each c is chains read.grown.flops read.grown.once) read.goes_on) read.whole

  refused : (growing : Growing) → HoldsChainsSoFar c growing → (why : ScanFault) → FailsAs c text why → RefusesScan c text why
  refused growing grown why failure = fails failure (no_chains_read c grown.circuit text why failure)

  -- a line that is not taken
  pub not_taken : (growing : Growing) (number : ℕ) (rest : List ℕ) → IsReadTo growing number rest → (why : ScanFault) → FailsToTakeLine c number rest growing why
      → RefusesScan c text why
  not_taken growing number rest read why (unknown bad) =
      refused growing read.grown (fault.Unknown number)
      (subst (λ (n : ℕ). FailsAs c text (fault.Unknown n)) (sym read.count) (fails_unknown (lines_so_far c growing) rest (passed growing number rest read) bad))
  not_taken growing number rest read why (twice bad) =
      refused growing read.grown (fault.Twice number)
      (subst (λ (n : ℕ). FailsAs c text (fault.Twice n)) (sym read.count) (fails_twice (lines_so_far c growing) rest (passed growing number rest read) bad))
  not_taken growing number rest read why no_memory_to_take = no_memory refl

  -- ---- the end of the file

  pub whole_text : (growing : Growing) (number : ℕ) (rest : List ℕ) → IsReadTo growing number rest → rest ≡ [] → text ≡ text_of_lines (lines_so_far c growing)
  whole_text growing number rest read none =
      read.whole ∙ ap (λ (more : List ℕ). text_of_lines (lines_so_far c growing) ++ more) none ∙ append-nil (text_of_lines (lines_so_far c growing))

  pub all_read : (growing : Growing) (number : ℕ) (rest : List ℕ) → IsReadTo growing number rest → rest ≡ [] → (chains : List (List LineId))
      → AreChainsOf c chains → scan_lines c chains ≡ lines_so_far c growing → Reads (scan_text c) (AreChainsOf c) text (Some chains)
  all_read growing number rest read none chains are lines =
      chains_read c read.grown.circuit text chains are (whole_text growing number rest read none ∙ ap text_of_lines (sym lines))

  pub not_ended : (growing : Growing) (number : ℕ) (rest : List ℕ) → IsReadTo growing number rest → rest ≡ [] → (why : ScanFault) → FailsToEnd c growing why
      → RefusesScan c text why
  not_ended growing number rest read none why (missing flop bad) =
      refused growing read.grown (fault.Missing flop)
      (fails_missing (lines_so_far c growing) flop (subst (HavePassed c text (lines_so_far c growing)) none (passed growing number rest read)) bad)
  not_ended growing number rest read none why no_memory_to_end = no_memory refl

-- ---- how chains end

module _ (c : Circuit) (growing : Growing) (grown : HoldsChainsSoFar c growing) where
  -- a flip-flop outside the chains is on none of their lines
  pub outside_missing : (flop : LineId) → IsFirstOutside (in_chains (chains_so_far growing)) (flop_lines c) flop → IsMissingFlop c (lines_so_far c growing) flop
  outside_missing flop is = record {
    before = is.before;
    behind = is.behind;
    place = is.place;
    others = All-weaker (Contains (in_chains (chains_so_far growing))) (λ other. Contains (lines_so_far c growing) (name_at c other.0))
        (λ other has. in_lines (name c grown.circuit) (chains_so_far growing) other has) is.before is.others;
    nowhere = λ has.
        is.outside (flop_inside c grown.circuit (chains_so_far growing) grown.flops grown.once flop
        (subst (λ (flops : List LineId). Contains flops flop) (sym is.place) (Contains-append_right is.before (flop ∷ is.behind) flop (0, omega arith, refl))) has);
  }

  -- the chains with the last one, or without it where it is empty
  pub record AreEnded (chains : List (List LineId)) : Type 0 where
    pub some : All (λ chain. 1 ≤ length chain) chains
    pub inside : in_chains (chains_so_far growing) ≡ in_chains chains
    pub lines : scan_lines c chains ≡ lines_so_far c growing

  pub ended_with : (chains : List (List LineId)) → 1 ≤ length growing.chain.items → chains ≡ growing.ended.items ++ growing.chain.items ∷ [] → AreEnded chains
  ended_with chains some same = record {
    some = subst (All (λ (chain : List LineId). 1 ≤ length chain)) (sym same)
        (All-push (λ (chain : List LineId). 1 ≤ length chain) growing.ended.items growing.chain.items grown.some some);
    inside = ap in_chains (sym same);
    lines = ap (scan_lines c) same;
  }

  pub ended_without : (chains : List (List LineId)) → growing.chain.items ≡ [] → growing.ended.items ≡ [] → chains ≡ growing.ended.items → AreEnded chains
  ended_without chains empty none same =
      let nothing : chains ≡ [] = same ∙ none in
      let start : chains_so_far growing ≡ [] ∷ [] = ap₂ (λ (ended : List (List LineId)) (chain : List LineId). ended ++ chain ∷ []) none empty in
      record {
        some = subst (All (λ (chain : List LineId). 1 ≤ length chain)) (sym nothing) (λ k d within. absurd (omega arith));
        inside = ap in_chains start ∙ ap in_chains (sym nothing);
        lines = ap (scan_lines c) nothing ∙ ap (scan_lines c) (sym start);
      }

  pub ended_are : (chains : List (List LineId)) → AreEnded chains → AreChains chains
  ended_are chains ended = record { some = ended.some; once = subst (AllPairs (λ a b. a ≢ b)) ended.inside grown.once }

  pub ended_are_of : (chains : List (List LineId)) → AreEnded chains → All (Contains (in_chains (chains_so_far growing))) (flop_lines c) → AreChainsOf c chains
  ended_are_of chains ended whole = record {
    are = ended_are chains ended;
    flops = subst (All (IsFlop c)) ended.inside grown.flops;
    whole = subst (λ (inside : List LineId). All (Contains inside) (flop_lines c)) ended.inside whole;
  }
