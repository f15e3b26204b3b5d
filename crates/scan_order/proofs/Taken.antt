-- What taking a line makes of the chains so far, and what is said of a line that is not taken.
use Rattle.std.proofs.Common.{◌≡◌, ◌≢◌, ◌⊎◌, ⊎_elim, ◌∙◌, ◌<◌, ◌≤◌, ◌↔◌, ℕ, Bool, true, false, true≢false, IsTrue, List, [], ◌∷◌, ◌++◌, length, get_or, set, Some, None, Contains, refl, sym, ap, ap₂, subst, get_or-set_same, get_or-set_other, arith}
use Rattle.std.specs.List.{All, AllPairs}
use Rattle.std.proofs.lemmas.Bool.{cases_eq}
use Rattle.std.proofs.lemmas.List.{get_or_read, length-set}
use Rattle.std.proofs.lemmas.List.Elements.{All-push, Contains-append_left, Contains-push, Contains-push_cases, Contains-get_or}
use Rattle.std.proofs.lemmas.List.Quantifiers.{all_pairs_push}
use Rattle.std.proofs.lemmas.Option.{none-some, same_Some}
use Rattle.pd_base.specs.declared.ids.LineId.{LineId}
use Rattle.netlist.specs.Circuit.{Circuit, source_count}
use Rattle.netlist.specs.Lawful.{IsCircuit}
use Rattle.netlist.specs.Names.{name_at}
use Rattle.text_pieces.specs.Cuts.{Lacks, line_at_front}
use Rattle.text_pieces.specs.Reads.{Reads}
use Rattle.text_pieces.specs.Tokens.{line, line_feed}
use Rattle.text_pieces.proofs.ReadLines.{SplitsLine}
use Rattle.scan_order.specs.Chains.{IsFlop, in_chains}
use Rattle.scan_order.specs.ScanFile.{scan_lines}
use Rattle.scan_order.specs.ScanRefusals.{IsMisplaced, IsRepeatedLine, IsUnknownLine}
use Rattle.scan_order.specs.ScanRefusals.IsMisplaced.{first, behind_empty, last}
use Rattle.scan_order.specs.Inside.Growing.{HoldsChainsSoFar, MarksPlaced, TakesLine, chains_so_far, lines_so_far}
use Rattle.scan_order.specs.declared.growing.Growing.{Growing}
use Rattle.scan_order.proofs.FlopNames.{flop_is_late, name_is_one_line, name_is_some}
use Rattle.scan_order.proofs.ChainLines.{in_lines, inside-part, inside-place, lines-begin, lines-part, lines-place}
use Rattle.scan_order.proofs.Passing.{name}

-- what the mark of a source says, as it was read
module _ (c : Circuit) (chains : List (List LineId)) (growing : Growing) (marks : MarksPlaced c chains growing) (source : ℕ) (within : source < source_count c)
    (mark : Bool) (read : mark ≡ get_or growing.placed.items source mark) where
  mark_is : get_or growing.placed.items source false ≡ mark
  mark_is = sym (get_or_read growing.placed.items source mark (omega (arith, within, marks.room)) read false)

  pub marked : mark ≡ true → Contains (in_chains chains) (record { 0 = source })
  marked set = (marks.exactly source within).0 (mark_is ∙ set)

  pub unmarked : mark ≡ false → ¬ Contains (in_chains chains) (record { 0 = source })
  unmarked unset has = true≢false (sym ((marks.exactly source within).1 has) ∙ mark_is ∙ unset)

module _ (c : Circuit) (is : IsCircuit c) where
  -- ---- a chain ends

  module _ (old new : Growing) (growing : HoldsChainsSoFar c old) (some : 1 ≤ length old.chain.items)
      (ended : new.ended.items ≡ old.ended.items ++ old.chain.items ∷ []) (chain : new.chain.items ≡ []) (placed : new.placed.items ≡ old.placed.items) where
    parted : chains_so_far new ≡ chains_so_far old ++ [] ∷ []
    parted = ap₂ (λ (chains : List (List LineId)) (one : List LineId). chains ++ one ∷ []) ended chain

    same_inside : in_chains (chains_so_far old) ≡ in_chains (chains_so_far new)
    same_inside = sym (ap in_chains parted ∙ inside-part (chains_so_far old))

    pub growing_parted : HoldsChainsSoFar c new
    growing_parted = record {
      circuit = is;
      some = subst (All (λ (one : List LineId). 1 ≤ length one)) (sym ended) (All-push (λ (one : List LineId). 1 ≤ length one) old.ended.items old.chain.items growing.some some);
      flops = subst (All (IsFlop c)) same_inside growing.flops;
      once = subst (AllPairs (λ a b. a ≢ b)) same_inside growing.once;
      marks = record {
        room = ap length placed ∙ growing.marks.room;
        exactly = λ source within.
            subst (λ (inside : List LineId). IsTrue (get_or new.placed.items source false) ↔ Contains inside (record { 0 = source })) same_inside
            (subst (λ marks. IsTrue (get_or marks source false) ↔ Contains (in_chains (chains_so_far old)) (record { 0 = source })) (sym placed)
            (growing.marks.exactly source within));
      };
    }

    pub takes_parting : (text said behind : List ℕ) → text ≡ line said ++ behind → said ≡ [] → behind ≢ [] → TakesLine c text old new behind
    takes_parting text said behind whole none goes_on = record {
      said = said;
      first = whole;
      more = ap (scan_lines c) parted ∙ lines-part (name c is) old.ended.items old.chain.items
          ∙ ap (λ (one : List ℕ). lines_so_far c old ++ one ∷ []) (sym none);
      goes_on = λ h. goes_on;
    }

  -- ---- a flip-flop is placed

  module _ (old new : Growing) (growing : HoldsChainsSoFar c old) (flop : LineId) (is_flop : IsFlop c flop) (unplaced : ¬ Contains (in_chains (chains_so_far old)) flop)
      (ended : new.ended.items ≡ old.ended.items) (chain : new.chain.items ≡ old.chain.items ++ flop ∷ [])
      (placed : new.placed.items ≡ set old.placed.items flop.0 true) where
    so_far : chains_so_far new ≡ old.ended.items ++ (old.chain.items ++ flop ∷ []) ∷ []
    so_far = ap₂ (λ (chains : List (List LineId)) (one : List LineId). chains ++ one ∷ []) ended chain

    one_more : in_chains (chains_so_far old) ++ flop ∷ [] ≡ in_chains (chains_so_far new)
    one_more = sym (ap in_chains so_far ∙ inside-place old.ended.items old.chain.items flop)

    mark : (source : ℕ) → source < source_count c
        → IsTrue (get_or (set old.placed.items flop.0 true) source false) ↔ Contains (in_chains (chains_so_far old) ++ flop ∷ []) (record { 0 = source })
    mark source within = ⊎_elim here elsewhere (cases_eq source flop.0)
      where
        inside : List LineId
        inside = in_chains (chains_so_far old)

        here : source ≡ flop.0 → IsTrue (get_or (set old.placed.items flop.0 true) source false) ↔ Contains (inside ++ flop ∷ []) (record { 0 = source })
        here same =
            let there : flop.0 < length old.placed.items = omega (arith, (flop_is_late c is flop is_flop).1, growing.marks.room) in (
              (λ h. subst (λ (n : ℕ). Contains (inside ++ flop ∷ []) (record { 0 = n })) (sym same) (Contains-push inside flop)),
              λ h. subst (λ (n : ℕ). IsTrue (get_or (set old.placed.items flop.0 true) n false)) (sym same) (get_or-set_same old.placed.items flop.0 true false there),
            )

        elsewhere : source ≢ flop.0 → IsTrue (get_or (set old.placed.items flop.0 true) source false) ↔ Contains (inside ++ flop ∷ []) (record { 0 = source })
        elsewhere other =
            let before = growing.marks.exactly source within in
            let same = get_or-set_other old.placed.items flop.0 source true false other in (
              (λ h. Contains-append_left inside (flop ∷ []) (record { 0 = source }) (before.0 (subst IsTrue same h))),
              λ h. subst IsTrue (sym same) (before.1 (⊎_elim (λ has. has) (λ one. absurd (other (sym (ap (λ (l : LineId). l.0) one))))
                  (Contains-push_cases inside flop (record { 0 = source }) h))),
            )

    pub growing_placed : HoldsChainsSoFar c new
    growing_placed = record {
      circuit = is;
      some = subst (All (λ (one : List LineId). 1 ≤ length one)) (sym ended) growing.some;
      flops = subst (All (IsFlop c)) one_more (All-push (IsFlop c) (in_chains (chains_so_far old)) flop growing.flops is_flop);
      once = subst (AllPairs (λ a b. a ≢ b)) one_more
          (all_pairs_push (λ a b. a ≢ b) (in_chains (chains_so_far old)) flop growing.once
          (λ k d within same. unplaced (subst (Contains (in_chains (chains_so_far old))) same (Contains-get_or (in_chains (chains_so_far old)) k d within))));
      marks = record {
        room = ap length placed ∙ length-set old.placed.items flop.0 true ∙ growing.marks.room;
        exactly = λ source within.
            subst (λ (inside : List LineId). IsTrue (get_or new.placed.items source false) ↔ Contains inside (record { 0 = source })) one_more
            (subst (λ marks. IsTrue (get_or marks source false) ↔ Contains (in_chains (chains_so_far old) ++ flop ∷ []) (record { 0 = source })) (sym placed)
            (mark source within));
      };
    }

    pub takes_name : (text said behind : List ℕ) → text ≡ line said ++ behind → said ≡ name_at c flop.0 → TakesLine c text old new behind
    takes_name text said behind whole same = record {
      said = said;
      first = whole;
      more = ap (scan_lines c) so_far ∙ lines-place (name c is) old.ended.items old.chain.items flop
          ∙ ap (λ (one : List ℕ). lines_so_far c old ++ one ∷ []) (sym same);
      goes_on = λ none. absurd (no_push old.chain.items (sym chain ∙ none));
    }
      where
        no_push : (front : List LineId) → front ++ flop ∷ [] ≢ []
        no_push [] none = cc
        no_push (other ∷ front) none = cc

  -- ---- a line that is not taken

  -- no LF is left
  pub unended : (lines : List (List ℕ)) (text : List ℕ) → text ≢ [] → SplitsLine text None → IsUnknownLine c lines text
  unended lines text goes_on splits = record {
    goes_on = goes_on;
    no_name = λ flop behind is_flop same.
        none-some (name_at c flop.0, behind) (splits.only (name_at c flop.0, behind) (name_is_one_line c is flop is_flop) same);
    no_parting = λ behind same. absurd (none-some ([], behind) (splits.only ([], behind) tt same));
  }

  module _ (text said behind : List ℕ) (splits : SplitsLine text (Some (said, behind))) where
    goes_on : text ≢ []
    goes_on none = no_line said (sym splits.found.1 ∙ none)
      where
        no_line : (front : List ℕ) → ¬ (line_at_front (front, behind) ≡ [])
        no_line [] same = cc
        no_line (byte ∷ front) same = cc

    first_is : (other more : List ℕ) → Lacks line_feed other → text ≡ line other ++ more → (said ≡ other) × (behind ≡ more)
    first_is other more lacks same =
        let one = same_Some _ _ (splits.only (other, more) lacks same) in
        (ap (λ (cut : List ℕ × List ℕ). cut.0) one, ap (λ (cut : List ℕ × List ℕ). cut.1) one)

    -- an empty line
    pub misplaced : (old : Growing) → said ≡ [] → (old.chain.items ≡ []) ⊎ (behind ≡ []) → IsUnknownLine c (lines_so_far c old) text
    misplaced old none where_it_is = record {
      goes_on = goes_on;
      no_name = λ flop more is_flop same.
          name_is_some c is flop is_flop (sym (first_is (name_at c flop.0) more (name_is_one_line c is flop is_flop) same).0 ∙ none);
      no_parting = λ more same.
          subst (IsMisplaced (lines_so_far c old)) (first_is [] more tt same).1
          (⊎_elim (λ empty. at old.ended.items old.chain.items empty) (λ end. last end) where_it_is);
    }
      where
        at : (ended : List (List LineId)) (chain : List LineId) → chain ≡ [] → IsMisplaced (scan_lines c (ended ++ chain ∷ [])) behind
        at [] [] empty = first refl
        at [] (flop ∷ chain) empty = cc
        at (one ∷ ended) chain empty =
            behind_empty (scan_lines c (one ∷ ended))
            (ap (λ (flops : List LineId). scan_lines c ((one ∷ ended) ++ flops ∷ [])) empty ∙ lines-begin (name c is) one ended)

    -- a line that names no flip-flop
    pub names_none : (lines : List (List ℕ)) → said ≢ [] → Reads (λ (flop : LineId). name_at c flop.0) (IsFlop c) said None → IsUnknownLine c lines text
    names_none lines some reads = record {
      goes_on = goes_on;
      no_name = λ flop more is_flop same.
          none-some flop (reads.only flop is_flop (first_is (name_at c flop.0) more (name_is_one_line c is flop is_flop) same).0);
      no_parting = λ more same. absurd (some (first_is [] more tt same).0);
    }

    -- a flip-flop that stands in the chains
    pub repeated : (old : Growing) (flop : LineId) → IsFlop c flop → said ≡ name_at c flop.0 → Contains (in_chains (chains_so_far old)) flop
        → IsRepeatedLine c (lines_so_far c old) text
    repeated old flop is_flop same has = record {
      flop = flop;
      behind = behind;
      is_flop = is_flop;
      named = splits.found.1 ∙ ap (λ (one : List ℕ). line one ++ behind) same;
      stood = in_lines (name c is) (chains_so_far old) flop has;
    }
