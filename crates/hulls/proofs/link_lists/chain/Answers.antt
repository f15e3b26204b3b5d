-- One link more, at the head of its line's chain.
use Rattle.std.proofs.Common.{◌≡◌, ◌<◌, ◌+◌, ℕ, ◌∷◌, [], ◌++◌, length, get_or, sym, ap, ◌∙◌, subst, arith, rules}
use Rattle.std.proofs.Math.ListN.{set}
use Rattle.std.proofs.lemmas.List.{length-set, get_or_read}
use Rattle.pd_base.specs.declared.ids.LineId.{LineId}
use Rattle.hulls.specs.Links.{IsChained, chained_line, link_at}
use Rattle.hulls.proofs.Chains.{chained_more, chained_none}
use Rattle.hulls.proofs.link_lists.chain.Goals as goal

pub loop-link-preserved : goal.loop-link-preserved
loop-link-preserved c =
    let links = c.args.links.now in let at = c.loop-link.link in let heads = c.loop-link.heads.items in let nexts = c.loop-link.nexts.items in
    let line = c.line_of-line.result.0 in
    let at_line : (chained_line c.args.second (link_at links at)).0 ≡ line = ap (λ (l : LineId). l.0) (sym c.line_of-line.ensures) in
    let low : line < c.args.lines =
    subst (λ (n : ℕ). n < c.args.lines) at_line (c.requires.lines at (record { 0 = 0 }, record { 0 = 0 }) c.loop-link-test.true) in
    let inside : line < length heads = omega (arith, low, c.loop-link.invariant.lines) in
    let pushed : c.push.new.self.items ≡ nexts ++ get_or heads line 0 ∷ [] =
    c.in_ok-push.ensures.items
    ∙ ap (λ (n : ℕ). nexts ++ n ∷ []) (get_or_read heads line c.index.result.now inside c.index.ensures 0) in
    record {
      lines = length-set heads line (at + 1) ∙ c.loop-link.invariant.lines;
      chained = subst (IsChained c.args.second links (at + 1) (set heads line (at + 1))) (sym pushed)
          (chained_more c.args.second links at heads nexts c.loop-link.invariant.chained line at_line inside);
    }

pub returns-then-is_empty : goal.returns-then-is_empty
returns-then-is_empty c =
    chained_none c.args.second c.args.links.now (length c.args.links.now) c.no_chains.result.heads.items c.no_chains.result.nexts.items
    (search rules) c.no_chains.ensures.heads c.no_chains.ensures.nexts
