-- The text is cut at its first LF, or not at all.
use Rattle.std.proofs.Common.{◌+◌, ◌-◌, ◌∷◌, length, take, drop, ap, sym, ◌∙◌, arith}
use Rattle.std.proofs.lemmas.List.{drop_all, take_all}
use Rattle.std.proofs.lemmas.Grind.{common_steps}
use Rattle.bench_reader.specs.Lines.{lines_of}
use Rattle.bench_reader.proofs.Cutting.{cut_line}
use Rattle.bench_reader.proofs.lines.split_line.Goals as goal

pub returns-then-end-text-clause-lines : goal.returns-then-end-text-clause-lines
returns-then-end-text-clause-lines c =
    let text = c.args.text.now in
    let end = c.place_of-end.result in
    cut_line text end c.requires c.place_of-end.ensures.place
    ∙ ap (λ line. line ∷ lines_of (drop (end + 1) text)) (take_all end text (omega arith))
    ∙ ap (λ rest. text ∷ lines_of rest) (drop_all (end + 1) text (omega arith))

pub returns-clause-lines : goal.returns-clause-lines
returns-clause-lines c =
    let text = c.args.text.now in
    let end = c.place_of-end.result in
    cut_line text end c.requires c.place_of-end.ensures.place
    ∙ ap (λ rest. take end text ∷ lines_of rest)
    (sym (take_all (length text - (end + 1)) (drop (end + 1) text) (grind (arith, common_steps))))
